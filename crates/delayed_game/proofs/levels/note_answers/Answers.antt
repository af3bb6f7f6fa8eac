use Rattle.std.proofs.Common.{◌≡◌, ℕ, ◌*◌, ◌<◌, ◌⊎◌, ◌↔◌, ◌||◌, inl, inr, Bool, true, get_or, sym, ap, ◌∙◌, subst, arith}
use Rattle.std.proofs.lemmas.Bool.{cases_eq, or_cases, or_left, or_right}
use Rattle.std.proofs.lemmas.List.{get_or_default}
use Rattle.auto_core.specs.Automaton.{Moves, trans, trans_at}
use Rattle.auto_core.specs.Rows.{bit_of, cell_of, HasBit, HasCell}
use Rattle.auto_core.specs.declared.parts.Trans.{Trans}
use Rattle.auto_core.proofs.MoveLemmas.{incoming_moves, move_in_range}
use Rattle.delayed_game.specs.Before.{LeadsTo}
use Rattle.delayed_game.proofs.BeforeLemmas.{row_leads}
use Rattle.delayed_game.proofs.levels.note_answers.Goals as goal

either_here : (x y : Bool) → (x ≡ true) ⊎ (y ≡ true) → (x || y) ≡ true
either_here x y (inl e) = or_left x y e
either_here x y (inr e) = or_right x y e

pub loop-i-init : goal.loop-i-init
loop-i-init c = λ t q t_in near. (λ cell. inl cell, λ either. elim either [ inl cell ↦ cell | inr found ↦ let lt = found.1 in absurd (omega arith) ])

pub loop-i-preserved : goal.loop-i-preserved
loop-i-preserved c = λ t q t_in near.
    let L = c.args.places.now in
    let A = c.args.automaton.now in
    let w : ℕ = c.args.width in
    let i = c.loop-i.i in
    let ns = c.predecessors-before.result.now in
    let number = get_or ns i 0 in
    let ends = c.args.ends.now in
    let row = c.row_at.result.now in
    let now : Trans = get_or c.transitions.result.now number (trans 0 0 0) in
    let label : now.label ≡ (trans_at L number).label = ap (λ ts. (get_or ts number (trans 0 0 0)).label) c.transitions.ensures.list in
    let move : Moves L (trans_at L number).source (trans_at L number).label c.args.to = incoming_moves L c.args.to ns c.predecessors-before.ensures.list i c.loop-i-test.true in
    let room : (q a q' : ℕ) → Moves A q a q' → q < w * 64 = λ q a q' m. let lt = (move_in_range A c.requires.valid q a q' m).0 in omega (arith, lt, c.requires.width) in
    let leads : HasBit row q ↔ LeadsTo A (trans_at L number).label ends q =
    row_leads L A c.args.to c.write_before.new.made ends row w (trans_at L number).source (trans_at L number).label now.label move label c.row_at.ensures.len c.row_at.ensures.bits c.write_before.ensures room q in
    let new = c.or_row.new.table in
    let before = c.loop-i.answered in
    let was = c.loop-i.invariant t q t_in near in (
      λ cell. elim (cases_eq t number) [
        | inl e ↦
            let here : (cell_of before w number q || bit_of row q) ≡ true = sym (c.or_row.ensures.here q near) ∙ subst (λ x. HasCell new w x q) e cell in
            elim (or_cases (cell_of before w number q) (bit_of row q) here) [
              | inl old ↦ elim (was.0 (subst (λ x. HasCell before w x q) (sym e) old)) [
                | inl first ↦ inl first
                | inr found ↦ let lt = found.1 in inr (found.0, omega arith, found.2, found.3)
              ]
              | inr bit ↦ inr (i, omega arith, sym e, subst (λ x. LeadsTo A (trans_at L x).label ends q) (sym e) (leads.0 bit))
            ]
        | inr apart ↦ elim (was.0 (sym (c.or_row.ensures.others t q near apart) ∙ cell)) [
          | inl first ↦ inl first
          | inr found ↦ let lt = found.1 in inr (found.0, omega arith, found.2, found.3)
        ]
      ],
      λ either. elim (cases_eq t number) [
        | inl e ↦ subst (λ x. HasCell new w x q) (sym e) (c.or_row.ensures.here q near ∙ either_here (cell_of before w number q) (bit_of row q) (elim either [
          | inl first ↦ inl (subst (λ x. HasCell before w x q) e (was.1 (inl first)))
          | inr found ↦ inr (leads.1 (subst (λ x. LeadsTo A (trans_at L x).label ends q) e found.3))
        ]))
        | inr apart ↦ c.or_row.ensures.others t q near apart ∙ was.1 (elim either [
          | inl first ↦ inl first
          | inr found ↦ elim (cases_eq found.0 i) [
            | inl f ↦ absurd (apart (sym found.2 ∙ ap (λ k. get_or ns k 0) f))
            | inr far ↦ let lt = found.1 in inr (found.0, omega arith, found.2, found.3)
          ]
        ])
      ],
    )

pub returns : goal.returns
returns c = λ t q t_in near.
    let L = c.args.places.now in
    let A = c.args.automaton.now in
    let ns = c.predecessors-before.result.now in
    let was = c.loop-i.invariant t q t_in near in (
      λ cell. elim (was.0 cell) [
        | inl first ↦ inl first
        | inr found ↦
            let lt = found.1 in
            let into = (c.predecessors-before.ensures.list.each found.0 0 (omega (arith, lt, c.loop-i.auto.i-end))).1 in
            inr (ap (λ x. (trans_at L x).target) (sym found.2) ∙ into, found.3)
      ],
      λ either. was.1 (elim either [
        | inl first ↦ inl first
        | inr leads ↦
            let (k, k_in, is) = c.predecessors-before.ensures.list.all t t_in leads.0 in
            let here : get_or ns k 0 ≡ t = get_or_default ns k 0 t k_in ∙ is in
            inr (k, omega (arith, k_in, c.loop-i-test.false), here, leads.1)
      ]),
    )
