use Rattle.std.proofs.Common.{◌≡◌, ℕ, ◌+◌, ◌*◌, ◌<◌, ◌⊎◌, ◌↔◌, inl, inr, List, sym, ◌∙◌, subst, length, arith}
use Rattle.std.proofs.lemmas.Bool.{cases_eq, false≢true}
use Rattle.auto_core.specs.Automaton.{Automaton, trans_at}
use Rattle.auto_core.specs.Rows.{bit_of, cell_of, HasCell}
use Rattle.auto_core.proofs.MoveLemmas.{move_at, move_in_range}
use Rattle.delayed_game.specs.Before.{LeadsTo}
use Rattle.delayed_game.specs.Boards.{HasFreshAnswer, row_words}
use Rattle.delayed_game.proofs.BeforeLemmas.{bit_near}
use Rattle.delayed_game.proofs.levels.note_each.Goals as goal
use Rattle.delayed_game.proofs.levels.note_each.Goals.{in-Some, in-None}

-- an answer by a pair of the row of the target, and one that leads into that row
row_answers :
    (L A : Automaton) (fresh row : List ℕ) (to t q : ℕ)
    → length row ≡ row_words A
    → ((x : ℕ) → x < row_words A * 64 → bit_of row x ≡ cell_of fresh (row_words A) to x)
    → (trans_at L t).target ≡ to
    → LeadsTo A (trans_at L t).label row q
    → HasFreshAnswer L A fresh t q
row_answers L A fresh row to t q len bits into leads =
    let cell : HasCell fresh (row_words A) to leads.0 = sym (bits leads.0 (bit_near row (row_words A) leads.0 len leads.2)) ∙ leads.2 in
    (leads.0, leads.1, subst (λ x. HasCell fresh (row_words A) x leads.0) (sym into) cell)

answers_row :
    (L A : Automaton) (fresh row : List ℕ) (to t q : ℕ)
    → ((x : ℕ) → x < row_words A * 64 → bit_of row x ≡ cell_of fresh (row_words A) to x)
    → ((x : ℕ) → x < A.states → x < row_words A * 64)
    → (trans_at L t).target ≡ to
    → (answer : HasFreshAnswer L A fresh t q)
    → answer.0 < A.states
    → LeadsTo A (trans_at L t).label row q
answers_row L A fresh row to t q bits room into answer q_in =
    (answer.0, answer.1, bits answer.0 (room answer.0 q_in) ∙ subst (λ x. HasCell fresh (row_words A) x answer.0) into answer.2)

pub loop-to-init : goal.loop-to-init
loop-to-init c = λ t q t_in near. (λ cell. inl cell, λ either. elim either [ inl cell ↦ cell | inr found ↦ let lt = found.0 in absurd (omega arith) ])

pub note_answers-requires-clause-ends : goal.note_answers-requires-clause-ends
note_answers-requires-clause-ends c = λ q bit.
    let near : q < c.args.width * 64 = bit_near c.row_at-ends.result.now c.args.width q c.row_at-ends.ensures.len bit in
    c.requires.columns c.loop-to.to q (omega (arith, c.loop-to-test.true, c.states-to-end.ensures.count)) near (sym (c.row_at-ends.ensures.bits q near) ∙ bit)

pub loop-to-preserved : goal.loop-to-preserved
loop-to-preserved c =
    let L = c.args.places.now in
    let A = c.args.automaton.now in
    let w = c.args.width in
    let e : w ≡ row_words A = c.requires.width in
    let to = c.loop-to.to in
    let fresh = c.args.fresh.now in
    let old = c.args.answered.now in
    let row = c.row_at-ends.result.now in
    let len : length row ≡ row_words A = c.row_at-ends.ensures.len ∙ e in
    let bits : (x : ℕ) → x < row_words A * 64 → bit_of row x ≡ cell_of fresh (row_words A) to x =
    subst (λ v. (x : ℕ) → x < v * 64 → bit_of row x ≡ cell_of fresh v to x) e c.row_at-ends.ensures.bits in
    let room : (x : ℕ) → x < A.states → x < row_words A * 64 = λ x x_in. omega arith in
    let right : (t q : ℕ) → (answer : HasFreshAnswer L A fresh t q) → answer.0 < A.states = λ t q answer. (move_in_range A c.requires.valid q (trans_at L t).label answer.0 answer.1).1 in
    let P : List ℕ → Type 0 = λ answered. (t q : ℕ) → t < length L.transitions → q < w * 64 → HasCell answered w t q ↔ (HasCell old w t q ⊎ (((trans_at L t).target < to + 1) × HasFreshAnswer L A fresh t q)) in
    elim c.match-next_bit.branch [
      | in-Some b ↦ subst P (sym b.answered-is) (λ t q t_in near.
          let was = c.loop-to.invariant t q t_in near in
          let more = b.note_answers.ensures t q t_in near in (
            λ cell. elim (more.0 cell) [
              | inl before ↦ elim (was.0 before) [
                | inl first ↦ inl first
                | inr found ↦ let lt = found.0 in inr (omega arith, found.1)
              ]
              | inr new ↦ let f = new.0 in inr (omega arith, row_answers L A fresh row to t q len bits new.0 new.1)
            ],
            λ either. more.1 (elim either [
              | inl first ↦ inl (was.1 (inl first))
              | inr found ↦ elim (cases_eq (trans_at L t).target to) [
                | inl f ↦ inr (f, answers_row L A fresh row to t q bits room f found.1 (right t q found.1))
                | inr apart ↦ let lt = found.0 in inl (was.1 (inr (omega arith, found.1)))
              ]
            ]),
          ))
      | in-None b ↦ subst P (sym b.answered-is) (λ t q t_in near.
          let was = c.loop-to.invariant t q t_in near in (
            λ cell. elim (was.0 cell) [
              | inl first ↦ inl first
              | inr found ↦ let lt = found.0 in inr (omega arith, found.1)
            ],
            λ either. was.1 (elim either [
              | inl first ↦ inl first
              | inr found ↦ elim (cases_eq (trans_at L t).target to) [
                | inl f ↦
                    let leads = answers_row L A fresh row to t q bits room f found.1 (right t q found.1) in
                    absurd (false≢true (sym (b.in-None.ensures.none leads.0 (omega arith)) ∙ leads.2))
                | inr apart ↦ let lt = found.0 in inr (omega arith, found.1)
              ]
            ]),
          ))
    ]

pub returns : goal.returns
returns c = λ t q t_in near.
    let L = c.args.places.now in
    let A = c.args.automaton.now in
    let was = c.loop-to.invariant t q t_in near in (
      λ cell. elim (was.0 cell) [ inl first ↦ inl first | inr found ↦ inr found.1 ],
      λ either. was.1 (elim either [
        | inl first ↦ inl first
        | inr answer ↦
            let target = (move_in_range L c.requires.over (trans_at L t).source (trans_at L t).label (trans_at L t).target (move_at L t t_in)).1 in
            inr (omega (arith, target, c.loop-to-test.false, c.states-to-end.ensures.count), answer)
      ]),
    )
