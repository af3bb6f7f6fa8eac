use Rattle.std.proofs.Common.{◌≡◌, ℕ, ◌/◌, ◌%◌, ◌↔◌, inl, inr, sym, subst, arith}
use Rattle.std.proofs.lemmas.Bool.{cases_eq}
use Rattle.auto_core.specs.Automaton.{trans_at}
use Rattle.auto_core.proofs.MoveLemmas.{move_at, move_in_range}
use Rattle.delayed_game.specs.Before.{LeadsToColumn}
use Rattle.delayed_game.specs.Boards.{HasFreshAnswer}
use Rattle.delayed_game.proofs.BlockLemmas.{HaveColumns, column_answers}
use Rattle.delayed_game.proofs.blocks.note_block.Goals as goal

pub loop-label-init : goal.loop-label-init
loop-label-init c = λ t q t_in near. (λ cell. inl cell, λ either. elim either [ inl cell ↦ cell | inr found ↦ let lt = found.0 in absurd (omega arith) ])

pub loop-label-preserved : goal.loop-label-preserved
loop-label-preserved c = λ t q t_in near.
    let L = c.args.places.now in
    let A = c.args.automaton.now in
    let a : ℕ = c.loop-label.label in
    let words = c.write_words.new.words in
    let j : ℕ = (trans_at L t).target % 64 in
    let was = c.loop-label.invariant t q t_in near in
    let more = c.note_letter.ensures t q t_in near in
    let have : HaveColumns A.states L.states c.args.fresh.now c.args.width c.args.block words =
    subst (λ n. HaveColumns n L.states c.args.fresh.now c.args.width c.args.block words) c.states.ensures.count
    (subst (λ m. HaveColumns c.states.result m c.args.fresh.now c.args.width c.args.block words) c.states-count.ensures.count c.write_words.ensures) in
    let answers : (trans_at L t).target / 64 ≡ c.args.block → LeadsToColumn A words (trans_at L t).label j q ↔ HasFreshAnswer L A c.args.fresh.now t q =
    column_answers L A c.args.fresh.now words c.args.width c.args.block t q c.requires.over c.requires.valid c.requires.width have t_in in (
      λ cell. elim (more.0 cell) [
        | inl before ↦ elim (was.0 before) [ inl first ↦ inl first | inr found ↦ let lt = found.0 in inr (omega arith, found.1, found.2) ]
        | inr new ↦ let e = new.0 in inr (omega arith, new.1, (answers new.1).0 (subst (λ x. LeadsToColumn A words x j q) (sym new.0) new.2))
      ],
      λ either. more.1 (elim either [
        | inl first ↦ inl (was.1 (inl first))
        | inr found ↦ elim (cases_eq (trans_at L t).label a) [
          | inl e ↦ inr (e, found.1, subst (λ x. LeadsToColumn A words x j q) e ((answers found.1).1 found.2))
          | inr apart ↦ let lt = found.0 in inl (was.1 (inr (omega arith, found.1, found.2)))
        ]
      ]),
    )

pub returns : goal.returns
returns c = λ t q t_in near.
    let L = c.args.places.now in
    let was = c.loop-label.invariant t q t_in near in (
      λ cell. elim (was.0 cell) [ inl first ↦ inl first | inr found ↦ inr (found.1, found.2) ],
      λ either. was.1 (elim either [
        | inl first ↦ inl first
        | inr found ↦
            let label = (move_in_range L c.requires.over (trans_at L t).source (trans_at L t).label (trans_at L t).target (move_at L t t_in)).2 in
            inr (omega (arith, label, c.requires.labels, c.loop-label-test.false, c.labels-label-end.ensures), found.0, found.1)
      ]),
    )
