use Rattle.std.proofs.Common.{ℕ, ◌/◌, inl, inr, arith}
use Rattle.std.proofs.lemmas.Bool.{cases_eq}
use Rattle.auto_core.specs.Automaton.{trans_at}
use Rattle.auto_core.proofs.MoveLemmas.{move_at, move_in_range}
use Rattle.delayed_game.proofs.blocks.note_by_blocks.Goals as goal

pub loop-block-init : goal.loop-block-init
loop-block-init c = λ t q t_in near. (λ cell. inl cell, λ either. elim either [ inl cell ↦ cell | inr found ↦ let lt = found.0 in absurd (omega arith) ])

pub loop-block-preserved : goal.loop-block-preserved
loop-block-preserved c = λ t q t_in near.
    let L = c.args.places.now in
    let b : ℕ = c.loop-block.block in
    let was = c.loop-block.invariant t q t_in near in
    let more = c.note_block.ensures t q t_in near in (
      λ cell. elim (more.0 cell) [
        | inl before ↦ elim (was.0 before) [ inl first ↦ inl first | inr found ↦ let lt = found.0 in inr (omega arith, found.1) ]
        | inr new ↦ let e = new.0 in inr (omega arith, new.1)
      ],
      λ either. more.1 (elim either [
        | inl first ↦ inl (was.1 (inl first))
        | inr found ↦ elim (cases_eq ((trans_at L t).target / 64) b) [
          | inl e ↦ inr (e, found.1)
          | inr apart ↦ let lt = found.0 in inl (was.1 (inr (omega arith, found.1)))
        ]
      ]),
    )

pub returns : goal.returns
returns c = λ t q t_in near.
    let L = c.args.places.now in
    let was = c.loop-block.invariant t q t_in near in (
      λ cell. elim (was.0 cell) [ inl first ↦ inl first | inr found ↦ inr found.1 ],
      λ either. was.1 (elim either [
        | inl first ↦ inl first
        | inr answer ↦
            let target = (move_in_range L c.requires.over (trans_at L t).source (trans_at L t).label (trans_at L t).target (move_at L t t_in)).1 in
            inr (omega (arith, target, c.loop-block-test.false, c.words_for-block-end.ensures, c.states.ensures.count), answer)
      ]),
    )
