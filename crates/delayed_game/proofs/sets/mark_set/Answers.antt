use Rattle.std.proofs.Common.{◌≡◌, ℕ, ◌+◌, ◌*◌, ◌<◌, ◌⊎◌, ◌↔◌, inl, inr, List, sym, subst, arith}
use Rattle.auto_core.specs.Rows.{HasCell}
use Rattle.delayed_game.proofs.SetLemmas.{LeadsToFirst, set_more, set_passed}
use Rattle.delayed_game.proofs.sets.mark_set.Goals as goal
use Rattle.delayed_game.proofs.sets.mark_set.Goals.{then-is_in_set, else-is_in_set}

pub loop-i-init : goal.loop-i-init
loop-i-init c = λ a q near. (λ cell. inl cell, λ either. elim either [ inl cell ↦ cell | inr is ↦ let lt = is.1 in absurd (omega arith) ])

pub loop-i-preserved : goal.loop-i-preserved
loop-i-preserved c =
    let A = c.args.automaton.now in
    let k : ℕ = c.args.number in
    let w : ℕ = c.args.width in
    let i : ℕ = c.loop-i.i in
    let old = c.args.made.now in
    let now = c.loop-i.made in
    let P : List ℕ → Type 0 = λ made. (a q : ℕ) → q < w * 64 → HasCell made w a q ↔ (HasCell old w a q ⊎ LeadsToFirst A k (i + 1) a q) in
    elim c.if-is_in_set.branch [
      | then-is_in_set b ↦ subst P (sym b.made-is) (set_more A k i w old now b.mark_before.new.made (c.is_in_set.ensures.some b.if-is_in_set.true).0 c.loop-i.invariant b.mark_before.ensures)
      | else-is_in_set b ↦ subst P (sym b.made-is) (set_passed A k i w old now c.requires.valid (c.is_in_set.ensures.none b.if-is_in_set.false) c.loop-i.invariant)
    ]

pub returns : goal.returns
returns c = λ a q near.
    let h = c.loop-i.invariant a q near in
    let four : c.loop-i.i ≡ 4 = omega (arith, c.loop-i-test.false, c.loop-i.auto.i-end) in (
      λ cell. elim (h.0 cell) [ inl first ↦ inl first | inr is ↦ let lt = is.1 in inr (is.0, omega arith, is.2, is.3) ],
      λ either. h.1 (elim either [ inl first ↦ inl first | inr is ↦ let lt = is.1 in inr (is.0, omega arith, is.2, is.3) ]),
    )
