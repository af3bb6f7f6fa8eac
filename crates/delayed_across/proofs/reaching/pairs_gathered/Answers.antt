use Rattle.std.proofs.Common.{◌≡◌, ◌+◌, ℕ, List, [], ◌∷◌, ◌++◌, Contains, sym, ap, ◌∙◌, subst, arith}
use Rattle.std.proofs.lemmas.Bool.{iff_false}
use Rattle.delayed_laws.specs.declared.parts.DelayedPair.{DelayedPair}
use Rattle.delayed_laws.specs.Listed.{delayed_at}
use Rattle.delayed_across.proofs.PartLemmas.{IsPartUpto, part_none, part_more, part_same, part_whole}
use Rattle.delayed_across.proofs.reaching.pairs_gathered.Goals as goal
use Rattle.delayed_across.proofs.reaching.pairs_gathered.Goals.{then-has+in_ok-push, else-has}

pub loop-at-init : goal.loop-at-init
loop-at-init c = part_none (Contains c.args.gathered.now.set.members) c.args.pairs.now c.in_ok-part.part.items c.in_ok-part.ensures.items

pub loop-at-preserved : goal.loop-at-preserved
loop-at-preserved c =
    let so : ℕ → Type 0 = Contains c.args.gathered.now.set.members in
    let pairs = c.args.pairs.now in
    let at : ℕ = c.loop-at.at in
    let old = c.loop-at.part.items in
    let P : List DelayedPair → Type 0 = λ l. IsPartUpto so pairs (at + 1) l in
    elim c.if-has.branch as (λ _. P c.if-has.part.items) [
      | then-has+in_ok-push w ↦
          let items : c.if-has.part.items ≡ old ++ delayed_at pairs at ∷ [] = ap (λ v. v.items) w.part-is ∙ w.in_ok-push.ensures.items in
          subst P (sym items) (part_more so pairs c.requires.ascending at old c.loop-at-test.true (c.has.ensures.told.0 w.if-has.true) c.loop-at.invariant)
      | else-has w ↦
          let items : c.if-has.part.items ≡ old = ap (λ v. v.items) w.part-is in
          subst P (sym items) (part_same so pairs at old (iff_false c.has.ensures.told w.if-has.false) c.loop-at.invariant)
    ]

pub returns : goal.returns
returns c = part_whole (Contains c.args.gathered.now.set.members) c.args.pairs.now c.loop-at.at c.loop-at.part.items (omega (arith, c.loop-at-test.false, c.loop-at.auto.at-end)) c.loop-at.invariant
