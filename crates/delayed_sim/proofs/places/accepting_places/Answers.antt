use Rattle.std.proofs.Common.{rules, ◌≡◌, [], ◌+◌, ap, ◌∙◌, sym, subst}
use Rattle.std.proofs.lemmas.Bool.{iff_false}
use Rattle.delayed_sim.specs.Steps.{AreAcceptingPlaces}
use Rattle.delayed_sim.proofs.StepLemmas.{ends_none, ends_more, ends_same}
use Rattle.delayed_sim.proofs.places.accepting_places.Goals as goal
use Rattle.delayed_sim.proofs.places.accepting_places.Goals.{then-accepting+in_ok-push, else-accepting}

pub loop-x-init : goal.loop-x-init
loop-x-init c =
    let none : c.new-accepting.result.items ≡ [] = search rules in
    subst (λ l. AreAcceptingPlaces c.args.automaton.now c.args.words l 0) (sym none) (ends_none c.args.automaton.now c.args.words)

pub loop-x-preserved : goal.loop-x-preserved
loop-x-preserved c =
    let A = c.args.automaton.now in
    let w = c.args.words in
    let x = c.loop-x.x in
    let old = c.loop-x.accepting.items in
    elim c.if-accepting.branch as (λ _. AreAcceptingPlaces A w c.if-accepting.accepting.items (x + 1)) [
      | then-accepting+in_ok-push b ↦ ends_more A w old c.if-accepting.accepting.items x c.loop-x.invariant (ap (λ v. v.items) b.accepting-is ∙ b.in_ok-push.ensures.items) (c.accepting.ensures.told.0 b.if-accepting.true)
      | else-accepting b ↦ subst (λ l. AreAcceptingPlaces A w l (x + 1)) (sym (ap (λ v. v.items) b.accepting-is)) (ends_same A w old x c.loop-x.invariant (iff_false c.accepting.ensures.told b.if-accepting.false))
    ]
