use Rattle.std.proofs.Common.{◌+◌, ℕ, false, List, sym, ap, ◌∙◌, subst}
use Rattle.std.proofs.lemmas.Bool.{false≢true}
use Rattle.auto_core.proofs.MemberLemmas.{Rises}
use Rattle.auto_ops.specs.Intersection.{product_state}
use Rattle.auto_ops.proofs.SightLemmas.{Differ, apart_once}
use Rattle.auto_ops.proofs.ProductLemmas.{HasAccepting, accepting_more, accepting_same, accepting_all}
use Rattle.auto_ops.proofs.intersecting.accepting_numbers.Goals as goal
use Rattle.auto_ops.proofs.intersecting.accepting_numbers.Goals.{then-accepts+in_ok-push, else-accepts}

pub loop-at-preserved : goal.loop-at-preserved
loop-at-preserved c =
    let A = c.args.first.now in
    let B = c.args.second.now in
    let ts = c.args.product_states.now in
    let at : ℕ = c.loop-at.at in
    let made = c.loop-at.made.items in
    let P : List ℕ → Type 0 = λ l. HasAccepting c.args.mode A B ts (at + 1) l in
    let Q : List ℕ → Type 0 = λ l. Rises Differ l in
    elim c.if-accepts.branch [
      | then-accepts+in_ok-push w ↦
          let new = ap (λ v. v.items) w.made-is ∙ w.in_ok-push.ensures.items in
          let more = accepting_more c.args.mode A B ts at made (product_state 0 0 false) c.loop-at-test.true c.loop-at.invariant.members (c.accepts.ensures.0 w.if-accepts.true) c.loop-at.invariant.apart in
          record { members = subst P (sym new) more.0; apart = subst Q (sym new) more.1 }
      | else-accepts w ↦
          let same = ap (λ v. v.items) w.made-is in
          let kept = accepting_same c.args.mode A B ts at made (product_state 0 0 false) c.loop-at-test.true c.loop-at.invariant.members (λ both. false≢true (sym w.if-accepts.false ∙ c.accepts.ensures.1 both)) in
          record { members = subst P (sym same) kept; apart = subst Q (sym same) c.loop-at.invariant.apart }
    ]

pub returns-clause-members : goal.returns-clause-members
returns-clause-members c = accepting_all c.args.mode c.args.first.now c.args.second.now c.args.product_states.now c.loop-at.at c.loop-at.made.items c.loop-at-test.false c.loop-at.invariant.members

pub returns-clause-once : goal.returns-clause-once
returns-clause-once c = apart_once c.loop-at.made.items c.loop-at.invariant.apart
