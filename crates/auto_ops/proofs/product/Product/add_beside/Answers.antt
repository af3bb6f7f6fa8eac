use Rattle.std.proofs.Common.{◌≡◌, ◌-◌, ◌<◌, ◌≤◌, ◌++◌, ℕ, List, All, length, take, drop, map, get_or, Err, sym, ap, ◌∙◌, subst, arith}
use Rattle.std.proofs.lemmas.Result.{err_from_is_err_and}
use Rattle.auto_core.specs.Automaton.{Automaton, IsInRange, trans}
use Rattle.auto_core.specs.Outcome.{At}
use Rattle.auto_core.specs.declared.parts.Trans.{Trans}
use Rattle.auto_ops.specs.declared.fault.OpFault.{OpFault}
use Rattle.auto_ops.specs.declared.product_states.ProductState.{ProductState}
use Rattle.auto_ops.specs.Intersection.{ProductMove, product_move, product_state}
use Rattle.auto_ops.specs.UnderWay.{IsInside, IsUnderWay}
use Rattle.auto_ops.proofs.ProductLemmas.{beside_more, beside_too_many, inside_noted, at_noted, successors_part}
use Rattle.auto_ops.proofs.product.Product.add_beside.Goals as goal

-- the target of the transition in a list is a state
target_in : (B : Automaton) (ts : List Trans) (at : ℕ) → ts ≡ B.transitions → All (IsInRange B.states B.labels) B.transitions → at < length B.transitions → (get_or ts at (trans 0 0 0)).target < B.states
target_in B ts at list ranges lt =
    let P : List Trans → Type 0 = λ l. (get_or l at (trans 0 0 0)).target < B.states in
    subst P (sym list) (ranges at (trans 0 0 0) lt).1

pub loop-at-preserved : goal.loop-at-preserved
loop-at-preserved c =
    let A = c.args.first.now in
    let B = c.args.second.now in
    let t = c.args.product_state in
    let x = c.args.step in
    let ts = c.transitions-transitions.result.now in
    let list = c.transitions-transitions.ensures.list in
    let s = c.successors-span.ensures.range in
    let at : ℕ = c.loop-at.at in
    let from : c.successors-span.result.begin ≤ at = c.loop-at.auto.at in
    let fits = s.within in
    let within : at < length B.transitions = omega arith in
    let to = product_state x.target (get_or ts at (trans 0 0 0)).target c.next_awaits-awaits_second.result in
    let P : List ProductState → Type 0 = λ l. At l c.args.number t in
    let Q : List ProductState → Type 0 = λ l. All (IsInside A B) l in
    let (target, at_target, is_next) = c.in_ok-add.ensures.added in
    record {
      at = subst P (sym c.in_ok-add.ensures.noted) (at_noted c.loop-at.self.product_states.items to c.args.number t c.loop-at.invariant.at);
      roomy = record {
        few = c.in_ok-add.ensures.few;
        few_transitions = c.in_ok-add.ensures.few_transitions;
        inside = subst Q (sym c.in_ok-add.ensures.noted) (inside_noted A B c.loop-at.self.product_states.items to c.loop-at.invariant.roomy.inside
            (c.requires.step, target_in B ts at list c.transitions-transitions.ensures.valid.in_range within));
      };
      added = λ ms under. beside_more c.args.mode A B t x ts c.successors-span.result.begin at c.next_awaits-awaits_second.result c.loop-at.self.product_states.items c.loop-at.self.transitions.items ms
          list from within c.next_awaits-awaits_second.ensures (c.loop-at.invariant.added ms under)
          c.add.new.self.product_states.items c.add.new.self.transitions.items c.args.number target c.loop-at.invariant.at c.in_ok-add.ensures.noted at_target is_next;
    }

pub returns-clause-added : goal.returns-clause-added
returns-clause-added c = λ ms under.
    let A = c.args.first.now in
    let B = c.args.second.now in
    let s = c.successors-span.ensures.range in
    let b : ℕ = c.successors-span.result.begin in
    let over : c.loop-at.at ≡ c.successors-span.result.end = omega (arith, s.is_range, c.loop-at.auto.at-end) in
    let J = product_move c.args.mode A B c.args.product_state c.args.step in
    let P : List ProductMove → Type 0 = λ l. IsUnderWay A B (ms ++ l) c.loop-at.self.product_states.items c.loop-at.self.transitions.items in
    subst P (ap (λ n. map J (take (n - b) (drop b B.transitions))) over ∙ ap (map J) (sym (successors_part B c.args.product_state.second c.args.step.label b c.successors-span.result.end s)))
    (c.loop-at.invariant.added ms under)

pub returns-in_err-add-clause-too_large : goal.returns-in_err-add-clause-too_large
returns-in_err-add-clause-too_large c = λ ms under h.
    let A = c.args.first.now in
    let B = c.args.second.now in
    let ts = c.transitions-transitions.result.now in
    let s = c.successors-span.ensures.range in
    let at : ℕ = c.loop-at.at in
    let fits = s.within in
    let within : at < length B.transitions = omega arith in
    let p = err_from_is_err_and c.from_residual.result c.from_residual.ensures.1 in
    let is = ap (λ (e : OpFault). Err e) (sym p.2) ∙ sym p.1 ∙ h in
    beside_too_many c.args.mode A B c.args.product_state c.args.step ts c.successors-span.result.begin at c.next_awaits-awaits_second.result c.loop-at.self.product_states.items c.loop-at.self.transitions.items ms
    c.transitions-transitions.ensures.list c.loop-at.auto.at within c.next_awaits-awaits_second.ensures (c.loop-at.invariant.added ms under)
    c.successors-span.result.end s c.loop-at-test.true (c.in_err-add.ensures.too_large is)
