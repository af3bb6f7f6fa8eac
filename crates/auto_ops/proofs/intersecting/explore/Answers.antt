use Rattle.std.proofs.Common.{◌≡◌, ◌<◌, ◌≤◌, ◌++◌, ℕ, length, take, Result, Err, sym, ap, ◌∙◌, subst, arith, refl}
use Rattle.std.proofs.lemmas.Option.{slice_get_read}
use Rattle.std.proofs.lemmas.Result.{err_from_is_err_and}
use Rattle.auto_ops.specs.declared.fault.OpFault.{OpFault}
use Rattle.auto_ops.specs.declared.product_states.ProductState.{ProductState}
use Rattle.auto_ops.specs.Intersection.{moves_of, moves_from}
use Rattle.auto_ops.specs.UnderWay.{IsUnderWay, AreTooMany}
use Rattle.auto_ops.proofs.ProductLemmas.{explored_start, explored_more, explored_all, explored_too_many}
use Rattle.auto_ops.proofs.intersecting.explore.Goals as goal

same_fault : {T E : Type 0} (x y : E) → ◌≡◌ {A = Result T E} (Err x) (Err y) → x ≡ y
same_fault x y h = cc

pub loop-done-init : goal.loop-done-init
loop-done-init c = explored_start c.args.mode c.args.first.now c.args.second.now c.in_ok-product.product.product_states.items c.in_ok-product.product.transitions.items c.in_ok-product.ensures.begun.0 c.in_ok-product.ensures.begun.1
    c.in_ok-product.ensures.valid.0 c.in_ok-product.ensures.valid.1

pub add_from-requires-clause-at : goal.add_from-requires-clause-at
add_from-requires-clause-at c =
    let product_states = c.loop-done.product.product_states.items in
    let lt : c.loop-done.done < length product_states = omega (arith, c.loop-done.product.product_states.ok) in
    slice_get_read product_states (length product_states) c.loop-done.done c.index-product_state.result.now refl lt c.index-product_state.ensures

pub returns-in_err-add_from-clause-too_large : goal.returns-in_err-add_from-clause-too_large
returns-in_err-add_from-clause-too_large c = λ h.
    let A = c.args.first.now in
    let B = c.args.second.now in
    let product_states = c.loop-done.product.product_states.items in
    let done : ℕ = c.loop-done.done in
    let r = c.index-product_state.result.now in
    let lt : done < length product_states = omega (arith, c.loop-done.product.product_states.ok) in
    let p = err_from_is_err_and c.from_residual-in_err-add_from.result c.from_residual-in_err-add_from.ensures.1 in
    let is = same_fault c.in_err-add_from.field-0.0 OpFault.TooLarge (ap (λ (e : OpFault). Err e) (sym p.2) ∙ sym p.1 ∙ h) in
    let before = moves_from c.args.mode A B (take done product_states) in
    let P : ProductState → Type 0 = λ u. AreTooMany A B (before ++ moves_of c.args.mode A B u) in
    explored_too_many c.args.mode A B c.in_ok-product.ensures.valid.0 c.in_ok-product.ensures.valid.1 done product_states c.loop-done.product.transitions.items r lt c.loop-done.invariant
    (subst P c.index-product_state.ensures (c.in_err-add_from.ensures.too_large before c.loop-done.invariant.so_far (ap (λ (e : OpFault). Err e) is)))

pub loop-done-preserved : goal.loop-done-preserved
loop-done-preserved c =
    let A = c.args.first.now in
    let B = c.args.second.now in
    let product_states = c.loop-done.product.product_states.items in
    let done : ℕ = c.loop-done.done in
    let r = c.index-product_state.result.now in
    let lt : done < length product_states = omega (arith, c.loop-done.product.product_states.ok) in
    let before = moves_from c.args.mode A B (take done product_states) in
    let P : ProductState → Type 0 = λ u. IsUnderWay A B (before ++ moves_of c.args.mode A B u) c.add_from.new.self.product_states.items c.add_from.new.self.transitions.items in
    explored_more c.args.mode A B done product_states c.add_from.new.self.product_states.items c.loop-done.product.transitions.items c.add_from.new.self.transitions.items r lt c.loop-done.invariant
    (subst P c.index-product_state.ensures (c.in_ok-add_from.ensures.added before c.loop-done.invariant.so_far)) c.in_ok-add_from.ensures.roomy

pub returns-clause-explored : goal.returns-clause-explored
returns-clause-explored c =
    let product_states = c.loop-done.product.product_states.items in
    let over : length product_states ≤ c.loop-done.done = omega (arith, c.loop-done.product.product_states.ok) in
    explored_all c.args.mode c.args.first.now c.args.second.now c.loop-done.done product_states c.loop-done.product.transitions.items over c.loop-done.invariant
