use Rattle.std.proofs.Common.{◌≡◌, ◌≤◌, ◌↔◌, ℕ, List, length, Contains, subst, arith}
use Rattle.auto_core.specs.Automaton.{Automaton}
use Rattle.auto_core.specs.Build.{IsBuilt}
use Rattle.auto_core.specs.Outcome.{At}
use Rattle.auto_core.specs.declared.parts.Mode.{Mode}
use Rattle.auto_ops.specs.declared.product_states.ProductState.{ProductState}
use Rattle.auto_ops.specs.Intersection.{IsAcceptingProductState, IsIntersection}
use Rattle.auto_ops.specs.Limits.{IsSmallResult}
use Rattle.auto_ops.proofs.ProductLemmas.{intersection_parts, intersection_built, intersection_small}
use Rattle.auto_ops.proofs.OneLaws.{intersection_limits}
use Rattle.auto_ops.proofs.intersecting.intersect.Goals as goal
use Rattle.auto_ops.proofs.intersecting.intersect.Goals.{In_ok-accepting, After-len-states, In_ok-built}

-- Just the numbers of the accepting ones of the product states are in the list.
abbrev AreAccepting : Mode → Automaton → Automaton → List ℕ → List ProductState → Type 0
AreAccepting mode A B accepting l = (n : ℕ) → Contains accepting n ↔ ((t : ProductState) × At l n t × IsAcceptingProductState mode A B t)

members : (c : goal.In_ok-accepting) → AreAccepting c.args.mode c.args.pair.now.first c.args.pair.now.second c.in_ok-accepting.accepting.items c.in_ok-product.product.product_states.items
members c = subst (AreAccepting c.args.mode c.args.pair.now.first c.args.pair.now.second c.in_ok-accepting.accepting.items) c.deref.ensures.value c.in_ok-accepting.ensures.members

size : (c : goal.After-len-states) → c.len-states.result ≡ length c.in_ok-product.product.product_states.items
size c = omega (arith, c.in_ok-product.product.product_states.ok)

pub of_parts-requires : goal.of_parts-requires
of_parts-requires c =
    let product = c.in_ok-product.product in
    let at = goal.at.of_parts-requires c in
    rw (size at.After-len-states, c.labels-labels.ensures.count, c.deref-2.ensures.value, c.deref-3.ensures.value)
    (intersection_parts c.args.mode c.args.pair.now.first c.args.pair.now.second product.product_states.items product.transitions.items c.in_ok-accepting.accepting.items c.in_ok-product.ensures.explored
    c.labels-labels.ensures.valid c.in_ok-product.ensures.valid (members at.In_ok-accepting) c.in_ok-accepting.ensures.once)

is_built : (c : goal.In_ok-built) → let product = c.in_ok-product.product in
    IsBuilt (length product.product_states.items) c.args.pair.now.first.labels 0 product.transitions.items c.in_ok-accepting.accepting.items c.in_ok-built.built
is_built c = rw (size (goal.at.In_ok-built c).After-len-states, c.labels-labels.ensures.count, c.deref-2.ensures.value, c.deref-3.ensures.value) at c.in_ok-built.ensures

exact : (c : goal.In_ok-built) → IsIntersection c.args.mode c.args.pair.now.first c.args.pair.now.second c.in_ok-built.built
exact c =
    let product = c.in_ok-product.product in
    intersection_built c.args.mode c.args.pair.now.first c.args.pair.now.second product.product_states.items product.transitions.items c.in_ok-accepting.accepting.items c.in_ok-product.ensures.explored
    c.labels-labels.ensures.valid c.in_ok-product.ensures.valid (members (goal.at.In_ok-built c).In_ok-accepting) c.in_ok-built.built (is_built c)

small : (c : goal.In_ok-built) → IsSmallResult c.in_ok-built.built
small c =
    let product = c.in_ok-product.product in
    let few : c.args.pair.now.first.labels ≤ 256 = omega arith in
    intersection_small c.args.mode c.args.pair.now.first c.args.pair.now.second product.product_states.items product.transitions.items c.in_ok-accepting.accepting.items c.in_ok-product.ensures.explored
    c.labels-labels.ensures.valid c.in_ok-product.ensures.valid (members (goal.at.In_ok-built c).In_ok-accepting) few c.in_ok-built.built (is_built c)

pub returns-clause-exact : goal.returns-clause-exact
returns-clause-exact c = exact (goal.at.returns-clause-exact c).In_ok-built

pub returns-clause-within : goal.returns-clause-within
returns-clause-within c = small (goal.at.returns-clause-within c).In_ok-built

pub returns-clause-not_too_large : goal.returns-clause-not_too_large
returns-clause-not_too_large c = λ too_large.
    let at = (goal.at.returns-clause-not_too_large c).In_ok-built in
    intersection_limits c.args.mode c.args.pair.now.first c.args.pair.now.second c.in_ok-built.built (exact at) too_large (small at)
