use Rattle.std.proofs.Common.{◌≡◌, ℕ, ◌*◌, ◌<◌, List, IfOk, MatchOption, subst}
use Rattle.auto_core.specs.Automaton.{IsAutomaton}
use Rattle.auto_core.specs.Rows.{bit_of, cell_of}
use Rattle.auto_core.specs.Reach.{HasArc, HasFlaggedCycle}
use Rattle.lasso_accept.specs.Plane.{ArePlanes}
use Rattle.lasso_accept.specs.Route.{IsArcRoute}
use Rattle.lasso_accept.proofs.LassoLemmas.{cycles_as_lassos, row_entered}
use Rattle.lasso_accept.proofs.RunLemmas.{route_found, told_otherwise}
use Rattle.lasso_accept.proofs.runs.route_of.Goals as goal

pub returns : goal.returns
returns c =
    let A = c.args.automaton.now in
    let u : List ℕ = c.args.lasso.now.prefix in
    let v : List ℕ = c.args.lasso.now.turn in
    let width : ℕ = c.args.width in
    let valid : IsAutomaton A = c.states-states.ensures.valid in
    let any : List ℕ = c.in_ok-turn.turn.any.items in
    let flagged : List ℕ = c.in_ok-turn.turn.flagged.items in
    let prefix_any : List ℕ = c.in_ok-prefix.prefix.any.items in
    let prefix_flagged : List ℕ = c.in_ok-prefix.prefix.flagged.items in
    let row : List ℕ = c.row_at-entered.result.now in
    let U : List ℕ → Type 0 = λ x. ArePlanes A x width prefix_any prefix_flagged in
    let V : List ℕ → Type 0 = λ x. ArePlanes A x width any flagged in
    let prefix_planes : ArePlanes A u width prefix_any prefix_flagged = subst U c.as_slice.ensures c.in_ok-prefix.ensures in
    let turn_planes : ArePlanes A v width any flagged = subst V c.as_slice-2.ensures c.in_ok-turn.ensures in
    let F : List ℕ → Type 0 = λ t. (q : ℕ) → q < width * 64 → bit_of row q ≡ cell_of t width A.initial q in
    let G : ℕ → Type 0 = λ p. (q : ℕ) → q < width * 64 → bit_of row q ≡ cell_of c.deref.result.now width p q in
    let inside : (q : ℕ) → q < width * 64 → bit_of row q ≡ cell_of prefix_any width A.initial q = subst F c.deref.ensures.value (subst G c.initial.ensures.state c.row_at-entered.ensures.bits) in
    let entered = row_entered A valid u width prefix_any prefix_flagged row prefix_planes inside c.row_at-entered.ensures.outside in
    let both = cycles_as_lassos A valid u v width any flagged row turn_planes entered.0 entered.1 in
    let R : List ℕ → List ℕ → ℕ → Type 0 =
    λ s t n. IfOk c.route_from.result (λ found. MatchOption found (HasFlaggedCycle (HasArc s n width) (HasArc t n width) row → ⊥) (λ r. IsArcRoute s t n width row r.at r.before r.back r.table.items)) in
    let N : ℕ → Type 0 = λ n. R any flagged n in
    let S : List ℕ → Type 0 = λ s. R s c.deref-3.result.now c.states-states.result in
    let T : List ℕ → Type 0 = λ t. R any t c.states-states.result in
    let told : R any flagged A.states = subst N c.states-states.ensures.count (subst T c.deref-3.ensures.value (subst S c.deref-2.ensures.value c.route_from.ensures)) in
    told_otherwise c.route_from.result _ _ _ _ (λ none a. none (both.1 a))
    (λ r h. route_found A valid u v width any flagged turn_planes r.at r.before r.back r.table.items row h entered.0) told
