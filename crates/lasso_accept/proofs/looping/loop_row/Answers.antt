use Rattle.std.proofs.Common.{◌≡◌, ◌↔◌, ◌+◌, ◌/◌, ◌<◌, ◌≤◌, ℕ, List, length, rules, sym, subst}
use Rattle.auto_core.specs.Automaton.{Automaton, IsAutomaton}
use Rattle.auto_core.specs.Rows.{HasBit}
use Rattle.auto_core.specs.Reach.{HasArc}
use Rattle.set_rows.specs.Sets.{IsRow}
use Rattle.bit_rows.specs.Loops.{LeadsToLoop}
use Rattle.lasso_accept.specs.Plane.{ArePlanes}
use Rattle.lasso_accept.specs.Looping.{AcceptsLoopFrom}
use Rattle.lasso_accept.proofs.LoopingLemmas.{written_whole, leads_as_accepts}
use Rattle.lasso_accept.proofs.looping.loop_row.Goals as goal

pub returns-clause-row : goal.returns-clause-row
returns-clause-row c =
    let n : ℕ = c.states-states.result in
    let new : List ℕ = c.mark_loops.new.looping in
    let items : List ℕ = c.in_ok-out.out.items in
    let short : length items ≤ length new = search rules in
    let long : length new ≤ c.in_ok-out.out.len = search rules in
    let len : length new ≡ (n + 63) / 64 = search rules in
    let is : IsRow n new = record { len = len; below = λ q has. ((c.mark_loops.ensures.marked q).0 has).0 } in
    subst (λ l. IsRow c.args.automaton.now.states l) (sym (written_whole new items c.in_ok-out.out.len short long)) (subst (λ k. IsRow k new) c.states-states.ensures.count is)

pub returns-clause-members : goal.returns-clause-members
returns-clause-members c =
    let A : Automaton = c.args.automaton.now in
    let v : List ℕ = c.args.turn.now in
    let n : ℕ = c.states-states.result in
    let width : ℕ = c.words_for-width.result in
    let any : List ℕ = c.deref.result.now in
    let flagged : List ℕ = c.deref-2.result.now in
    let new : List ℕ = c.mark_loops.new.looping in
    let items : List ℕ = c.in_ok-out.out.items in
    let valid : IsAutomaton A = c.states-states.ensures.valid in
    let planes : ArePlanes A v width any flagged = search rules in
    let short : length items ≤ length new = search rules in
    let long : length new ≤ c.in_ok-out.out.len = search rules in
    let Leads : ℕ → ℕ → Type 0 = λ k w. (p : ℕ) → HasBit new p ↔ ((p < k) × LeadsToLoop (HasArc any k w) (HasArc flagged k w) p) in
    let marked : Leads n ((n + 63) / 64) = c.mark_loops.ensures.marked in
    let leads : Leads A.states width = subst (λ k. Leads k width) c.states-states.ensures.count (subst (Leads n) (sym c.words_for-width.ensures) marked) in
    subst (λ l. (p : ℕ) → HasBit l p ↔ ((p < A.states) × AcceptsLoopFrom A v p)) (sym (written_whole new items c.in_ok-out.out.len short long)) (leads_as_accepts A valid v width any flagged planes new leads)
