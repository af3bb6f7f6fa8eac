use Rattle.std.proofs.Common.{◌≡◌, ℕ, ◌-◌, ◌<◌, ◌≤◌, take, sym, ◌∙◌, subst}
use Rattle.std.proofs.lemmas.List.{get_or_default}
use Rattle.strong_components.specs.Graph.{at}
use Rattle.strong_components.specs.UnderWay.{none}
use Rattle.strong_components.specs.States.{state_of}
use Rattle.strong_components.specs.Steps.{Went}
use Rattle.strong_components.proofs.StateLemmas.{same_state}
use Rattle.strong_components.proofs.GoLemmas.{with_node, with_bounds, went_new, went_open}
use Rattle.strong_components.proofs.search.Search.go.Goals as goal

pub returns-then-not-is_seen : goal.returns-then-not-is_seen
returns-then-not-is_seen c = λ starts targets nodes x way can.
    let s = state_of c.args.self.now in
    let w : ℕ = c.args.node in
    let e = c.in_ok-enter.ensures in
    subst (λ u. Went starts targets nodes s u x w) (sym (same_state (state_of c.enter.new.self) (with_node starts targets nodes s way x w can) e.stack e.bounds e.path e.rest e.places e.numbers e.count))
    (went_new starts targets nodes s way x w can (c.is_seen.ensures.new c.if-not-is_seen.true) e.room)

pub returns-then-index : goal.returns-then-index
returns-then-index c = λ starts targets nodes x way can.
    let s = state_of c.args.self.now in
    let w : ℕ = c.args.node in
    let e = c.merge.ensures in
    let (n, within, is, last, past) = e.bounds in
    let place : ℕ = c.index-place.result.now in
    let placed : at s.places w ≡ place = get_or_default s.places w 0 place c.requires.places ∙ sym c.index-place.ensures in
    let plain : at s.numbers w ≡ none = get_or_default s.numbers w 0 c.index.result.now c.requires.numbers ∙ sym c.index.ensures ∙ c.if-index.true in
    subst (λ u. Went starts targets nodes s u x w) (sym (same_state (state_of c.merge.new.self) (with_bounds starts targets nodes s way x w can (take n s.bounds)) e.stack is e.path e.rest e.places e.numbers e.count))
    (went_open starts targets nodes s way x w can (c.is_seen.ensures.seen c.if-not-is_seen.false) plain n within
    (λ some. subst (λ m. at s.bounds (n - 1) ≤ m) (sym placed) (last some))
    (λ i from lt. subst (λ m. m < at s.bounds i) (sym placed) (past i from lt)))
