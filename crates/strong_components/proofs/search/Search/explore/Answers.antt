use Rattle.std.proofs.Common.{◌≡◌, ℕ, length, sym, ap, ◌∙◌, subst, arith}
use Rattle.strong_components.specs.Graph.{at}
use Rattle.strong_components.specs.States.{state_of}
use Rattle.strong_components.specs.Steps.{Stepped}
use Rattle.strong_components.proofs.StepLemmas.{node_stepped, arc_can, arc_makes, node_in_rest}
use Rattle.strong_components.proofs.search.Search.explore.Goals as goal

pub returns-then-left-eq0 : goal.returns-then-left-eq0
returns-then-left-eq0 c =
    let s = state_of c.args.self.now in
    let x : ℕ = c.args.place in
    let nodes : ℕ = length c.args.self.now.rest.items in
    let ended : at s.rest (at s.stack x) ≡ 0 = ap (λ r. at r (at s.stack x)) (sym c.as_slice-2.ensures.value) ∙ ap (λ l. at c.as_slice-2.result.now (at l x)) (sym c.as_slice.ensures.value) ∙ c.if-left-eq0.true in
    subst (λ l. Stepped c.args.starts.now c.args.targets.now nodes s (record { stack = s.stack; bounds = s.bounds; path = l; rest = s.rest; places = s.places; numbers = s.numbers; count = s.count }))
    (sym c.take_off.ensures)
    (node_stepped c.args.starts.now c.args.targets.now nodes s c.requires.way x c.requires.last ended)

pub put-requires : goal.put-requires
put-requires c =
    let s = state_of c.args.self.now in
    let x : ℕ = c.args.place in
    let starts = c.args.starts.now in
    let targets = c.args.targets.now in
    let nodes : ℕ = length c.args.self.now.rest.items in
    let node : ℕ = at c.as_slice.result.now x in
    let left : ℕ = at c.as_slice-2.result.now node in
    let is_node : at s.stack x ≡ node = ap (λ l. at l x) (sym c.as_slice.ensures.value) in
    let is_left : at s.rest node ≡ left = ap (λ l. at l node) (sym c.as_slice-2.ensures.value) in
    let some : left ≡ 0 → ⊥ = λ e. omega (arith, e, c.if-left-eq0.false) in
    let can = arc_can starts targets nodes s c.requires.way x c.requires.last c.requires.graph node left is_node is_left some in
    node_in_rest starts targets nodes s c.requires.way x c.requires.last c.requires.graph node left is_node is_left some (state_of c.go.new.self)
    (c.in_ok-go.ensures starts targets nodes x c.requires.way can)

pub returns : goal.returns
returns c =
    let s = state_of c.args.self.now in
    let x : ℕ = c.args.place in
    let starts = c.args.starts.now in
    let targets = c.args.targets.now in
    let nodes : ℕ = length c.args.self.now.rest.items in
    let node : ℕ = at c.as_slice.result.now x in
    let left : ℕ = at c.as_slice-2.result.now node in
    let is_node : at s.stack x ≡ node = ap (λ l. at l x) (sym c.as_slice.ensures.value) in
    let is_left : at s.rest node ≡ left = ap (λ l. at l node) (sym c.as_slice-2.ensures.value) in
    let some : left ≡ 0 → ⊥ = λ e. omega (arith, e, c.if-left-eq0.false) in
    let can = arc_can starts targets nodes s c.requires.way x c.requires.last c.requires.graph node left is_node is_left some in
    let t = state_of c.go.new.self in
    subst (λ l. Stepped starts targets nodes s (record { stack = t.stack; bounds = t.bounds; path = t.path; rest = l; places = t.places; numbers = t.numbers; count = t.count }))
    (sym c.put.ensures)
    (arc_makes starts targets nodes s c.requires.way x c.requires.last c.requires.graph node left is_node is_left some t
    (c.in_ok-go.ensures starts targets nodes x c.requires.way can))
