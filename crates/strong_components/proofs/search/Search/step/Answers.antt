use Rattle.std.proofs.Common.{ℕ, ◌+◌, ◌-◌, length, take, refl, sym, subst}
use Rattle.strong_components.specs.Graph.{at}
use Rattle.strong_components.specs.States.{state_of}
use Rattle.strong_components.specs.Steps.{Stepped}
use Rattle.strong_components.proofs.StateLemmas.{same_state}
use Rattle.strong_components.proofs.StepLemmas.{group_stepped, path_most}
use Rattle.strong_components.proofs.search.Search.step.Goals as goal

pub returns-in_ok-close-in-None : goal.returns-in_ok-close-in-None
returns-in_ok-close-in-None c =
    let s = state_of c.args.self.now in
    let starts = c.args.starts.now in
    let targets = c.args.targets.now in
    let nodes : ℕ = length c.args.self.now.rest.items in
    let e = c.in_ok-close-in-None.ensures in
    let new = state_of c.close.new.self in
    let start : ℕ = at s.bounds (length s.bounds - 1) in
    subst (λ t. Stepped starts targets nodes s t)
    (sym (same_state new (record { stack = take start s.stack; bounds = take (length s.bounds - 1) s.bounds; path = s.path; rest = s.rest; places = s.places; numbers = new.numbers; count = s.count + 1 })
    e.stack e.bounds e.path e.rest e.places refl e.count))
    (group_stepped starts targets nodes s c.requires.way new.numbers c.requires.some (path_most starts targets nodes s c.requires.way start c.in-None.ensures.none) e.numbers e.few)
