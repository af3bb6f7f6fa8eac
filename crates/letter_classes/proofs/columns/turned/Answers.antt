use Rattle.std.proofs.Common.{◌≡◌, ◌≤◌, ℕ, map, [], ◌∙◌, arith}
use Rattle.std.proofs.lemmas.Result.{IfOk-weaker}
use Rattle.auto_core.specs.Build.{IsBuilt}
use Rattle.letter_classes.specs.Columns.{exchanged, IsTurned}
use Rattle.letter_classes.proofs.ColumnLemmas.{turned_parts, turned_built}
use Rattle.letter_classes.proofs.columns.turned.Goals as goal

pub of_parts-requires : goal.of_parts-requires
of_parts-requires c =
    let A = c.args.automaton.now in
    let n : ℕ = c.greater.result in
    let labels : A.labels ≤ n = omega (arith, c.labels.ensures.count, c.greater.ensures.first) in
    let states : A.states ≤ n = omega (arith, c.states-states.ensures.count, c.greater.ensures.second) in
    let transitions : c.deref.result.now ≡ map exchanged A.transitions = c.deref.ensures.value ∙ c.in_ok-transitions.ensures in
    rw (c.states-states.ensures.count, c.initial.ensures.state, transitions) (turned_parts A n c.states-states.ensures.valid labels states)

pub returns : goal.returns
returns c =
    let A = c.args.automaton.now in
    let n : ℕ = c.greater.result in
    let labels : A.labels ≤ n = omega (arith, c.labels.ensures.count, c.greater.ensures.first) in
    let states : A.states ≤ n = omega (arith, c.states-states.ensures.count, c.greater.ensures.second) in
    let transitions : c.deref.result.now ≡ map exchanged A.transitions = c.deref.ensures.value ∙ c.in_ok-transitions.ensures in
    IfOk-weaker c.of_parts.result (IsBuilt n A.states A.initial (map exchanged A.transitions) []) (IsTurned A)
    (λ T b. turned_built A n c.states-states.ensures.valid labels states T b)
    (rw (c.states-states.ensures.count, c.initial.ensures.state, transitions) at c.of_parts.ensures)
