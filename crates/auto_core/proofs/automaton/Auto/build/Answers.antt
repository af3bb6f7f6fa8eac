use Rattle.std.proofs.Common.{ℕ, List, rules}
use Rattle.std.specs.List.Sorted.{IsPermutation, IsStrictlyIncreasing}
use Rattle.auto_core.specs.Automaton.{IsAscending}
use Rattle.auto_core.specs.Build.{HasStates, HasLabels}
use Rattle.auto_core.specs.declared.parts.Trans.{Trans}
use Rattle.auto_core.proofs.BuildLemmas.{valid_from}
use Rattle.auto_core.proofs.automaton.Auto.build.Goals as goal

pub stored-requires : goal.stored-requires
stored-requires c =
    let ts : List Trans = c.in_ok-transitions.transitions.items in
    let qs : List ℕ = c.in_ok-accepting.accepting.items in
    let given = c.args.transitions.now in
    let in_states : HasStates c.args.states c.args.initial given c.args.accepting.now = search rules in
    let in_labels : HasLabels c.args.labels given = search rules in
    let same : IsPermutation given ts = search rules in
    let up : IsAscending ts = search rules in
    let same_states : IsPermutation c.args.accepting.now qs = search rules in
    let up_states : IsStrictlyIncreasing qs = search rules in
    valid_from c.args.states c.args.labels c.args.initial given ts c.args.accepting.now qs
    (search rules) (search rules) c.requires in_states in_labels same up same_states up_states
