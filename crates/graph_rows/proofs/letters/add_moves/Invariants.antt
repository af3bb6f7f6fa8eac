use Rattle.std.proofs.Common.{◌≡◌, ◌⊎◌, true}
use Rattle.auto_core.specs.Automaton.{IsAccepting}
use Rattle.graph_rows.specs.Added.{HasAdded}
use Rattle.graph_rows.proofs.AddedLemmas.{TargetOf}
use Rattle.graph_rows.proofs.letters.add_moves.Given as goal

abbrev pub invariant-loop-t : goal.invariant-loop-t
invariant-loop-t l =
    HasAdded l.width l.row (TargetOf l.automaton l.initial.t l.t (λ q. q ≡ q)) l.fn.joined l.joined
    × HasAdded l.width l.row (TargetOf l.automaton l.initial.t l.t (λ q. (l.flagged ≡ true) ⊎ IsAccepting l.automaton q)) l.fn.past l.past
