use Rattle.std.proofs.Common.{◌<◌, length}
use Rattle.supergraph.proofs.WordLemmas.{IsSplit}
use Rattle.supergraph.proofs.words.letters_back.Given as goal

abbrev pub invariant-loop-at : goal.invariant-loop-at
invariant-loop-at l = record { is_there : l.at < length l.origins; split : IsSplit l.automaton l.origins l.element l.at l.letters.items }

abbrev pub decreases-loop-at : goal.decreases-loop-at
decreases-loop-at l = l.at
