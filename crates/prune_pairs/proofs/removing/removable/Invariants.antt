use Rattle.auto_core.specs.Game.{Holds}
use Rattle.prune_pairs.proofs.RemoveLemmas.{AreFound}
use Rattle.prune_pairs.proofs.removing.removable.Given as goal

abbrev pub invariant-loop-trans : goal.invariant-loop-trans
invariant-loop-trans l = AreFound l.automaton l.pair (Holds l.back.pairs) (Holds l.ahead.pairs) l.trans l.gone
