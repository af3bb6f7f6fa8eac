use Rattle.std.proofs.Common.{◌<◌, ◌≤◌, length, All}
use Rattle.look_round.specs.declared.reply_lists.TheConstants.{MOST_KINDS}
use Rattle.look_round.proofs.kinds.find_kinds.Given as goal

abbrev pub invariant-loop-p : goal.invariant-loop-p
invariant-loop-p g l = All (λ s. s < l.automaton.states) l.kinds.items × (length l.kinds.items ≤ MOST_KINDS)
