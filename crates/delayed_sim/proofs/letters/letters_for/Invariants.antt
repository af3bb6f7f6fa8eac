use Rattle.std.proofs.Common.{◌≡◌, ◌≤◌}
use Rattle.auto_core.specs.Delayed.{most_letters}
use Rattle.delayed_sim.proofs.letters.letters_for.Given as goal

abbrev pub invariant-fewer : goal.invariant-fewer
invariant-fewer l = (most_letters l.automaton l.asked ≡ most_letters l.automaton l.letters) × (1 ≤ l.letters) × (l.letters ≤ l.asked)

abbrev pub decreases-fewer : goal.decreases-fewer
decreases-fewer l = l.letters
