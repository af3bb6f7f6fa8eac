use Rattle.std.proofs.Common.{ℕ, ◌<◌, ◌≤◌}
use Rattle.auto_core.specs.Automaton.{trans_at}
use Rattle.delayed_game.specs.Settling.{IsAnsweredIn}
use Rattle.delayed_laws.specs.Listed.{place_pairs}
use Rattle.delayed_across.specs.Answered.{HoldsBelow}
use Rattle.delayed_across.proofs.answers.answers_all.Given as goal

abbrev pub invariant-loop-t : goal.invariant-loop-t
invariant-loop-t l =
    (v : ℕ) → l.initial.t ≤ v → v < l.t →
    IsAnsweredIn l.second (HoldsBelow (place_pairs l.pairs) l.bound) l.pair.right (trans_at l.first v).label (trans_at l.first v).target
