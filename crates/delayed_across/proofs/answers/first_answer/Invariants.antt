use Rattle.std.proofs.Common.{ℕ, ◌<◌, ◌≤◌}
use Rattle.auto_core.specs.Automaton.{trans_at}
use Rattle.delayed_laws.specs.Listed.{place_pairs}
use Rattle.delayed_across.specs.Answered.{HoldsBelow}
use Rattle.delayed_across.proofs.answers.first_answer.Given as goal

abbrev pub invariant-loop-u : goal.invariant-loop-u
invariant-loop-u l = (v : ℕ) → l.initial.u ≤ v → v < l.u → HoldsBelow (place_pairs l.pairs) l.bound l.step.target (trans_at l.second v).target → ⊥
