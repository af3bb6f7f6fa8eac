-- The moves of a state as a list.
use Rattle.std.specs.Prelude.{ℕ, List, map, ◌==◌}
use Rattle.std.specs.List.{filter}
use Rattle.auto_core.specs.Automaton.{Automaton}
use Rattle.auto_core.specs.declared.parts.Trans.{Trans}
use Rattle.look_round.specs.declared.moves.Move.{Move}

-- The move by the letter a to q.
abbrev pub move : ℕ → ℕ → Move
move a q = record { label = a; to = q }

-- The transition as a move out of its source.
abbrev pub move_of : Trans → Move
move_of t = move t.label t.target

-- The moves forward out of p: the transitions whose source it is, in their order.
abbrev pub forward_moves : Automaton → ℕ → List Move
forward_moves A p = map move_of (filter (λ (t : Trans). t.source == p) A.transitions)

-- The transition as a move from its target to its source.
abbrev pub turned_move : Trans → Move
turned_move t = move t.label t.source

-- The moves backward out of p: the transitions whose target it is, in their order.
abbrev pub backward_moves : Automaton → ℕ → List Move
backward_moves A p = map turned_move (filter (λ (t : Trans). t.target == p) A.transitions)

-- The transition turned round.
abbrev pub turned_trans : Trans → Trans
turned_trans t = record { source = t.target; label = t.label; target = t.source }
