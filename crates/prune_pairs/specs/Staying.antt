-- The transitions that a cut leaves.
use Rattle.std.specs.Prelude.{ℕ, Bool, List, length, map, filter, not, ◌==◌}
use Rattle.std.specs.List.{list_any, range_with_len}
use Rattle.auto_core.specs.Automaton.{Automaton, trans_at}
use Rattle.auto_core.specs.declared.parts.Trans.{Trans}

-- Whether the transition with this number stays.
abbrev pub stays_in : List ℕ → ℕ → Bool
stays_in gone t = not (list_any (λ x. x == t) gone)

-- The transitions that stay, in order.
abbrev pub staying_transitions : Automaton → List ℕ → List Trans
staying_transitions A gone =
    map (trans_at A) (filter (stays_in gone) (range_with_len 0 (length A.transitions)))
