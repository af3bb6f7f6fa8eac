use Rattle.std.proofs.Common.{◌≡◌, ℕ, ◌<◌, vec_len, slice_index_or, false, take, ◌==◌}
use Rattle.std.specs.List.{list_any}
use Rattle.auto_core.proofs.tables.flags_of.Given as goal

abbrev pub invariant-loop-q : goal.invariant-loop-q
invariant-loop-q l =
    (vec_len l.flags ≡ l.states)
    × ((p : ℕ) → p < l.states → slice_index_or l.flags.items p false ≡ list_any (λ x. x == p) (take l.q-index l.accepting))
