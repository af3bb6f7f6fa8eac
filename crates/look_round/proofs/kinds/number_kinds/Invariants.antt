use Rattle.std.proofs.Common.{◌≡◌, ◌<◌, ℕ, length, slice_index}
use Rattle.look_round.specs.Kinds.{MatchEachOther}
use Rattle.look_round.proofs.kinds.number_kinds.Given as goal

abbrev pub invariant-loop-p : goal.invariant-loop-p
invariant-loop-p g l =
    (length l.numbers.items ≡ l.p)
    × ((p : ℕ) → p < l.p → slice_index l.numbers.items p < length l.kinds → MatchEachOther (g.S.Side.matches l.side l.automaton) p (slice_index l.kinds (slice_index l.numbers.items p)))
