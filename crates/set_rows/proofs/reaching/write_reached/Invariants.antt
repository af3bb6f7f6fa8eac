use Rattle.std.proofs.Common.{◌≡◌, ◌+◌, ◌/◌, length, drop}
use Rattle.set_rows.specs.Sets.{IsRow}
use Rattle.set_rows.proofs.ReachLemmas.{IsUnderWay}
use Rattle.set_rows.proofs.reaching.write_reached.Given as goal

abbrev pub invariant-loop-at : goal.invariant-loop-at
invariant-loop-at l = record {
  row : IsRow l.automaton.states l.row;
  len : length l.next ≡ (l.automaton.states + 63) / 64;
  under_way : IsUnderWay l.automaton l.word l.row (drop l.at l.word);
}
