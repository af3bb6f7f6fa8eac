use Rattle.std.proofs.Common.{◌≡◌, length}
use Rattle.evidence.proofs.TableLemmas.{AreEmpty}
use Rattle.antichain.proofs.family.Family.new.Given as goal

abbrev pub invariant-loop-state : goal.invariant-loop-state
invariant-loop-state l = record { size : length l.by_state.items ≡ l._state; empty : AreEmpty l.by_state.items }
