use Rattle.std.proofs.Common.{◌≡◌, length}
use Rattle.evidence.proofs.TableLemmas.{AreEmpty}
use Rattle.cert_check.proofs.pairs.empty_lists.Given as goal

abbrev pub invariant-loop-place : goal.invariant-loop-place
invariant-loop-place l = record { size : length l.lists.items ≡ l._place; empty : AreEmpty l.lists.items }
