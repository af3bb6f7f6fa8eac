use Rattle.shared_graphs.specs.Memo.{NothingTold}
use Rattle.shared_graphs.proofs.memo.Memo.new.Given as goal

abbrev pub invariant-loop-place : goal.invariant-loop-place
invariant-loop-place l = NothingTold l.told.items
