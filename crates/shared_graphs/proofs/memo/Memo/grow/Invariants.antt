use Rattle.shared_graphs.specs.Memo.{TellsNothingNew}
use Rattle.shared_graphs.proofs.memo.Memo.grow.Given as goal

abbrev pub invariant-loop-place : goal.invariant-loop-place
invariant-loop-place l = TellsNothingNew l.self.told.items l.grown.told.items
