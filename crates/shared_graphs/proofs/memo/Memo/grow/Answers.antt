use Rattle.shared_graphs.proofs.MemoLemmas.{no_other_yet}
use Rattle.shared_graphs.proofs.memo.Memo.grow.Goals as goal

pub loop-place-init : goal.loop-place-init
loop-place-init c = no_other_yet c.args.self.now.told.items c.in_ok-grown.grown.told.items c.in_ok-grown.ensures
