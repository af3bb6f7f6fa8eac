use Rattle.shared_graphs.proofs.MemoLemmas.{none_yet, none_more}
use Rattle.shared_graphs.proofs.memo.Memo.new.Goals as goal

pub loop-place-init : goal.loop-place-init
loop-place-init c = none_yet c.new-told.result.items c.new-told.ensures.items

pub loop-place-preserved : goal.loop-place-preserved
loop-place-preserved c = none_more c.loop-place.told.items c.push.new.self.items c.in_ok-push.ensures.items c.loop-place.invariant

pub returns : goal.returns
returns c = c.loop-place.invariant
