use Rattle.std.proofs.Common.{◌≡◌, rules, [], ◌∷◌, ◌++◌, length, arith}
use Rattle.auto_core.specs.Build.{IsStart}
use Rattle.auto_core.proofs.TableLemmas.{starts_push}
use Rattle.auto_core.proofs.tables.starts_of.Goals as goal

pub loop-p-preserved : goal.loop-p-preserved
loop-p-preserved c =
    let keys = c.args.keys.now in
    let p = c.loop-p.p in
    let here : IsStart keys p c.start_from-at.result = c.start_from-at.ensures in
    let is : c.push.new.self.items ≡ c.loop-p.starts.items ++ c.start_from-at.result ∷ [] = search rules in
    let len : length c.loop-p.starts.items ≡ p = search rules in
    let starts = starts_push keys c.loop-p.starts.items c.push.new.self.items p c.start_from-at.result len is c.loop-p.invariant.1 here in
    (search rules, starts, here.within, λ k before. let low = here.below k before in omega arith)
