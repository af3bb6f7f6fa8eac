use Rattle.std.proofs.Common.{ℕ, List, ◌∙◌, subst}
use Rattle.shared_graphs.specs.Graphs.{HasNumber}
use Rattle.cert_check.proofs.SuperLemmas.{start_stands, start_numbered}
use Rattle.cert_check.proofs.blocks.start.Goals as goal

pub returns : goal.returns
returns c =
    let A = c.args.first.now in
    let B = c.args.second.now in
    start_numbered A B c.args.graphs.now c.number_of.new.self c.empty_arc-arc.result c.in_ok-set.set.items c.in_ok-number.number (c.number_of.ensures.pool.0 ∙ c.requires) (subst (λ (r : List ℕ). HasNumber r c.args.graphs.now c.number_of.new.self c.in_ok-number.number) c.deref.ensures.value c.in_ok-number.ensures.number)
    (start_stands A B c.empty_arc-arc.result c.in_ok-set.set.items c.empty_arc-arc.ensures.state c.empty_arc-arc.ensures.arc c.in_ok-set.ensures.row c.in_ok-set.ensures.alone)
