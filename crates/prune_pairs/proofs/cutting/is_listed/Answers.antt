use Rattle.std.proofs.Common.{◌∙◌}
use Rattle.prune_pairs.proofs.CutLemmas.{listed}
use Rattle.prune_pairs.proofs.cutting.is_listed.Goals as goal

pub returns : goal.returns
returns c = c.is_ok.ensures.value ∙ listed c.args.gone.now c.args.t c.binary_search.result c.requires c.binary_search.ensures.position
