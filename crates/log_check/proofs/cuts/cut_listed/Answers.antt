use Rattle.log_check.proofs.ShapeLemmas.{rises}
use Rattle.log_check.proofs.cuts.cut_listed.Goals as goal

pub cut-requires : goal.cut-requires
cut-requires c = rises c.args.gone.now c.requires
