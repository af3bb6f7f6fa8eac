use Rattle.std.proofs.Common.{◌∙◌, arith}
use Rattle.rabit_cli.proofs.LabelLemmas.{reduced_labels}
use Rattle.rabit_cli.proofs.reducing.reduced_text.Goals as goal

pub write-requires : goal.write-requires
write-requires c =
    let same = reduced_labels c.args.mode c.args.sight c.args.named.now.auto c.in_ok-reduced.reduced.auto c.in_ok-reduced.ensures.reduced ∙ c.requires.within.labels_named in
    omega arith
