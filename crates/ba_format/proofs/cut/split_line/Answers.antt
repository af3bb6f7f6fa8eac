use Rattle.std.proofs.Common.{◌∙◌, sym}
use Rattle.ba_format.proofs.CutLemmas.{unfinished_from, cut_some}
use Rattle.ba_format.proofs.cut.split_line.Goals as goal

pub returns-in-None-clause-cut : goal.returns-in-None-clause-cut
returns-in-None-clause-cut c = unfinished_from c.args.text.now (sym c.place_of_newline.ensures ∙ c.in-None.is)

pub returns-in-Some-clause-cut : goal.returns-in-Some-clause-cut
returns-in-Some-clause-cut c = cut_some c.args.text.now c.in-Some.at (sym c.place_of_newline.ensures ∙ c.in-Some.is)
