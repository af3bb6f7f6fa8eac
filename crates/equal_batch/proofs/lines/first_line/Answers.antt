use Rattle.std.proofs.Common.{sym, ◌∙◌, inl}
use Rattle.equal_batch.proofs.ListLemmas.{line_last, line_next, line_whole}
use Rattle.equal_batch.proofs.lines.first_line.Goals as goal

pub returns-in-None-clause-lines : goal.returns-in-None-clause-lines
returns-in-None-clause-lines c = line_last c.args.bytes.now c.requires (sym c.newline_at.ensures ∙ c.in-None.is)

pub returns-in-Some-clause-lines : goal.returns-in-Some-clause-lines
returns-in-Some-clause-lines c = line_next c.args.bytes.now c.in-Some.at (sym c.newline_at.ensures ∙ c.in-Some.is)

pub returns-in-Some-clause-whole : goal.returns-in-Some-clause-whole
returns-in-Some-clause-whole c = inl (line_whole c.args.bytes.now c.in-Some.at (sym c.newline_at.ensures ∙ c.in-Some.is))
