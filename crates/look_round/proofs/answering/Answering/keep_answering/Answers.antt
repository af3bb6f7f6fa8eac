use Rattle.std.proofs.Common.{◌≡◌, ◌&&◌, sym, ap, ◌∙◌}
use Rattle.std.proofs.lemmas.Bool.{and_parts}
use Rattle.auto_core.specs.Rows.{bit_of}
use Rattle.bit_rows.proofs.WordLemmas.{first_cell}
use Rattle.look_round.proofs.answering.Answering.keep_answering.Goals as goal

pub returns-then-has_row : goal.returns-then-has_row
returns-then-has_row g c = λ q q_in bit.
    let w = c.args.self.now.width in
    let old = c.args.row.now in
    let new = c.and_row.new.table in
    let with = c.row_of.result.now in
    let has = c.has_row.ensures.0 c.if-has_row.true in
    let anded : bit_of new q ≡ (bit_of old q && bit_of with q) =
    sym (first_cell new w q) ∙ c.and_row.ensures.here q q_in ∙ ap (λ b. b && bit_of with q) (first_cell old w q) in
    let two = and_parts (bit_of old q) (bit_of with q) (sym anded ∙ bit) in
    (two.0, (c.requires.answers.each c.args.step.to has.0 c.args.step.label q has.1 q_in).0 ((c.row_of.ensures.bits q q_in).0 two.1))
