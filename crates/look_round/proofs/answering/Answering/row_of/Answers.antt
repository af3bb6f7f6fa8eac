use Rattle.std.proofs.Common.{◌≡◌, ℕ, ◌*◌, List, ap, sym, ◌∙◌}
use Rattle.auto_core.specs.Rows.{bit_of, cell_of}
use Rattle.look_round.proofs.AnsweringLemmas.{col, column_fits}
use Rattle.look_round.proofs.answering.Answering.row_of.Goals as goal

pub returns-clause-bits : goal.returns-clause-bits
returns-clause-bits c = λ q q_in.
    let l = c.args.self.now.labels in
    let w = c.args.self.now.width in
    let a = c.args.step.label in
    let is : bit_of c.row_at.result.now q ≡ cell_of c.args.self.now.table.items (l * w) c.args.step.to (col w a q) =
    c.row_at.ensures.bits q q_in
    ∙ c.row_at-row.ensures.bits (col w a q) (column_fits l w a q c.requires.label q_in)
    ∙ ap (λ (t : List ℕ). cell_of t (l * w) c.args.step.to (col w a q)) c.deref.ensures.value in
    (λ h. sym is ∙ h, λ h. is ∙ h)
