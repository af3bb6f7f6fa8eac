use Rattle.std.proofs.Common.{◌≡◌, ◌*◌, ◌↔◌, true, List, ℕ, sym, ap, ◌∙◌}
use Rattle.auto_core.specs.Rows.{bit_of, cell_of}
use Rattle.look_round.proofs.AnsweringLemmas.{col, column_fits, row_added}
use Rattle.look_round.proofs.arrivals.Arrivals.add.Goals as goal

pub returns-then-r-self-clause-here : goal.returns-then-r-self-clause-here
returns-then-r-self-clause-here g c = λ a q a_in q_in.
    let l = c.args.self.now.labels in
    let w = c.args.self.now.width in
    let x = col w a q in
    let x_in = column_fits l w a q a_in q_in in
    let goes = g.S.Side.goes c.args.side.now c.args.automaton.now q a c.args.r in
    let is : bit_of c.row_at-row.result.now x ≡ cell_of c.args.self.now.table.items (l * w) c.args.r x =
    c.row_at-row.ensures.bits x x_in ∙ ap (λ (t : List ℕ). cell_of t (l * w) c.args.r x) c.deref.ensures.value in
    let row = c.requires.arrivals c.args.r c.if-r-self.true a q a_in q_in in
    row_added (cell_of c.args.table.now (l * w) c.args.t x) (cell_of c.or_row.new.table (l * w) c.args.t x) (bit_of c.row_at-row.result.now x) goes (c.or_row.ensures.here x x_in)
    (λ bit. row.0 (sym is ∙ bit), λ go. is ∙ row.1 go)
