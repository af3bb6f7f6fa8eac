use Rattle.std.proofs.Common.{ℕ, ◌+◌, ◌-◌, ◌*◌, arith, rules}
use Rattle.graph_rows.proofs.PartLemmas.{part_ored, part_left}
use Rattle.graph_rows.proofs.unions.add_long_row.Goals as goal

pub returns-clause-here : goal.returns-clause-here
returns-clause-here c =
    let k : ℕ = c.args.row * c.args.width + c.args.width - c.args.row * c.args.width in
    part_ored c.args.table.now c.args.from.now c.or_into.new.into c.args.width c.args.row k (omega arith) c.requires.row (search rules) (λ j j_in. c.or_into.ensures j j_in)

pub returns-clause-others : goal.returns-clause-others
returns-clause-others c =
    let k : ℕ = c.args.row * c.args.width + c.args.width - c.args.row * c.args.width in
    part_left c.args.table.now c.args.from.now c.or_into.new.into c.args.width c.args.row k (omega arith) c.requires.row (search rules) (λ j j_in. c.or_into.ensures j j_in)
