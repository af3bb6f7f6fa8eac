use Rattle.std.proofs.Common.{IfOk, subst, arith}
use Rattle.std.proofs.lemmas.Result.{IfOk-weaker}
use Rattle.look_round.specs.Words.{HoldsTable, IsBound}
use Rattle.look_round.proofs.ColumnLemmas.{IsNarrowedBy}
use Rattle.look_round.proofs.HavingLemmas.{listed_tells}
use Rattle.look_round.proofs.BoundLemmas.{is_bound}
use Rattle.look_round.proofs.bounding.bound_in.Goals as goal

pub returns : goal.returns
returns g c =
    let A = c.args.automaton.now in
    let s = c.args.side.now in
    let M = g.S.Side.goes s A in
    let ok = g.S.Side.matches s A in
    let n = A.states in
    let w = c.args.width in
    let width = c.requires.width in
    let count = c.states-count.ensures.count in
    let narrowed = subst (λ m. IsNarrowedBy c.match_rows.new.table c.narrow.new.table m w c.write_columns-used.new.columns c.write_columns-used.result) count c.in_ok-narrow.ensures in
    IfOk-weaker c.relation_of.result (HoldsTable c.narrow.new.table n w) (IsBound M ok n)
    (λ R holds. is_bound M ok (g.met.S.Side.joins s A) (listed_tells M (g.S.Side.list s A) (g.met.S.Side.lists s A)) n w c.match_rows.new.table c.narrow.new.table c.write_columns-used.new.columns
    c.write_columns-used.result R (omega arith) c.in_ok-kinds.ensures.matches c.write_columns-used.ensures.columns narrowed holds)
    (subst (λ m. IfOk c.relation_of.result (HoldsTable c.narrow.new.table m w)) count c.relation_of.ensures)
