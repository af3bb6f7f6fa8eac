use Rattle.std.proofs.Common.{ℕ, ◌≡◌, [], ap, ◌∙◌, subst, arith}
use Rattle.look_game.proofs.RowLemmas.{HasRowsUpto, empty_valid, no_rows, row_added}
use Rattle.look_game.proofs.rounds.matching.Goals as goal

pub loop-p-init : goal.loop-p-init
loop-p-init g c =
    let n = c.args.automaton.now.states in
    let is : c.in_ok-rel.rel ≡ record { size = n; pairs = [] } = c.in_ok-rel.ensures ∙ ap (λ m. record { size = m; pairs = [] }) c.states.ensures.count in
    (empty_valid n c.in_ok-rel.rel is, no_rows (g.S.Side.matches c.args.side.now c.args.automaton.now) n c.in_ok-rel.rel is)

pub loop-p-preserved : goal.loop-p-preserved
loop-p-preserved g c =
    (c.match_row.ensures.valid, row_added (g.S.Side.matches c.args.side.now c.args.automaton.now) c.args.automaton.now.states c.loop-p.p c.loop-p.rel c.match_row.new.rel c.loop-p.invariant.1 c.match_row.ensures)

pub returns : goal.returns
returns g c =
    let ok = g.S.Side.matches c.args.side.now c.args.automaton.now in
    let n = c.args.automaton.now.states in
    let all : c.loop-p.p ≡ n = omega (arith, c.loop-p-test.false, c.loop-p.auto.p-end, c.states-p-end.ensures.count) in
    let P : ℕ → Type 0 = λ m. HasRowsUpto ok n m c.loop-p.rel in
    let rows = subst P all c.loop-p.invariant.1 in
    record { size = rows.size; valid = c.loop-p.invariant.0; pairs = rows.pairs }
