use Rattle.std.proofs.Common.{◌+◌, Bool, refl, sym, ◌∙◌, subst, arith}
use Rattle.look_game.proofs.RowLemmas.{IsPassing, passing_begins, row_taken, row_stays}
use Rattle.look_game.proofs.rounds.pass.Goals as goal
use Rattle.look_game.proofs.rounds.pass.Goals.{then-play_row, else-play_row}

pub loop-p-init : goal.loop-p-init
loop-p-init g c =
    (refl, passing_begins (g.S.Side.goes c.args.side.now c.args.automaton.now) (g.S.Side.matches c.args.side.now c.args.automaton.now) c.args.look c.args.rel.now c.size-p-end.ensures.valid)

pub loop-p-preserved : goal.loop-p-preserved
loop-p-preserved g c =
    let M = g.S.Side.goes c.args.side.now c.args.automaton.now in
    let ok = g.S.Side.matches c.args.side.now c.args.automaton.now in
    let k = c.args.look in
    let p = c.loop-p.p in
    let old = c.args.rel.now in
    let now = c.loop-p.rel in
    let new = c.play_row.new.rel in
    let P : Bool → Type 0 = λ changed. IsPassing M ok k old new changed (p + 1) in (
      c.play_row.ensures.scratch ∙ c.loop-p.invariant.0,
      elim c.if-play_row.branch [
        | then-play_row w ↦
            subst P (sym w.changed-is) (row_taken M ok k p old now new c.loop-p.changed c.loop-p.invariant.1 c.play_row.ensures.takes (c.play_row.ensures.some w.if-play_row.true))
        | else-play_row w ↦
            subst P (sym w.changed-is)
            (row_stays M ok k p old now new c.loop-p.changed c.loop-p.invariant.1 (c.play_row.ensures.same w.if-play_row.false) (c.play_row.ensures.rounds w.if-play_row.false))
      ],
    )

pub returns-clause-rounds : goal.returns-clause-rounds
returns-clause-rounds g c = λ e p q held.
    let h = c.loop-p.invariant.1 in
    let below = h.takes.valid.in_range p q held in
    let lt = below.0 in
    h.rounds e p (omega (arith, lt, h.takes.size, c.loop-p-test.false, c.size-p-end.ensures.count)) q held
