use Rattle.std.proofs.Common.{◌+◌, ◌*◌, ◌/◌, arith}
use Rattle.drawing.proofs.DrawLemmas.{draw_read, draws_counted}
use Rattle.drawing.proofs.automata.draw.Goals as goal

pub bounds-draws-at : goal.bounds-draws-at
bounds-draws-at c =
    let d = c.args.drill in
    omega (arith, draws_counted d.seed (2 * d.states + 3 * (d.states / 8)) c.args.draws.now c.requires.draws, c.requires.near)

pub returns : goal.returns
returns c =
    let d = c.args.drill in
    draw_read d.seed (2 * d.states + 3 * (d.states / 8)) c.args.at c.args.draws.now c.requires.draws c.requires.near
