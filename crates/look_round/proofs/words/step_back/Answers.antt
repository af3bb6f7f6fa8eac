use Rattle.std.proofs.Common.{◌*◌, ◌<◌, arith}
use Rattle.look_round.proofs.words.step_back.Goals as goal

pub returns : goal.returns
returns g c = λ j q j_in q_in.
    let width = c.requires.width in
    let near : q < c.args.width * 64 = omega arith in
    let found = c.find_places.ensures j q j_in q_in in
    let turned = c.transpose.ensures j q j_in near in
    let states = c.states-count.ensures.count in
    (λ cell. found.0 (turned.0 cell).1, λ leads. turned.1 (omega arith, found.1 leads))
