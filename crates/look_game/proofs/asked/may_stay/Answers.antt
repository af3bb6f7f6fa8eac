use Rattle.std.proofs.lemmas.Bool.{iff_false}
use Rattle.look_game.proofs.AskedLemmas.{matching_has_stable, has_stable_after}
use Rattle.look_game.proofs.asked.may_stay.Goals as goal

pub returns : goal.returns
returns g c = λ e T below stable held.
    let M = g.S.Side.goes c.args.side.now c.args.automaton.now in
    let ok = g.S.Side.matches c.args.side.now c.args.automaton.now in
    let k = c.args.look in
    let n = c.args.automaton.now.states in
    let all = matching_has_stable M ok k n c.in_ok-all.all c.in_ok-all.ensures in
    let after = has_stable_after M ok k n c.in_ok-all.all c.in_ok-rel.rel all c.in_ok-rel.ensures in
    iff_false c.get.ensures.told e (after.has_each T below stable c.args.pair.left c.args.pair.right held)
