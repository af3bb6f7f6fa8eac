use Rattle.std.proofs.Common.{arith}
use Rattle.look_round.proofs.PlaceLemmas.{columns_more}
use Rattle.look_round.proofs.words.lengthen_by.Goals as goal

pub loop-label-preserved : goal.loop-label-preserved
loop-label-preserved g c =
    let A = c.args.automaton.now in
    let s = c.args.side.now in
    let width = c.requires.width in
    let h = c.loop-label.invariant in (
      columns_more (g.S.Side.goes s A) (g.S.Side.matches s A) A.states c.loop-label.columns c.add_columns-count.new.columns c.args.places.now c.args.asked.now c.step_back.new.made c.args.width c.loop-label.count c.add_columns-count.result
          c.args.used c.loop-label.label c.args.kind (omega arith) (λ q b r go. g.met.S.Side.stays s A c.requires.valid q b r go) c.requires.asked h.0 c.requires.places c.requires.used c.step_back.ensures c.add_columns-count.ensures.adds,
      c.add_columns-count.ensures.room,
    )
