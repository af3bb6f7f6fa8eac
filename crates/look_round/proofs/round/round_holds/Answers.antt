use Rattle.std.proofs.Common.{arith}
use Rattle.look_round.proofs.ReplyListLemmas.{no_lists}
use Rattle.look_round.proofs.round.round_holds.Goals as goal

pub round_holds_by-requires-clause-answers : goal.round_holds_by-requires-clause-answers
round_holds_by-requires-clause-answers g c =
    let kept = c.none-none.ensures.kept in
    record { width = c.none-none.ensures.width; each = λ p p_kept. absurd (omega arith); lists = no_lists (g.S.Side.goes c.args.side.now c.args.automaton.now) (g.S.Side.matches c.args.side.now c.args.automaton.now) c.args.automaton.now.states c.none-none.result.lists c.none-none.ensures.lists }
