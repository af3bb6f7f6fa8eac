use Rattle.std.proofs.Common.{arith}
use Rattle.look_round.proofs.ReplyListLemmas.{no_lists}
use Rattle.log_check.proofs.stability.answered_at_once.Goals as goal

pub returns-then-look-eq1 : goal.returns-then-look-eq1
returns-then-look-eq1 g c =
    let kept = c.none.ensures.kept in
    record { width = c.none.ensures.width; each = λ p p_kept. absurd (omega arith); lists = no_lists (g.S.Side.goes c.args.side.now c.args.automaton.now) (g.S.Side.matches c.args.side.now c.args.automaton.now) c.args.automaton.now.states c.none.result.lists c.none.ensures.lists }
