use Rattle.std.proofs.Common.{MatchOption, subst}
use Rattle.rabit_frame.specs.Replies.{IsNo}
use Rattle.rabit_cli.specs.Shrink.{IsShrunkBody}
use Rattle.rabit_cli.proofs.ShrinkLemmas.{letters_of_left, letters_of_left_word}
use Rattle.rabit_cli.proofs.shrinking.shrunk.Goals as goal

pub reply_to_answer-requires : goal.reply_to_answer-requires
reply_to_answer-requires c =
    let pair = c.args.pair.now in
    let cert = c.args.cert.now in
    let left = subst (λ left. MatchOption left (¬ IsNo cert.body) (IsShrunkBody pair cert.body)) c.in-Some.is c.in_ok-body.ensures in
    record { lasso = letters_of_left pair cert c.in-Some.body c.requires.keeps left; word = letters_of_left_word pair cert c.in-Some.body c.requires.keeps left }
