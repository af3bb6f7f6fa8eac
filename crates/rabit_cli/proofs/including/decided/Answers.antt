use Rattle.std.proofs.Common.{◌≡◌, ℕ, List, [], ◌∷◌}
use Rattle.ba_format.specs.declared.parts.Joined.{Joined}
use Rattle.ba_format.specs.Joining.{IsJoined}
use Rattle.cert_value.specs.declared.types.Cert.{Cert}
use Rattle.rabit_frame.specs.declared.parts.Reply.{Reply}
use Rattle.rabit_frame.specs.FileKinds.{certificate_put}
use Rattle.rabit_frame.specs.Replies.{IsVerdictReply}
use Rattle.rabit_cli.specs.Include.{IsDecided}
use Rattle.rabit_cli.proofs.PairLemmas.{ok_gives}
use Rattle.rabit_cli.proofs.including.decided.Goals as goal

pub returns : goal.returns
returns c =
    let pair : Joined = c.in_ok-pair.pair in
    let cert : Cert = c.in_ok-cert.cert in
    ok_gives (IsVerdictReply c.args.terms.mode pair cert.body (certificate_put c.args.name.now cert ∷ []))
    (λ (r : Reply). (pair : Joined) × IsJoined c.args.one.now c.args.two.now pair × IsDecided c.args.name.now c.args.terms pair r) c.reply_to_answer.result
    (λ r says. (pair, c.in_ok-pair.ensures.joined, (cert, c.in_ok-cert.ensures.answer, says))) c.reply_to_answer.ensures
