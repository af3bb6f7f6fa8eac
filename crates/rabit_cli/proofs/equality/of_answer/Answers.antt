use Rattle.std.proofs.Common.{◌≡◌, inl, inr, true≢false, sym, ◌∙◌}
use Rattle.rabit_frame.specs.declared.parts.Reply.{Reply}
use Rattle.rabit_cli.specs.Equal.{first_apart_reply, IsBothReply, IsEqualReply}
use Rattle.rabit_cli.proofs.PairLemmas.{ok_gives}
use Rattle.rabit_cli.proofs.equality.of_answer.Goals as goal

pub returns-then-is_no : goal.returns-then-is_no
returns-then-is_no c =
    let pair = c.args.pair.now in
    let cert = c.args.cert.now in
    let name = c.args.certificate.now in
    ok_gives (λ (r : Reply). r ≡ first_apart_reply name pair cert) (IsEqualReply name c.args.converse_name.now c.args.one.now c.args.two.now pair) c.first_apart.result
    (λ (r : Reply) e. (cert, c.requires.answer, inl (c.is_no.ensures.0 c.if-is_no.true, e))) c.first_apart.ensures

pub returns-else-is_no : goal.returns-else-is_no
returns-else-is_no c =
    let pair = c.args.pair.now in
    let cert = c.args.cert.now in
    let name = c.args.certificate.now in
    ok_gives (IsBothReply name c.args.converse_name.now c.args.one.now c.args.two.now cert) (IsEqualReply name c.args.converse_name.now c.args.one.now c.args.two.now pair) c.of_both.result
    (λ (r : Reply) says. (cert, c.requires.answer, inr (λ no. true≢false (sym (c.is_no.ensures.1 no) ∙ c.if-is_no.false), says))) c.of_both.ensures
