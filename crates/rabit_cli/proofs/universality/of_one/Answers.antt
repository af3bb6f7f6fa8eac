use Rattle.std.proofs.Common.{codes, ◌∙◌, subst}
use Rattle.ba_format.specs.Reading.{Reads}
use Rattle.rabit_frame.specs.declared.parts.Reply.{Reply}
use Rattle.rabit_frame.specs.declared.files.TheConstants.{SECOND_LIMITS}
use Rattle.rabit_cli.specs.Property.{IsPropertyDecided, IsPropertyDecidedFor}
use Rattle.rabit_cli.specs.Universal.{universality}
use Rattle.rabit_cli.proofs.PairLemmas.{ok_gives}
use Rattle.rabit_cli.proofs.universality.of_one.Goals as goal

pub returns-in-Ok : goal.returns-in-Ok
returns-in-Ok c =
    let u = c.args.made_name.now in
    let cert = c.args.certificate.now in
    let m = c.args.mode in
    let bytes = c.in_ok-bytes.bytes in
    let pair = c.in-Ok.pair in
    let (other, read, joined) = c.in-Ok.ensures.joined in
    let reads = subst (λ t. Reads t SECOND_LIMITS other) (c.as_slice.ensures ∙ c.in_ok-bytes.ensures) read in
    ok_gives (IsPropertyDecided (codes "universal") bytes u cert m pair) (IsPropertyDecidedFor universality u cert m c.args.one.now) c.decided.result
    (λ (r : Reply) is. (other, reads, (pair, joined, subst (λ t. IsPropertyDecided (codes "universal") t u cert m pair r) c.in_ok-bytes.ensures is))) c.decided.ensures
