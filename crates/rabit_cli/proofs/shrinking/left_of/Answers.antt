use Rattle.std.proofs.Common.{subst}
use Rattle.cert_check.specs.Rules.{BodyHolds}
use Rattle.rabit_cli.proofs.shrinking.left_of.Goals as goal

-- guessed names of goals
pub shrink-requires : goal.shrink-requires
shrink-requires c =
    let all = subst (λ b. BodyHolds c.args.cert.now.mode c.args.pair.now b) c.in-NoLasso.is c.requires.1 in
    (all.1.1.0, all.1.1.1.0)

pub shrink_word-requires : goal.shrink_word-requires
shrink_word-requires c =
    let all = subst (λ b. BodyHolds c.args.cert.now.mode c.args.pair.now b) c.in-NoWord.is c.requires.1 in
    (all.1.0, all.1.1.0)
