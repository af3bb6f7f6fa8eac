use Rattle.std.proofs.Common.{Err, ap}
use Rattle.cert_check.proofs.RuleLemmas.{none_kept}
use Rattle.rabit_cli.proofs.drilling.answered.Goals as goal

pub unreachable-requires : goal.unreachable-requires
unreachable-requires c =
    let refusal = c.in-Err-Refused.field-0-0 in
    none_kept c.args.pair.now c.in_ok-cert.cert refusal (c.in-Err-Refused.ensures.refused refusal (ap (λ e. Err e) c.in-Err-Refused.field-0-is)) c.in_ok-cert.ensures.valid.keeps
