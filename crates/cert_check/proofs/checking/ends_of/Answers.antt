use Rattle.std.proofs.Common.{◌≡◌, ◌^◌, ◌<◌, true, List, length, sym, subst}
use Rattle.std.specs.List.{list_all}
use Rattle.cert_value.specs.declared.types.FirstStep.{FirstStep}
use Rattle.cert_value.specs.declared.types.SecondStep.{SecondStep}
use Rattle.cert_value.specs.WellFormed.{is_first_step, is_second_step}
use Rattle.log_check.specs.Ends.{TellsBothLogs}
use Rattle.cert_check.proofs.ClosedLemmas.{log_parts}
use Rattle.cert_check.proofs.checking.ends_of.Goals as goal

pub log_ends-requires : goal.log_ends-requires
log_ends-requires c =
    let p = log_parts c.requires.formed.0 c.args.mode c.args.firsts.now c.args.seconds.now c.requires.formed.1 in
    record {
      first_formed = subst (λ (l : List FirstStep). list_all is_first_step l ≡ true) (sym c.as_slice-first_steps.ensures) p.first_steps;
      second_formed = (c.requires.formed.0, subst (λ (l : List SecondStep). list_all (is_second_step c.requires.formed.0 c.args.mode) l ≡ true) (sym c.as_slice-second_steps.ensures) p.second_steps);
      few_first = subst (λ (l : List FirstStep). length l < 10 ^ 9) (sym c.as_slice-first_steps.ensures) p.few_first;
      few_second = subst (λ (l : List SecondStep). length l < 10 ^ 9) (sym c.as_slice-second_steps.ensures) p.few_second;
    }

pub returns : goal.returns
returns c =
    let A = c.args.pair.now.first in
    let B = c.args.pair.now.second in
    subst (λ (l : List SecondStep). TellsBothLogs c.args.mode A B c.args.firsts.now l c.log_ends.result) c.as_slice-second_steps.ensures
    (subst (λ (l : List FirstStep). TellsBothLogs c.args.mode A B l c.as_slice-second_steps.result.now c.log_ends.result) c.as_slice-first_steps.ensures c.log_ends.ensures.tells)
