use Rattle.std.proofs.Common.{◌≡◌, true, sym, subst}
use Rattle.cert_value.specs.declared.types.Grounds.{Grounds}
use Rattle.cert_value.specs.declared.types.Grounds.TheVariants.{Forward, Backward}
use Rattle.cert_value.specs.declared.types.SecondStep.{SecondStep}
use Rattle.cert_value.specs.declared.types.SecondStep.TheVariants.{Merge}
use Rattle.log_check.specs.Follows.{TellsStep}
use Rattle.log_check.specs.SecondLog.{second_rules}
use Rattle.cert_value.specs.WellFormed.{are_grounds}
use Rattle.log_check.proofs.FollowLemmas.{tells_step}
use Rattle.log_check.proofs.ShapeLemmas.{delayed_grounds}
use Rattle.log_check.proofs.second.merge_by.Goals as goal

pub returns-in-Forward : goal.returns-in-Forward
returns-in-Forward c =
    let A = c.args.automaton.now in
    let step = Merge (Forward c.in-Forward.look c.in-Forward.rel) c.args.numbers.now in
    subst (λ (g : Grounds). TellsStep SecondStep second_rules A c.args.item (Merge g c.args.numbers.now) c.merge_by_side.result) (sym c.in-Forward.is)
    (tells_step SecondStep second_rules A c.args.item step c.merge_by_side.result c.merge_by_side.ensures.tells c.merge_by_side.ensures.leads)

pub returns-in-Backward : goal.returns-in-Backward
returns-in-Backward c =
    let A = c.args.automaton.now in
    let step = Merge (Backward c.in-Backward.look c.in-Backward.rel) c.args.numbers.now in
    subst (λ (g : Grounds). TellsStep SecondStep second_rules A c.args.item (Merge g c.args.numbers.now) c.merge_by_side-in-Backward.result) (sym c.in-Backward.is)
    (tells_step SecondStep second_rules A c.args.item step c.merge_by_side-in-Backward.result c.merge_by_side-in-Backward.ensures.tells c.merge_by_side-in-Backward.ensures.leads)

pub merge_delayed-requires : goal.merge_delayed-requires
merge_delayed-requires c =
    let (version, mode, formed) = c.requires in
    let grounds = delayed_grounds version mode c.in-Delayed.letters c.in-Delayed.ranks (subst (λ (g : Grounds). are_grounds version mode g ≡ true) c.in-Delayed.is formed) in
    record { letters_from = grounds.from_one; letters_upto = grounds.upto_four; formed = grounds.formed }
