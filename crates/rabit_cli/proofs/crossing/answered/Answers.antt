use Rattle.std.proofs.Common.{◌≡◌, inr, rules}
use Rattle.rabit_frame.specs.declared.parts.Status.TheVariants as status
use Rattle.rabit_frame.specs.declared.parts.Reply.{Reply}
use Rattle.rabit_frame.specs.Reading.{only_said}
use Rattle.cross_sim.proofs.ThereLemmas.{greatest_cross_is_there}
use Rattle.rabit_frame.specs.Printed.{no_relation_text}
use Rattle.rabit_cli.specs.Cross.{HasInitialPair, IsCrossReply}
use Rattle.rabit_cli.proofs.PairLemmas.{ok_gives}
use Rattle.rabit_cli.proofs.crossing.answered.Goals as goal

pub returns-in-None : goal.returns-in-None
returns-in-None c =
    let pair = c.args.pair.now in
    let (cross, of) = greatest_cross_is_there pair c.args.look (search rules) (search rules) (search rules) c.requires.look_upto in
    let lacks : HasInitialPair pair cross → ⊥ = c.in_ok-cross.ensures.lacks c.in-None.is cross of in
    ok_gives (λ (r : Reply). r ≡ only_said status.NoRelation no_relation_text) (IsCrossReply c.args.name.now c.args.look pair) c.unrelated.result
    (λ r e. (cross, of, inr (lacks, e))) c.unrelated.ensures
