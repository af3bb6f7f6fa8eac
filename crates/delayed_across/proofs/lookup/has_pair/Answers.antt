use Rattle.std.proofs.Common.{refl}
use Rattle.delayed_across.proofs.LookupLemmas.{number_holds}
use Rattle.delayed_across.proofs.lookup.has_pair.Goals as goal

pub returns-in-Some : goal.returns-in-Some
returns-in-Some c = ((λ yes. number_holds c.args.pairs.now c.in-Some.field-0 c.args.left c.args.right c.in-Some.ensures.some), λ held. refl)
