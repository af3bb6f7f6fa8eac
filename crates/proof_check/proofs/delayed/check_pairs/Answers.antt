use Rattle.std.proofs.Common.{arith, sym, subst, rules}
use Rattle.log_check.specs.declared.faults.Refusal.{Refusal}
use Rattle.log_check.specs.Checks.{FirstBroken}
use Rattle.delayed_game.specs.Across.{AreWithin}
use Rattle.delayed_laws.specs.Across.{IsDelayedSimulation}
use Rattle.delayed_laws.specs.Listed.{place_pairs}
use Rattle.delayed_across.specs.declared.checking.DelayedRefusal.{DelayedRefusal}
use Rattle.delayed_across.specs.Refused.{IsFirstRefusal}
use Rattle.proof_check.specs.Rules.{delayed_checks}
use Rattle.proof_check.proofs.ListLemmas.{delayed_keeps, delayed_breaks, answer_within}
use Rattle.proof_check.proofs.delayed.check_pairs.Goals as goal

pub returns-in-None : goal.returns-in-None
returns-in-None c =
    let A = c.args.first.now in
    let B = c.args.second.now in
    let pairs = c.args.pairs.now in
    let within : AreWithin A.states B.states (place_pairs pairs) = search rules in
    let is : IsDelayedSimulation A B (place_pairs pairs) = search rules in
    delayed_keeps A B pairs c.args.item c.requires.ascending within is

pub refusal_in_proofs-requires-clause-few : goal.refusal_in_proofs-requires-clause-few
refusal_in_proofs-requires-clause-few c = λ number e.
    let A = c.args.first.now in
    let B = c.args.second.now in
    let pairs = c.args.pairs.now in
    let refused : IsFirstRefusal A B pairs c.in-Some.refusal = search rules in
    let lt = answer_within A B pairs number (subst (λ (r : DelayedRefusal). IsFirstRefusal A B pairs r) e refused) in
    omega (arith, lt, c.requires.few)

pub returns-in-Some : goal.returns-in-Some
returns-in-Some c =
    let A = c.args.first.now in
    let B = c.args.second.now in
    let pairs = c.args.pairs.now in
    let refused : IsFirstRefusal A B pairs c.in-Some.refusal = search rules in
    subst (λ (r : Refusal). FirstBroken (delayed_checks A B pairs c.args.item) r) (sym c.refusal_in_proofs.ensures) (delayed_breaks A B pairs c.args.item c.in-Some.refusal refused)
