-- The parts of what is asked of a certificate of inclusion, tested one after another.
use Rattle.std.proofs.Common.{ℕ, List, ◌++◌, Result, Ok, Err, inr}
use Rattle.auto_core.specs.Automaton.{Automaton}
use Rattle.cert_value.specs.declared.types.YesBody.{YesBody}
use Rattle.cert_value.specs.declared.types.FirstStep.{FirstStep}
use Rattle.cert_value.specs.declared.types.SecondStep.{SecondStep}
use Rattle.auto_core.specs.declared.parts.Mode.{Mode}
use Rattle.ba_format.specs.declared.parts.Joined.{Joined}
use Rattle.log_check.specs.declared.faults.CheckFault.{CheckFault}
use Rattle.log_check.specs.declared.faults.CheckFault.TheVariants.{Refused, Memory}
use Rattle.log_check.specs.declared.ends.Ends.{Ends}
use Rattle.log_check.specs.Ends.{TellsBothLogs, item_after}
use Rattle.cert_check.specs.Rules.{TellsAfterLogs}
use Rattle.log_check.specs.Checks.{RuleCheck, AllHold, Tells}
use Rattle.cert_check.specs.Inclusion.{order_checks, inclusion_checks}
use Rattle.log_check.proofs.CheckLemmas.{tells_fault, tells_after}
use Rattle.cert_check.proofs.ClosedLemmas.{elements_part, under_part, cover_part, steps_part, pairs_part}

module _ (m : Mode) (n : ℕ) (A B : Automaton) (evidence : YesBody) (X : Type 0) (e : CheckFault) where
  abbrev E : List RuleCheck
  E = elements_part m n A B evidence

  abbrev U : List RuleCheck
  U = under_part m n A B evidence

  abbrev C : List RuleCheck
  C = cover_part m n A B evidence

  abbrev S : List RuleCheck
  S = steps_part m n A B evidence

  abbrev P : List RuleCheck
  P = pairs_part m n A B evidence

  pub fault_in_elements : AllHold (order_checks B evidence n) → Tells {X = X} E (Err e) → Tells {X = Unit {0}} (inclusion_checks m evidence n A B) (Err e)
  fault_in_elements order h = tells_after (Unit {0}) (order_checks B evidence n) (E ++ (U ++ (C ++ (S ++ P)))) (Err e) order (tells_fault X (Unit {0}) E (U ++ (C ++ (S ++ P))) e h)

  pub fault_in_under : AllHold (order_checks B evidence n) → AllHold E → Tells {X = X} U (Err e) → Tells {X = Unit {0}} (inclusion_checks m evidence n A B) (Err e)
  fault_in_under order elements h =
      tells_after (Unit {0}) (order_checks B evidence n) (E ++ (U ++ (C ++ (S ++ P)))) (Err e) order
      (tells_after (Unit {0}) E (U ++ (C ++ (S ++ P))) (Err e) elements (tells_fault X (Unit {0}) U (C ++ (S ++ P)) e h))

  pub fault_in_cover : AllHold (order_checks B evidence n) → AllHold E → AllHold U → Tells {X = X} C (Err e) → Tells {X = Unit {0}} (inclusion_checks m evidence n A B) (Err e)
  fault_in_cover order elements under h =
      tells_after (Unit {0}) (order_checks B evidence n) (E ++ (U ++ (C ++ (S ++ P)))) (Err e) order
      (tells_after (Unit {0}) E (U ++ (C ++ (S ++ P))) (Err e) elements
      (tells_after (Unit {0}) U (C ++ (S ++ P)) (Err e) under (tells_fault X (Unit {0}) C (S ++ P) e h)))

  pub fault_in_steps : AllHold (order_checks B evidence n) → AllHold E → AllHold U → AllHold C → Tells {X = X} S (Err e) → Tells {X = Unit {0}} (inclusion_checks m evidence n A B) (Err e)
  fault_in_steps order elements under cover h =
      tells_after (Unit {0}) (order_checks B evidence n) (E ++ (U ++ (C ++ (S ++ P)))) (Err e) order
      (tells_after (Unit {0}) E (U ++ (C ++ (S ++ P))) (Err e) elements
      (tells_after (Unit {0}) U (C ++ (S ++ P)) (Err e) under
      (tells_after (Unit {0}) C (S ++ P) (Err e) cover (tells_fault X (Unit {0}) S P e h))))

-- The last part.
pub pairs_last : (m : Mode) (n : ℕ) (A B : Automaton) (evidence : YesBody) (r : Result (Unit {0}) CheckFault) → AllHold (order_checks B evidence n) → AllHold (elements_part m n A B evidence) → AllHold (under_part m n A B evidence) →
    AllHold (cover_part m n A B evidence) → AllHold (steps_part m n A B evidence) → Tells (pairs_part m n A B evidence) r → Tells (inclusion_checks m evidence n A B) r
pairs_last m n A B evidence r order elements under cover steps h =
    let E : List RuleCheck = elements_part m n A B evidence in
    let U : List RuleCheck = under_part m n A B evidence in
    let C : List RuleCheck = cover_part m n A B evidence in
    let S : List RuleCheck = steps_part m n A B evidence in
    let P : List RuleCheck = pairs_part m n A B evidence in
    tells_after (Unit {0}) (order_checks B evidence n) (E ++ (U ++ (C ++ (S ++ P)))) r order
    (tells_after (Unit {0}) E (U ++ (C ++ (S ++ P))) r elements
    (tells_after (Unit {0}) U (C ++ (S ++ P)) r under
    (tells_after (Unit {0}) C (S ++ P) r cover (tells_after (Unit {0}) S P r steps h))))

-- Logs that lead to two automata, and a test of these.
pub after_logs : (mode : Mode) (pair : Joined) (firsts : List FirstStep) (seconds : List SecondStep) (checks : ℕ → Automaton → Automaton → List RuleCheck) (ends : Ends) (r : Result (Unit {0}) CheckFault) →
    TellsBothLogs mode pair.first pair.second firsts seconds (Ok ends) → Tells (checks (item_after firsts seconds) ends.first ends.second) r → TellsAfterLogs mode pair firsts seconds checks r
after_logs mode pair firsts seconds checks ends (Ok x) lead h = record { ends = ends; logs = lead; hold = h }
after_logs mode pair firsts seconds checks ends (Err (Refused refusal)) lead h = inr (ends, lead, h)
after_logs mode pair firsts seconds checks ends (Err Memory) lead h = tt
