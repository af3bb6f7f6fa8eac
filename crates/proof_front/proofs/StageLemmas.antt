-- Stages one after another.
use Rattle.std.proofs.Common.{ℕ, inl, inr, List, Result, Ok, Err}
use Rattle.log_check.specs.declared.faults.CheckFault.{CheckFault}
use Rattle.log_check.specs.declared.faults.CheckFault.TheVariants.{Refused, Memory}
use Rattle.log_check.specs.declared.ends.Ends.{Ends}
use Rattle.log_check.specs.Checks.{RuleCheck, Tells}
use Rattle.log_check.specs.Follows.{TellsLog}
use Rattle.log_check.specs.FirstLog.{first_rules}
use Rattle.auto_core.specs.Automaton.{Automaton}
use Rattle.auto_core.specs.declared.parts.Mode.TheVariants.{Buchi}
use Rattle.cert_value.specs.declared.types.FirstStep.{FirstStep}
use Rattle.proof_text.specs.declared.types.Front.{Front}
use Rattle.proof_front.specs.Stages.{Stage, checked, and_then, TellsStage}
use Rattle.proof_front.specs.Front.{letters_item, map_item, accepting_item, first_item, second_log, first_log, over_letters, mapped, accepting_classes, first_becomes, with_second, both_become}

-- The first stage makes x, and the second is told.
pub told_ok : {X Y : Type 0} (stage : Stage X) (next : X → Stage Y) (x : X) (r : Result Y CheckFault) → stage.Keeps x → TellsStage (next x) r → TellsStage (and_then stage next) r
told_ok stage next x (Ok y) keeps h = (x, keeps, h)
told_ok stage next x (Err (Refused refusal)) keeps h = inr (x, keeps, h)
told_ok stage next x (Err Memory) keeps h = tt

-- The first stage fails.
pub told_err : {X Y : Type 0} (stage : Stage X) (next : X → Stage Y) (e : CheckFault) → TellsStage {X = X} stage (Err e) → TellsStage {X = Y} (and_then stage next) (Err e)
told_err stage next (Refused refusal) h = inl h
told_err stage next Memory h = tt

-- A test of checks is that of the stage.
pub told_checks : (checks : List RuleCheck) (r : Result (Unit {0}) CheckFault) → Tells checks r → TellsStage (checked checks) r
told_checks checks (Ok x) h = h
told_checks checks (Err (Refused refusal)) h = h
told_checks checks (Err Memory) h = tt

-- ---- what the first automaton becomes

log_told : (A : Automaton) (item : ℕ) (steps : List FirstStep) (r : Result Automaton CheckFault) → TellsLog FirstStep (first_rules Buchi) A item steps r → TellsStage (first_log A item steps) r
log_told A item steps (Ok B) h = h
log_told A item steps (Err (Refused refusal)) h = h
log_told A item steps (Err Memory) h = tt

module _ (A Q : Automaton) (front : Front) (merged : (mapped A front.map (map_item front)).Keeps Q) where
  abbrev after : Automaton → Stage Automaton
  after P = and_then (accepting_classes P front.accepting (accepting_item front)) (λ C. first_log C (first_item front) front.first)

  pub accepting_fails : (e : CheckFault) → TellsStage {X = Automaton} (accepting_classes Q front.accepting (accepting_item front)) (Err e) → TellsStage {X = Automaton} (first_becomes A front) (Err e)
  accepting_fails e h =
      told_ok (mapped A front.map (map_item front)) after Q (Err e) merged (told_err (accepting_classes Q front.accepting (accepting_item front)) (λ C. first_log C (first_item front) front.first) e h)

  pub log_last : (C : Automaton) (r : Result Automaton CheckFault) → (accepting_classes Q front.accepting (accepting_item front)).Keeps C → TellsLog FirstStep (first_rules Buchi) C (first_item front) front.first r → TellsStage (first_becomes A front) r
  log_last C r accepts h =
      told_ok (mapped A front.map (map_item front)) after Q r merged
      (told_ok (accepting_classes Q front.accepting (accepting_item front)) (λ C. first_log C (first_item front) front.first) C r accepts
      (log_told C (first_item front) front.first r h))

-- ---- what both become

first_fails : (stage : Stage Automaton) (B : Automaton) (e : CheckFault) → TellsStage {X = Automaton} stage (Err e) → TellsStage {X = Ends} (with_second stage B) (Err e)
first_fails stage B (Refused refusal) h = h
first_fails stage B Memory h = tt

module _ (A B C : Automaton) (front : Front) (log : (second_log B 1 front.second).Keeps C) where
  abbrev over : Automaton → Stage Ends
  over D = over_letters A D front.letters (letters_item front)

  abbrev last : Ends → Stage Ends
  last ends = with_second (first_becomes ends.first front) ends.second

  pub letters_fail : (e : CheckFault) → TellsStage {X = Ends} (over_letters A C front.letters (letters_item front)) (Err e) → TellsStage {X = Ends} (both_become A B front) (Err e)
  letters_fail e h = told_ok (second_log B 1 front.second) (λ D. and_then (over D) last) C (Err e) log (told_err (over C) last e h)

  pub becoming_fails : (ends : Ends) (e : CheckFault) → (over_letters A C front.letters (letters_item front)).Keeps ends → TellsStage {X = Automaton} (first_becomes ends.first front) (Err e) → TellsStage {X = Ends} (both_become A B front) (Err e)
  becoming_fails ends e letters h =
      told_ok (second_log B 1 front.second) (λ D. and_then (over D) last) C (Err e) log (told_ok (over C) last ends (Err e) letters (first_fails (first_becomes ends.first front) ends.second e h))
