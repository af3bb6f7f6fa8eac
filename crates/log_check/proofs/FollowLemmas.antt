-- Logs step by step: the first steps, and one more.
use Rattle.std.proofs.Common.{◌≡◌, ℕ, zero, suc, ◌+◌, ◌<◌, ◌≤◌, inl, inr, true, Bool, List, [], ◌∷◌, length, take, slice_index_or, Result, Ok, Err, IfOk, refl, sym, ◌∙◌, subst, arith, take_all}
use Rattle.std.specs.List.{list_all}
use Rattle.std.proofs.lemmas.Bool.{cases_Bool, false≢true}
use Rattle.std.proofs.lemmas.List.Folds.{list_all_at}
use Rattle.auto_core.specs.Automaton.{Automaton}
use Rattle.log_check.specs.declared.faults.Refusal.{Refusal}
use Rattle.log_check.specs.declared.faults.CheckFault.{CheckFault}
use Rattle.log_check.specs.declared.faults.CheckFault.TheVariants.{Refused, Memory}
use Rattle.log_check.specs.Checks.{FirstBroken, Tells}
use Rattle.log_check.specs.Follows.{LogRules, StepFollows, Follows, Breaks, TellsStep, TellsLog}

-- The first k steps lead to C, and the next one from C to B.
pub follows_more :
    (S : Type 0) (rules : LogRules S) (A B C : Automaton) (item k : ℕ) (steps : List S) (d : S)
    → k < length steps
    → Follows S rules A item (take k steps) C
    → StepFollows S rules C (item + k) (slice_index_or steps k d) B
    → Follows S rules A item (take (k + 1) steps) B
follows_more S rules A B C item k [] d lt before here = absurd (omega arith)
follows_more S rules A B C item zero (step ∷ steps) d lt before here =
    let same : item + 0 ≡ item = omega arith in
    (B, subst (λ D. StepFollows S rules D item step B) before (subst (λ n. StepFollows S rules C n step B) same here), refl)
follows_more S rules A B C item (suc k) (step ∷ steps) d lt (D, keeps, before) here =
    let more : suc (k + 1) ≡ suc k + 1 = omega arith in
    let number : item + suc k ≡ suc item + k = omega arith in
    subst (λ m. Follows S rules A item (take m (step ∷ steps)) B) more
    (D, keeps, follows_more S rules D B C (suc item) k steps d (omega arith) before (subst (λ n. StepFollows S rules C n (slice_index_or steps k d) B) number here))

-- The first k steps lead to C, where the next one breaks a rule.
pub breaks_later :
    (S : Type 0) (rules : LogRules S) (A C : Automaton) (item k : ℕ) (steps : List S) (d : S) (refusal : Refusal)
    → k < length steps
    → Follows S rules A item (take k steps) C
    → FirstBroken (rules.checks C (item + k) (slice_index_or steps k d)) refusal
    → Breaks S rules A item steps refusal
breaks_later S rules A C item k [] d refusal lt before here = absurd (omega arith)
breaks_later S rules A C item zero (step ∷ steps) d refusal lt before here =
    let same : item + 0 ≡ item = omega arith in
    inl (subst (λ D. FirstBroken (rules.checks D item step) refusal) before (subst (λ n. FirstBroken (rules.checks C n step) refusal) same here))
breaks_later S rules A C item (suc k) (step ∷ steps) d refusal lt (D, keeps, before) here =
    let number : item + suc k ≡ suc item + k = omega arith in
    inr (
      D,
      keeps,
      breaks_later S rules D C (suc item) k steps d refusal (omega arith) before
          (subst (λ n. FirstBroken (rules.checks C n (slice_index_or steps k d)) refusal) number here),
    )

-- The same of the test of a step: one that fails is the failure of the log.
pub end_fails :
    (S : Type 0) (rules : LogRules S) (A C : Automaton) (item k : ℕ) (steps : List S) (d : S) (e : CheckFault)
    → k < length steps
    → Follows S rules A item (take k steps) C
    → TellsStep S rules C (item + k) (slice_index_or steps k d) (Err e)
    → TellsLog S rules A item steps (Err e)
end_fails S rules A C item k steps d (Refused refusal) lt before here = breaks_later S rules A C item k steps d refusal lt before here
end_fails S rules A C item k steps d Memory lt before here = tt

-- All steps.
pub follows_all : (S : Type 0) (rules : LogRules S) (A B : Automaton) (item k : ℕ) (steps : List S) → length steps ≤ k → Follows S rules A item (take k steps) B → Follows S rules A item steps B
follows_all S rules A B item k steps le h = subst (λ (l : List S). Follows S rules A item l B) (take_all k steps le) h

-- No step leads nowhere else.
pub follows_none : (S : Type 0) (rules : LogRules S) (A B : Automaton) (item : ℕ) (steps : List S) → B ≡ A → Follows S rules A item (take 0 steps) B
follows_none S rules A B item [] same = same
follows_none S rules A B item (step ∷ steps) same = same

-- A step's checks and where it leads.
pub tells_step : (S : Type 0) (rules : LogRules S) (A : Automaton) (item : ℕ) (step : S) (r : Result Automaton CheckFault) →
    Tells (rules.checks A item step) r → IfOk r (λ B. rules.Leads A step B) → TellsStep S rules A item step r
tells_step S rules A item step (Ok B) told leads = record { holds = told; leads = leads }
tells_step S rules A item step (Err (Refused refusal)) told leads = told
tells_step S rules A item step (Err Memory) told leads = tt

-- What holds of all things of a list holds of each.
pub holds_at : {X : Type 0} (p : X → Bool) (xs : List X) (k : ℕ) (d : X) → k < length xs → list_all p xs ≡ true → p (slice_index_or xs k d) ≡ true
holds_at p xs k d lt all = elim (cases_Bool (p (slice_index_or xs k d))) [
  | inl t ↦ t
  | inr f ↦ absurd (false≢true (sym (list_all_at p xs k d lt f) ∙ all))
]
