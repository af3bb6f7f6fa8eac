-- Shapes of classes, ascending numbers, and lists as sets.
use Rattle.std.proofs.Common.{◌≡◌, ℕ, zero, suc, ◌+◌, ◌<◌, ◌≤◌, ◌⊎◌, ◌↔◌, ◌&&◌, ◌==◌, inl, inr, Bool, true, false, cond, List, [], ◌∷◌, ◌++◌, length, take, slice_index, slice_index_or, nat_le, Contains, sym, subst, arith, take_all}
use Rattle.std.specs.List.Sorted.{IsStrictlyIncreasing}
use Rattle.std.proofs.lemmas.Bool.{and_parts, leb-true, eqb-true, false≢true}
use Rattle.std.proofs.lemmas.List.{take_more}
use Rattle.std.proofs.lemmas.List.Elements.{Contains-append_left, Contains-push_cases, Contains-push}
use Rattle.auto_core.specs.Automaton.{Automaton, IsAutomaton, trans, trans_at}
use Rattle.auto_core.specs.Quotient.{AreClasses}
use Rattle.auto_core.specs.Run.{Run}
use Rattle.auto_core.specs.Useful.{IsUseful}
use Rattle.auto_core.specs.declared.parts.Mode.{Mode}
use Rattle.auto_core.specs.declared.parts.Mode.TheVariants.{Buchi, Finite}
use Rattle.auto_core.proofs.MoveLemmas.{move_in_range}
use Rattle.auto_core.proofs.PathLemmas.{none_in_nil}
use Rattle.quotient.specs.Counting.{HasShapeFault}
use Rattle.cert_value.specs.declared.types.RankBlock.{RankBlock}
use Rattle.cert_value.specs.declared.types.Grounds.TheVariants.{Delayed}
use Rattle.cert_value.specs.WellFormed.{ascend_from, ascend, is_rank_block, are_letters, are_grounds}

-- Numbers that have a shape fault are no classes.
pub no_classes : (classes : List ℕ) → HasShapeFault classes → AreClasses classes → ⊥
no_classes classes (inl none) are = let some = are.some in omega arith
no_classes classes (inr (q, c, q_in, less, never)) are = let (p, before, is) = are.in_order q c q_in less in never p before is

-- Numbers that ascend.
rises_from : (bound : ℕ) (ns : List ℕ) → ascend_from bound ns ≡ true → IsStrictlyIncreasing ns
rises_from bound [] up k lt = absurd (omega arith)
rises_from bound (n ∷ []) up k lt = absurd (omega arith)
rises_from bound (n ∷ m ∷ ns) up zero lt =
    let first = and_parts (nat_le bound n) (ascend_from (n + 1) (m ∷ ns)) up in
    let next = and_parts (nat_le (n + 1) m) (ascend_from (m + 1) ns) first.1 in
    let above : n + 1 ≤ m = leb-true (n + 1) m next.0 in
    omega arith
rises_from bound (n ∷ m ∷ ns) up (suc k) lt =
    let first = and_parts (nat_le bound n) (ascend_from (n + 1) (m ∷ ns)) up in
    let more : suc (k + 1) ≡ suc k + 1 = omega arith in
    subst (λ j. slice_index (n ∷ m ∷ ns) (suc k) < slice_index (n ∷ m ∷ ns) j) more (rises_from (n + 1) (m ∷ ns) first.1 k (omega arith))

pub rises : (ns : List ℕ) → ascend ns ≡ true → IsStrictlyIncreasing ns
rises ns up = rises_from 0 ns up

-- How many letters a delayed merge may announce, and its block.
letters_by : (b : Bool) (n : ℕ) → cond b (nat_le 1 n && nat_le n 4) (n == 1) ≡ true → (1 ≤ n) × (n ≤ 4)
letters_by true n e = let a = and_parts (nat_le 1 n) (nat_le n 4) e in (leb-true 1 n a.0, leb-true n 4 a.1)
letters_by false n e = let one : n ≡ 1 = eqb-true n 1 e in (omega arith, omega arith)

pub record AreDelayedGrounds (letters : ℕ) (ranks : RankBlock) : Type 0 where
  pub from_one : 1 ≤ letters
  pub upto_four : letters ≤ 4
  pub formed : is_rank_block letters ranks ≡ true

pub delayed_grounds : (version : ℕ) (mode : Mode) (letters : ℕ) (ranks : RankBlock) → are_grounds version mode (Delayed letters ranks) ≡ true → AreDelayedGrounds letters ranks
delayed_grounds version Buchi letters ranks e =
    let parts = and_parts (are_letters version letters) (is_rank_block letters ranks) e in
    let few = letters_by (version == 2) letters parts.0 in
    record { from_one = few.0; upto_four = few.1; formed = parts.1 }
delayed_grounds version Finite letters ranks e = absurd (false≢true e)

-- The set has the first k listed numbers, and one more.
pub listed_more :
    (members new kept : List ℕ) (k x d : ℕ)
    → k < length kept
    → x ≡ slice_index_or kept k d
    → ((q : ℕ) → Contains new q ↔ (Contains members q ⊎ (q ≡ x)))
    → ((q : ℕ) → Contains members q ↔ Contains (take k kept) q)
    → (q : ℕ)
    → Contains new q ↔ Contains (take (k + 1) kept) q
listed_more members new kept k x d lt is adds has q = (
  λ h. subst (λ l. Contains l q) (sym more) (elim ((adds q).0 h) [
    | inl before ↦ Contains-append_left (take k kept) (slice_index_or kept k d ∷ []) q ((has q).0 before)
    | inr same ↦ subst (λ y. Contains (take k kept ++ slice_index_or kept k d ∷ []) y) (sym (subst (λ z. q ≡ z) is same)) (Contains-push (take k kept) (slice_index_or kept k d))
  ]),
  λ h. (adds q).1 (elim (Contains-push_cases (take k kept) (slice_index_or kept k d) q (subst (λ l. Contains l q) more h)) [
    | inl before ↦ inl ((has q).1 before)
    | inr same ↦ inr (subst (λ z. q ≡ z) (sym is) (sym same))
  ]),
)
  where
    more : take (k + 1) kept ≡ take k kept ++ slice_index_or kept k d ∷ []
    more = take_more kept k d lt

pub listed_none : (members : List ℕ) (kept : List ℕ) → members ≡ [] → (q : ℕ) → Contains members q ↔ Contains (take 0 kept) q
listed_none members kept none q = (λ h. absurd (none_in_nil q (subst (λ l. Contains l q) none h)), λ h. absurd (nothing kept h))
  where
    nothing : (ns : List ℕ) → Contains (take 0 ns) q → ⊥
    nothing [] h = none_in_nil q h
    nothing (n ∷ ns) h = none_in_nil q h

pub listed_all : (members kept : List ℕ) (k : ℕ) → length kept ≤ k → ((q : ℕ) → Contains members q ↔ Contains (take k kept) q) → (q : ℕ) → Contains members q ↔ Contains kept q
listed_all members kept k le has q = subst (λ l. Contains members q ↔ Contains l q) (take_all k kept le) (has q)

-- What is reached is a state.
run_below : (A : Automaton) → IsAutomaton A → (p : ℕ) (w : List ℕ) (q : ℕ) (flag : Bool) → p < A.states → Run A p w q flag → q < A.states
run_below A valid p [] q flag p_in (e, f) = omega arith
run_below A valid p (a ∷ w) q flag p_in (next, later, move, rest, is) = run_below A valid next w q later (move_in_range A valid p a next move).1 rest

pub useful_below : (A : Automaton) (mode : Mode) → IsAutomaton A → (q : ℕ) → IsUseful A mode q → q < A.states
useful_below A mode valid q h = let (w, flag, run) = h.reached in run_below A valid A.initial w q flag valid.initial_is_state run

-- The ends of a transition are states.
pub source_in : (A : Automaton) → IsAutomaton A → (t : ℕ) → t < length A.transitions → (trans_at A t).source < A.states
source_in A valid t lt = (valid.in_range t (trans 0 0 0) lt).0

pub target_in : (A : Automaton) → IsAutomaton A → (t : ℕ) → t < length A.transitions → (trans_at A t).target < A.states
target_in A valid t lt = (valid.in_range t (trans 0 0 0) lt).1
