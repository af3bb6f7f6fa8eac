-- The rules of pairs: which refusals are theirs, and that the right ones keep them.
use Rattle.std.proofs.Common.{◌≡◌, ℕ, zero, suc, ◌+◌, ◌<◌, ◌≤◌, inl, inr, None, List, [], ◌∷◌, length, take, slice_index_or, Contains, refl, ap, subst, arith}
use Rattle.std.proofs.lemmas.List.{get_or_default}
use Rattle.auto_core.specs.Automaton.{Automaton}
use Rattle.product_laws.specs.declared.RankedPair.{RankedPair}
use Rattle.product_laws.specs.Ascending.{pair_at}
use Rattle.product_laws.proofs.AscendLemmas.{no_pair}
use Rattle.ranked_product.specs.declared.checking.Refusal.{Refusal as ProductRefusal}
use Rattle.ranked_product.specs.Rules.{BreaksRule, FirstBroken as ProductBreaks}
use Rattle.delayed_laws.specs.declared.parts.DelayedPair.{DelayedPair}
use Rattle.delayed_laws.specs.Listed.{delayed_pair, delayed_at}
use Rattle.delayed_laws.proofs.ListedLemmas.{at_place}
use Rattle.delayed_across.specs.Refused.{IsFirstRefusal}
use Rattle.delayed_across.specs.declared.checking.DelayedRefusal.{DelayedRefusal}
use Rattle.delayed_across.specs.declared.checking.DelayedRefusal.TheVariants.{Range, Start, Answer}
use Rattle.delayed_across.proofs.RefusalLemmas.{of_states_at, right_keeps}
use Rattle.log_check.specs.declared.faults.Refusal.{Refusal}
use Rattle.log_check.specs.Checks.{RuleCheck, AllHold, FirstBroken, checks_of_each}
use Rattle.log_check.proofs.CheckLemmas.{more_of, broken_of, all_of}
use Rattle.proof_check.specs.Rules.{product_pair_checks, product_checks, rule_in_proofs, delayed_pair_checks, delayed_checks, refusal_in_proofs}
use Rattle.proof_check.specs.Laws.{RankedProductsKeepTheRules, DelayedSimulationsKeepTheRules}

-- ---- checks of each thing of a list

-- Where those of each of the first k hold, all of them do.
first_hold : {X : Type 0} (f : ℕ → X → List RuleCheck) (k : ℕ) (xs : List X) (d : X) → k ≤ length xs → ((i : ℕ) → i < k → AllHold (f i (slice_index_or xs i d))) → AllHold (checks_of_each f 0 (take k xs))
first_hold f zero [] d le each = tt
first_hold f zero (x ∷ xs) d le each = tt
first_hold f (suc k) xs d le each =
    let more : k + 1 ≡ suc k = omega arith in
    subst (λ n. AllHold (checks_of_each f 0 (take n xs))) more
    (more_of f k xs xs d refl (omega arith) (first_hold f k xs d (omega arith) (λ i lt. each i (omega arith))) (each k (omega arith)))

each_hold : {X : Type 0} (f : ℕ → X → List RuleCheck) (xs : List X) (d : X) → ((i : ℕ) → i < length xs → AllHold (f i (slice_index_or xs i d))) → AllHold (checks_of_each f 0 xs)
each_hold f xs d each = all_of f (length xs) xs xs refl (omega arith) (first_hold f (length xs) xs d (omega arith) each)

first_breaks :
    {X : Type 0} (f : ℕ → X → List RuleCheck) (k : ℕ) (xs : List X) (d : X) (refusal : Refusal) → k < length xs → ((i : ℕ) → i < k → AllHold (f i (slice_index_or xs i d)))
    → FirstBroken (f k (slice_index_or xs k d)) refusal → FirstBroken (checks_of_each f 0 xs) refusal
first_breaks f k xs d refusal lt before here = broken_of f k xs xs d refusal refl lt (first_hold f k xs d (omega arith) before) here

refusal_is : (rule other item place : ℕ) → rule ≡ other → item ≡ place → ◌≡◌ {A = Refusal} (record { rule = rule; item = item }) (record { rule = other; item = place })
refusal_is rule other item place a b = λ k. record { rule = a k; item = b k }

-- ---- products

pub product_keeps : RankedProductsKeepTheRules
product_keeps A B pairs item is =
    (is.deterministic, (is.starts, each_hold (product_pair_checks A B pairs (item + 1)) pairs no_pair (λ i lt. each i lt)))
  where
    each : (i : ℕ) → i < length pairs → AllHold (product_pair_checks A B pairs (item + 1) i (pair_at pairs i))
    each i lt =
        let x = pair_at pairs i in
        let there : Contains pairs x = (i, lt, get_or_default pairs i x no_pair lt) in
        (is.states x there, (is.moves x there, (is.ranks x there, tt)))

-- The rule that a pair breaks.
pair_breaks : (A B : Automaton) (pairs : List RankedPair) (item place from n rule : ℕ) (x : RankedPair) → item + place ≡ from + n → BreaksRule A B pairs x rule →
    FirstBroken (product_pair_checks A B pairs from n x) (record { rule = rule_in_proofs rule; item = item + place })
pair_breaks A B pairs item place from n rule x at (inl (is, none)) = inl (none, refusal_is (rule_in_proofs rule) 1 (item + place) (from + n) (ap rule_in_proofs is) at)
pair_breaks A B pairs item place from n rule x at (inr (inl (is, states, none))) = inr (states, inl (none, refusal_is (rule_in_proofs rule) 25 (item + place) (from + n) (ap rule_in_proofs is) at))
pair_breaks A B pairs item place from n rule x at (inr (inr (is, states, moves, none))) =
    inr (states, inr (moves, inl (none, refusal_is (rule_in_proofs rule) 26 (item + place) (from + n) (ap rule_in_proofs is) at)))

pub product_breaks : (A B : Automaton) (pairs : List RankedPair) (item : ℕ) (r : ProductRefusal) → ProductBreaks A B pairs r →
    FirstBroken (product_checks A B pairs item) (record { rule = rule_in_proofs r.rule; item = item + r.item })
product_breaks A B pairs item r (inl (rule, at, none)) = inl (none, refusal_is (rule_in_proofs r.rule) 23 (item + r.item) item (ap rule_in_proofs rule) (omega (arith, at)))
product_breaks A B pairs item r (inr (inl (rule, at, first, none))) = inr (first, inl (none, refusal_is (rule_in_proofs r.rule) 24 (item + r.item) item (ap rule_in_proofs rule) (omega (arith, at))))
product_breaks A B pairs item r (inr (inr (first, starts, (place, at, breaks)))) =
    inr (
      first,
      inr (
        starts,
        first_breaks (product_pair_checks A B pairs (item + 1)) place pairs no_pair (record { rule = rule_in_proofs r.rule; item = item + r.item }) breaks.within
            (λ i lt. let k = breaks.before i lt in (k.states, (k.moves, (k.ranks, tt))))
            (pair_breaks A B pairs item r.item (item + 1) place r.rule (pair_at pairs place) (omega (arith, at)) breaks.here),
      ),
    )

-- The item of a refusal is not past the pairs.
pub product_item : (A B : Automaton) (pairs : List RankedPair) (r : ProductRefusal) → ProductBreaks A B pairs r → r.item ≤ length pairs
product_item A B pairs r (inl (rule, at, none)) = omega (arith, at)
product_item A B pairs r (inr (inl (rule, at, first, none))) = omega (arith, at)
product_item A B pairs r (inr (inr (first, starts, (place, at, breaks)))) = let lt = breaks.within in omega (arith, at, lt)

-- ---- delayed simulations

pub delayed_keeps : DelayedSimulationsKeepTheRules
delayed_keeps A B pairs item up within is = (
  within,
  (
    is.starts,
    each_hold (delayed_pair_checks A B pairs (item + 1)) pairs (delayed_pair 0 0 None)
        (λ i lt. (right_keeps A B pairs up is.right (delayed_at pairs i) (at_place pairs i lt), tt)),
  ),
)

pub delayed_breaks : (A B : Automaton) (pairs : List DelayedPair) (item : ℕ) (r : DelayedRefusal) → IsFirstRefusal A B pairs r → FirstBroken (delayed_checks A B pairs item) (refusal_in_proofs item r)
delayed_breaks A B pairs item (Range n) first = inl (λ within. first.here (of_states_at A B pairs within n first.within), refl)
delayed_breaks A B pairs item Start first = inr (first.0, inl (first.1, refl))
delayed_breaks A B pairs item (Answer n) first =
    let one = first.2 in
    inr (
      first.0,
      inr (
        first.1,
        first_breaks (delayed_pair_checks A B pairs (item + 1)) n pairs (delayed_pair 0 0 None) (refusal_in_proofs item (Answer n)) one.within
            (λ i lt. (one.before i lt, tt))
            (inl (one.here, refl)),
      ),
    )

-- The number of a refused pair is one of those.
pub answer_within : (A B : Automaton) (pairs : List DelayedPair) (n : ℕ) → IsFirstRefusal A B pairs (Answer n) → n < length pairs
answer_within A B pairs n first = first.2.within
