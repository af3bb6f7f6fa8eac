-- How many letters are announced.
use Rattle.std.proofs.Common.{◌≡◌, ◌==◌, ℕ, zero, suc, ◌*◌, ◌^◌, ◌<◌, ◌≤◌, true, false, sym, ap, ◌∙◌, arith}
use Rattle.std.proofs.lemmas.Bool.{cond-true, cond-false, ne_eqb, lt-leb}
use Rattle.std.proofs.Math.Nat.{mul-le-mul_left, pow-le-pow_right, pow-suc, mul_assoc}
use Rattle.auto_core.specs.Automaton.{Automaton}
use Rattle.auto_core.specs.Delayed.{are_few_triples_with_a_letter, most_letters, letters_for}
use Rattle.auto_core.specs.declared.limits.TheConstants.{MOST_TRIPLES_WITH_A_LETTER}

pub most_is : (A : Automaton) (l : ℕ) → 1 ≤ l → are_few_triples_with_a_letter A l ≡ true → most_letters A l ≡ l
most_is A zero le few = absurd (omega arith)
most_is A (suc m) le few = cond-true (are_few_triples_with_a_letter A (suc m)) (suc m) (most_letters A m) few

pub most_less : (A : Automaton) (l m : ℕ) → l ≡ suc m → are_few_triples_with_a_letter A l ≡ false → most_letters A l ≡ most_letters A m
most_less A zero m e few = absurd (omega arith)
most_less A (suc k) m e few =
    let same : k ≡ m = omega arith in
    cond-false (are_few_triples_with_a_letter A (suc k)) (suc k) (most_letters A k) few ∙ ap (λ j. most_letters A j) same

-- more letters make no fewer triples
pub many_stay : (A : Automaton) (count i l : ℕ) → 0 < A.labels → i ≤ l → count ≡ A.states * A.states * A.labels ^ i → MOST_TRIPLES_WITH_A_LETTER < count → are_few_triples_with_a_letter A l ≡ false
many_stay A count i l some le is many =
    let more : A.states * A.states * A.labels ^ i ≤ A.states * A.states * A.labels ^ l = mul-le-mul_left (A.states * A.states) (pow-le-pow_right some le) in
    lt-leb (A.states * A.states * A.labels ^ l) MOST_TRIPLES_WITH_A_LETTER (omega arith)

pub power_next : (count square labels i next : ℕ) → next ≡ suc i → count ≡ square * labels ^ i → count * labels ≡ square * labels ^ next
power_next count square labels i next e is =
    ap (λ c. c * labels) is ∙ mul_assoc square (labels ^ i) labels ∙ ap (λ x. square * x) (sym (pow-suc labels i)) ∙ ap (λ j. square * labels ^ j) (sym e)

pub with_labels : (A : Automaton) (n : ℕ) → (A.labels ≡ 0 → ⊥) → letters_for A n ≡ most_letters A n
with_labels A n some = cond-false (A.labels == 0) 1 (most_letters A n) (ne_eqb A.labels 0 some)
