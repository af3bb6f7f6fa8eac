-- The greatest delayed relation is one, and so are the classes that it joins.
use Rattle.std.proofs.Common.{◌≡◌, ℕ, zero, suc, ◌-◌, ◌<◌, ◌≤◌, ◌==◌, ◌↔◌, ◌⊎◌, inl, inr, Bool, true, false, if◌then◌else◌, List, [], ◌∷◌, length, replicate, Contains, refl, sym, ap, ◌∙◌, subst, arith}
use Rattle.std.proofs.lemmas.Bool.{cases_eq, eq-eqb}
use Rattle.std.proofs.lemmas.List.{length-replicate}
use Rattle.std.proofs.lemmas.List.Elements.{All-replicate}
use Rattle.auto_core.specs.Automaton.{Automaton, IsAutomaton}
use Rattle.auto_core.specs.Accept.{Same}
use Rattle.auto_core.specs.Delayed.{RankedTriples, IsGreatestDelayed, IsTripleWord, AreStateRelated, are_few_triples_with_a_letter, most_letters, letters_for}
use Rattle.auto_core.specs.Game.{Close, Holds}
use Rattle.auto_core.specs.Quotient.{AreClassesOf}
use Rattle.auto_core.specs.declared.parts.Mode.TheVariants.{Buchi, Finite}
use Rattle.auto_core.proofs.PathLemmas.{Contains-cons_cases, none_in_nil}
use Rattle.delayed_sim.specs.Rankings.{Ranking}
use Rattle.delayed_sim.proofs.LetterLemmas.{with_labels}
use Rattle.quotient.proofs.DelayedLaws.{delayed_quotient_is_same}
use Rattle.reduce_loop.specs.declared.steps.Kind.{Kind}
use Rattle.reduce_loop.specs.declared.steps.Kind.TheVariants.{Trim, Forward, Backward, Delayed, Prune}
use Rattle.reduce_loop.specs.Kinds.{kinds_of, AreDelayedPairs, IsMerged}
use Rattle.reduce_loop.specs.Settled.{HasNoTwins}
use Rattle.reduce_loop.proofs.MergeLemmas.{no_twins, same_closure}

-- ---- how many letters are announced

-- as many as can be are asked for again, and as many are given
most_stays : (A : Automaton) (n : ℕ) → most_letters A (most_letters A n) ≡ most_letters A n
most_stays A zero = one (are_few_triples_with_a_letter A 1)
  where
    one : (b : Bool) → ◌≡◌ {A = ℕ} (if b then 1 else 1) 1
    one true = refl
    one false = refl
most_stays A (suc n) = by (most_stays A n) (are_few_triples_with_a_letter A (suc n)) refl
  where
    by : most_letters A (most_letters A n) ≡ most_letters A n → (b : Bool) → are_few_triples_with_a_letter A (suc n) ≡ b → most_letters A (if b then suc n else most_letters A n) ≡ (if b then suc n else most_letters A n)
    by before true few = ap (λ b. if b then suc n else most_letters A n) few
    by before false many = before

letters_stay : (A : Automaton) (n : ℕ) → letters_for A (letters_for A n) ≡ letters_for A n
letters_stay A n = by (A.labels == 0)
  where
    by : (b : Bool) → (if b then 1 else most_letters A (if b then 1 else most_letters A n)) ≡ (if b then 1 else most_letters A n)
    by true = refl
    by false = most_stays A n

-- the letters that are announced are announced where they are asked for
pub letters_fit : (A : Automaton) (n letters : ℕ) → letters ≡ letters_for A n → letters ≡ letters_for A letters
letters_fit A n letters is = is ∙ sym (letters_stay A n) ∙ ap (letters_for A) (sym is)

most_some : (A : Automaton) (n : ℕ) → 1 ≤ most_letters A n
most_some A zero = omega arith
most_some A (suc n) = by (most_some A n) (are_few_triples_with_a_letter A (suc n))
  where
    by : 1 ≤ most_letters A n → (b : Bool) → 1 ≤ (if b then suc n else most_letters A n)
    by before true = omega arith
    by before false = before

pub letters_some : (A : Automaton) (n : ℕ) → 1 ≤ letters_for A n
letters_some A n = by (A.labels == 0)
  where
    by : (b : Bool) → 1 ≤ (if b then 1 else most_letters A n)
    by true = omega arith
    by false = most_some A n

most_within : (A : Automaton) (n m : ℕ) → 1 ≤ m → n ≤ m → most_letters A n ≤ m
most_within A zero m some le = some
most_within A (suc n) m some le = by (most_within A n m some (omega arith)) (are_few_triples_with_a_letter A (suc n))
  where
    by : most_letters A n ≤ m → (b : Bool) → (if b then suc n else most_letters A n) ≤ m
    by before true = le
    by before false = before

pub letters_within : (A : Automaton) (n : ℕ) → 1 ≤ n → letters_for A n ≤ n
letters_within A n some = by (A.labels == 0)
  where
    by : (b : Bool) → (if b then 1 else most_letters A n) ≤ n
    by true = some
    by false = most_within A n n some (omega arith)

most_are_few : (A : Automaton) (n : ℕ) → (most_letters A n ≡ 1) ⊎ (are_few_triples_with_a_letter A (most_letters A n) ≡ true)
most_are_few A zero = inl refl
most_are_few A (suc n) = by (most_are_few A n) (are_few_triples_with_a_letter A (suc n)) refl
  where
    by : (most_letters A n ≡ 1) ⊎ (are_few_triples_with_a_letter A (most_letters A n) ≡ true) → (b : Bool) → are_few_triples_with_a_letter A (suc n) ≡ b →
        ((if b then suc n else most_letters A n) ≡ 1) ⊎ (are_few_triples_with_a_letter A (if b then suc n else most_letters A n) ≡ true)
    by before true few = inr few
    by before false many = before

-- without labels one letter is announced
one_letter : (A : Automaton) (n : ℕ) → A.labels ≡ 0 → letters_for A n ≡ 1
one_letter A n none = ap (λ b. if b then 1 else most_letters A n) (eq-eqb A.labels 0 none)

-- one letter is announced, or there are labels and few triples
pub letters_are_few : (A : Automaton) (n : ℕ) → (letters_for A n ≡ 1) ⊎ ((0 < A.labels) × (are_few_triples_with_a_letter A (letters_for A n) ≡ true))
letters_are_few A n = elim (cases_eq A.labels 0) [
  | inl none ↦ inl (one_letter A n none)
  | inr labels ↦
      let is = with_labels A n (λ e. labels e) in
      elim (most_are_few A n) [
        | inl one ↦ inl (is ∙ one)
        | inr few ↦ inr (omega arith, subst (λ m. are_few_triples_with_a_letter A m ≡ true) (sym is) few)
      ]
]

-- ---- the greatest relation is one

pub same_related :
    (A : Automaton) (n : ℕ) (X Y : RankedTriples)
    → IsGreatestDelayed A n X
    → IsGreatestDelayed A n Y
    → (p q : ℕ) → AreStateRelated A.labels n X p q ↔ AreStateRelated A.labels n Y p q
same_related A n X Y x y p q = (
  λ h b fits. y.has_each X x.in_range x.right b p q (h b fits),
  λ h b fits. x.has_each Y y.in_range y.right b p q (h b fits),
)

pub delayed_is_one : (A : Automaton) (n : ℕ) (S T : List (ℕ × ℕ)) → AreDelayedPairs A n S → AreDelayedPairs A n T → (p q : ℕ) → Holds S p q ↔ Holds T p q
delayed_is_one A n S T (X, x, held) (Y, y, also) p q = (
  λ h. (also p q).1 ((same_related A n X Y x y p q).0 ((held p q).0 h)),
  λ h. (held p q).1 ((same_related A n X Y x y p q).1 ((also p q).0 h)),
)

-- there is a word for triples: without labels the empty one
some_word : (A : Automaton) (n : ℕ) → (b : List ℕ) × IsTripleWord A.labels (letters_for A n) b
some_word A n = elim (cases_eq A.labels 0) [
  | inl none ↦ ([], (sym (one_letter A n none), λ i d lt. absurd (omega arith)))
  | inr labels ↦
      let some = letters_some A n in
      let none : List ℕ = replicate (letters_for A n - 1) 0 in
      let size : length none ≡ letters_for A n - 1 = length-replicate (letters_for A n - 1) 0 in
      (none, (omega arith, All-replicate (λ a. a < A.labels) (letters_for A n - 1) 0 (omega arith)))
]

-- the state relation is one of states
pub related_are_states : (A : Automaton) (n : ℕ) (X : RankedTriples) → IsGreatestDelayed A (letters_for A n) X → (p q : ℕ) → AreStateRelated A.labels (letters_for A n) X p q → (p < A.states) × (q < A.states)
related_are_states A n X x p q h =
    let (b, fits) = some_word A n in
    let there = x.in_range b p q (h b fits) in
    (there.1, there.2)

-- the pairs of states that a ranking relates, whatever the word, are those of its state relation
pub related_pairs :
    (A : Automaton) (n : ℕ) (R : Ranking) (S : List (ℕ × ℕ))
    → R.states ≡ A.states
    → R.labels ≡ A.labels
    → R.letters ≡ letters_for A n
    → IsGreatestDelayed A (letters_for A n) R.triples
    → ((p q : ℕ) → Holds S p q ↔ ((p < R.states) × (q < R.states) × AreStateRelated R.labels R.letters R.triples p q))
    → (p q : ℕ) → Holds S p q ↔ AreStateRelated A.labels (letters_for A n) R.triples p q
related_pairs A n R S size labels letters greatest given p q = (
  λ h. subst (λ l. AreStateRelated l (letters_for A n) R.triples p q) labels (subst (λ m. AreStateRelated R.labels m R.triples p q) letters ((given p q).0 h).2),
  λ h.
      let range = related_are_states A n R.triples greatest p q h in
      let left = range.0 in
      let right = range.1 in
      (given p q).1 (
        omega arith,
        omega arith,
        subst (λ m. AreStateRelated R.labels m R.triples p q) (sym letters) (subst (λ l. AreStateRelated l (letters_for A n) R.triples p q) (sym labels) h),
      ),
)

-- ---- classes and quotients

-- the classes of the closure of one relation are those of another that holds the same
pub classes_over : (n : ℕ) (R S : ℕ → ℕ → Type 0) (classes : List ℕ) → ((p q : ℕ) → R p q ↔ S p q) → AreClassesOf n (Close R) classes → AreClassesOf n (Close S) classes
classes_over n R S classes same are =
    let close = same_closure R S same in
    record {
      valid = are.valid;
      len = are.len;
      joins = λ p q p_in q_in. (
        λ e. let both = (are.joins p q p_in q_in).0 e in ((close p q).0 both.0, (close q p).0 both.1),
        λ (there, back). (are.joins p q p_in q_in).1 ((close p q).1 there, (close q p).1 back),
      );
    }

pub merged_same : (A B : Automaton) (n : ℕ) → IsMerged A (AreDelayedPairs A (letters_for A n)) B → IsAutomaton A → Same A B Buchi
merged_same A B n m valid =
    let (X, x, held) = m.greatest in
    delayed_quotient_is_same A B m.classes (letters_for A n) X valid (letters_some A n) x.right
    (λ p q p_in q_in e. (same_closure (Holds m.pairs) (AreStateRelated A.labels (letters_for A n) X) held p q).0 (((m.joined.joins p q p_in q_in).0 e).0)) m.quotient

pub delayed_settled : (A : Automaton) (n : ℕ) → IsMerged A (AreDelayedPairs A n) A → (X : RankedTriples) → IsGreatestDelayed A n X → HasNoTwins A (Close (AreStateRelated A.labels n X))
delayed_settled A n m X x p q p_in q_in there back =
    let (Y, y, held) = m.greatest in
    let same = same_closure (AreStateRelated A.labels n X) (Holds m.pairs) (λ r s. (
      λ h. (held r s).1 ((same_related A n X Y x y r s).0 h),
      λ h. (same_related A n X Y x y r s).1 ((held r s).0 h),
    )) in
    no_twins A (Close (Holds m.pairs)) m.classes m.joined m.quotient p q p_in q_in ((same p q).0 there) ((same q p).0 back)

-- ---- it is no step of finite mode

abbrev IsOther : Kind → Type 0
IsOther Trim = Unit {0}
IsOther Forward = Unit {0}
IsOther Backward = Unit {0}
IsOther Delayed = ⊥
IsOther (Prune n) = Unit {0}

abbrev AreOther : List Kind → Type 0
AreOther [] = Unit {0}
AreOther (kind ∷ kinds) = IsOther kind × AreOther kinds

other_listed : (kinds : List Kind) (kind : Kind) → AreOther kinds → Contains kinds kind → IsOther kind
other_listed [] kind others h = absurd (none_in_nil kind h)
other_listed (first ∷ kinds) kind others h = elim (Contains-cons_cases first kind kinds h) [ inl e ↦ subst IsOther e others.0 | inr later ↦ other_listed kinds kind others.1 later ]

pub none_in_finite : Contains (kinds_of Finite) Delayed → ⊥
none_in_finite h = other_listed (kinds_of Finite) Delayed (tt, (tt, (tt, (tt, (tt, (tt, (tt, tt))))))) h
