-- The least ranks of the greatest delayed relation are low: below a rank there is each lesser one, so no rank exceeds the number of
-- triples, and there are few triples.
use Rattle.std.proofs.Common.{◌≡◌, ◌⊎◌, ℕ, suc, ◌+◌, ◌-◌, ◌*◌, ◌^◌, ◌<◌, ◌≤◌, inl, inr, Bool, true, false, cond, eqb, ltb, Option, None, Some, List, [], ◌∷◌, length, map, All, Contains, refl, sym, ap, ◌∙◌, subst, arith}
use Rattle.std.specs.List.{IsDistinct, list_any}
use Rattle.std.proofs.lemmas.Bool.{cases_eq, cases_lt, cond-true, cond-false, eq-eqb, eqb-true, false≢true, le-ltb, lt-ltb, leb-true, ne_eqb}
use Rattle.std.proofs.lemmas.List.{length-map}
use Rattle.std.proofs.lemmas.List.Elements.{All-head, All-tail, recursion_from_All}
use Rattle.std.proofs.lemmas.List.Folds.{Any-from_list_any, list_any-from_Any}
use Rattle.std.proofs.lemmas.Map.Steps.{length-le_from_distinct_below, le-length_from_below}
use Rattle.std.proofs.lemmas.Nat.{mul-add-lt, same_from_place}
use Rattle.std.proofs.lemmas.Option.{same_Some}
use Rattle.std.proofs.Math.Nat.{mul_assoc, mul_comm, mul-le-mul_left, mul-le-mul_right, mul-one, pow-le-pow_right, pow-succ', pow-zero}
use Rattle.auto_core.specs.Automaton.{Automaton}
use Rattle.auto_core.specs.Delayed.{RankedTriples, HasRank, IsRight, AreTriplesOf, IsGreatestDelayed, letters_for}
use Rattle.auto_core.specs.declared.limits.TheConstants.{MOST_TRIPLES_WITH_A_LETTER}
use Rattle.auto_core.proofs.PathLemmas.{Contains-cons_cases, Contains-here, Contains-later, none_in_nil}
use Rattle.auto_core.proofs.MemberLemmas.{Rises, map_from, map_has, rises_from_pairs}
use Rattle.delayed_sim.specs.Rankings.{Triple, Ranking, IsRanking, IsTripleBefore}
use Rattle.delayed_sim.proofs.OrderLemmas.{not_before}
use Rattle.reduce_loop.proofs.DelayedLemmas.{letters_are_few}
use Rattle.decide.specs.Rows.{HasFewTriples}
use Rattle.decide.proofs.FollowLemmas.{all_of_members}

-- ---- whether a rank is there

abbrev number_in : Option ℕ → ℕ
number_in None = 0
number_in (Some t) = t

abbrev has_number : Option ℕ → Bool
has_number None = false
has_number (Some t) = true

rank_is : (o : Option ℕ) (s : ℕ) → (o ≡ Some s) ⊎ (o ≡ Some s → ⊥)
rank_is None s = inr (λ e. false≢true (ap has_number e))
rank_is (Some t) s = elim (cases_eq t s) [ inl e ↦ inl (ap Some e) | inr apart ↦ inr (λ e. apart (ap number_in e)) ]

-- Some triple has the rank, or none has it.
rank_cases : (X : RankedTriples) (s : ℕ) → ((b : List ℕ) × (p q : ℕ) × HasRank X b p q s) ⊎ ((b : List ℕ) (p q : ℕ) → HasRank X b p q s → ⊥)
rank_cases [] s = inr (λ b p q h. none_in_nil (p, b, q, Some s) h)
rank_cases (x ∷ X) s = elim (rank_cases X s) [
  | inl (b, p, q, there) ↦ inl (b, p, q, Contains-later x (p, b, q, Some s) X there)
  | inr none ↦ elim (rank_is x.3 s) [
    | inl is ↦
        let same : ◌≡◌ {A = Triple} x (x.0, x.1, x.2, Some s) = ap (λ o. (x.0, x.1, x.2, o)) is in
        inl (x.1, x.0, x.2, Contains-here x (x.0, x.1, x.2, Some s) X same)
    | inr other ↦ inr (λ b p q h. elim (Contains-cons_cases x (p, b, q, Some s) X h) [
      | inl e ↦ other (ap (λ (y : Triple). y.3) e)
      | inr later ↦ none b p q later
    ])
  ]
]

-- ---- ranks above one that is not there, lowered by one

abbrev level : ℕ → ℕ → ℕ
level s t = cond (ltb s t) (t - 1) t

level_above : (s t : ℕ) → s < t → level s t + 1 ≡ t
level_above s t lt = let e : level s t ≡ t - 1 = cond-true (ltb s t) (t - 1) t (lt-ltb s t lt) in omega arith

level_below : (s t : ℕ) → t ≤ s → level s t ≡ t
level_below s t le = cond-false (ltb s t) (t - 1) t (le-ltb s t le)

level_zero : (s t : ℕ) → 1 ≤ s → level s t ≡ 0 → t ≡ 0
level_zero s t some none = elim (cases_lt s t) [
  | inl lt ↦ let e = level_above s t lt in absurd (omega arith)
  | inr le ↦ let e = level_below s t le in omega arith
]

level_some : (s t : ℕ) → 0 < level s t → 0 < t
level_some s t some = elim (cases_lt s t) [
  | inl lt ↦ omega arith
  | inr le ↦ let e = level_below s t le in omega arith
]

level_rises : (s u t : ℕ) → (u ≡ s → ⊥) → (t ≡ s → ⊥) → u < t → level s u < level s t
level_rises s u t other apart lt = elim (cases_lt s u) [
  | inl above ↦
      let e = level_above s u above in
      let f = level_above s t (omega arith) in
      omega arith
  | inr below ↦ elim (cases_lt s t) [
    | inl above ↦
        let e = level_below s u below in
        let f = level_above s t above in
        elim (cases_eq u s) [ inl is ↦ absurd (other is) | inr differs ↦ omega arith ]
    | inr low ↦
        let e = level_below s u below in
        let f = level_below s t low in
        omega arith
  ]
]

abbrev lowered : ℕ → Option ℕ → Option ℕ
lowered s None = None
lowered s (Some t) = Some (level s t)

abbrev lower_triple : ℕ → Triple → Triple
lower_triple s x = (x.0, x.1, x.2, lowered s x.3)

abbrev lower : ℕ → RankedTriples → RankedTriples
lower s X = map (lower_triple s) X

module _ (s : ℕ) (X : RankedTriples) where
  lower_has : (b : List ℕ) (p q : ℕ) (o : Option ℕ) → Contains X (p, b, q, o) → Contains (lower s X) (p, b, q, lowered s o)
  lower_has b p q o h = map_has (lower_triple s) X (p, b, q, o) h

  lower_from : (b : List ℕ) (p q : ℕ) (o : Option ℕ) → Contains (lower s X) (p, b, q, o) → (before : Option ℕ) × Contains X (p, b, q, before) × (lowered s before ≡ o)
  lower_from b p q o h =
      let (x, there, is) = map_from (lower_triple s) X (p, b, q, o) h in
      let left : x.0 ≡ p = ap (λ (y : Triple). y.0) is in
      let ahead : x.1 ≡ b = ap (λ (y : Triple). y.1) is in
      let right : x.2 ≡ q = ap (λ (y : Triple). y.2) is in (
        x.3,
        subst (λ c. Contains X (p, b, c, x.3)) right (subst (λ c. Contains X (p, c, x.2, x.3)) ahead (subst (λ c. Contains X (c, x.1, x.2, x.3)) left there)),
        ap (λ (y : Triple). y.3) is,
      )

  rank_from : (b : List ℕ) (p q r : ℕ) → HasRank (lower s X) b p q r → (t : ℕ) × HasRank X b p q t × (level s t ≡ r)
  rank_from b p q r h = let (o, there, is) = lower_from b p q (Some r) h in of_rank o there is
    where
      of_rank : (o : Option ℕ) → Contains X (p, b, q, o) → lowered s o ≡ Some r → (t : ℕ) × HasRank X b p q t × (level s t ≡ r)
      of_rank None there is = absurd (false≢true (ap has_number is))
      of_rank (Some t) there is = (t, there, ap number_in is)

  -- The triples are right with the lowered ranks too.
  lower_right : (A : Automaton) → IsRight A X → 1 ≤ s → ((b : List ℕ) (p q : ℕ) → HasRank X b p q s → ⊥) → IsRight A (lower s X)
  lower_right A right some none = record {
    answers = λ b p q more a c p' h label next move.
        let (before, there, _) = lower_from b p q h.0 h.1 in
        let (q', goes, after) = right.answers b p q more a c p' (before, there) label next move in
        (q', goes, (lowered s after.0, lower_has c p' q' after.0 after.1));
    ranked = λ b p q h accepting.
        let (before, there, _) = lower_from b p q h.0 h.1 in
        let (r, has) = right.ranked b p q (before, there) accepting in
        (level s r, lower_has b p q (Some r) has);
    at_zero = λ b p q h.
        let (t, there, is) = rank_from b p q 0 h in
        right.at_zero b p q (subst (HasRank X b p q) (level_zero s t some is) there);
    above_zero = λ b p q r more a c p' h up label next move.
        let (t, there, is) = rank_from b p q r h in
        let (q', u, goes, has, less) = right.above_zero b p q t more a c p' there (level_some s t (omega arith)) label next move in
        let rises = level_rises s u t (λ e. none c p' q' (subst (HasRank X c p' q') e has)) (λ e. none b p q (subst (HasRank X b p q) e there)) less in
        (q', level s u, goes, lower_has c p' q' (Some u) has, omega arith);
  }

  lower_below : (n labels letters : ℕ) → AreTriplesOf n labels letters X → AreTriplesOf n labels letters (lower s X)
  lower_below n labels letters range b p q h = let (before, there, _) = lower_from b p q h.0 h.1 in range b p q (before, there)

listed_any : (xs : List ℕ) (q : ℕ) → Contains xs q → list_any (eqb q) xs ≡ true
listed_any xs q (k, k_in, is) = list_any-from_Any (eqb q) xs (k, q, k_in, is, eq-eqb q q refl)

-- ---- each rank down to 1 is there

module _ (A : Automaton) (n : ℕ) (X : RankedTriples) (is : IsGreatestDelayed A n X) where
  lesser_ranks : (b : List ℕ) (p q r s : ℕ) → HasRank X b p q r → 1 ≤ s → s ≤ r → (c : List ℕ) × (x y : ℕ) × HasRank X c x y s
  lesser_ranks b p q r s has some upto = elim (rank_cases X s) [
    | inl there ↦ there
    | inr none ↦ elim (cases_eq s r) [
      | inl e ↦ absurd (none b p q (subst (HasRank X b p q) (sym e) has))
      | inr apart ↦
          let (t, there, le) = is.least (lower s X) (lower_below s X A.states A.labels n is.in_range) (lower_right s X A is.right some none) b p q (level s r) (lower_has s X b p q (Some r) has) in
          let same = same_Some t r (is.once b p q (Some t) (Some r) there has) in
          let e = level_above s r (omega arith) in
          absurd (omega arith)
    ]
  ]

  abbrev one_less : Triple → ℕ
  one_less x = number_in x.3 - 1

  -- A rank is at most the number of triples.
  rank_is_low : (b : List ℕ) (p q r : ℕ) → HasRank X b p q r → r ≤ length X
  rank_is_low b p q r has =
      let len = length-map X one_less in
      let all = le-length_from_below (map one_less X) r (λ s lt.
      let (c, x, y, ranked) = lesser_ranks b p q r (suc s) has (omega arith) (omega arith) in
      let e : suc s - 1 ≡ s = omega arith in
      listed_any (map one_less X) s (subst (Contains (map one_less X)) e (map_has one_less X (x, c, y, Some (suc s)) ranked))) in
      omega arith

-- ---- places of triples: those of their states and words, as numbers

abbrev place_from : ℕ → ℕ → List ℕ → ℕ
place_from labels n [] = n
place_from labels n (a ∷ b) = place_from labels (n * labels + a) b

place_below : (labels bound n : ℕ) (b : List ℕ) → n < bound → All (λ a. a < labels) b → place_from labels n b < bound * labels ^ length b
place_below labels bound n [] lt all = let one : bound * labels ^ 0 ≡ bound = ap (λ m. bound * m) (pow-zero labels) ∙ mul-one bound in omega arith
place_below labels bound n (a ∷ b) lt all =
    let here : n * labels + a < labels * bound = mul-add-lt n labels a bound lt (All-head (λ a. a < labels) a b all) in
    let rest = place_below labels (labels * bound) (n * labels + a) b here (All-tail (λ a. a < labels) a b all) in
    let same : labels * bound * labels ^ length b ≡ bound * labels ^ suc (length b) = ap (λ m. m * labels ^ length b) (mul_comm labels bound) ∙ mul_assoc bound labels (labels ^ length b) ∙ ap (λ m. bound * m) (sym (pow-succ' labels (length b))) in
    omega (arith, rest, same)

place_one : (labels n m : ℕ) (b c : List ℕ) → length b ≡ length c → All (λ a. a < labels) b → All (λ a. a < labels) c → place_from labels n b ≡ place_from labels m c → (n ≡ m) × (b ≡ c)
place_one labels n m [] [] len first second same = (same, refl)
place_one labels n m [] (d ∷ c) len first second same = absurd (omega arith)
place_one labels n m (a ∷ b) [] len first second same = absurd (omega arith)
place_one labels n m (a ∷ b) (d ∷ c) len first second same =
    let rest = place_one labels (n * labels + a) (m * labels + d) b c (omega arith) (All-tail (λ a. a < labels) a b first) (All-tail (λ a. a < labels) d c second) same in
    let both = same_from_place n a m d labels (All-head (λ a. a < labels) a b first) (All-head (λ a. a < labels) d c second) rest.0 in
    (both.0, λ i. both.1 i ∷ rest.1 i)

module _ (R : Ranking) (valid : IsRanking R) where
  abbrev place : Triple → ℕ
  place x = place_from R.labels (x.0 * R.states + x.2) x.1

  abbrev words : ℕ
  words = R.labels ^ (R.letters - 1)

  low_place : (x : Triple) → Contains R.triples x → place x < R.states * R.states * words
  low_place x there =
      let range = valid.in_range x.1 x.0 x.2 (x.3, there) in
      let lt = place_below R.labels (R.states * R.states) (x.0 * R.states + x.2) x.1 (mul-add-lt x.0 R.states x.2 R.states range.1 range.2) range.0.1 in
      let letters : suc (length x.1) ≡ R.letters = range.0.0 in
      let len : length x.1 ≡ R.letters - 1 = omega arith in
      subst (λ k. place x < R.states * R.states * R.labels ^ k) len lt

  other_place : (x z : Triple) → Contains R.triples x → Contains R.triples z → IsTripleBefore x z → place x ≡ place z → ⊥
  other_place x z there also before same =
      let here = valid.in_range x.1 x.0 x.2 (x.3, there) in
      let other = valid.in_range z.1 z.0 z.2 (z.3, also) in
      let letters : suc (length x.1) ≡ R.letters = here.0.0 in
      let others : suc (length z.1) ≡ R.letters = other.0.0 in
      let parts = place_one R.labels (x.0 * R.states + x.2) (z.0 * R.states + z.2) x.1 z.1 (omega arith) here.0.1 other.0.1 same in
      let states = same_from_place x.0 x.2 z.0 z.2 R.states here.2 other.2 parts.0 in
      not_before x z (λ i. states.0 i ∷ parts.1 i) states.1 before

  all_distinct : (xs : RankedTriples) → Rises IsTripleBefore xs → ((x : Triple) → Contains xs x → Contains R.triples x) → IsDistinct eqb (map place xs)
  unfolding IsDistinct
  all_distinct [] order each = tt
  all_distinct (x ∷ xs) order each = (
    recursion_from_All (λ y. eqb (place x) y ≡ false) (map place xs) (all_of_members (λ y. eqb (place x) y ≡ false) (map place xs) (λ y there.
        let (z, z_in, is) = map_from place xs y there in
        ne_eqb (place x) y (λ e. other_place x z (each x (Contains-here x x xs refl)) (each z (Contains-later x z xs z_in)) (order.0 z z_in) (e ∙ sym is)))),
    all_distinct xs order.1 (λ z there. each z (Contains-later x z xs there)),
  )

  -- There are no more triples than states with states and words.
  triples_are_few : length R.triples ≤ R.states * R.states * words
  triples_are_few =
      let len = length-map R.triples place in
      let few = length-le_from_distinct_below (map place R.triples) (R.states * R.states * words) (all_distinct R.triples (rises_from_pairs IsTripleBefore R.triples valid.in_order) (λ x there. there)) (λ n listed.
      let (k, y, k_in, at, same) = Any-from_list_any (eqb n) (map place R.triples) listed in
      let (x, x_in, is) = map_from place R.triples y (k, k_in, at) in
      let lt = low_place x x_in in
      let is_y = eqb-true n y same in
      omega arith) in
      omega arith

-- With so many letters as are announced there are few triples, if the automaton has few states.
words_are_few : (A : Automaton) (n : ℕ) → A.states ≤ 2048 → A.states * A.states * A.labels ^ (letters_for A n - 1) ≤ 4194304
words_are_few A n few = elim (letters_are_few A n) [
  | inl one ↦
      let first : A.states * A.states ≤ 2048 * A.states = mul-le-mul_right A.states few in
      let none : letters_for A n - 1 ≡ 0 = omega arith in
      let all : A.states * A.states * A.labels ^ 0 ≡ A.states * A.states = ap (λ m. A.states * A.states * m) (pow-zero A.labels) ∙ mul-one (A.states * A.states) in
      subst (λ k. A.states * A.states * A.labels ^ k ≤ 4194304) (sym none) (omega (arith, all, first, few))
  | inr (labels, test) ↦
      let le = leb-true (A.states * A.states * A.labels ^ letters_for A n) MOST_TRIPLES_WITH_A_LETTER test in
      let more : A.labels ^ (letters_for A n - 1) ≤ A.labels ^ letters_for A n = pow-le-pow_right labels (omega arith) in
      let up : A.states * A.states * A.labels ^ (letters_for A n - 1) ≤ A.states * A.states * A.labels ^ letters_for A n = mul-le-mul_left (A.states * A.states) more in
      omega (arith, le, up)
]

-- So the relation can be written.
pub ranks_are_few :
    (A : Automaton) (n : ℕ) (R : Ranking)
    → A.states ≤ 2048
    → A.labels ≤ 512
    → IsRanking R
    → R.states ≡ A.states
    → R.labels ≡ A.labels
    → R.letters ≡ letters_for A n
    → IsGreatestDelayed A (letters_for A n) R.triples
    → HasFewTriples R
ranks_are_few A n R states labels valid size on_labels letters greatest = record {
  count = omega (arith, few);
  states = omega (arith, size, states);
  labels = omega (arith, on_labels, labels);
  below = λ b p q r has. let low = rank_is_low A (letters_for A n) R.triples greatest b p q r has in omega (arith, few, low);
}
  where
    words_on : (s l k : ℕ) → s ≡ A.states → l ≡ A.labels → k ≡ letters_for A n → s * s * l ^ (k - 1) ≡ A.states * A.states * A.labels ^ (letters_for A n - 1)
    words_on s l k e f g = λ i. e i * e i * f i ^ (g i - 1)

    few : length R.triples ≤ 4194304
    few =
        let le = triples_are_few R valid in
        let same = words_on R.states R.labels R.letters size on_labels letters in
        let most = words_are_few A n states in
        omega (arith, le, same, most)
