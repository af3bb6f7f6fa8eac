-- Triples with no letters between their states are pairs.
use Rattle.std.proofs.Common.{◌<◌, ◌≡◌, ℕ, List, [], ◌∷◌, length, map, Contains, Option, Some, refl, sym, ap, subst, ◌∙◌, arith}
use Rattle.auto_core.proofs.PathLemmas.{Contains-here, Contains-later}
use Rattle.std.proofs.lemmas.List.{nil_from_length}
use Rattle.std.proofs.lemmas.List.Elements.{All-nil}
use Rattle.auto_core.specs.Automaton.{Automaton, IsAutomaton}
use Rattle.auto_core.specs.Delayed.{RankedTriples, HoldsTriple, Announces, IsTripleWord, AreTriplesOf, IsRight, IsGreatestDelayed, AreStateRelated}
use Rattle.auto_laws.proofs.PumpingLemmas.{move_in_range}
use Rattle.auto_laws.specs.OneLetter.{RankedPairs, HoldsRanked, AreRightPairs, AreRankedBelow, AreGreatestPairs, triple_of_pair, OneLetterTriplesArePairs, OneLetterIsPairs, OneLetterGreatestIsOfPairs, OneLetterRelatesPairs}
use Rattle.auto_laws.proofs.MoveLemmas.{contains_map, map_contains}

abbrev EachIsPlain : RankedTriples → Type 0
EachIsPlain X = (b : List ℕ) (p q : ℕ) → HoldsTriple X b p q → b ≡ []

plain_are_pairs : (X : RankedTriples) → EachIsPlain X → (Y : RankedPairs) × (X ≡ map triple_of_pair Y)
plain_are_pairs [] each = ([], refl)
plain_are_pairs ((p, b, q, o) ∷ X) each =
    let (Y, rest) = plain_are_pairs X (λ c r s held. each c r s (held.0, Contains-later (p, b, q, o) (r, c, s, held.0) X held.1)) in
    let none = each b p q (o, Contains-here (p, b, q, o) (p, b, q, o) X refl) in
    ((p, q, o) ∷ Y, ap (λ c. (p, c, q, o) ∷ X) none ∙ ap (λ Z. (p, [], q, o) ∷ Z) rest)

pub one_letter_triples_are_pairs : OneLetterTriplesArePairs
one_letter_triples_are_pairs states labels X range =
    plain_are_pairs X (λ b p q held. let one = (range b p q held).0.0 in nil_from_length b (omega arith))

-- what the triples hold, the pairs hold
module _ (Y : RankedPairs) where
  abbrev no_letters : List ℕ
  no_letters = []

  pub pair_of : (b : List ℕ) (p q : ℕ) (o : Option ℕ) → Contains (map triple_of_pair Y) (p, b, q, o) → (b ≡ []) × Contains Y (p, q, o)
  pair_of b p q o held =
      let ((p', q', o'), there, is) = contains_map triple_of_pair Y (p, b, q, o) held in (
        sym (ap (λ (t : ℕ × List ℕ × ℕ × Option ℕ). t.1) is),
        subst (Contains Y) (ap (λ (t : ℕ × List ℕ × ℕ × Option ℕ). (t.0, t.2, t.3)) is) there,
      )

  pub triple_of : (p q : ℕ) (o : Option ℕ) → Contains Y (p, q, o) → Contains (map triple_of_pair Y) (p, no_letters, q, o)
  triple_of p q o held = map_contains triple_of_pair Y (p, q, o) held

-- behind the empty word the further letter is that of the move, and the word after it is empty
announced_alone : (more a : ℕ) (c : List ℕ) → Announces [] more a c → c ≡ []
announced_alone more a c is = let few = ap length is in nil_from_length c (omega (arith, few))

right_pairs : (A : Automaton) (Y : RankedPairs) → IsAutomaton A → IsRight A (map triple_of_pair Y) → AreRightPairs A Y
right_pairs A Y valid right = record {
  answers = λ p q a p' held moves.
      let (q', to, (o, later)) = right.answers [] p q a a [] p' (held.0, triple_of Y p q held.0 held.1) (move_in_range A valid p a p' moves).2 refl moves in
      (q', to, (o, (pair_of Y [] p' q' o later).1));
  ranked = λ p q held accepting.
      let (r, has) = right.ranked [] p q (held.0, triple_of Y p q held.0 held.1) accepting in
      (r, (pair_of Y [] p q (Some r) has).1);
  at_zero = λ p q has. right.at_zero [] p q (triple_of Y p q (Some 0) has);
  above_zero = λ p q r a p' has some moves.
      let (q', s, to, later, less) = right.above_zero [] p q r a a [] p' (triple_of Y p q (Some r) has) some (move_in_range A valid p a p' moves).2 refl moves in
      (q', s, to, (pair_of Y [] p' q' (Some s) later).1, less);
}

right_triples : (A : Automaton) (Y : RankedPairs) → AreRightPairs A Y → IsRight A (map triple_of_pair Y)
right_triples A Y right = record {
  answers = λ b p q more a c p' held below announces moves.
      let (none, pair) = pair_of Y b p q held.0 held.1 in
      let rest = announced_alone more a c (subst (λ d. Announces d more a c) none announces) in
      let (q', to, (o, later)) = right.answers p q a p' (held.0, pair) moves in
      (q', to, (o, subst (λ d. Contains (map triple_of_pair Y) (p', d, q', o)) (sym rest) (triple_of Y p' q' o later)));
  ranked = λ b p q held accepting.
      let (none, pair) = pair_of Y b p q held.0 held.1 in
      let (r, has) = right.ranked p q (held.0, pair) accepting in
      (r, subst (λ d. Contains (map triple_of_pair Y) (p, d, q, Some r)) (sym none) (triple_of Y p q (Some r) has));
  at_zero = λ b p q has. right.at_zero p q (pair_of Y b p q (Some 0) has).1;
  above_zero = λ b p q r more a c p' has some below announces moves.
      let (none, pair) = pair_of Y b p q (Some r) has in
      let rest = announced_alone more a c (subst (λ d. Announces d more a c) none announces) in
      let (q', s, to, later, less) = right.above_zero p q r a p' pair some moves in
      (q', s, to, subst (λ d. Contains (map triple_of_pair Y) (p', d, q', Some s)) (sym rest) (triple_of Y p' q' (Some s) later), less);
}

pub one_letter_is_pairs : OneLetterIsPairs
one_letter_is_pairs A Y valid = (right_pairs A Y valid, right_triples A Y)

-- ---- the greatest relation

empty_word : (labels : ℕ) → IsTripleWord labels 1 []
empty_word labels = (omega arith, All-nil (λ a. a < labels))

-- triples of the game are below the number of states just where their pairs are
triples_below : (states labels : ℕ) (Y : RankedPairs) → AreRankedBelow states Y → AreTriplesOf states labels 1 (map triple_of_pair Y)
triples_below states labels Y below b p q held =
    let (none, pair) = pair_of Y b p q held.0 held.1 in
    let in_range = below p q (held.0, pair) in
    (subst (IsTripleWord labels 1) (sym none) (empty_word labels), in_range.0, in_range.1)

pairs_below : (states labels : ℕ) (Y : RankedPairs) → AreTriplesOf states labels 1 (map triple_of_pair Y) → AreRankedBelow states Y
pairs_below states labels Y range p q held =
    let in_range = range [] p q (held.0, triple_of Y p q held.0 held.1) in
    (in_range.1, in_range.2)

greatest_pairs : (A : Automaton) (Y : RankedPairs) → IsAutomaton A → IsGreatestDelayed A 1 (map triple_of_pair Y) → AreGreatestPairs A Y
greatest_pairs A Y valid greatest = record {
  in_range = pairs_below A.states A.labels Y greatest.in_range;
  once = λ p q o m first second. greatest.once [] p q o m (triple_of Y p q o first) (triple_of Y p q m second);
  right = right_pairs A Y valid greatest.right;
  has_each = λ Z below right p q held.
      let (o, has) = greatest.has_each (map triple_of_pair Z) (triples_below A.states A.labels Z below) (right_triples A Z right) [] p q (held.0, triple_of Z p q held.0 held.1) in
      (o, (pair_of Y [] p q o has).1);
  least = λ Z below right p q s has.
      let (r, ranked, least) = greatest.least (map triple_of_pair Z) (triples_below A.states A.labels Z below) (right_triples A Z right) [] p q s (triple_of Z p q (Some s) has) in
      (r, (pair_of Y [] p q (Some r) ranked).1, least);
}

greatest_triples : (A : Automaton) (Y : RankedPairs) → IsAutomaton A → AreGreatestPairs A Y → IsGreatestDelayed A 1 (map triple_of_pair Y)
greatest_triples A Y valid greatest = record {
  in_range = triples_below A.states A.labels Y greatest.in_range;
  once = λ b p q o m first second. greatest.once p q o m (pair_of Y b p q o first).1 (pair_of Y b p q m second).1;
  right = right_triples A Y greatest.right;
  has_each = λ X range right b p q held.
      let (Z, is) = one_letter_triples_are_pairs A.states A.labels X range in
      let right' = right_pairs A Z valid (subst (IsRight A) is right) in
      let below = pairs_below A.states A.labels Z (subst (AreTriplesOf A.states A.labels 1) is range) in
      let (none, pair) = pair_of Z b p q held.0 (subst (λ W. Contains W (p, b, q, held.0)) is held.1) in
      let (o, has) = greatest.has_each Z below right' p q (held.0, pair) in
      (o, subst (λ d. Contains (map triple_of_pair Y) (p, d, q, o)) (sym none) (triple_of Y p q o has));
  least = λ X range right b p q s has.
      let (Z, is) = one_letter_triples_are_pairs A.states A.labels X range in
      let right' = right_pairs A Z valid (subst (IsRight A) is right) in
      let below = pairs_below A.states A.labels Z (subst (AreTriplesOf A.states A.labels 1) is range) in
      let (none, pair) = pair_of Z b p q (Some s) (subst (λ W. Contains W (p, b, q, Some s)) is has) in
      let (r, ranked, least) = greatest.least Z below right' p q s pair in
      (r, subst (λ d. Contains (map triple_of_pair Y) (p, d, q, Some r)) (sym none) (triple_of Y p q (Some r) ranked), least);
}

pub one_letter_greatest_is_of_pairs : OneLetterGreatestIsOfPairs
one_letter_greatest_is_of_pairs A Y valid = (greatest_pairs A Y valid, greatest_triples A Y valid)

-- ---- the state relation

pub one_letter_relates_pairs : OneLetterRelatesPairs
one_letter_relates_pairs labels Y p q = (held, related)
  where
    held : AreStateRelated labels 1 (map triple_of_pair Y) p q → HoldsRanked Y p q
    held all = let (o, has) = all [] (empty_word labels) in (o, (pair_of Y [] p q o has).1)

    related : HoldsRanked Y p q → AreStateRelated labels 1 (map triple_of_pair Y) p q
    related has = λ b is_word.
        let none = nil_from_length b (let one = is_word.0 in omega arith) in
        (has.0, subst (λ d. Contains (map triple_of_pair Y) (p, d, q, has.0)) (sym none) (triple_of Y p q has.0 has.1))
