-- The greatest delayed relation with announced letters, from the game of places.
use Rattle.std.proofs.Common.{◌≡◌, ℕ, zero, suc, ◌<◌, ◌↔◌, inl, inr, Option, Some, List, map, Contains, refl, sym, ap, ◌∙◌, subst, arith}
use Rattle.auto_core.specs.Automaton.{Automaton, IsAutomaton, Moves, IsAccepting}
use Rattle.auto_core.specs.Game.{Holds}
use Rattle.auto_core.specs.Delayed.{RankedTriples, HoldsTriple, HasRank, Announces, IsTripleWord, AreTriplesOf, IsRight, IsGreatestDelayed}
use Rattle.auto_core.proofs.MemberLemmas.{map_has, map_from}
use Rattle.auto_core.proofs.MoveLemmas.{move_in_range}
use Rattle.delayed_sim.specs.Rankings.{Triple}
use Rattle.delayed_game.specs.Across.{RankedPlacePairs, HoldsPlacePair, AreWithin, IsRightAcross}
use Rattle.delayed_game.specs.Pairings.{Pairing}
use Rattle.delayed_game.specs.Levels.{rank_in_table, IsLeastRank}
use Rattle.delayed_game.specs.Played.{HasEachRight, IsPlayed}
use Rattle.delayed_sim.specs.Words.{place_of, ArePlaces}
use Rattle.delayed_sim.proofs.AheadLemmas.{word_after}
use Rattle.delayed_game.proofs.CanLemmas.{right_can, can_accepting, can_holds}
use Rattle.delayed_sim.proofs.PlaceLemmas.{place_below}

-- Just the triples of the relation, with the ranks of the table.
abbrev pub AreTriplesOfPairs : Automaton → ℕ → Pairing → List ℕ → RankedTriples → Type 0
AreTriplesOfPairs A n S ranks T =
    (p : ℕ) (b : List ℕ) (q : ℕ) (o : Option ℕ)
    → Contains T (p, b, q, o)
    ↔ (IsTripleWord A.labels n b × (p < A.states) × Holds S.pairs (place_of A.labels p b) q × (rank_in_table ranks A.states (place_of A.labels p b) q ≡ o))

module _ (A : Automaton) (n : ℕ) (L : Automaton) (valid : IsAutomaton A) (places : ArePlaces A n L) where
  -- ---- a list of triples as one of pairs

  abbrev at_place : Triple → ℕ × ℕ × Option ℕ
  at_place t = (place_of A.labels t.0 t.1, t.2, t.3)

  abbrev at_places : RankedTriples → RankedPlacePairs
  at_places Y = map at_place Y

  places_have : (Y : RankedTriples) (p : ℕ) (b : List ℕ) (q : ℕ) (o : Option ℕ) → Contains Y (p, b, q, o) → Contains (at_places Y) (place_of A.labels p b, q, o)
  places_have Y p b q o h = map_has at_place Y (p, b, q, o) h

  -- A triple of the list at this place.
  abbrev FromTriple : RankedTriples → ℕ → ℕ → Option ℕ → Type 0
  FromTriple Y x q o = (p : ℕ) × (b : List ℕ) × Contains Y (p, b, q, o) × (place_of A.labels p b ≡ x)

  places_from : (Y : RankedTriples) (x q : ℕ) (o : Option ℕ) → Contains (at_places Y) (x, q, o) → FromTriple Y x q o
  places_from Y x q o h =
      let (t, there, is) = map_from at_place Y (x, q, o) h in
      let right : t.2 ≡ q = ap (λ (z : ℕ × ℕ × Option ℕ). z.1) is in
      let rank : t.3 ≡ o = ap (λ (z : ℕ × ℕ × Option ℕ). z.2) is in
      let P : Option ℕ → Type 0 = λ m. Contains Y (t.0, t.1, q, m) in
      let Q : ℕ → Type 0 = λ r. Contains Y (t.0, t.1, r, t.3) in
      (t.0, t.1, subst P rank (subst Q right there), ap (λ (z : ℕ × ℕ × Option ℕ). z.0) is)

  module _ (Y : RankedTriples) (range : AreTriplesOf A.states A.labels n Y) (right : IsRight A Y) where
    places_below : AreWithin L.states A.states (at_places Y)
    places_below x q (o, h) =
        let (p, b, has, is) = places_from Y x q o h in
        let (is_word, left, right_in) = range b p q (o, has) in
        let states = places.states in
        let below = place_below A.labels n A.states p b is_word left in
        (omega arith, right_in)

    places_right : IsRightAcross L A (at_places Y)
    places_right = record {
      answers = λ x q a y (o, h) move.
          let (p, b, has, is) = places_from Y x q o h in
          let (is_word, left, right_in) = range b p q (o, has) in
          let (more, c, p', lt, e, go, to) = places.back b p a y is_word (subst (λ z. Moves L z a y) (sym is) move) in
          let answer = right.answers b p q more a c p' (o, has) lt e go in
          (answer.0, answer.1, (answer.2.0, subst (λ z. Contains (at_places Y) (z, answer.0, answer.2.0)) to (places_have Y p' c answer.0 answer.2.0 answer.2.1)));
      ranked = λ x q (o, h) accepting.
          let (p, b, has, is) = places_from Y x q o h in
          let (is_word, left, right_in) = range b p q (o, has) in
          let rank = right.ranked b p q (o, has) ((places.accepting b p is_word).0 (subst (λ z. IsAccepting L z) (sym is) accepting)) in
          (rank.0, subst (λ z. Contains (at_places Y) (z, q, Some rank.0)) is (places_have Y p b q (Some rank.0) rank.1));
      at_zero = λ x q h.
          let (p, b, has, is) = places_from Y x q (Some 0) h in
          right.at_zero b p q has;
      above_zero = λ x q r a y h some move.
          let (p, b, has, is) = places_from Y x q (Some r) h in
          let (is_word, left, right_in) = range b p q (Some r, has) in
          let (more, c, p', lt, e, go, to) = places.back b p a y is_word (subst (λ z. Moves L z a y) (sym is) move) in
          let answer = right.above_zero b p q r more a c p' has some lt e go in
          (answer.0, answer.1, answer.2, subst (λ z. Contains (at_places Y) (z, answer.0, Some answer.1)) to (places_have Y p' c answer.0 (Some answer.1) answer.3), answer.4);
    }

  -- ---- what is left of the game

  module _ (R S : Pairing) (ranks : List ℕ) (first : HasEachRight L A (Holds R.pairs)) (r_places : R.places ≡ L.states) (r_states : R.states ≡ A.states) (played : IsPlayed L A R S ranks) (T : RankedTriples) (are : AreTriplesOfPairs A n S ranks T) where
    in_states : (x q : ℕ) → Holds S.pairs x q → (x < L.states) × (q < A.states)
    in_states x q held =
        let range = played.takes.valid.in_range x q held in
        let left = range.0 in
        let right = range.1 in
        let m = played.takes.places ∙ r_places in
        let s = played.takes.states ∙ r_states in
        (omega arith, omega arith)

    -- Where the place's pair is left, the triple is listed.
    lists : (p : ℕ) (b : List ℕ) (q : ℕ) → IsTripleWord A.labels n b → p < A.states → Holds S.pairs (place_of A.labels p b) q → HoldsTriple T b p q
    lists p b q is_word left held = (rank_in_table ranks A.states (place_of A.labels p b) q, (are p b q (rank_in_table ranks A.states (place_of A.labels p b) q)).1 (is_word, left, held, refl))

    lists_rank : (p : ℕ) (b : List ℕ) (q r : ℕ) → IsTripleWord A.labels n b → p < A.states → Holds S.pairs (place_of A.labels p b) q → rank_in_table ranks A.states (place_of A.labels p b) q ≡ Some r → HasRank T b p q r
    lists_rank p b q r is_word left held is = (are p b q (Some r)).1 (is_word, left, held, is)

    exact : (p : ℕ) (b : List ℕ) (q r : ℕ) → HasRank T b p q r → IsLeastRank L A (Holds S.pairs) (place_of A.labels p b) q r
    exact p b q r h =
        let (is_word, left, held, is) = (are p b q (Some r)).0 h in
        let range = in_states (place_of A.labels p b) q held in
        played.least.each (place_of A.labels p b) q r range.0 range.1 is

    below : (p : ℕ) (b : List ℕ) (q r more a : ℕ) (c : List ℕ) (p' : ℕ) → HasRank T b p q r → 0 < r → more < A.labels → Announces b more a c → Moves A p a p' → (q' s : ℕ) × Moves A q a q' × HasRank T c p' q' s × (s < r)
    below p b q zero more a c p' h some lt e move = absurd (omega arith)
    below p b q (suc r) more a c p' h some lt e move =
        let x = place_of A.labels p b in
        let y = place_of A.labels p' c in
        let (is_word, left, held, is_rank) = (are p b q (Some (suc r))).0 h in
        let is = exact p b q (suc r) h in
        elim is.can.1 [
          | inl accepting ↦ let le = is.least 0 (can_accepting L A (Holds S.pairs) 0 x q is.can.0 accepting) in absurd (omega arith)
          | inr answers ↦
              let answer = answers a y (places.forth b p more a c p' is_word lt e move) in
              let there = can_holds L A (Holds S.pairs) r y answer.0 answer.2 in
              let range = in_states y answer.0 there in
              let has = played.least.all y answer.0 r range.0 range.1 answer.2 in
              let le = (played.least.each y answer.0 has.0 range.0 range.1 has.1).least r answer.2 in
              let next = word_after A.labels n b more a c is_word lt e in
              (answer.0, has.0, answer.1, lists_rank p' c answer.0 has.0 next (move_in_range A valid p a p' move).1 there has.1, omega arith)
        ]

    within : (Y : RankedTriples) → AreTriplesOf A.states A.labels n Y → IsRight A Y → (x q : ℕ) → HoldsPlacePair (at_places Y) x q → Holds S.pairs x q
    within Y range right = played.takes.leaves (at_places Y) (places_right Y range right) (first (at_places Y) (places_below Y range right) (places_right Y range right))

    pub greatest_ahead : IsGreatestDelayed A n T
    greatest_ahead = record {
      in_range = λ b p q (o, h).
          let (is_word, left, held, is) = (are p b q o).0 h in
          (is_word, left, (in_states (place_of A.labels p b) q held).1);
      once = λ b p q o m h g.
          let first = (are p b q o).0 h in
          let second = (are p b q m).0 g in
          sym first.3 ∙ second.3;
      right = record {
        answers = λ b p q more a c p' (o, h) lt e move.
            let (is_word, left, held, is) = (are p b q o).0 h in
            let answer = played.answered (place_of A.labels p b) q held a (place_of A.labels p' c) (places.forth b p more a c p' is_word lt e move) in
            (answer.0, answer.1, lists p' c answer.0 (word_after A.labels n b more a c is_word lt e) (move_in_range A valid p a p' move).1 answer.2);
        ranked = λ b p q (o, h) accepting.
            let (is_word, left, held, is) = (are p b q o).0 h in
            let has = played.ranked (place_of A.labels p b) q ((places.accepting b p is_word).1 accepting) held in
            (has.0, lists_rank p b q has.0 is_word left held has.1);
        at_zero = λ b p q h. (exact p b q 0 h).can.1;
        above_zero = λ b p q r more a c p' h some lt e move. below p b q r more a c p' h some lt e move;
      };
      has_each = λ Y range right b p q (o, h).
          let (is_word, left, right_in) = range b p q (o, h) in
          lists p b q is_word left (within Y range right (place_of A.labels p b) q (o, places_have Y p b q o h));
      least = λ Y range right b p q s h.
          let x = place_of A.labels p b in
          let (is_word, left, right_in) = range b p q (Some s, h) in
          let can = right_can L A (Holds S.pairs) (at_places Y) (places_right Y range right) (within Y range right) s x q s (omega arith) (places_have Y p b q (Some s) h) in
          let held = can_holds L A (Holds S.pairs) s x q can in
          let inside = in_states x q held in
          let has = played.least.all x q s inside.0 inside.1 can in
          (has.0, lists_rank p b q has.0 is_word left held has.1, (played.least.each x q has.0 inside.0 inside.1 has.1).least s can);
    }
