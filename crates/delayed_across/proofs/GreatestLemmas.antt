-- What is left of the game that begins with all pairs is the greatest relation.
use Rattle.std.proofs.Common.{◌≡◌, ℕ, zero, suc, ◌<◌, ◌↔◌, inl, inr, Option, Some, List, Contains, map, Bool, IsTrue, refl, sym, ap, ◌∙◌, subst, arith}
use Rattle.auto_core.specs.Automaton.{Automaton, IsAutomaton, Moves}
use Rattle.auto_core.specs.Accept.{Includes}
use Rattle.auto_core.specs.Game.{Holds}
use Rattle.auto_core.specs.Rows.{bit_of, HasBit}
use Rattle.auto_core.proofs.MemberLemmas.{map_has, map_from}
use Rattle.auto_core.specs.declared.parts.Mode.TheVariants.{Buchi}
use Rattle.delayed_game.specs.Across.{RankedPlacePairs, HoldsPlacePair, HasPlacePairRank, AreWithin, IsRightAcross}
use Rattle.delayed_game.specs.Pairings.{Pairing}
use Rattle.delayed_game.specs.Levels.{rank_in_table, IsLeastRank}
use Rattle.delayed_game.specs.Played.{IsPlayed}
use Rattle.delayed_game.proofs.CanLemmas.{right_can, can_accepting, can_holds}
use Rattle.delayed_laws.specs.declared.parts.DelayedPair.{DelayedPair}
use Rattle.delayed_laws.specs.Greatest.{IsGreatestDelayedAcross, IsDelayedSimulated}
use Rattle.delayed_laws.specs.Listed.{delayed_pair, place_pairs}
use Rattle.delayed_laws.proofs.FollowLemmas.{delayed_includes}
use Rattle.delayed_laws.proofs.ListedLemmas.{pair_stands, pair_from}
use Rattle.delayed_laws.proofs.RangeLemmas.{stays_in_range}
use Rattle.delayed_across.specs.Listed.{ListsBefore}

-- The first relation has all pairs of a state of A and a state of B.
pub record IsFull (A B : Automaton) (R : Pairing) : Type 0 where
  pub places : R.places ≡ A.states
  pub states : R.states ≡ B.states
  pub pairs : (x q : ℕ) → x < A.states → q < B.states → Holds R.pairs x q

-- Just the pairs of the relation, with the ranks of the table.
abbrev pub ArePairsOf : Automaton → Pairing → List ℕ → RankedPlacePairs → Type 0
ArePairsOf B S ranks T = (p q : ℕ) (o : Option ℕ) → Contains T (p, q, o) ↔ (Holds S.pairs p q × (rank_in_table ranks B.states p q ≡ o))

module _ (A B : Automaton) (valid_a : IsAutomaton A) (valid_b : IsAutomaton B) (R S : Pairing) (ranks : List ℕ) (full : IsFull A B R) (played : IsPlayed A B R S ranks) where
  in_states : (x q : ℕ) → Holds S.pairs x q → (x < A.states) × (q < B.states)
  in_states x q held =
      let range = played.takes.valid.in_range x q held in
      let left = range.0 in
      let right = range.1 in
      let m = played.takes.places ∙ full.places in
      let s = played.takes.states ∙ full.states in
      (omega arith, omega arith)

  -- A right list of pairs of states is left.
  leaves : (Y : RankedPlacePairs) → AreWithin A.states B.states Y → IsRightAcross A B Y → (x q : ℕ) → HoldsPlacePair Y x q → Holds S.pairs x q
  leaves Y range right = played.takes.leaves Y right (λ x q held. let r = range x q held in full.pairs x q r.0 r.1)

  -- The pairs of states of any right list are left.
  pub leaves_each : (Y : RankedPlacePairs) → IsRightAcross A B Y → (x q : ℕ) → x < A.states → q < B.states → HoldsPlacePair Y x q → Holds S.pairs x q
  leaves_each Y right x q x_in q_in held =
      let (Z, part) = stays_in_range A B Y valid_a valid_b right in
      leaves Z part.within part.right x q (part.pairs x q x_in q_in held)

  module _ (T : RankedPlacePairs) (are : ArePairsOf B S ranks T) where
    lists : (p q : ℕ) → Holds S.pairs p q → HoldsPlacePair T p q
    lists p q held = (rank_in_table ranks B.states p q, (are p q (rank_in_table ranks B.states p q)).1 (held, refl))

    exact : (p q r : ℕ) → HasPlacePairRank T p q r → IsLeastRank A B (Holds S.pairs) p q r
    exact p q r h =
        let (held, is) = (are p q (Some r)).0 h in
        let range = in_states p q held in
        played.least.each p q r range.0 range.1 is

    below : (p q r a p' : ℕ) → HasPlacePairRank T p q r → 0 < r → Moves A p a p' → (q' s : ℕ) × Moves B q a q' × HasPlacePairRank T p' q' s × (s < r)
    below p q zero a p' h some move = absurd (omega arith)
    below p q (suc r) a p' h some move =
        let is = exact p q (suc r) h in
        elim is.can.1 [
          | inl accepting ↦ let le = is.least 0 (can_accepting A B (Holds S.pairs) 0 p q is.can.0 accepting) in absurd (omega arith)
          | inr answers ↦
              let answer = answers a p' move in
              let there = can_holds A B (Holds S.pairs) r p' answer.0 answer.2 in
              let range = in_states p' answer.0 there in
              let has = played.least.all p' answer.0 r range.0 range.1 answer.2 in
              let le = (played.least.each p' answer.0 has.0 range.0 range.1 has.1).least r answer.2 in
              (answer.0, has.0, answer.1, (are p' answer.0 (Some has.0)).1 (there, has.1), omega arith)
        ]

    right : IsRightAcross A B T
    right = record {
      answers = λ p q a p' (o, h) move.
          let (held, is) = (are p q o).0 h in
          let answer = played.answered p q held a p' move in
          (answer.0, answer.1, lists p' answer.0 answer.2);
      ranked = λ p q (o, h) accepting.
          let (held, is) = (are p q o).0 h in
          let has = played.ranked p q accepting held in
          (has.0, (are p q (Some has.0)).1 (held, has.1));
      at_zero = λ p q h. (exact p q 0 h).can.1;
      above_zero = λ p q r a p' h some move. below p q r a p' h some move;
    }

    pub greatest : IsGreatestDelayedAcross A B T
    greatest = record {
      in_range = λ p q (o, h). in_states p q ((are p q o).0 h).0;
      once = λ p q o m h g. sym ((are p q o).0 h).1 ∙ ((are p q m).0 g).1;
      right = right;
      has_each = λ Y is p q p_in q_in held. lists p q (leaves_each Y is p q p_in q_in held);
      least = λ Y is p q s p_in q_in h.
          let (Z, part) = stays_in_range A B Y valid_a valid_b is in
          let can = right_can A B (Holds S.pairs) Z part.right (leaves Z part.within part.right) s p q s (omega arith) (part.ranks p q s p_in q_in h) in
          let held = can_holds A B (Holds S.pairs) s p q can in
          let has = played.least.all p q s p_in q_in can in
          (has.0, (are p q (Some has.0)).1 (held, has.1), (played.least.each p q has.0 p_in q_in has.1).least s can);
    }

  -- When all rows are listed, the pairs are those of the relation.
  pub listed_greatest : (pairs : List DelayedPair) → ListsBefore S ranks S.places 0 pairs → IsGreatestDelayedAcross A B (place_pairs pairs)
  listed_greatest pairs listed = greatest (place_pairs pairs) are
    where
      size : S.states ≡ B.states
      size = played.takes.states ∙ full.states

      are : ArePairsOf B S ranks (place_pairs pairs)
      are p q o = (
        λ h.
            let (held, is, before) = listed.each (delayed_pair p q o) (pair_from pairs p q o h) in
            (held, ap (λ n. rank_in_table ranks n p q) (sym size) ∙ is),
        λ (held, is).
            let there = listed.all p q held (inl (played.takes.valid.in_range p q held).0) in
            pair_stands pairs (delayed_pair p q o) (subst (λ m. Contains pairs (delayed_pair p q m)) (ap (λ n. rank_in_table ranks n p q) size ∙ is) there),
      )

-- The pairs that are left, each with its rank.
abbrev with_rank : Automaton → List ℕ → ℕ × ℕ → ℕ × ℕ × Option ℕ
with_rank B ranks pair = (pair.0, pair.1, rank_in_table ranks B.states pair.0 pair.1)

abbrev left_over : Automaton → Pairing → List ℕ → RankedPlacePairs
left_over B S ranks = map (with_rank B ranks) S.pairs

are_left : (B : Automaton) (S : Pairing) (ranks : List ℕ) → ArePairsOf B S ranks (left_over B S ranks)
are_left B S ranks p q o = (
  λ h.
      let (pair, has, e) = map_from (with_rank B ranks) S.pairs (p, q, o) h in
      let same : pair ≡ (p, q) = ap (λ (x : ℕ × ℕ × Option ℕ). (x.0, x.1)) e in
      let rank : rank_in_table ranks B.states pair.0 pair.1 ≡ o = ap (λ (x : ℕ × ℕ × Option ℕ). x.2) e in
      (subst (λ x. Contains S.pairs x) same has, ap (λ (x : ℕ × ℕ). rank_in_table ranks B.states x.0 x.1) (sym same) ∙ rank),
  λ (held, is). subst (λ m. Contains (left_over B S ranks) (p, q, m)) is (map_has (with_rank B ranks) S.pairs (p, q) held),
)

-- So they decide, and no list need be made.
pub decided :
    (A B : Automaton) → IsAutomaton A → IsAutomaton B → (R S : Pairing) (ranks : List ℕ) → IsFull A B R → IsPlayed A B R S ranks → Holds S.pairs A.initial B.initial ↔ IsDelayedSimulated A B
decided A B valid_a valid_b R S ranks full played = (
  λ held.
      let T : RankedPlacePairs = left_over B S ranks in
      let is = greatest A B valid_a valid_b R S ranks full played T (are_left B S ranks) in
      let o : Option ℕ = rank_in_table ranks B.states A.initial B.initial in
      (T, record { starts = (o, (are_left B S ranks A.initial B.initial o).1 (held, refl)); right = is.right }),
  λ (X, is). leaves_each A B valid_a valid_b R S ranks full played X is.right A.initial B.initial valid_a.initial_is_state valid_b.initial_is_state is.starts,
)

pub simulated_includes : (A B : Automaton) → IsAutomaton B → IsDelayedSimulated A B → Includes A B Buchi
simulated_includes A B valid (X, is) = delayed_includes A B X valid is

-- What the code reads.
pub full_board :
    (A B : Automaton) (R : Pairing) (m n : ℕ) → m ≡ A.states → n ≡ B.states → R.places ≡ m → R.states ≡ n → ((x q : ℕ) → x < m → q < n → Holds R.pairs x q) → IsFull A B R
full_board A B R m n rows columns places states pairs = record {
  places = places ∙ rows;
  states = states ∙ columns;
  pairs = λ x q x_in q_in. pairs x q (omega arith) (omega arith);
}

pub at_initial :
    (A B : Automaton) (S : Pairing) (row : List ℕ) (p q : ℕ) (bit : Bool) → p ≡ A.initial → q ≡ B.initial → ((s : ℕ) → HasBit row s ↔ Holds S.pairs p s) → bit ≡ bit_of row q →
    IsTrue bit ↔ Holds S.pairs A.initial B.initial
at_initial A B S row p q bit left right bits is = (
  λ t. subst (λ x. Holds S.pairs x B.initial) left (subst (λ y. Holds S.pairs p y) right ((bits q).0 (sym is ∙ t))),
  λ held. is ∙ (bits q).1 (subst (λ y. Holds S.pairs p y) (sym right) (subst (λ x. Holds S.pairs x B.initial) (sym left) held)),
)
