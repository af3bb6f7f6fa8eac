-- Closed pairs with ranks have no lost run, and are a ranked product.
use Rattle.std.proofs.Common.{◌≡◌, ℕ, zero, suc, ◌<◌, ◌≤◌, Bool, true, List, [], ◌∷◌, Contains, refl, sym, ◌∙◌, subst, inl, inr, arith, le_refl}
use Rattle.std.proofs.lemmas.Bool.{or_cases, false≢true, cases_eq}
use Rattle.auto_core.specs.Automaton.{Automaton, Moves, IsAutomaton, IsAccepting, is_accepting}
use Rattle.auto_core.specs.Run.{Run}
use Rattle.auto_core.specs.Useful.{Reaches, IsOnCycle}
use Rattle.auto_core.proofs.PathLemmas.{accepting_from_test}
use Rattle.auto_laws.proofs.PumpingLemmas.{move_in_range}
use Rattle.product_laws.specs.declared.RankedPair.{RankedPair}
use Rattle.product_laws.specs.Ranked.{IsDeterministic, HasRank, HasPair, RankGoesOn, IsRankedProduct}
use Rattle.product_laws.specs.Reached.{GoesTo, IsReachedPair, ReachesGoal, MovesReachGoals}
use Rattle.product_laws.specs.ClosedPairs.{AreClosedPairs, ClosedPairsAreProduct}
use Rattle.product_laws.proofs.GoesLemmas.{not_below, accepting_below, passes_end}

-- A run on a word that is not empty ends with a move.
last_move : (A : Automaton) (p a : ℕ) (w : List ℕ) (q : ℕ) (flag : Bool) → Run A p (a ∷ w) q flag → (r b : ℕ) × Moves A r b q
last_move A p a [] q flag (next, later, move, rest, is) = (p, a, subst (λ n. Moves A p a n) rest.0 move)
last_move A p a (b ∷ w) q flag (next, later, move, rest, is) = last_move A next b w q later rest

module _ (A B : Automaton) (pairs : List RankedPair) (valid : IsAutomaton B) (onward : MovesReachGoals A) (closed : AreClosedPairs A B pairs) where
  abbrev pair : ℕ → ℕ → ℕ → RankedPair
  pair p q rank = record { left = p; right = q; rank = rank }

  -- From no state B goes to no state.
  lost_on : (a s : ℕ) → GoesTo B B.states a s → s ≡ B.states
  lost_on a s goes = elim goes [ inl move ↦ absurd (not_below B.states (move_in_range B valid B.states a s move).0) | inr (is, none) ↦ is ]

  -- Along a run from a pair without a right state the rank does not grow, and falls where A accepts.
  follow : (p : ℕ) (w : List ℕ) (q : ℕ) (flag : Bool) (rank : ℕ) → Run A p w q flag → HasRank pairs p B.states rank →
      (after : ℕ) × HasRank pairs q B.states after × (after ≤ rank) × (flag ≡ true → after < rank)
  follow p [] q flag rank (is, plain) there = (rank, subst (λ n. HasRank pairs n B.states rank) is there, le_refl rank, λ on. absurd (false≢true (sym plain ∙ on)))
  follow p (a ∷ w) q flag rank (next, later, move, rest, is) there =
      let one = closed.moves (pair p B.states rank) there a next move in
      let s : ℕ = one.0 in
      let lost : s ≡ B.states = lost_on a s one.1 in
      let goes : GoesTo B B.states a B.states = subst (λ n. GoesTo B B.states a n) lost one.1 in
      let found : HasPair pairs next B.states = subst (λ n. HasPair pairs next n) lost one.2 in
      let middle : ℕ = found.0 in
      let on : RankGoesOn A B rank next B.states middle = closed.ranks (pair p B.states rank) there a next B.states middle move goes found.1 in
      let more = follow next w q later middle rest found.1 in
      let after : ℕ = more.0 in
      let low : after ≤ middle = more.2 in
      elim on [
        | inl accepts ↦ absurd (not_below B.states (accepting_below B valid B.states accepts))
        | inr (fall, less) ↦ (
          after,
          more.1,
          omega arith,
          λ marked. elim (or_cases (is_accepting A next) later (sym is ∙ marked)) [
            | inl now ↦ let lt : middle < rank = less (accepting_from_test A next now) in omega arith
            | inr then ↦ let lt : after < middle = more.3 then in omega arith
          ],
        )
      ]

  descend : (k goal : ℕ) (v : List ℕ) (rank : ℕ) → Run A goal v goal true → HasRank pairs goal B.states rank → rank ≤ k → ⊥
  descend zero goal v rank cycle there most = let turn = follow goal v goal true rank cycle there in let lt = turn.3 refl in omega arith
  descend (suc k) goal v rank cycle there most =
      let turn = follow goal v goal true rank cycle there in
      let lt = turn.3 refl in
      descend k goal v turn.0 cycle turn.1 (omega arith)

  reaches_goal : (p : ℕ) → IsReachedPair A B p B.states → ReachesGoal A p
  reaches_goal p ([], (left, right, run, goes)) = absurd (not_below B.states (subst (λ n. n < B.states) goes.0 valid.initial_is_state))
  reaches_goal p (a ∷ w, (left, right, run, goes)) = let (r, b, move) = last_move A A.initial a w p left run in onward r b p move

  no_lost : (p rank : ℕ) → HasRank pairs p B.states rank → ⊥
  no_lost p rank there =
      let ahead = reaches_goal p (closed.reached (pair p B.states rank) there) in
      let goal : ℕ = ahead.0 in
      let way : Reaches A p goal = ahead.1 in
      let at : IsAccepting A goal = ahead.2.0 in
      let cycle : IsOnCycle A goal = ahead.2.1 in
      let marked : cycle.1 ≡ true = passes_end A goal cycle.0 goal cycle.1 cycle.2 at cycle.3 in
      let to_goal = follow p way.0 goal way.1 rank way.2 there in
      descend to_goal.0 goal cycle.0 to_goal.0 (subst (λ b. Run A goal cycle.0 goal b) marked cycle.3) to_goal.1 (le_refl to_goal.0)

  below : (x : RankedPair) → Contains pairs x → x.right < B.states
  below x there =
      let most = closed.right x there in
      elim (cases_eq x.right B.states) [
        | inl e ↦ absurd (no_lost x.left x.rank (subst (λ n. HasRank pairs x.left n x.rank) e there))
        | inr apart ↦ omega arith
      ]

  product : IsDeterministic B → IsRankedProduct A B pairs
  product det = record {
    deterministic = det;
    starts = closed.starts;
    states = λ x there. (closed.left x there, below x there);
    moves = λ x there a r move.
        let one = closed.moves x there a r move in
        let s : ℕ = one.0 in
        let found : HasPair pairs r s = one.2 in
        elim one.1 [
          | inl goes ↦ (s, goes, found)
          | inr (lost, none) ↦ absurd (no_lost r found.0 (subst (λ n. HasRank pairs r n found.0) lost found.1))
        ];
    ranks = λ x there a r move s rank goes has. closed.ranks x there a r s rank move (inl goes) has;
  }

pub closed_pairs_are_product : ClosedPairsAreProduct
closed_pairs_are_product A B pairs valid det onward closed = product A B pairs valid onward closed det
