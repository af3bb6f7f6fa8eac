-- Pairs without a round are dropped until each has one: what is left is the greatest stable list.
use Rattle.std.proofs.Common.{ℕ, zero, suc, ◌+◌, ◌<◌, List, length, Contains, sym, subst, inl, inr, arith}
use Rattle.auto_core.specs.Automaton.{Moves}
use Rattle.auto_core.specs.Game.{BackwardMoves, MatchesForward, MatchesBackward, Round, Stable, Holds, ArePairsBelow, IsWithin, IsGreatest}
use Rattle.auto_laws.proofs.GameLemmas.{round_more}
use Rattle.auto_laws.specs.Greatest.{GreatestForwardIsThere, GreatestBackwardIsThere, GreatestAcrossIsThere}
use Rattle.auto_laws.proofs.DecisionLemmas.{Decided, decide_both, decide_held, keep, all_pairs, pairs_have, pairs_below}
use Rattle.auto_laws.proofs.MoveLemmas.{ListsMoves, forward_listing, backward_listing, decide_forward, decide_backward}
use Rattle.auto_laws.proofs.RoundLemmas.{decide_round}

module _ (M1 M2 : ℕ → ℕ → ℕ → Type 0) (shown : ListsMoves M1) (answered : ListsMoves M2) (ok : ℕ → ℕ → Type 0) (matched : (p q : ℕ) → Decided (ok p q)) (k m n : ℕ) where
  -- The pair matches and has its round in the list.
  abbrev Stays : List (ℕ × ℕ) → ℕ × ℕ → Type 0
  Stays S x = ok x.0 x.1 × Round M1 M2 ok k (Holds S) x.0 x.1

  decide_stays : (S : List (ℕ × ℕ)) (x : ℕ × ℕ) → Decided (Stays S x)
  decide_stays S x =
      decide_both (ok x.0 x.1) (Round M1 M2 ok k (Holds S) x.0 x.1) (matched x.0 x.1)
      (decide_round M1 M2 shown answered ok k (Holds S) matched (decide_held S) x.0 x.1)

  -- Each stable list is inside.
  abbrev HasEach : List (ℕ × ℕ) → Type 0
  HasEach S = (T : List (ℕ × ℕ)) → ArePairsBelow m n T → Stable M1 M2 ok k (Holds T) → IsWithin T S

  greatest_within : (fuel : ℕ) (S : List (ℕ × ℕ)) → length S < fuel → ArePairsBelow m n S → HasEach S → (G : List (ℕ × ℕ)) × IsGreatest M1 M2 ok k m n G
  greatest_within zero S short below each = absurd (omega arith)
  greatest_within (suc fuel) S short below each =
      let kept = keep (ℕ × ℕ) (Stays S) (decide_stays S) S in
      elim kept.less [
        | inl same ↦ (S, record { in_range = below; stable = λ p q h. (kept.each (p, q) (subst (λ l. Contains l (p, q)) (sym same) h)).1; has_each = each })
        | inr less ↦ greatest_within fuel kept.items (omega arith)
            (λ p q h. below p q (kept.each (p, q) h).0)
            (λ T range stable p q h.
            let good = stable p q h in
            kept.all (p, q) (each T range stable p q h) (good.0, round_more M1 M2 ok k (Holds T) (Holds S) (each T range stable) p q good.1))
      ]

  pub greatest_is_there : (G : List (ℕ × ℕ)) × IsGreatest M1 M2 ok k m n G
  greatest_is_there =
      greatest_within (length (all_pairs m n) + 1) (all_pairs m n) (omega arith) (pairs_below m n)
      (λ T range stable p q h. let r = range p q h in pairs_have m n p q r.0 r.1)

pub greatest_forward_is_there : GreatestForwardIsThere
greatest_forward_is_there A k = greatest_is_there (Moves A) (Moves A) (forward_listing A) (forward_listing A) (MatchesForward A A) (decide_forward A A) k A.states A.states

pub greatest_backward_is_there : GreatestBackwardIsThere
greatest_backward_is_there A k =
    greatest_is_there (BackwardMoves A) (BackwardMoves A) (backward_listing A) (backward_listing A) (MatchesBackward A A) (decide_backward A A) k A.states A.states

pub greatest_across_is_there : GreatestAcrossIsThere
greatest_across_is_there A B k = greatest_is_there (Moves A) (Moves B) (forward_listing A) (forward_listing B) (MatchesForward A B) (decide_forward A B) k A.states B.states
