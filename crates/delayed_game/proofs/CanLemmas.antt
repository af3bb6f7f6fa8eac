-- The ranks that pairs can have.
use Rattle.std.proofs.Common.{◌≡◌, ℕ, zero, suc, ◌<◌, ◌≤◌, List, inl, inr, Bool, true, false, Option, None, Some, sym, ap, ◌∙◌, subst, arith}
use Rattle.std.proofs.lemmas.Bool.{cases_eq, false≢true}
use Rattle.auto_core.specs.Automaton.{Automaton, IsAccepting}
use Rattle.delayed_game.specs.Across.{RankedPlacePairs, HoldsPlacePair, HasPlacePairRank, IsRightAcross}
use Rattle.delayed_game.specs.Boards.{AreLeastRanks}
use Rattle.delayed_game.specs.Levels.{CanHave}
use Rattle.delayed_game.specs.Settling.{HasSomeRank}

module _ (L A : Automaton) (R : ℕ → ℕ → Type 0) where
  pub can_holds : (r p q : ℕ) → CanHave L A R r p q → R p q
  can_holds zero p q h = h.0
  can_holds (suc r) p q h = h.0

  pub can_accepting : (r p q : ℕ) → R p q → IsAccepting A q → CanHave L A R r p q
  can_accepting zero p q held accepting = (held, accepting)
  can_accepting (suc r) p q held accepting = (held, inl accepting)

  pub can_one_more : (r p q : ℕ) → CanHave L A R r p q → CanHave L A R (suc r) p q
  can_one_more zero p q h = (h.0, inl h.1)
  can_one_more (suc r) p q h = (
    h.0,
    elim h.1 [
      | inl accepting ↦ inl accepting
      | inr answers ↦ inr (λ a p' move. let answer = answers a p' move in (answer.0, answer.1, can_one_more r p' answer.0 answer.2))
    ],
  )

  pub can_upto : (s r p q : ℕ) → r ≤ s → CanHave L A R r p q → CanHave L A R s p q
  can_upto zero r p q le h = subst (λ n. CanHave L A R n p q) (none r le) h
    where
      none : (r : ℕ) → r ≤ zero → r ≡ zero
      none r le = omega arith
  can_upto (suc s) r p q le h = elim (cases_eq r (suc s)) [
    | inl e ↦ subst (λ n. CanHave L A R n p q) e h
    | inr apart ↦ can_one_more s p q (can_upto s r p q (omega arith) h)
  ]

  -- the ranks of a right relation inside R can be had
  pub right_can : (X : RankedPlacePairs) → IsRightAcross L A X → ((p q : ℕ) → HoldsPlacePair X p q → R p q) → (n p q r : ℕ) → r ≤ n → HasPlacePairRank X p q r → CanHave L A R n p q
  right_can X right inside zero p q r le h = (inside p q (Some r, h), right.at_zero p q (subst (λ x. HasPlacePairRank X p q x) (none r le) h))
    where
      none : (r : ℕ) → r ≤ zero → r ≡ zero
      none r le = omega arith
  right_can X right inside (suc n) p q r le h = (
    inside p q (Some r, h),
    elim (cases_eq r 0) [
      | inl e ↦ inl (right.at_zero p q (subst (λ x. HasPlacePairRank X p q x) e h))
      | inr apart ↦ inr (λ a p' move.
          let answer = right.above_zero p q r a p' h (omega arith) move in
          let lt = answer.4 in
          (answer.0, answer.2, right_can X right inside n p' answer.0 answer.1 (omega arith) answer.3))
    ],
  )

-- a relation that has each pair that can have a rank
pub can_stays :
    (L A : Automaton) (R S : ℕ → ℕ → Type 0) → ((r p q : ℕ) → CanHave L A R r p q → S p q) → (r p q : ℕ) → CanHave L A R r p q → CanHave L A S r p q
can_stays L A R S each zero p q h = (each 0 p q h, h.1)
can_stays L A R S each (suc r) p q h = (
  each (suc r) p q h,
  elim h.1 [
    | inl accepting ↦ inl accepting
    | inr answers ↦ inr (λ a p' move. let answer = answers a p' move in (answer.0, answer.1, can_stays L A R S each r p' answer.0 answer.2))
  ],
)

-- a relation of the same pairs
pub can_same : (L A : Automaton) (R S : ℕ → ℕ → Type 0) → ((p q : ℕ) → R p q → S p q) → (r p q : ℕ) → CanHave L A R r p q → CanHave L A S r p q
can_same L A R S more = can_stays L A R S (λ r p q h. more p q (can_holds L A R r p q h))

-- where no pair goes that has a rank, the least ranks stay
pub least_stays :
    (L A : Automaton) (R S : ℕ → ℕ → Type 0) (ranks : List ℕ)
    → ((p q : ℕ) → R p q → (p < L.states) × (q < A.states))
    → ((p q : ℕ) → S p q → R p q)
    → ((p q : ℕ) → p < L.states → q < A.states → HasSomeRank ranks A.states p q → S p q)
    → AreLeastRanks L A R ranks
    → AreLeastRanks L A S ranks
least_stays L A R S ranks inside within ranked was = record {
  len = was.len;
  each = λ p q r p_in q_in is.
      let least = was.each p q r p_in q_in is in
      record {
        can = stays r p q least.can;
        least = λ s can. least.least s (can_same L A S R within s p q can);
      };
  all = λ p q r p_in q_in can. was.all p q r p_in q_in (can_same L A S R within r p q can);
}
  where
    stays : (r p q : ℕ) → CanHave L A R r p q → CanHave L A S r p q
    stays = can_stays L A R S (λ r p q can.
        let range = inside p q (can_holds L A R r p q can) in
        ranked p q range.0 range.1 (was.all p q r range.0 range.1 can))

-- a place of the table has one rank at most
pub none_is_some : (o : Option ℕ) (r : ℕ) → o ≡ None → o ≡ Some r → ⊥
none_is_some o r n s = false≢true (ap has (sym n ∙ s))
  where
    has : Option ℕ → Bool
    has None = false
    has (Some x) = true

pub some_is : (o : Option ℕ) (r s : ℕ) → o ≡ Some r → o ≡ Some s → r ≡ s
some_is o r s a b = ap (λ (x : Option ℕ). value x) (sym a ∙ b)
  where
    value : Option ℕ → ℕ
    value (Some x) = x
    value None = zero
