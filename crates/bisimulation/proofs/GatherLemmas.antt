-- Members of a class that are gathered from its list.
use Rattle.std.proofs.Common.{◌≡◌, ℕ, ◌<◌, ◌⊎◌, inl, inr, List, [], ◌∷◌, ◌++◌, length, Contains, All, Some, arith, refl, sym, ap, ◌∙◌, subst}
use Rattle.std.proofs.lemmas.List.Elements.{All-push, All-pop, Contains-append_left, Contains-push, Contains-push_cases}
use Rattle.auto_core.specs.Quotient.{class_of}
use Rattle.bisimulation.specs.Rounds.{AreBelow}

-- What was on the list and is a member is on it still, or was found.
pub record IsGathering (of : List ℕ) (class : ℕ) (first now found : List ℕ) : Type 0 where
  pub left : AreBelow (length of) now
  pub below : AreBelow (length of) found
  pub all : (p : ℕ) → Contains first p → class_of of p ≡ class → Contains now p ⊎ Contains found p

pub gathering_starts : (of : List ℕ) (class : ℕ) (first found : List ℕ) → found ≡ [] → AreBelow (length of) first → IsGathering of class first first found
gathering_starts of class first found none below = record {
  left = below;
  below = subst (λ l. AreBelow (length of) l) (sym none) (λ k d lt. absurd (omega arith));
  all = λ p there is. inl there;
}

module _ (of : List ℕ) (class : ℕ) (first now rest found : List ℕ) (x : ℕ) (k : IsGathering of class first now found) (is : now ≡ rest ++ x ∷ []) where
  last_below : All (λ p. p < length of) rest × (x < length of)
  last_below =
      let all = subst (λ l. AreBelow (length of) l) is k.left in
      let popped = All-pop (λ p. p < length of) (rest ++ x ∷ []) rest (Some x) refl all in (popped.0, popped.1)

  -- the last on the list is a member
  pub gathered : IsGathering of class first rest (found ++ x ∷ [])
  unfolding last_below
  gathered = record {
    left = last_below.0;
    below = All-push (λ p. p < length of) found x k.below last_below.1;
    all = λ p there same. elim (k.all p there same) [
      | inl left ↦ elim (Contains-push_cases rest x p (subst (λ l. Contains l p) is left)) [
        | inl h ↦ inl h
        | inr e ↦ inr (subst (Contains (found ++ x ∷ [])) e (Contains-push found x))
      ]
      | inr old ↦ inr (Contains-append_left found (x ∷ []) p old)
    ];
  }

  -- it has left the class
  pub dropped : (class_of of x ≡ class → ⊥) → IsGathering of class first rest found
  unfolding last_below
  dropped apart = record {
    left = last_below.0;
    below = k.below;
    all = λ p there same. elim (k.all p there same) [
      | inl left ↦ elim (Contains-push_cases rest x p (subst (λ l. Contains l p) is left)) [
        | inl h ↦ inl h
        | inr e ↦ absurd (apart (ap (class_of of) e ∙ same))
      ]
      | inr old ↦ inr old
    ];
  }
