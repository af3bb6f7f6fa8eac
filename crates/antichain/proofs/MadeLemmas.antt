-- Sets that are remembered stay true as others are remembered.
use Rattle.std.proofs.Common.{◌≡◌, ℕ, List, [], refl, sym, subst, inl, inr, arith}
use Rattle.auto_core.specs.Automaton.{Automaton}
use Rattle.auto_core.specs.Outcome.{At}
use Rattle.auto_laws.proofs.PlaceLemmas.{at_cases, at_within}
use Rattle.antichain.specs.declared.sets.Made.{Made}
use Rattle.antichain.specs.Made.{IsMade, AreMade, IsRemembered, HasRemembered}

-- Of none there is nothing to show.
pub none_made : (B : Automaton) (S : List (ℕ × ℕ)) (made : List Made) → made ≡ [] → AreMade B S made
none_made B S made none k m is = let within = at_within [] k m (subst (λ l. At l k m) none is) in absurd (omega arith)

pub made_more : (B : Automaton) (S : List (ℕ × ℕ)) (m : Made) (old now : List Made) (number : ℕ) → AreMade B S old → IsMade B S m → HasRemembered m old now number → AreMade B S now
made_more B S m old now number all one is k x x_is = elim is.others [
  | inl more ↦ elim (at_cases old m k x (subst (λ l. At l k x) more x_is)) [
    | inl was ↦ all k x was
    | inr new ↦ subst (IsMade B S) (sym new.1) one
  ]
  | inr alone ↦ elim (at_cases [] m k x (subst (λ l. At l k x) alone x_is)) [
    | inl was ↦ none_made B S [] refl k x was
    | inr new ↦ subst (IsMade B S) (sym new.1) one
  ]
]

-- The set that was remembered is known for its letter and its set.
pub remembered_known : (m : Made) (old now : List Made) (number label : ℕ) (from : List ℕ) → HasRemembered m old now number → m.label ≡ label → m.from.items ≡ from → IsRemembered now label from number
remembered_known m old now number label from is label_is from_is = record { element = m; is = is.is; label_is = label_is; from_is = from_is }
