-- What is left of a lasso or of a word is one, and has no new letters.
use Rattle.std.proofs.Common.{ℕ, ◌+◌, ◌-◌, Bool, true, false, List, length, take, drop, Contains, if◌then◌else◌, inl, inr, sym, subst}
use Rattle.std.specs.Prelude.{nat_lt}
use Rattle.std.proofs.lemmas.List.{take-append-drop}
use Rattle.std.proofs.lemmas.List.Elements.{Contains-append_left, Contains-append_right, Contains-append_cases}
use Rattle.auto_core.specs.Accept.{SeparatesWord}
use Rattle.auto_core.specs.declared.parts.Lasso.{Lasso}
use Rattle.lasso_shrink.specs.Shrinking.{word_without, letters_of, lasso_without, LassoSeparates}
use Rattle.lasso_shrink.specs.Laws.{ShrunkLassoIsOne, ShrunkWordIsOne, ShrinkingALassoAddsNoLetter, ShrinkingAWordAddsNoLetter}
use Rattle.lasso_shrink.proofs.LeavingLemmas.{shrunk_one, shrunk_keeps}

pub shrunk_lasso_is_one : ShrunkLassoIsOne
shrunk_lasso_is_one A B lasso one two a b = shrunk_one (LassoSeparates A B) letters_of lasso_without lasso one two a b

pub shrunk_word_is_one : ShrunkWordIsOne
shrunk_word_is_one A B word one two a b = shrunk_one (SeparatesWord A B) length word_without word one two a b

from_word : (w : List ℕ) (k a : ℕ) → Contains (word_without w k) a → Contains w a
from_word w k a h = elim (Contains-append_cases (take k w) (drop (k + 1) w) a h) [
  | inl early ↦ subst (λ l. Contains l a) (take-append-drop k w) (Contains-append_left (take k w) (drop k w) a early)
  | inr late ↦ subst (λ l. Contains l a) (take-append-drop (k + 1) w) (Contains-append_right (take (k + 1) w) (drop (k + 1) w) a late)
]

abbrev HasItsLetters : Lasso → ℕ → Lasso → Type 0
HasItsLetters lasso a left = (Contains left.prefix a → Contains lasso.prefix a) × (Contains left.turn a → Contains lasso.turn a)

from_lasso : (lasso now : Lasso) (k a : ℕ) → HasItsLetters lasso a now → HasItsLetters lasso a (lasso_without now k)
from_lasso lasso now k a has = go (nat_lt k (length now.prefix))
  where
    go : (b : Bool) → HasItsLetters lasso a (if b then record { prefix = word_without now.prefix k; turn = now.turn } else record { prefix = now.prefix; turn = word_without now.turn (k - length now.prefix) })
    go true = (λ h. has.0 (from_word now.prefix k a h), has.1)
    go false = (has.0, λ h. has.1 (from_word now.turn (k - length now.prefix) a h))

pub shrinking_a_lasso_adds_no_letter : ShrinkingALassoAddsNoLetter
shrinking_a_lasso_adds_no_letter A B lasso left a is =
    shrunk_keeps (LassoSeparates A B) letters_of lasso_without (HasItsLetters lasso a)
    (λ now next one has. subst (HasItsLetters lasso a) (sym one.is) (from_lasso lasso now one.place a has)) lasso left is (λ h. h, λ h. h)

pub shrinking_a_word_adds_no_letter : ShrinkingAWordAddsNoLetter
shrinking_a_word_adds_no_letter A B word left a is =
    shrunk_keeps (SeparatesWord A B) length word_without (λ now. Contains now a → Contains word a)
    (λ now next one has. subst (λ l. Contains l a → Contains word a) (sym one.is) (λ h. has (from_word now one.place a h))) word left is (λ h. h)
