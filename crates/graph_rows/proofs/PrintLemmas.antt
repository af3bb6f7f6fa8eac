-- Bits of prints, as they are set one after the other.
use Rattle.std.proofs.Common.{◌≡◌, ℕ, ◌+◌, ◌*◌, ◌<◌, ◌^◌, ◌/◌, ◌%◌, ◌==◌, ◌≤◌, ◌↔◌, inl, inr, Bool, true, false, List, [], ◌∷◌, length, get_or, sym, ap, ◌∙◌, subst, arith, bit_and, w64, refl}
use Rattle.std.specs.Int.{bit_at, bit_not, trailing_zeros}
use Rattle.std.proofs.lemmas.Nat.Bits.{bit_at-zero}
use Rattle.std.proofs.lemmas.Bool.{cases_eq, false≢true}
use Rattle.auto_core.specs.Rows.{HasBit, bit_of, cell_of}
use Rattle.auto_core.specs.Reach.{HasArc}
use Rattle.auto_core.proofs.BitLemmas.{missing_found, bit_past, word_within}
use Rattle.bit_rows.proofs.MeetLemmas.{meet_found}
use Rattle.graph_rows.specs.Block.{IsFormed, joined_plane, width_of}
use Rattle.graph_rows.specs.declared.prints.PairBits.{PairBits}
use Rattle.graph_rows.specs.Prints.{MissesAt}
use Rattle.graph_rows.proofs.ArcLemmas.{row_marks}

pub own_more :
    (P : ℕ → Type 0) (old now : List ℕ) (j : ℕ)
    → P j
    → ((i : ℕ) → ¬ (i ≡ j) → bit_of now i ≡ bit_of old i)
    → ((i : ℕ) → HasBit old i → P i)
    → (i : ℕ)
    → HasBit now i
    → P i
own_more P old now j here others all i bit = elim (cases_eq i j) [
  | inl e ↦ subst P (sym e) here
  | inr n ↦ all i (sym (others i n) ∙ bit)
]

-- What holds of each number below j without a bit holds of j too, if it has one or it holds of it.
pub rest_set :
    (Q : ℕ → Type 0) (old now : List ℕ) (j : ℕ)
    → HasBit now j
    → ((i : ℕ) → ¬ (i ≡ j) → bit_of now i ≡ bit_of old i)
    → ((i : ℕ) → i < j → bit_of old i ≡ false → Q i)
    → (i : ℕ)
    → i < j + 1
    → bit_of now i ≡ false
    → Q i
rest_set Q old now j here others all i below none = elim (cases_eq i j) [
  | inl e ↦ absurd (false≢true (sym none ∙ ap (bit_of now) e ∙ here))
  | inr n ↦ all i (omega arith) (sym (others i n) ∙ none)
]

pub rest_kept :
    (Q : ℕ → Type 0) (row : List ℕ) (j : ℕ)
    → Q j
    → ((i : ℕ) → i < j → bit_of row i ≡ false → Q i)
    → (i : ℕ)
    → i < j + 1
    → bit_of row i ≡ false
    → Q i
rest_kept Q row j here all i below none = elim (cases_eq i j) [
  | inl e ↦ subst Q (sym e) here
  | inr n ↦ all i (omega arith) none
]

pub missed :
    (first second : PairBits)
    → first.own < 2 ^ 64
    → second.answered < 2 ^ 64
    → bit_and first.own (bit_not w64 second.answered) < 2 ^ 64
    → ¬ (bit_and first.own (bit_not w64 second.answered) ≡ 0)
    → MissesAt first second
missed first second own_fits answered_fits fits some =
    let found = missing_found (first.own ∷ []) (second.answered ∷ []) 0 own_fits answered_fits (omega arith) fits some in
    let below = found.2 in
    record { at = 0 * 64 + trailing_zeros w64 (bit_and first.own (bit_not w64 second.answered)); within = below; own = found.0; unanswered = found.1 }

-- Where no bit of the first is missing in the second, nothing is missed.
pub none_missed :
    (first second : PairBits)
    → first.own < 2 ^ 64
    → second.answered < 2 ^ 64
    → bit_and first.own (bit_not w64 second.answered) ≡ 0
    → MissesAt first second
    → ⊥
none_missed first second own_fits answered_fits none m =
    false≢true (sym m.unanswered ∙ word_within (first.own ∷ []) (second.answered ∷ []) 0 own_fits answered_fits none m.at (omega (arith, m.within)) m.own)

pub one_word : (row : List ℕ) → length row ≡ 1 → row ≡ get_or row 0 0 ∷ []
one_word [] e = absurd (omega (e, arith))
one_word (x ∷ []) e = refl
one_word (x ∷ y ∷ row) e = absurd (omega (e, arith))

pub unmarked : (i : ℕ) → HasBit (0 ∷ []) i → ⊥
unmarked i bit = elim (cases_eq (i / 64) 0) [
  | inl e ↦ false≢true (sym (ap (λ k. bit_at (get_or (0 ∷ []) k 0) (i % 64) == 1) e ∙ ap (λ b. b == 1) (bit_at-zero (i % 64))) ∙ bit)
  | inr n ↦ false≢true (sym (bit_past (0 ∷ []) i (omega arith)) ∙ bit)
]

pub not_set : (b : Bool) → (b ≡ true → ⊥) → b ≡ false
not_set true unset = absurd (unset refl)
not_set false unset = refl

-- The bits of a row of the first plane are its arcs.
pub row_arcs :
    (n : ℕ) (block table row : List ℕ) (count width p : ℕ)
    → IsFormed n block
    → table ≡ joined_plane count block
    → count ≡ n
    → width ≡ (count + 63) / 64
    → p < n
    → ((q : ℕ) → q < width * 64 → bit_of row q ≡ cell_of table width p q)
    → ((q : ℕ) → width * 64 ≤ q → bit_of row q ≡ false)
    → (q : ℕ)
    → HasBit row q ↔ HasArc (joined_plane n block) n (width_of n) p q
row_arcs n block table row count width p formed table_is count_is width_is within bits outside =
    let w_is : width ≡ width_of n = width_is ∙ ap (λ k. (k + 63) / 64) count_is in
    row_marks (joined_plane n block) row n (width_of n) p formed.joined within
    (subst (λ t. (q : ℕ) → q < width_of n * 64 → bit_of row q ≡ cell_of t (width_of n) p q) (table_is ∙ ap (λ k. joined_plane k block) count_is)
    (subst (λ w. (q : ℕ) → q < w * 64 → bit_of row q ≡ cell_of table w p q) w_is bits))
    (subst (λ w. (q : ℕ) → w * 64 ≤ q → bit_of row q ≡ false) w_is outside)

-- Words with a bit in common.
pub words_meet : (x y : ℕ) → bit_and x y < 2 ^ 64 → ¬ (bit_and x y ≡ 0) → (q : ℕ) × HasBit (x ∷ []) q × HasBit (y ∷ []) q
words_meet x y fits some = meet_found (x ∷ []) (y ∷ []) 0 fits some
