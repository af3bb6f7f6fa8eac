-- The pairs of a block, row by row and run by run.
use Rattle.std.proofs.Common.{◌≡◌, ◌↔◌, ◌⊎◌, ℕ, ◌+◌, ◌-◌, ◌<◌, inl, inr, List, [], ◌∷◌, ◌++◌, length, take, drop, slice_index_or, sym, ap, ◌∙◌, subst, arith, All, ◌≤◌, take_all, IsTrue, true, refl}
use Rattle.std.proofs.lemmas.Bool.{cases_lt}
use Rattle.std.specs.List.{flat_map, range_with_len}
use Rattle.std.proofs.lemmas.List.{map-append, take_more, drop_more}
use Rattle.std.proofs.lemmas.List.Elements.{Contains-append_cases, Contains-append_left, Contains-append_right, All-push}
use Rattle.auto_core.specs.Game.{Holds, Answers, Stable, ArePairsBelow}
use Rattle.auto_core.proofs.PathLemmas.{Contains-here, Contains-cons_cases, none_in_nil}
use Rattle.cert_value.specs.declared.types.Row.{Row}
use Rattle.cert_value.specs.declared.types.Run.{Run}
use Rattle.cert_value.specs.Text.{run_numbers, numbers_of}
use Rattle.cert_value.proofs.TextLemmas.{span_more}
use Rattle.log_check.specs.Blocks.{pairs_with, pairs_of_row}
use Rattle.log_check.specs.Stability.{IsRowStable}

-- The relation holds what it held and these pairs.
pub record HasMore (old now pairs : List (ℕ × ℕ)) : Type 0 where
  pub each : (p q : ℕ) → Holds now p q ↔ (Holds old p q ⊎ Holds pairs p q)

pub no_more : (old : List (ℕ × ℕ)) → HasMore old old []
no_more old = record { each = λ p q. (λ h. inl h, λ h. elim h [ inl x ↦ x | inr x ↦ absurd (none_in_nil (p, q) x) ]) }

-- More, and then more again.
pub more_join : (old now new xs ys : List (ℕ × ℕ)) → HasMore old now xs → HasMore now new ys → HasMore old new (xs ++ ys)
more_join old now new xs ys first then = record {
  each = λ p q. (
    λ h. elim ((then.each p q).0 h) [
      | inl before ↦ elim ((first.each p q).0 before) [ inl x ↦ inl x | inr x ↦ inr (Contains-append_left xs ys (p, q) x) ]
      | inr here ↦ inr (Contains-append_right xs ys (p, q) here)
    ],
    λ h. elim h [
      | inl x ↦ (then.each p q).1 (inl ((first.each p q).1 (inl x)))
      | inr x ↦ elim (Contains-append_cases xs ys (p, q) x) [
        | inl before ↦ (then.each p q).1 (inl ((first.each p q).1 (inr before)))
        | inr here ↦ (then.each p q).1 (inr here)
      ]
    ],
  );
}

pair_is : (p q r s : ℕ) → p ≡ r → q ≡ s → ◌≡◌ {A = ℕ × ℕ} (r, s) (p, q)
pair_is p q r s e f = subst (λ a. ◌≡◌ {A = ℕ × ℕ} (r, s) (a, q)) (sym e) (ap (λ b. (r, b)) (sym f))

pub one_more : (now new : List (ℕ × ℕ)) (left right : ℕ) → ((r s : ℕ) → Holds new r s ↔ (Holds now r s ⊎ ((r ≡ left) × (s ≡ right)))) → HasMore now new ((left, right) ∷ [])
one_more now new left right adds = record {
  each = λ p q. (
    λ h. elim ((adds p q).0 h) [ inl before ↦ inl before | inr same ↦ inr (Contains-here (left, right) (p, q) [] (pair_is p q left right same.0 same.1)) ],
    λ h. (adds p q).1 (elim h [
      | inl before ↦ inl before
      | inr x ↦ elim (Contains-cons_cases (left, right) (p, q) [] x) [
        | inl e ↦ inr (sym (ap (λ (z : ℕ × ℕ). z.0) e), sym (ap (λ (z : ℕ × ℕ). z.1) e))
        | inr none ↦ absurd (none_in_nil (p, q) none)
      ]
    ]),
  );
}

-- Whatever has the rest besides what is held now has all besides what was held.
abbrev pub Completes : List (ℕ × ℕ) → List (ℕ × ℕ) → List (ℕ × ℕ) → List (ℕ × ℕ) → Type 0
Completes old now rest all = (new : List (ℕ × ℕ)) → HasMore now new rest → HasMore old new all

pub completes_more :
    (old now next here rest left all : List (ℕ × ℕ)) → left ≡ here ++ rest → HasMore now next here → Completes old now left all → Completes old next rest all
completes_more old now next here rest left all is more before new then =
    before new (subst (HasMore now new) (sym is) (more_join now next new here rest more then))

pub completes_all : (old now left all : List (ℕ × ℕ)) → left ≡ [] → Completes old now left all → HasMore old now all
completes_all old now left all is before = before now (subst (HasMore now now) (sym is) (no_more now))

pub held_from_none : (now pairs : List (ℕ × ℕ)) → HasMore [] now pairs → (p q : ℕ) → Holds now p q ↔ Holds pairs p q
held_from_none now pairs has p q = (
  λ h. elim ((has.each p q).0 h) [ inl none ↦ absurd (none_in_nil (p, q) none) | inr x ↦ x ],
  λ h. (has.each p q).1 (inr h),
)

-- What is left of a run, of the runs of a row and of the rows of a block, and the first of it.
pub run_left : (left n last : ℕ) → n < last + 1 → pairs_with left (range_with_len n (last + 1 - n)) ≡ (left, n) ∷ pairs_with left (range_with_len (n + 1) (last + 1 - (n + 1)))
run_left left n last lt = ap (pairs_with left) (span_more n last lt)

pub runs_left : (left : ℕ) (runs : List Run) (k : ℕ) (d : Run) → k < length runs
    → pairs_with left (numbers_of (drop k runs)) ≡ pairs_with left (run_numbers (slice_index_or runs k d)) ++ pairs_with left (numbers_of (drop (k + 1) runs))
runs_left left runs k d lt =
    ap (λ l. pairs_with left (numbers_of l)) (drop_more runs k d lt)
    ∙ map-append (λ q. (left, q)) (run_numbers (slice_index_or runs k d)) (numbers_of (drop (k + 1) runs))

pub rows_left : (rows : List Row) (k : ℕ) (d : Row) → k < length rows → flat_map pairs_of_row (drop k rows) ≡ pairs_of_row (slice_index_or rows k d) ++ flat_map pairs_of_row (drop (k + 1) rows)
rows_left rows k d lt = ap (flat_map pairs_of_row) (drop_more rows k d lt)

-- One more of a list, and one more number.
pub all_more : {X : Type 0} (P : X → Type 0) (xs : List X) (k : ℕ) (x d : X) → k < length xs → x ≡ slice_index_or xs k d → All P (take k xs) → P x → All P (take (k + 1) xs)
all_more P xs k x d lt is h here = subst (All P) (sym (take_more xs k d lt)) (All-push P (take k xs) (slice_index_or xs k d) h (subst P is here))

pub all_told : {X : Type 0} (P : X → Type 0) (xs : List X) (k : ℕ) → length xs ≤ k → All P (take k xs) → IsTrue true ↔ All P xs
all_told P xs k le h = (λ told. subst (All P) (take_all k xs le) h, λ all. refl)

pub below_more : (P : ℕ → Type 0) (n : ℕ) → ((i : ℕ) → i < n → P i) → P n → (i : ℕ) → i < n + 1 → P i
below_more P n before here i lt = elim (cases_lt i n) [
  | inl less ↦ before i less
  | inr more ↦ let same : n ≡ i = omega arith in subst P same here
]

-- Stability looks at the relation's pairs alone.
answers_alike : (M : ℕ → ℕ → ℕ → Type 0) (ok W V : ℕ → ℕ → Type 0) → ((p q : ℕ) → W p q → V p q) → (q : ℕ) (w ps : List ℕ) → Answers M ok W q w ps → Answers M ok V q w ps
answers_alike M ok W V f q [] ps h = h
answers_alike M ok W V f q (a ∷ w) [] h = h
answers_alike M ok W V f q (a ∷ w) (p ∷ ps) (r, move, matched, more) =
    (r, move, matched, elim more [ inl here ↦ inl (f p r here) | inr later ↦ inr (answers_alike M ok W V f r w ps later) ])

pub stable_alike : (M : ℕ → ℕ → ℕ → Type 0) (ok : ℕ → ℕ → Type 0) (k : ℕ) (W V : ℕ → ℕ → Type 0) → ((p q : ℕ) → W p q ↔ V p q) → Stable M M ok k W → Stable M M ok k V
stable_alike M ok k W V same h p q v =
    let x = h p q ((same p q).1 v) in
    (x.0, λ w ps path shown. answers_alike M ok W V (λ r s. (same r s).0) q w ps (x.1 w ps path shown))

pub stable_from_rows : (M : ℕ → ℕ → ℕ → Type 0) (ok : ℕ → ℕ → Type 0) (k : ℕ) (S : List (ℕ × ℕ)) (n : ℕ) → ArePairsBelow n n S → ((p : ℕ) → p < n → IsRowStable M ok k (Holds S) n p) → Stable M M ok k (Holds S)
stable_from_rows M ok k S n below rows p q h = rows p (below p q h).0 q (below p q h).1 h
