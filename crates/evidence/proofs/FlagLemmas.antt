-- The flags of the elements when one more has entered behind them: those that it subsumes are taken away, and its own is set.
use Rattle.std.proofs.Common.{◌≡◌, ℕ, ◌+◌, ◌<◌, ◌⊎◌, Bool, true, false, List, [], ◌∷◌, ◌++◌, length, slice_index_or, sym, ap, ◌∙◌, subst, inl, inr, arith, length-append}
use Rattle.std.proofs.lemmas.Bool.{cases_lt, false≢true}
use Rattle.std.proofs.lemmas.List.{get_or_append_left, get_or-append-add}
use Rattle.auto_core.specs.Outcome.{At, Entry, Rules, StaysLive, IsDropped, TellsLive}
use Rattle.auto_laws.proofs.PlaceLemmas.{at_within, at_more, at_new, at_cases, at_before}

-- One more flag behind.
pub flag_before : (flags : List Bool) (i : ℕ) → i < length flags → slice_index_or (flags ++ true ∷ []) i false ≡ slice_index_or flags i false
flag_before flags i lt = get_or_append_left flags (true ∷ []) false i lt

pub flag_last : (flags : List Bool) (i : ℕ) → i ≡ length flags → slice_index_or (flags ++ true ∷ []) i false ≡ true
flag_last flags i e = let there : i ≡ length flags + 0 = omega arith in ap (λ k. slice_index_or (flags ++ true ∷ []) k false) there ∙ get_or-append-add flags (true ∷ []) 0 false

-- Two lists whose elements stand for one another, place by place, and one more of each behind.
pub stand_more : (H : Type 0) (Stands : H → Entry → Type 0) (held : List H) (es : List Entry) (h : H) (c : Entry) → length held ≡ length es → Stands h c →
    ((i : ℕ) (k : H) (x : Entry) → At held i k → At es i x → Stands k x) → (i : ℕ) (k : H) (x : Entry) → At (held ++ h ∷ []) i k → At (es ++ c ∷ []) i x → Stands k x
stand_more H Stands held es h c size stands each i k x k_is x_is = elim (at_cases es c i x x_is) [
  | inl x_old ↦ let within = at_within es i x x_old in each i k x (at_before held h i k (omega arith) k_is) x_old
  | inr new ↦ elim (at_cases held h i k k_is) [
    | inl k_old ↦ let within = at_within held i k k_old in let e = new.0 in absurd (omega arith)
    | inr both ↦ subst (λ z. Stands k z) (sym new.1) (subst (λ z. Stands z c) (sym both.1) stands)
  ]
]

-- The flags tell which elements are live.
module _ (R : Rules Entry) (es : List Entry) (c : Entry) (was flags : List Bool) (size : length flags ≡ length es) (tells : TellsLive R es (λ i. slice_index_or was i false))
    (each : (i : ℕ) → (slice_index_or flags i false ≡ slice_index_or was i false) ⊎ ((slice_index_or flags i false ≡ false) × (x : Entry) × At es i x × R.subsumes c x))
    (all : (i : ℕ) (x : Entry) → At es i x → slice_index_or was i false ≡ true → R.subsumes c x → slice_index_or flags i false ≡ false)
  where
    abbrev next : List Entry
    next = es ++ c ∷ []

    pub flag_was : (i : ℕ) → slice_index_or flags i false ≡ true → slice_index_or was i false ≡ true
    flag_was i is = elim (each i) [ inl same ↦ sym same ∙ is | inr gone ↦ absurd (false≢true (sym gone.0 ∙ is)) ]

    stays : (i : ℕ) → i < length next → slice_index_or (flags ++ true ∷ []) i false ≡ true → StaysLive R next i
    stays i lt is j x y later x_is y_is subsumes =
        let total = length-append es (c ∷ []) in
        let bound = at_within next j y y_is in
        elim (at_cases es c i x x_is) [
          | inr new ↦ let e = new.0 in absurd (omega arith)
          | inl x_old ↦
              let within = at_within es i x x_old in
              let flag : slice_index_or flags i false ≡ true = sym (flag_before flags i (omega arith)) ∙ is in
              elim (at_cases es c j y y_is) [
                | inl y_old ↦ tells.stays i within (flag_was i flag) j x y later x_old y_old subsumes
                | inr last ↦ false≢true (sym (all i x x_old (flag_was i flag) (subst (λ z. R.subsumes z x) last.1 subsumes)) ∙ flag)
              ]
        ]

    drops : (i : ℕ) → i < length next → slice_index_or (flags ++ true ∷ []) i false ≡ false → IsDropped R next i
    drops i lt is =
        let total = length-append es (c ∷ []) in
        elim (cases_lt i (length es)) [
          | inr last ↦ absurd (false≢true (sym is ∙ flag_last flags i (omega arith)))
          | inl within ↦ elim (each i) [
            | inl same ↦
                let d = tells.drops i within (sym same ∙ sym (flag_before flags i (omega arith)) ∙ is) in
                record {
                  place = d.place;
                  element = d.element;
                  by = d.by;
                  later = d.later;
                  is = at_more es (c ∷ []) i d.element d.is;
                  by_is = at_more es (c ∷ []) d.place d.by d.by_is;
                  subsumes = d.subsumes;
                }
            | inr gone ↦
                record { place = length es; element = gone.1; by = c; later = within; is = at_more es (c ∷ []) i gone.1 gone.2; by_is = at_new es c; subsumes = gone.3 }
          ]
        ]

    pub tells_more : TellsLive R next (λ i. slice_index_or (flags ++ true ∷ []) i false)
    tells_more = record { stays = stays; drops = drops }
