-- Places: for each state a word whose bits tell which of some columns the state has.
use Rattle.std.proofs.Common.{◌≡◌, ℕ, ◌+◌, ◌*◌, ◌<◌, ◌≤◌, ◌⊎◌, ◌↔◌, inl, inr, true, false, ◌||◌, List, ◌∷◌, length, get_or, Contains, refl, sym, ap, ◌∙◌, subst, arith}
use Rattle.std.proofs.lemmas.Bool.{cases_eq, cases_lt, or_cases, or_left, or_right, false≢true}
use Rattle.std.proofs.lemmas.List.{get_or_default}
use Rattle.auto_core.specs.Automaton.{trans}
use Rattle.auto_core.specs.declared.parts.Trans.{Trans}
use Rattle.auto_core.specs.Rows.{bit_of, cell_of, HasBit, HasCell}
use Rattle.bit_rows.specs.Walks.{IsNextBit}
use Rattle.look_round.specs.Words.{AreColumns, AreWordPlaces, AreColumnPlaces, LeadsToPlace, AddsColumns}

-- The rows that the bits of `row` below `next` name are marked at one place.
pub record IsMarkedUpto (old now row : List ℕ) (width count at next : ℕ) : Type 0 where
  pub here : (r : ℕ) → r < count → HasCell now width r at ↔ (HasCell old width r at ⊎ ((r < next) × HasBit row r))
  pub others : (r s : ℕ) → s < width * 64 → ¬ (s ≡ at) → cell_of now width r s ≡ cell_of old width r s

pub marked_none : (old row : List ℕ) (width count at : ℕ) → IsMarkedUpto old old row width count at 0
marked_none old row width count at = record {
  here = λ r r_in. (λ cell. inl cell, λ either. elim either [ inl cell ↦ cell | inr is ↦ let lt = is.0 in absurd (omega arith) ]);
  others = λ r s near apart. refl;
}

-- one more row is marked
pub marked_more :
    (old now new row : List ℕ) (width count at next r : ℕ)
    → IsMarkedUpto old now row width count at next
    → IsNextBit row next r
    → at < width * 64
    → cell_of new width r at ≡ true
    → ((i s : ℕ) → s < width * 64 → ¬ ((i ≡ r) × (s ≡ at)) → cell_of new width i s ≡ cell_of now width i s)
    → IsMarkedUpto old new row width count at (r + 1)
marked_more old now new row width count at next r h bit near mark same = record {
  here = λ i i_in. elim (cases_eq i r) [
    | inl e ↦ (
      λ cell. inr (omega arith, subst (λ x. HasBit row x) (sym e) bit.here),
      λ either. subst (λ x. HasCell new width x at) (sym e) mark,
    )
    | inr apart ↦
        let kept = same i at near (λ x. apart x.0) in
        let was = h.here i i_in in (
          λ cell. elim (was.0 (sym kept ∙ cell)) [ inl first ↦ inl first | inr is ↦ let lt = is.0 in let le = bit.behind in inr (omega arith, is.1) ],
          λ either. kept ∙ was.1 (elim either [
            | inl first ↦ inl first
            | inr is ↦ elim (cases_lt i next) [
              | inl before ↦ inr (before, is.1)
              | inr from ↦ let lt = is.0 in absurd (false≢true (sym (bit.none_between i from (omega arith)) ∙ is.1))
            ]
          ]),
        )
  ];
  others = λ i s s_near apart. same i s s_near (λ x. apart x.1) ∙ h.others i s s_near apart;
}

-- all rows are marked
pub marked_all :
    (old now row : List ℕ) (width count at next : ℕ)
    → IsMarkedUpto old now row width count at next
    → ((r : ℕ) → next ≤ r → r < count → bit_of row r ≡ false)
    → (r : ℕ)
    → r < count
    → HasCell now width r at ↔ (HasCell old width r at ⊎ HasBit row r)
marked_all old now row width count at next h none r r_in = (
  λ cell. elim ((h.here r r_in).0 cell) [ inl first ↦ inl first | inr is ↦ inr is.1 ],
  λ either. (h.here r r_in).1 (elim either [
    | inl first ↦ inl first
    | inr bit ↦ elim (cases_lt r next) [ inl before ↦ inr (before, bit) | inr from ↦ absurd (false≢true (sym (none r from r_in) ∙ bit)) ]
  ]),
)

-- The words of the states have the places that the first n steps lead to by the letter.
abbrev pub HasPlacesUpto : (ℕ → Trans) → List ℕ → List ℕ → List ℕ → ℕ → ℕ → ℕ → Type 0
HasPlacesUpto steps places asked found states a n = (j q : ℕ) → j < 64 → q < states
    → HasCell found 1 q j ↔ ((i : ℕ) × (i < n) × ((steps i).source ≡ q) × ((steps i).label ≡ a) × HasBit asked (steps i).target × HasCell places 1 (steps i).target j)

pub no_places_yet :
    (steps : ℕ → Trans) (places asked found : List ℕ) (states a : ℕ)
    → ((i : ℕ) → bit_of found i ≡ false)
    → HasPlacesUpto steps places asked found states a 0
no_places_yet steps places asked found states a clear j q j_in q_in =
    (λ cell. absurd (false≢true (sym (clear (q * 1 * 64 + j)) ∙ cell)), λ is. let lt = is.1 in absurd (omega arith))

-- one more step leads to places
pub places_more :
    (steps : ℕ → Trans) (places asked old new row : List ℕ) (states a n : ℕ)
    → HasPlacesUpto steps places asked old states a n
    → (m : Trans)
    → m ≡ steps n
    → m.label ≡ a
    → HasBit asked m.target
    → ((j : ℕ) → j < 64 → bit_of row j ≡ cell_of places 1 m.target j)
    → ((j : ℕ) → j < 64 → cell_of new 1 m.source j ≡ (cell_of old 1 m.source j || bit_of row j))
    → ((q j : ℕ) → j < 64 → ¬ (q ≡ m.source) → cell_of new 1 q j ≡ cell_of old 1 q j)
    → HasPlacesUpto steps places asked new states a (n + 1)
places_more steps places asked old new row states a n h m is label bit bits here others j q j_in q_in =
    let S : Trans → Type 0 = λ x. x.source ≡ q in
    let L : Trans → Type 0 = λ x. x.label ≡ a in
    let B : Trans → Type 0 = λ x. HasBit asked x.target in
    let C : Trans → Type 0 = λ x. HasCell places 1 x.target j in
    elim (cases_eq q m.source) [
      | inl e ↦
          let old_cell : cell_of old 1 m.source j ≡ cell_of old 1 q j = ap (λ x. cell_of old 1 x j) (sym e) in
          let new_cell : cell_of new 1 q j ≡ cell_of new 1 m.source j = ap (λ x. cell_of new 1 x j) e in
          let both : cell_of new 1 q j ≡ (cell_of old 1 q j || cell_of places 1 m.target j) =
          new_cell ∙ here j j_in ∙ ap (λ x. x || bit_of row j) old_cell ∙ ap (λ x. cell_of old 1 q j || x) (bits j j_in) in (
            λ have. elim (or_cases (cell_of old 1 q j) (cell_of places 1 m.target j) (sym both ∙ have)) [
              | inl was ↦ let found = (h j q j_in q_in).0 was in let lt = found.1 in (found.0, omega arith, found.2, found.3, found.4, found.5)
              | inr place ↦ (n, omega arith, subst S is (sym e), subst L is label, subst B is bit, subst C is place)
            ],
            λ found. both ∙ elim (cases_eq found.0 n) [
              | inl last ↦ or_right (cell_of old 1 q j) (cell_of places 1 m.target j) (subst C (ap steps last ∙ sym is) found.5)
              | inr apart ↦ let lt = found.1 in or_left (cell_of old 1 q j) (cell_of places 1 m.target j) ((h j q j_in q_in).1 (found.0, omega arith, found.2, found.3, found.4, found.5))
            ],
          )
      | inr apart ↦
          let same = others q j j_in apart in (
            λ have. let found = (h j q j_in q_in).0 (sym same ∙ have) in let lt = found.1 in (found.0, omega arith, found.2, found.3, found.4, found.5),
            λ found. same ∙ elim (cases_eq found.0 n) [
              | inl last ↦ absurd (apart (sym (subst S (ap steps last ∙ sym is) found.2)))
              | inr before ↦ let lt = found.1 in (h j q j_in q_in).1 (found.0, omega arith, found.2, found.3, found.4, found.5)
            ],
          )
    ]

-- one more step leads to none
pub places_passed :
    (steps : ℕ → Trans) (places asked found : List ℕ) (states a n : ℕ)
    → HasPlacesUpto steps places asked found states a n
    → (m : Trans)
    → m ≡ steps n
    → (m.label ≡ a → HasBit asked m.target → ⊥)
    → HasPlacesUpto steps places asked found states a (n + 1)
places_passed steps places asked found states a n h m is none j q j_in q_in =
    let L : Trans → Type 0 = λ x. x.label ≡ a in
    let B : Trans → Type 0 = λ x. HasBit asked x.target in (
      λ cell. let was = (h j q j_in q_in).0 cell in let lt = was.1 in (was.0, omega arith, was.2, was.3, was.4, was.5),
      λ found_place. elim (cases_eq found_place.0 n) [
        | inl last ↦
            let same : steps found_place.0 ≡ m = ap steps last ∙ sym is in
            absurd (none (subst L same found_place.3) (subst B same found_place.4))
        | inr apart ↦ let lt = found_place.1 in (h j q j_in q_in).1 (found_place.0, omega arith, found_place.2, found_place.3, found_place.4, found_place.5)
      ],
    )

same_parts : (t : Trans) (p a : ℕ) → t.source ≡ p → t.label ≡ a → t ≡ trans p a t.target
same_parts t p a e f = ap (λ x. trans x t.label t.target) e ∙ ap (λ x. trans p x t.target) f

-- all steps have been tried
pub places_all :
    (M : ℕ → ℕ → ℕ → Type 0) (see : Trans → Trans) (ts : List Trans) (places asked found : List ℕ) (states a n : ℕ)
    → ((p b r : ℕ) → M p b r ↔ ((t : Trans) × Contains ts t × (see t ≡ trans p b r)))
    → HasPlacesUpto (λ i. see (get_or ts i (trans 0 0 0))) places asked found states a n
    → n ≡ length ts
    → (j q : ℕ)
    → j < 64
    → q < states
    → HasCell found 1 q j ↔ LeadsToPlace M places asked a j q
places_all M see ts places asked found states a n sees h all j q j_in q_in = (
  λ cell.
      let (i, i_in, source, label, asks, place) = (h j q j_in q_in).0 cell in
      let t : Trans = get_or ts i (trans 0 0 0) in
      let there : Contains ts t = (i, omega arith, get_or_default ts i t (trans 0 0 0) (omega arith)) in
      ((see t).target, (sees q a (see t).target).1 (t, there, same_parts (see t) q a source label), asks, place),
  λ (r, go, asks, place).
      let (t, (i, i_in, is), e) = (sees q a r).0 go in
      let here : see (get_or ts i (trans 0 0 0)) ≡ trans q a r = ap see (get_or_default ts i (trans 0 0 0) t i_in ∙ is) ∙ e in
      let B : Trans → Type 0 = λ x. HasBit asked x.target in
      let C : Trans → Type 0 = λ x. HasCell places 1 x.target j in
      (h j q j_in q_in).1 (i, omega arith, ap (λ (x : Trans). x.source) here, ap (λ (x : Trans). x.label) here, subst B (sym here) asks, subst C (sym here) place),
)

-- Columns that were added are those of words that go on with the word of one place.
pub columns_more :
    (M : ℕ → ℕ → ℕ → Type 0) (ok : ℕ → ℕ → Type 0) (n : ℕ) (old new places asked made : List ℕ) (width count more used a kind : ℕ)
    → n ≤ width * 64
    → ((q b r : ℕ) → M q b r → r < n)
    → ((r : ℕ) → r < width * 64 → HasBit asked r ↔ ((r < n) × ok kind r))
    → AreColumns M ok n old width count
    → AreWordPlaces M ok n places used
    → used ≤ 64
    → ((j q : ℕ) → j < 64 → q < n → HasCell made width j q ↔ LeadsToPlace M places asked a j q)
    → AddsColumns old new width count more made used
    → AreColumns M ok n new width more
columns_more M ok n old new places asked made width count more used a kind room stays asks columns words few steps adds i i_in =
    elim (cases_lt i count) [
      | inl before ↦
          let is = columns i before in (
            is.0,
            λ q q_in.
                let same = adds.kept i q before (omega arith) in
                (λ cell. (is.1 q q_in).0 (sym same ∙ cell), λ has. same ∙ (is.1 q q_in).1 has),
          )
      | inr from ↦
          let (j, j_in, same) = adds.each i from i_in in
          let (w, is) = words j j_in in (
            (a, kind) ∷ w,
            λ q q_in. (
              λ cell.
                  let (r, go, bit, place) = (steps j q (omega arith) q_in).0 (sym (same q (omega arith)) ∙ cell) in
                  let r_in : r < n = stays q a r go in
                  (r, go, ((asks r (omega arith)).0 bit).1, (is r r_in).0 place),
              λ (r, go, match, has).
                  let r_in : r < n = stays q a r go in
                  same q (omega arith) ∙ (steps j q (omega arith) q_in).1 (r, go, (asks r (omega arith)).1 (r_in, match), (is r r_in).1 has),
            ),
          )
    ]

-- places that are columns have the words of these
pub places_of_columns :
    (M : ℕ → ℕ → ℕ → Type 0) (ok : ℕ → ℕ → Type 0) (n : ℕ) (places : List ℕ) (used : ℕ) (columns : List ℕ) (width count : ℕ)
    → AreColumns M ok n columns width count
    → AreColumnPlaces n places used columns width count
    → AreWordPlaces M ok n places used
places_of_columns M ok n places used columns width count words these j j_in =
    let (i, i_in, same) = these j j_in in
    let (w, is) = words i i_in in
    (w, λ q q_in. (λ cell. (is q q_in).0 ((same q q_in).0 cell), λ has. (same q q_in).1 ((is q q_in).1 has)))

-- Places are filled, and the rest of the places are on no state.
pub record IsFilledUpto (n : ℕ) (places : List ℕ) (used : ℕ) (columns : List ℕ) (width count : ℕ) : Type 0 where
  pub filled : AreColumnPlaces n places used columns width count
  pub few : used ≤ 64
  pub rest : (q j : ℕ) → q < n → used ≤ j → j < 64 → cell_of places 1 q j ≡ false

pub filled_none :
    (n : ℕ) (places columns : List ℕ) (width count : ℕ)
    → ((i : ℕ) → bit_of places i ≡ false)
    → IsFilledUpto n places 0 columns width count
filled_none n places columns width count clear = record {
  filled = λ j j_in. absurd (omega arith);
  few = omega arith;
  rest = λ q j q_in from near. clear (q * 1 * 64 + j);
}

-- one more place is filled
pub filled_more :
    (n : ℕ) (old new columns column : List ℕ) (width count used at : ℕ)
    → n ≤ width * 64
    → IsFilledUpto n old used columns width count
    → at < count
    → used < 64
    → ((q : ℕ) → q < width * 64 → bit_of column q ≡ cell_of columns width at q)
    → ((q : ℕ) → q < n → HasCell new 1 q used ↔ (HasCell old 1 q used ⊎ HasBit column q))
    → ((q j : ℕ) → j < 64 → ¬ (j ≡ used) → cell_of new 1 q j ≡ cell_of old 1 q j)
    → IsFilledUpto n new (used + 1) columns width count
filled_more n old new columns column width count used at room h at_in free bits here others = record {
  filled = λ j j_in. elim (cases_eq j used) [
    | inl e ↦
        let P : ℕ → Type 0 = λ x. (i : ℕ) × (i < count) × ((q : ℕ) → q < n → HasCell new 1 q x ↔ HasCell columns width i q) in
        subst P (sym e) (
          at,
          at_in,
          λ q q_in. (
            λ cell. elim ((here q q_in).0 cell) [
              | inl was ↦ absurd (false≢true (sym (h.rest q used q_in (omega arith) free) ∙ was))
              | inr bit ↦ sym (bits q (omega arith)) ∙ bit
            ],
            λ cell. (here q q_in).1 (inr (bits q (omega arith) ∙ cell)),
          ),
        )
    | inr apart ↦
        let is = h.filled j (omega arith) in (
          is.0,
          is.1,
          λ q q_in.
              let same = others q j (omega arith) apart in
              (λ cell. (is.2 q q_in).0 (sym same ∙ cell), λ cell. same ∙ (is.2 q q_in).1 cell),
        )
  ];
  few = omega arith;
  rest = λ q j q_in from near. others q j near (λ e. omega arith) ∙ h.rest q j q_in (omega arith) near;
}
