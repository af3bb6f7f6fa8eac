-- The list of all triples.
use Rattle.std.proofs.Common.{◌≡◌, ℕ, ◌+◌, ◌-◌, ◌*◌, ◌/◌, ◌%◌, ◌^◌, ◌<◌, ◌≤◌, inl, inr, None, List, [], ◌∷◌, ◌++◌, length, get_or, take, refl, sym, ap, ◌∙◌, subst, arith, length-append}
use Rattle.std.proofs.lemmas.Bool.{cases_eq, cases_order}
use Rattle.std.proofs.lemmas.Nat.{div-add-mod', div-mul-add, mod-mul-add, mod_below, div_below}
use Rattle.std.proofs.lemmas.List.{get_or_push, get_or_append_left, map_push}
use Rattle.auto_core.specs.Delayed.{RankedTriples, IsTripleWord, HoldsTriple, AreTriplesOf}
use Rattle.delayed_sim.specs.declared.entries.Entry.{Entry}
use Rattle.delayed_sim.specs.Stored.{triple_of, entry_triples}
use Rattle.delayed_sim.specs.Rankings.{Triple, IsTripleBefore, AreTriplesInOrder}
use Rattle.delayed_sim.specs.Words.{digits, place_of, triple_here}
use Rattle.delayed_sim.proofs.FewLemmas.{place_rises}
use Rattle.delayed_sim.proofs.ListLemmas.{here_before, entry_here}
use Rattle.delayed_sim.proofs.PlaceLemmas.{letters_of_place, state_of_place, place_state, place_letters, place_below}

-- The triple with this number, in a game with n letters on so many states.
abbrev pub full_triple : ℕ → ℕ → ℕ → ℕ → Triple
full_triple labels n states i = triple_here labels n states [] (i / states) (i % states)

-- The list has just the triples with a lower number.
abbrev pub IsFull : ℕ → ℕ → ℕ → ℕ → RankedTriples → Type 0
IsFull labels n states upto T = (length T ≡ upto) × ((i : ℕ) (d : Triple) → i < upto → get_or T i d ≡ full_triple labels n states i)

pub full_none : (labels n states : ℕ) → IsFull labels n states 0 []
full_none labels n states = (refl, λ i d lt. absurd (omega arith))

full_more : (labels n states i : ℕ) (T : RankedTriples) (t : Triple) → IsFull labels n states i T → t ≡ full_triple labels n states i → IsFull labels n states (i + 1) (T ++ t ∷ [])
full_more labels n states i T t h is = (
  length-append T (t ∷ []) ∙ ap (λ k. k + 1) h.0,
  λ k d lt. elim (cases_eq k i) [
    | inl e ↦ ap (λ j. get_or (T ++ t ∷ []) j d) e ∙ get_or_push T t d i h.0 ∙ is ∙ ap (full_triple labels n states) (sym e)
    | inr apart ↦ get_or_append_left T (t ∷ []) d k (omega (arith, h.0)) ∙ h.1 k d (omega arith)
  ],
)

-- an entry more has a triple more
pub full_push :
    (labels n states i words : ℕ) (entries : List Entry) (e : Entry)
    → IsFull labels n states i (entry_triples n entries)
    → words ≡ labels ^ (n - 1)
    → e.left ≡ i / states / words
    → take (n - 1) e.ahead ≡ digits labels (n - 1) (i / states % words)
    → e.right ≡ i % states
    → e.rank ≡ None
    → IsFull labels n states (i + 1) (entry_triples n (entries ++ e ∷ []))
full_push labels n states i words entries e h is left word right rank =
    subst (IsFull labels n states (i + 1)) (sym (map_push (triple_of n) entries e))
    (full_more labels n states i (entry_triples n entries) (triple_of n e) h
    (entry_here labels n states [] (i / states) (i % states) e (left ∙ ap (λ w. i / states / w) is) (word ∙ ap (λ w. digits labels (n - 1) (i / states % w)) is) right rank))

module _ (labels n states upto : ℕ) (T : RankedTriples) (some : 1 ≤ n) (positive : 0 < states) (all : upto ≡ states * labels ^ (n - 1) * states) (h : IsFull labels n states upto T) where
  place_in : (i : ℕ) → i < upto → i / states < states * labels ^ (n - 1)
  place_in i lt = div_below i states (states * labels ^ (n - 1)) positive (omega arith)

  full_before : (i j : ℕ) → i < j → j < upto → IsTripleBefore (full_triple labels n states i) (full_triple labels n states j)
  full_before i j lt j_in =
      let y = i / states in
      let x = j / states in
      let i_is = div-add-mod' i states in
      let j_is = div-add-mod' j states in
      here_before labels n states [] states y (i % states) x (j % states) some (place_in i (omega arith)) (place_in j j_in) (elim (cases_order y x) [
        | inl e ↦ let rows : y * states ≡ x * states = ap (λ z. z * states) e in inr (e, omega arith)
        | inr (inl less) ↦ inl less
        | inr (inr more) ↦ let wrong = place_rises x y states (j % states) (i % states) more (mod_below j states positive) in absurd (omega arith)
      ])

  pub full_order : AreTriplesInOrder T
  full_order i j d lt j_in =
      let len = h.0 in
      subst (λ t. IsTripleBefore t (get_or T j d)) (sym (h.1 i d (omega arith))) (subst (λ t. IsTripleBefore (full_triple labels n states i) t) (sym (h.1 j d (omega arith))) (full_before i j lt (omega arith)))

  pub full_range : AreTriplesOf states labels n T
  full_range b p q (o, (i, i_in, is)) =
      let len = h.0 in
      let i_upto : i < upto = omega arith in
      let e : full_triple labels n states i ≡ (p, b, q, o) = sym (h.1 i (p, b, q, o) i_upto) ∙ is in
      let x_in = place_in i i_upto in (
        subst (IsTripleWord labels n) (ap (λ (t : Triple). t.1) e) (letters_of_place labels n states (i / states) some x_in),
        subst (λ x. x < states) (ap (λ (t : Triple). t.0) e) (state_of_place labels n states (i / states) x_in),
        subst (λ x. x < states) (ap (λ (t : Triple). t.2) e) (mod_below i states positive),
      )

  pub full_all : (b : List ℕ) (p q : ℕ) → IsTripleWord labels n b → p < states → q < states → HoldsTriple T b p q
  full_all b p q is_word p_in q_in =
      let x = place_of labels p b in
      let i = x * states + q in
      let below = place_below labels n states p b is_word p_in in
      let inside = place_rises x (states * labels ^ (n - 1)) states q 0 below q_in in
      let i_in : i < upto = omega arith in
      let len = h.0 in
      let left : i / states ≡ x = div-mul-add x states q q_in in
      let right : i % states ≡ q = mod-mul-add x states q q_in in
      let made : full_triple labels n states i ≡ (p, b, q, None) =
      ap (λ z. triple (z / labels ^ (n - 1)) (digits labels (n - 1) (z % labels ^ (n - 1))) (i % states)) left
      ∙ ap (λ z. triple (x / labels ^ (n - 1)) (digits labels (n - 1) (x % labels ^ (n - 1))) z) right
      ∙ ap (λ z. triple z (digits labels (n - 1) (x % labels ^ (n - 1))) q) (place_state labels n p b is_word)
      ∙ ap (λ z. triple p z q) (place_letters labels n p b is_word) in
      (None, (i, omega arith, h.1 i (p, b, q, None) i_in ∙ made))
    where
      triple : ℕ → List ℕ → ℕ → Triple
      triple p b q = (p, b, q, None)
