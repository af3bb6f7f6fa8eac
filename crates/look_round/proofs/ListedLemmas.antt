-- States at the places of an array, one list after another, and rounds from the states of a list.
use Rattle.std.proofs.Common.{◌≡◌, ℕ, ◌+◌, ◌-◌, ◌<◌, ◌≤◌, ◌⊎◌, ◌↔◌, inl, inr, List, [], ◌∷◌, ◌++◌, length, slice_index, set, take, drop, get_or, All, Contains, refl, sym, ap, ◌∙◌, subst, arith, le_refl}
use Rattle.std.proofs.lemmas.Bool.{cases_lt}
use Rattle.std.proofs.lemmas.List.{get_or-set_same, get_or-set_other, get_or-take, get_or-drop, get_or_default, length-set, length-take-le, length-drop}
use Rattle.std.proofs.lemmas.List.Elements.{Contains-append_left, Contains-get_or, Contains-push, Contains-push_cases}
use Rattle.look_round.specs.declared.moves.Move.{Move}
use Rattle.look_round.specs.Sides.{move}
use Rattle.look_round.specs.Replies.{IsReply, HasReplyFrom, RoundAfter}
use Rattle.look_round.specs.Listed.{IsListedWithin, KeepsListed, Lists}

-- other words for the same states, which matter only if there is room
pub lists_same : (old new : List ℕ) (from to n : ℕ) (P Q : ℕ → Type 0) → Lists old new from to n P → (to < length new → (r : ℕ) → P r ↔ Q r) → Lists old new from to n Q
lists_same old new from to n P Q h same = record {
  upward = h.upward;
  inside = h.inside;
  kept = h.kept;
  below = h.below;
  just = λ room r. (λ there. (same room r).0 ((h.just room r).0 there), λ is. (h.just room r).1 ((same room r).1 is));
}

-- what was written first, and what after that
pub lists_then :
    (old mid new : List ℕ) (from to end n : ℕ) (P Q : ℕ → Type 0)
    → Lists old mid from to n P
    → Lists mid new to end n Q
    → Lists old new from end n (λ r. P r ⊎ Q r)
lists_then old mid new from to end n P Q h g =
    let upward = h.upward in
    let onward = g.upward in
    let inside = g.inside in
    let same = g.kept in
    record {
      upward = omega arith;
      inside = inside;
      kept = (same.0 ∙ h.kept.0, λ i before. same.1 i (omega arith) ∙ h.kept.1 i before);
      below = λ r (i, i_from, i_to, is). elim (cases_lt i to) [
        | inl first ↦ h.below r (i, i_from, first, sym (same.1 i first) ∙ is)
        | inr later ↦ g.below r (i, later, i_to, is)
      ];
      just = λ room r.
          let fits : to < length mid = omega (arith, same.0) in (
            λ (i, i_from, i_to, is). elim (cases_lt i to) [
              | inl first ↦ inl ((h.just fits r).0 (i, i_from, first, sym (same.1 i first) ∙ is))
              | inr later ↦ inr ((g.just room r).0 (i, later, i_to, is))
            ],
            λ either. elim either [
              | inl first ↦
                  let (i, i_from, i_to, is) = (h.just fits r).1 first in
                  (i, i_from, omega arith, same.1 i i_to ∙ is)
              | inr later ↦
                  let (i, i_from, i_to, is) = (g.just room r).1 later in
                  (i, omega arith, i_to, is)
            ],
          );
    }

-- one state is written
pub lists_one : (l : List ℕ) (at x n : ℕ) → at < length l → x < n → Lists l (set l at x) at (at + 1) n (λ r. x ≡ r)
lists_one l at x n inside x_in =
    let long : length (set l at x) ≡ length l = length-set l at x in
    let here : slice_index (set l at x) at ≡ x = get_or-set_same l at x 0 inside in
    let place : (i : ℕ) → at ≤ i → i < at + 1 → i ≡ at = λ i from to. omega arith in
    record {
      upward = omega arith;
      inside = omega arith;
      kept = (long, λ i before. get_or-set_other l at i x 0 (λ e. omega arith));
      below = λ r (i, from, to, is). subst (λ y. y < n) (sym here ∙ ap (slice_index (set l at x)) (sym (place i from to)) ∙ is) x_in;
      just = λ room r. (
        λ (i, from, to, is). sym here ∙ ap (slice_index (set l at x)) (sym (place i from to)) ∙ is,
        λ e. (at, le_refl at, omega arith, here ∙ e),
      );
    }

-- a part of the array as a list of its own
pub listed_slice : (l : List ℕ) (at end q : ℕ) → at ≤ end → end ≤ length l → Contains (take (end - at) (drop at l)) q ↔ IsListedWithin l at end q
listed_slice l at end q order inside =
    let size : length (take (end - at) (drop at l)) ≡ end - at = length-take-le (end - at) (drop at l) (omega (arith, length-drop at l)) in
    let part : (i : ℕ) → i < end - at → get_or (take (end - at) (drop at l)) i 0 ≡ get_or l (at + i) 0 =
    λ i i_in. get_or-take (end - at) (drop at l) i 0 i_in ∙ get_or-drop at l i 0 in (
      λ (i, i_in, is).
          let near : i < end - at = omega (arith, size) in
          (at + i, omega arith, omega arith, sym (part i near) ∙ get_or_default (take (end - at) (drop at l)) i 0 q i_in ∙ is),
      λ (i, from, to, is).
          let near : i - at < end - at = omega arith in
          let place : at + (i - at) ≡ i = omega arith in
          let i_in : i - at < length (take (end - at) (drop at l)) = omega (arith, size) in
          (i - at, i_in, get_or_default (take (end - at) (drop at l)) (i - at) q 0 i_in ∙ part (i - at) near ∙ ap (slice_index l) place ∙ is),
    )

pub slice_below :
    (l : List ℕ) (at end n : ℕ) → at ≤ end → end ≤ length l → ((q : ℕ) → IsListedWithin l at end q → q < n) → All (λ q. q < n) (take (end - at) (drop at l))
slice_below l at end n order inside below k d k_in =
    let list = take (end - at) (drop at l) in
    below (get_or list k d) ((listed_slice l at end (get_or list k d) order inside).0 (Contains-get_or list k d k_in))

-- one state alone, at the first place
pub first_listed : (l : List ℕ) (q : ℕ) → 1 ≤ length l → (r : ℕ) → IsListedWithin (set l 0 q) 0 1 r ↔ (r ≡ q)
first_listed l q some r =
    let here : slice_index (set l 0 q) 0 ≡ q = get_or-set_same l 0 q 0 some in (
      λ (i, from, to, is). let first : i ≡ 0 = omega arith in sym (sym here ∙ ap (slice_index (set l 0 q)) (sym first) ∙ is),
      λ e. (0, le_refl 0, omega arith, here ∙ sym e),
    )

-- the same states are listed where the places are the same
pub listed_kept : (old new : List ℕ) (at end to q : ℕ) → end ≤ to → KeepsListed old new to → IsListedWithin new at end q ↔ IsListedWithin old at end q
listed_kept old new at end to q upto kept = (
  λ (i, from, before, is). (i, from, before, sym (kept.1 i (omega arith)) ∙ is),
  λ (i, from, before, is). (i, from, before, kept.1 i (omega arith) ∙ is),
)

-- one more state
pub one_more_member : (xs : List ℕ) (x r : ℕ) → (Contains xs r ⊎ (x ≡ r)) ↔ Contains (xs ++ x ∷ []) r
one_more_member xs x r = (
  λ either. elim either [ inl before ↦ Contains-append_left xs (x ∷ []) r before | inr e ↦ subst (λ y. Contains (xs ++ x ∷ []) y) e (Contains-push xs x) ],
  λ there. Contains-push_cases xs x r there,
)

-- one more move of the state was looked at
pub one_more_reply :
    (ok : ℕ → ℕ → Type 0) (a p : ℕ) (moves : List Move) (m : Move) (r : ℕ)
    → m.label ≡ a
    → ok p m.to
    → ((Contains moves (move a r) × ok p r) ⊎ (m.to ≡ r)) ↔ (Contains (moves ++ m ∷ []) (move a r) × ok p r)
one_more_reply ok a p moves m r label match = (
  λ either. elim either [
    | inl before ↦ (Contains-append_left moves (m ∷ []) (move a r) before.0, before.1)
    | inr e ↦
        let here : m ≡ move a r = ap (λ x. move x m.to) label ∙ ap (λ x. move a x) e in
        (subst (λ x. Contains (moves ++ m ∷ []) x) here (Contains-push moves m), subst (ok p) e match)
  ],
  λ found. elim (Contains-push_cases moves m (move a r) found.0) [ inl before ↦ inl (before, found.1) | inr e ↦ inr (ap (λ (x : Move). x.to) e) ],
)

-- which is none
pub no_more_reply :
    (ok : ℕ → ℕ → Type 0) (a p : ℕ) (moves : List Move) (m : Move) (r : ℕ)
    → ((m.label ≡ a) × ok p m.to → ⊥)
    → (Contains moves (move a r) × ok p r) ↔ (Contains (moves ++ m ∷ []) (move a r) × ok p r)
no_more_reply ok a p moves m r none = (
  λ before. (Contains-append_left moves (m ∷ []) (move a r) before.0, before.1),
  λ found. elim (Contains-push_cases moves m (move a r) found.0) [
    | inl before ↦ (before, found.1)
    | inr e ↦ absurd (none (ap (λ (x : Move). x.label) e, subst (ok p) (sym (ap (λ (x : Move). x.to) e)) found.1))
  ],
)

-- the states of one more place answer besides
pub reply_from_more :
    (M : ℕ → ℕ → ℕ → Type 0) (ok : ℕ → ℕ → Type 0) (a p : ℕ) (listed : List ℕ) (at i r : ℕ)
    → at ≤ i
    → (HasReplyFrom M ok a p (IsListedWithin listed at i) r ⊎ IsReply M ok a p (slice_index listed i) r) ↔ HasReplyFrom M ok a p (IsListedWithin listed at (i + 1)) r
reply_from_more M ok a p listed at i r from = (
  λ either. elim either [
    | inl (q, (k, k_from, k_to, is), reply) ↦ (q, (k, k_from, omega arith, is), reply)
    | inr reply ↦ (slice_index listed i, (i, from, omega arith, refl), reply)
  ],
  λ (q, (k, k_from, k_to, is), reply). elim (cases_lt k i) [
    | inl before ↦ inl (q, (k, k_from, before, is), reply)
    | inr after ↦
        let e : k ≡ i = omega arith in
        inr (subst (λ x. IsReply M ok a p x r) (sym is ∙ ap (slice_index listed) e) reply)
  ],
)

-- other states that are the same answer by the same
pub reply_same :
    (M : ℕ → ℕ → ℕ → Type 0) (ok : ℕ → ℕ → Type 0) (a p : ℕ) (D E : ℕ → Type 0) (r : ℕ)
    → ((q : ℕ) → D q → E q)
    → HasReplyFrom M ok a p D r
    → HasReplyFrom M ok a p E r
reply_same M ok a p D E r to (q, is, reply) = (q, to q is, reply)

module _ (M : ℕ → ℕ → ℕ → Type 0) (ok W : ℕ → ℕ → Type 0) where
  -- None of these states answers by a related one.
  abbrev pub NoneAnswers : ℕ → ℕ → List ℕ → Type 0
  NoneAnswers a p from = (r : ℕ) → HasReplyFrom M ok a p (Contains from) r → W p r → ⊥

  pub one_more_fails :
      (a p : ℕ) (from : List ℕ) (q : ℕ)
      → NoneAnswers a p from
      → ((r : ℕ) → IsReply M ok a p q r → W p r → ⊥)
      → NoneAnswers a p (from ++ q ∷ [])
  one_more_fails a p from q h none r found related = elim (Contains-push_cases from q found.0 found.1) [
    | inl before ↦ h r (found.0, before, found.2) related
    | inr e ↦ none r (subst (λ x. IsReply M ok a p x r) (sym e) found.2) related
  ]

  -- Each of these moves is answered from the states of D.
  abbrev pub AllAnswered : ℕ → (ℕ → Type 0) → List Move → Type 0
  AllAnswered n D moves = (m : Move) → Contains moves m → RoundAfter M ok W n m.label m.to D

  pub one_more_answered :
      (n : ℕ) (D : ℕ → Type 0) (moves : List Move) (m : Move)
      → AllAnswered n D moves
      → RoundAfter M ok W n m.label m.to D
      → AllAnswered n D (moves ++ m ∷ [])
  one_more_answered n D moves m h answered x there = elim (Contains-push_cases moves m x there) [
    | inl before ↦ h x before
    | inr e ↦ subst (λ (y : Move). RoundAfter M ok W n y.label y.to D) e answered
  ]
