-- Rows of replies, move by move.
use Rattle.std.proofs.Common.{◌≡◌, ℕ, ◌+◌, ◌*◌, ◌<◌, ◌⊎◌, ◌↔◌, inl, inr, true, List, length, get_or, Contains, refl, sym, ap, ◌∙◌, subst, arith}
use Rattle.std.proofs.lemmas.Bool.{cases_eq}
use Rattle.std.proofs.lemmas.List.{get_or_default}
use Rattle.auto_core.specs.Rows.{cell_of, HasCell}
use Rattle.look_round.specs.declared.moves.Move.{Move}
use Rattle.look_round.specs.Sides.{move}

-- The row holds what it held and the replies among the first n moves of the list.
pub record HasRepliesUpto (moves : List Move) (ok : ℕ → ℕ → Type 0) (a p : ℕ) (old now : List ℕ) (width row n : ℕ) : Type 0 where
  pub each : (r : ℕ) → r < width * 64 → HasCell now width row r → HasCell old width row r ⊎ ((j : ℕ) × (j < n) × (get_or moves j (move 0 0) ≡ move a r) × ok p r)
  pub kept : (r : ℕ) → r < width * 64 → HasCell old width row r → HasCell now width row r
  pub all : (j : ℕ) → j < n → (get_or moves j (move 0 0)).to < width * 64 → (get_or moves j (move 0 0)).label ≡ a → ok p (get_or moves j (move 0 0)).to → HasCell now width row (get_or moves j (move 0 0)).to
  pub others : (i r : ℕ) → r < width * 64 → ¬ (i ≡ row) → cell_of now width i r ≡ cell_of old width i r

pub no_replies : (moves : List Move) (ok : ℕ → ℕ → Type 0) (a p : ℕ) (old : List ℕ) (width row : ℕ) → HasRepliesUpto moves ok a p old old width row 0
no_replies moves ok a p old width row = record {
  each = λ r near h. inl h;
  kept = λ r near h. h;
  all = λ j j_in near e k. absurd (omega arith);
  others = λ i r near apart. refl;
}

same_move : (m : Move) (a : ℕ) → m.label ≡ a → m ≡ move a m.to
same_move m a e = ap (λ x. move x m.to) e

pub reply_added :
    (moves : List Move) (ok : ℕ → ℕ → Type 0) (a p : ℕ) (old now new : List ℕ) (width row n : ℕ)
    → HasRepliesUpto moves ok a p old now width row n
    → (m : Move)
    → m ≡ get_or moves n (move 0 0)
    → m.label ≡ a
    → ok p m.to
    → m.to < width * 64
    → cell_of new width row m.to ≡ true
    → ((i r : ℕ) → r < width * 64 → ¬ ((i ≡ row) × (r ≡ m.to)) → cell_of new width i r ≡ cell_of now width i r)
    → HasRepliesUpto moves ok a p old new width row (n + 1)
reply_added moves ok a p old now new width row n h m is label match m_near here same = record {
  each = λ r near cell. elim (cases_eq r m.to) [
    | inl e ↦ inr (n, omega arith, sym is ∙ same_move m a label ∙ ap (λ x. move a x) (sym e), subst (ok p) (sym e) match)
    | inr apart ↦ elim (h.each r near (sym (same row r near (λ x. apart x.1)) ∙ cell)) [
      | inl was ↦ inl was
      | inr found ↦ let lt = found.1 in inr (found.0, omega arith, found.2, found.3)
    ]
  ];
  kept = λ r near was. more r near (h.kept r near was);
  all = λ j j_in near e k. elim (cases_eq j n) [
    | inl f ↦ subst (λ (x : Move). HasCell new width row x.to) (is ∙ ap (λ x. get_or moves x (move 0 0)) (sym f)) here
    | inr apart ↦ more (get_or moves j (move 0 0)).to near (h.all j (omega arith) near e k)
  ];
  others = λ i r near apart. same i r near (λ x. apart x.0) ∙ h.others i r near apart;
}
  where
    more : (r : ℕ) → r < width * 64 → HasCell now width row r → HasCell new width row r
    more r near cell = elim (cases_eq r m.to) [
      | inl e ↦ subst (λ x. HasCell new width row x) (sym e) here
      | inr apart ↦ same row r near (λ x. apart x.1) ∙ cell
    ]

pub reply_passed :
    (moves : List Move) (ok : ℕ → ℕ → Type 0) (a p : ℕ) (old now : List ℕ) (width row n : ℕ)
    → HasRepliesUpto moves ok a p old now width row n
    → (m : Move)
    → m ≡ get_or moves n (move 0 0)
    → ((m.label ≡ a) × ok p m.to → ⊥)
    → HasRepliesUpto moves ok a p old now width row (n + 1)
reply_passed moves ok a p old now width row n h m is none = record {
  each = λ r near cell. elim (h.each r near cell) [
    | inl was ↦ inl was
    | inr found ↦ let lt = found.1 in inr (found.0, omega arith, found.2, found.3)
  ];
  kept = h.kept;
  all = λ j j_in near e k. elim (cases_eq j n) [
    | inl f ↦
        let same : get_or moves j (move 0 0) ≡ m = ap (λ x. get_or moves x (move 0 0)) f ∙ sym is in
        absurd (none (sym (ap (λ (x : Move). x.label) same) ∙ e, subst (λ (x : Move). ok p x.to) same k))
    | inr apart ↦ h.all j (omega arith) near e k
  ];
  others = h.others;
}

-- all moves have been tried
pub replies_done :
    (moves : List Move) (goes : ℕ → ℕ → Type 0) (ok : ℕ → ℕ → Type 0) (a p : ℕ) (old now : List ℕ) (width row n : ℕ)
    → ((b r : ℕ) → Contains moves (move b r) ↔ goes b r)
    → HasRepliesUpto moves ok a p old now width row n
    → n ≡ length moves
    → (r : ℕ)
    → r < width * 64
    → HasCell now width row r ↔ (HasCell old width row r ⊎ (goes a r × ok p r))
replies_done moves goes ok a p old now width row n lists h all r near = (
  λ cell. elim (h.each r near cell) [
    | inl was ↦ inl was
    | inr (j, j_in, is, match) ↦ inr ((lists a r).0 (j, omega arith, get_or_default moves j (move a r) (move 0 0) (omega arith) ∙ is), match)
  ],
  λ either. elim either [
    | inl was ↦ h.kept r near was
    | inr (go, match) ↦
        let (j, j_in, is) = (lists a r).1 go in
        let here : get_or moves j (move 0 0) ≡ move a r = get_or_default moves j (move 0 0) (move a r) j_in ∙ is in
        let P : Move → Type 0 = λ m. m.to < width * 64 in
        let Q : Move → Type 0 = λ m. ok p m.to in
        let R : Move → Type 0 = λ m. HasCell now width row m.to in
        subst R here (h.all j (omega arith) (subst P (sym here) near) (ap (λ (m : Move). m.label) here) (subst Q (sym here) match))
  ],
)
