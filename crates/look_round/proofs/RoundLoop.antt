-- What holds while Spoiler's first moves are tried one after another.
use Rattle.std.proofs.Common.{◌≡◌, ℕ, ◌+◌, ◌*◌, ◌<◌, ◌≤◌, ◌↔◌, inl, inr, true, false, List, [], ◌∷◌, length, get_or, Contains, refl, sym, ap, ◌∙◌, subst, arith, le_refl}
use Rattle.std.proofs.lemmas.Bool.{cases_eq, false≢true}
use Rattle.std.proofs.lemmas.List.{get_or_default}
use Rattle.auto_core.specs.Rows.{cell_of, HasCell}
use Rattle.auto_core.specs.Game.{IsDead}
use Rattle.look_round.specs.declared.moves.Move.{Move}
use Rattle.look_round.specs.Sides.{move}
use Rattle.look_round.specs.Replies.{HasReply, RoundFrom, RoundAfter, KeepsRows}
use Rattle.look_round.proofs.StepLemmas.{reply_same}
use Rattle.look_round.proofs.RoundLemmas.{after_same, from_moves, to_move}

-- The first `count` moves of the list are answered, and the rows up to this place are the same.
pub record IsAnsweredUpto (M : ℕ → ℕ → ℕ → Type 0) (ok W : ℕ → ℕ → Type 0) (moves : List Move) (left n width place : ℕ) (old now : List ℕ) (count : ℕ) : Type 0 where
  pub each : (j : ℕ) → j < count → RoundAfter M ok W left (get_or moves j (move 0 0)).label (get_or moves j (move 0 0)).to (HasReply old n width place)
  pub kept : KeepsRows old now width place

-- what is kept, twice
pub keeps_then : (old now new : List ℕ) (width n m : ℕ) → n ≤ m → KeepsRows old now width n → KeepsRows now new width m → KeepsRows old new width n
keeps_then old now new width n m upto first second i q i_in near = second i q (omega arith) near ∙ first i q i_in near

module _ (M : ℕ → ℕ → ℕ → Type 0) (ok W : ℕ → ℕ → Type 0) (moves : List Move) (left n width place : ℕ) (room : n ≤ width * 64) (old : List ℕ) where
  pub none_answered : IsAnsweredUpto M ok W moves left n width place old old 0
  none_answered = record { each = λ j j_in. absurd (omega arith); kept = λ i q i_in near. refl }

  replies_now : (now : List ℕ) → KeepsRows old now width place → (q : ℕ) → HasReply now n width place q ↔ HasReply old n width place q
  replies_now now kept q = reply_same old now n width place room (λ r near. kept place r (le_refl place) near) q

  -- what the call says of the present table, it says of the first one
  pub told_first :
      (now : List ℕ) (a p : ℕ) (C : Type 0)
      → KeepsRows old now width place
      → C ↔ RoundAfter M ok W left a p (HasReply now n width place)
      → C ↔ RoundAfter M ok W left a p (HasReply old n width place)
  told_first now a p C kept told = (
    λ x. after_same M ok W (HasReply now n width place) (HasReply old n width place) (λ q. (replies_now now kept q).0) left a p (told.0 x),
    λ h. told.1 (after_same M ok W (HasReply old n width place) (HasReply now n width place) (λ q. (replies_now now kept q).1) left a p h),
  )

  pub one_answered :
      (now new : List ℕ) (count : ℕ) (m : Move)
      → IsAnsweredUpto M ok W moves left n width place old now count
      → m ≡ get_or moves count (move 0 0)
      → RoundAfter M ok W left m.label m.to (HasReply old n width place)
      → KeepsRows now new width place
      → IsAnsweredUpto M ok W moves left n width place old new (count + 1)
  one_answered now new count m h is answered kept = record {
    each = λ j j_in. elim (cases_eq j count) [
      | inl e ↦
          let P : Move → Type 0 = λ x. RoundAfter M ok W left x.label x.to (HasReply old n width place) in
          subst P (is ∙ ap (λ k. get_or moves k (move 0 0)) (sym e)) answered
      | inr apart ↦ h.each j (omega arith)
    ];
    kept = keeps_then old now new width place place (le_refl place) h.kept kept;
  }

  pub all_answered :
      (now : List ℕ) (count p : ℕ)
      → ((a r : ℕ) → Contains moves (move a r) ↔ M p a r)
      → 1 ≤ left
      → count ≡ length moves
      → IsAnsweredUpto M ok W moves left n width place old now count
      → RoundFrom M ok W left p (HasReply old n width place)
  all_answered now count p lists some all h =
      from_moves M ok W left p (HasReply old n width place) some (λ a r go.
      let (j, j_in, is) = (lists a r).1 go in
      let here : get_or moves j (move 0 0) ≡ move a r = get_or_default moves j (move 0 0) (move a r) j_in ∙ is in
      let P : Move → Type 0 = λ m. RoundAfter M ok W left m.label m.to (HasReply old n width place) in
      subst P here (h.each j (omega arith)))

  pub one_unanswered :
      (p j : ℕ) (m : Move)
      → ((a r : ℕ) → Contains moves (move a r) ↔ M p a r)
      → j < length moves
      → m ≡ get_or moves j (move 0 0)
      → (RoundAfter M ok W left m.label m.to (HasReply old n width place) → ⊥)
      → RoundFrom M ok W left p (HasReply old n width place)
      → ⊥
  one_unanswered p j m lists j_in is none h =
      let go : M p m.label m.to = (lists m.label m.to).0 (j, j_in, get_or_default moves j (move m.label m.to) (move 0 0) j_in ∙ sym is) in
      none (to_move M ok W left p (HasReply old n width place) h m.label m.to go)

-- a table whose first row has q alone
pub first_row :
    (table : List ℕ) (n width q : ℕ)
    → q < n
    → n ≤ width * 64
    → ((cleared : List ℕ) × ((r : ℕ) → r < width * 64 → cell_of cleared width 0 r ≡ false) × (cell_of table width 0 q ≡ true) × ((i r : ℕ) → r < width * 64 → ¬ ((i ≡ 0) × (r ≡ q)) → cell_of table width i r ≡ cell_of cleared width i r))
    → (r : ℕ)
    → HasReply table n width 0 r ↔ (r ≡ q)
first_row table n width q q_in room (cleared, zeros, here, others) r = (
  λ (r_in, cell). elim (cases_eq r q) [
    | inl e ↦ e
    | inr apart ↦ absurd (false≢true (sym (others 0 r (omega arith) (λ h. apart h.1) ∙ zeros r (omega arith)) ∙ cell))
  ],
  λ e. (omega arith, subst (λ x. HasCell table width 0 x) (sym e) here),
)

-- a state with no move in its list is dead, and one with some is not
pub dead_from : (M : ℕ → ℕ → ℕ → Type 0) (moves : List Move) (p : ℕ) → ((a r : ℕ) → Contains moves (move a r) ↔ M p a r) → length moves ≡ 0 → IsDead M p
dead_from M moves p lists none a r go = let (j, j_in, is) = (lists a r).1 go in omega arith

pub alive_from : (M : ℕ → ℕ → ℕ → Type 0) (moves : List Move) (p : ℕ) → ((a r : ℕ) → Contains moves (move a r) ↔ M p a r) → ¬ (length moves ≡ 0) → IsDead M p → ⊥
alive_from M [] p lists some dead = some refl
alive_from M (m ∷ ms) p lists some dead = dead m.label m.to ((lists m.label m.to).0 (0, omega arith, refl))
