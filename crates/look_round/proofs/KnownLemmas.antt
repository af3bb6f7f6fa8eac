-- What a round has found out.
use Rattle.std.proofs.Common.{◌≡◌, ℕ, ◌+◌, ◌*◌, ◌/◌, ◌<◌, ◌≤◌, ◌↔◌, inl, inr, false, List, slice_index, refl, sym, ◌∙◌, subst, arith}
use Rattle.std.proofs.lemmas.Bool.{cases_eq, false≢true}
use Rattle.auto_core.specs.Rows.{bit_of, cell_of, HasBit, HasCell}
use Rattle.look_round.specs.Replies.{IsInRow, HasReply, HasReplyFrom, RoundAfter}
use Rattle.look_round.specs.declared.known.Known.{Known}
use Rattle.look_round.specs.Known.{IsSetAt, IsHeld, IsFor, AreReplies, AreKnown, KeepsAnswered, Notes}
use Rattle.look_round.proofs.RoundLemmas.{after_same}
use Rattle.look_round.proofs.StepLemmas.{reply_same}

-- a row of a table has the states of a row of bits
pub in_row :
    (table row : List ℕ) (n w l : ℕ)
    → n ≤ w * 64
    → ((q : ℕ) → q < w * 64 → cell_of table w l q ≡ bit_of row q)
    → (q : ℕ)
    → HasReply table n w l q ↔ IsInRow row n q
in_row table row n w l room same q = (
  λ h. let lt = h.0 in (h.0, sym (same q (omega arith)) ∙ h.1),
  λ h. let lt = h.0 in (h.0, same q (omega arith) ∙ h.1),
)

module _ (M : ℕ → ℕ → ℕ → Type 0) (ok W : ℕ → ℕ → Type 0) (n : ℕ) where
  -- a place has the replies of its row
  pub place_replies :
      (known : Known) (l left a p : ℕ) (row : List ℕ)
      → n ≤ known.width * 64
      → IsFor ok known l left a p row
      → AreReplies M ok n known
      → (r : ℕ)
      → HasReply known.replies.items n known.width l r ↔ HasReplyFrom M ok a p (IsInRow row n) r
  place_replies known l left a p row room is are r =
      let t : ℕ = slice_index known.targets.items l in
      let D : ℕ → Type 0 = HasReply known.held.items n known.width l in
      let held = in_row known.held.items row n known.width l room is.held.2 in
      let P : ℕ → Type 0 = λ b. HasReplyFrom M ok b t D r in (
        λ h. let f : P a = subst P is.held.1 ((are.each l r is.used).0 h) in (f.0, (held f.0).0 f.1, (f.2.0, (is.alike r).1 f.2.1)),
        λ h.
            let f : P a = (h.0, (held h.0).1 h.1, (h.2.0, (is.alike r).0 h.2.1)) in
            (are.each l r is.used).1 (subst P (sym is.held.1) f),
      )

  -- a place is taken for a step
  pub taken_each :
      (used used' letters letters' targets targets' held replies held' replies' row : List ℕ) (w l a p : ℕ)
      → n ≤ w * 64
      → ((i : ℕ) → ¬ (i ≡ l) → bit_of used' i ≡ bit_of used i)
      → IsSetAt letters letters' l a
      → IsSetAt targets targets' l p
      → ((q : ℕ) → q < w * 64 → cell_of held' w l q ≡ bit_of row q)
      → ((i q : ℕ) → q < w * 64 → ¬ (i ≡ l) → cell_of held' w i q ≡ cell_of held w i q)
      → ((r : ℕ) → HasReply replies' n w l r ↔ HasReplyFrom M ok a p (IsInRow row n) r)
      → ((i q : ℕ) → q < w * 64 → ¬ (i ≡ l) → cell_of replies' w i q ≡ cell_of replies w i q)
      → ((i r : ℕ) → HasBit used i → HasReply replies n w i r ↔ HasReplyFrom M ok (slice_index letters i) (slice_index targets i) (HasReply held n w i) r)
      → (i r : ℕ)
      → HasBit used' i
      → HasReply replies' n w i r ↔ HasReplyFrom M ok (slice_index letters' i) (slice_index targets' i) (HasReply held' n w i) r
  taken_each used used' letters letters' targets targets' held replies held' replies' row w l a p room others set_letters set_targets row_held held_others row_replies reply_others was i r bit = elim (cases_eq i l) [
    | inl e ↦
        let D : ℕ → Type 0 = HasReply held' n w l in
        let here = in_row held' row n w l room row_held in
        let Q : ℕ → ℕ → Type 0 = λ b t. HasReply replies' n w l r ↔ HasReplyFrom M ok b t D r in
        let base : Q a p = (
          λ h. let f = (row_replies r).0 h in (f.0, (here f.0).1 f.1, f.2),
          λ h. (row_replies r).1 (h.0, (here h.0).0 h.1, h.2),
        ) in
        let there : Q (slice_index letters' l) (slice_index targets' l) =
        subst (λ t. Q (slice_index letters' l) t) (sym set_targets.0) (subst (λ b. Q b p) (sym set_letters.0) base) in
        subst (λ x. HasReply replies' n w x r ↔ HasReplyFrom M ok (slice_index letters' x) (slice_index targets' x) (HasReply held' n w x) r) (sym e) there
    | inr apart ↦
        let D : ℕ → Type 0 = HasReply held' n w i in
        let now = reply_same replies replies' n w i room (λ q near. reply_others i q near apart) r in
        let rows = reply_same held held' n w i room (λ q near. held_others i q near apart) in
        let old = was i r (sym (others i apart) ∙ bit) in
        let Q : ℕ → ℕ → Type 0 = λ b t. HasReply replies' n w i r ↔ HasReplyFrom M ok b t D r in
        let base : Q (slice_index letters i) (slice_index targets i) = (
          λ h. let f = old.0 (now.0 h) in (f.0, (rows f.0).1 f.1, f.2),
          λ h. now.1 (old.1 (h.0, (rows h.0).0 h.1, h.2)),
        ) in
        subst (λ t. Q (slice_index letters' i) t) (sym (set_targets.1 i apart)) (subst (λ b. Q b (slice_index targets i)) (sym (set_letters.1 i apart)) base)
  ]

  pub taken_targets :
      (used used' targets targets' : List ℕ) (l p : ℕ)
      → p < n
      → ((i : ℕ) → ¬ (i ≡ l) → bit_of used' i ≡ bit_of used i)
      → IsSetAt targets targets' l p
      → ((i : ℕ) → HasBit used i → slice_index targets i < n)
      → (i : ℕ)
      → HasBit used' i
      → slice_index targets' i < n
  taken_targets used used' targets targets' l p p_in others set_targets was i bit = elim (cases_eq i l) [
    | inl e ↦ subst (λ x. slice_index targets' x < n) (sym e) (subst (λ t. t < n) (sym set_targets.0) p_in)
    | inr apart ↦ subst (λ t. t < n) (sym (set_targets.1 i apart)) (was i (sym (others i apart) ∙ bit))
  ]

  -- nothing is known
  pub none_known : (known : Known) → known.width ≡ (n + 63) / 64 → ((l : ℕ) → bit_of known.used.items l ≡ false) → AreKnown M ok W n known
  none_known known width clear = record {
    width = width;
    replies = record {
      targets = λ l bit. absurd (false≢true (sym (clear l) ∙ bit));
      each = λ l r bit. absurd (false≢true (sym (clear l) ∙ bit));
    };
    answered = λ l p bit near cell. absurd (false≢true (sym (clear l) ∙ bit));
  }

  -- what a place keeps as answered is answered
  was_answered :
      (old new : Known) (l q : ℕ)
      → AreKnown M ok W n old
      → q < old.width * 64
      → HasBit old.used.items l
      → HasCell old.answered.items old.width l q
      → slice_index new.lefts.items l ≡ slice_index old.lefts.items l
      → slice_index new.letters.items l ≡ slice_index old.letters.items l
      → ((r : ℕ) → r < old.width * 64 → cell_of new.held.items old.width l r ≡ cell_of old.held.items old.width l r)
      → RoundAfter M ok W (slice_index new.lefts.items l) (slice_index new.letters.items l) q (HasReply new.held.items n old.width l)
  was_answered old new l q are near bit cell lefts letters held =
      let width = are.width in
      let room : n ≤ old.width * 64 = omega arith in
      let D : ℕ → Type 0 = HasReply new.held.items n old.width l in
      let was = after_same M ok W (HasReply old.held.items n old.width l) D (λ r. (reply_same old.held.items new.held.items n old.width l room held r).1)
      (slice_index old.lefts.items l) (slice_index old.letters.items l) q (are.answered l q bit near cell) in
      subst (λ x. RoundAfter M ok W x (slice_index new.letters.items l) q D) (sym lefts)
      (subst (λ x. RoundAfter M ok W (slice_index old.lefts.items l) x q D) (sym letters) was)

  -- What holds for the old width holds for the new one.
  answered_by_width :
      (old new : Known) (l q : ℕ)
      → new.width ≡ old.width
      → (q < old.width * 64 → HasCell new.answered.items old.width l q → RoundAfter M ok W (slice_index new.lefts.items l) (slice_index new.letters.items l) q (HasReply new.held.items n old.width l))
      → q < new.width * 64
      → HasCell new.answered.items new.width l q
      → RoundAfter M ok W (slice_index new.lefts.items l) (slice_index new.letters.items l) q (HasReply new.held.items n new.width l)
  answered_by_width old new l q width h near cell =
      subst (λ w. q < w * 64 → HasCell new.answered.items w l q → RoundAfter M ok W (slice_index new.lefts.items l) (slice_index new.letters.items l) q (HasReply new.held.items n w l)) (sym width) h near cell

  -- what is kept is known
  pub known_kept : (old new : Known) → KeepsAnswered old new → AreReplies M ok n new → AreKnown M ok W n old → AreKnown M ok W n new
  known_kept old new keeps replies are = record {
    width = keeps.width ∙ are.width;
    replies = replies;
    answered = λ l q bit. answered_by_width old new l q keeps.width (λ near cell.
        let was = keeps.each l q near bit cell in
        was_answered old new l q are near was.0 was.1 was.2.0 was.2.1 was.2.2);
  }

  -- what is noted is known
  pub known_more :
      (old new : Known) (left a p : ℕ) (row : List ℕ) (D : ℕ → Type 0)
      → Notes old new left a p row
      → AreReplies M ok n new
      → AreKnown M ok W n old
      → ((q : ℕ) → D q → IsInRow row n q)
      → RoundAfter M ok W left a p D
      → AreKnown M ok W n new
  known_more old new left a p row D notes replies are from answered = record {
    width = notes.width ∙ are.width;
    replies = replies;
    answered = λ l q bit. answered_by_width old new l q notes.width (λ near cell. elim (notes.each l q near bit cell) [
      | inl this ↦
          let width = are.width in
          let room : n ≤ old.width * 64 = omega arith in
          let is = this.1 in
          let E : ℕ → Type 0 = HasReply new.held.items n old.width l in
          let now : RoundAfter M ok W left a p E = after_same M ok W D E (λ r d. (in_row new.held.items row n old.width l room is.2 r).1 (from r d)) left a p answered in
          subst (λ y. RoundAfter M ok W (slice_index new.lefts.items l) (slice_index new.letters.items l) y E) (sym this.0)
          (subst (λ x. RoundAfter M ok W x (slice_index new.letters.items l) p E) (sym is.0) (subst (λ x. RoundAfter M ok W left x p E) (sym is.1) now))
      | inr was ↦ was_answered old new l q are near was.0 was.1 was.2.0 was.2.1 was.2.2
    ]);
  }

  -- what is known is answered
  pub known_answered :
      (known : Known) (l left a p : ℕ) (row : List ℕ) (D : ℕ → Type 0)
      → AreKnown M ok W n known
      → p < n
      → HasBit known.used.items l
      → HasCell known.answered.items known.width l p
      → IsHeld known.width known l left a row
      → ((q : ℕ) → IsInRow row n q → D q)
      → RoundAfter M ok W left a p D
  known_answered known l left a p row D are p_in bit cell is to =
      let width = are.width in
      let room : n ≤ known.width * 64 = omega arith in
      let E : ℕ → Type 0 = HasReply known.held.items n known.width l in
      let was = are.answered l p bit (omega arith) cell in
      after_same M ok W E D (λ r e. to r ((in_row known.held.items row n known.width l room is.2 r).0 e)) left a p
      (subst (λ x. RoundAfter M ok W x a p E) is.0 (subst (λ x. RoundAfter M ok W (slice_index known.lefts.items l) x p E) is.1 was))
