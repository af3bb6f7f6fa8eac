-- Replies gathered from a row, state by state and word by word.
use Rattle.std.proofs.Common.{◌≡◌, ℕ, ◌+◌, ◌*◌, ◌<◌, ◌≤◌, ◌⊎◌, ◌↔◌, inl, inr, false, List, refl, sym, ◌∙◌, subst, arith}
use Rattle.std.proofs.lemmas.Bool.{cases_eq, cases_lt, false≢true}
use Rattle.auto_core.specs.Rows.{cell_of, HasCell}
use Rattle.look_round.specs.Replies.{IsReply, HasReply, HasReplyFrom, HasReplyWithin}

module _ (M : ℕ → ℕ → ℕ → Type 0) (ok : ℕ → ℕ → Type 0) (a p : ℕ) (D : ℕ → Type 0) where
  -- The row holds what it held and the replies of the states of D from `low` on and below `high`; the other rows are the same.
  pub record HasStepUpto (old now : List ℕ) (width row low high : ℕ) : Type 0 where
    pub next : (r : ℕ) → r < width * 64 → HasCell now width row r ↔ (HasCell old width row r ⊎ HasReplyWithin M ok a p D low high r)
    pub others : (i r : ℕ) → r < width * 64 → ¬ (i ≡ row) → cell_of now width i r ≡ cell_of old width i r

  pub no_step : (old : List ℕ) (width row low : ℕ) → HasStepUpto old old width row low low
  no_step old width row low = record {
    next = λ r near. (λ h. inl h, λ h. elim h [ inl was ↦ was | inr found ↦ let low_upto = found.1 in let below = found.2 in absurd (omega arith) ]);
    others = λ i r near apart. refl;
  }

  -- one more state has replied
  pub step_more :
      (old now new : List ℕ) (width row low high : ℕ)
      → low ≤ high
      → HasStepUpto old now width row low high
      → D high
      → ((r : ℕ) → r < width * 64 → HasCell new width row r ↔ (HasCell now width row r ⊎ IsReply M ok a p high r))
      → ((i r : ℕ) → r < width * 64 → ¬ (i ≡ row) → cell_of new width i r ≡ cell_of now width i r)
      → HasStepUpto old new width row low (high + 1)
  step_more old now new width row low high upto h is added same = record {
    next = λ r near. (
      λ cell. elim ((added r near).0 cell) [
        | inl was ↦ elim ((h.next r near).0 was) [ inl first ↦ inl first | inr found ↦ let lt = found.2 in inr (found.0, found.1, omega arith, found.3, found.4) ]
        | inr reply ↦ inr (high, upto, omega arith, is, reply)
      ],
      λ either. elim either [
        | inl first ↦ (added r near).1 (inl ((h.next r near).1 (inl first)))
        | inr found ↦ elim (cases_eq found.0 high) [
          | inl e ↦ (added r near).1 (inr (subst (λ q. IsReply M ok a p q r) e found.4))
          | inr apart ↦ let lt = found.2 in (added r near).1 (inl ((h.next r near).1 (inr (found.0, found.1, omega arith, found.3, found.4))))
        ]
      ],
    );
    others = λ i r near apart. same i r near apart ∙ h.others i r near apart;
  }

  -- one more state is none of D
  pub step_none :
      (old now : List ℕ) (width row low high : ℕ)
      → HasStepUpto old now width row low high
      → (D high → ⊥)
      → HasStepUpto old now width row low (high + 1)
  step_none old now width row low high h none = record {
    next = λ r near. (
      λ cell. elim ((h.next r near).0 cell) [ inl first ↦ inl first | inr found ↦ let lt = found.2 in inr (found.0, found.1, omega arith, found.3, found.4) ],
      λ either. elim either [
        | inl first ↦ (h.next r near).1 (inl first)
        | inr found ↦ elim (cases_eq found.0 high) [
          | inl e ↦ absurd (none (subst D e found.3))
          | inr apart ↦ let lt = found.2 in (h.next r near).1 (inr (found.0, found.1, omega arith, found.3, found.4))
        ]
      ],
    );
    others = h.others;
  }

  -- a range of states has replied
  step_range :
      (old now new : List ℕ) (width row mid high : ℕ)
      → mid ≤ high
      → HasStepUpto old now width row 0 mid
      → ((r : ℕ) → r < width * 64 → HasCell new width row r ↔ (HasCell now width row r ⊎ HasReplyWithin M ok a p D mid high r))
      → ((i r : ℕ) → r < width * 64 → ¬ (i ≡ row) → cell_of new width i r ≡ cell_of now width i r)
      → HasStepUpto old new width row 0 high
  step_range old now new width row mid high upto h added same = record {
    next = λ r near. (
      λ cell. elim ((added r near).0 cell) [
        | inl was ↦ elim ((h.next r near).0 was) [ inl first ↦ inl first | inr found ↦ let lt = found.2 in inr (found.0, found.1, omega arith, found.3, found.4) ]
        | inr found ↦ inr (found.0, omega arith, found.2, found.3, found.4)
      ],
      λ either. elim either [
        | inl first ↦ (added r near).1 (inl ((h.next r near).1 (inl first)))
        | inr found ↦ elim (cases_lt found.0 mid) [
          | inl below ↦ (added r near).1 (inl ((h.next r near).1 (inr (found.0, found.1, below, found.3, found.4))))
          | inr from ↦ (added r near).1 (inr (found.0, from, found.2, found.3, found.4))
        ]
      ],
    );
    others = λ i r near apart. same i r near apart ∙ h.others i r near apart;
  }

  -- a range has no state of D
  pub step_zero :
      (old now : List ℕ) (width row mid high : ℕ)
      → mid ≤ high
      → HasStepUpto old now width row 0 mid
      → ((q : ℕ) → mid ≤ q → q < high → D q → ⊥)
      → HasStepUpto old now width row 0 high
  step_zero old now width row mid high upto h none =
      step_range old now now width row mid high upto h
      (λ r near. (λ cell. inl cell, λ either. elim either [ inl cell ↦ cell | inr found ↦ absurd (none found.0 found.1 found.2 found.3) ]))
      (λ i r near apart. refl)

  -- all states have replied, into a row that was clear
  step_done :
      (old now : List ℕ) (width row n : ℕ)
      → n ≤ width * 64
      → HasStepUpto old now width row 0 (width * 64)
      → ((q : ℕ) → q < width * 64 → cell_of old width row q ≡ false)
      → ((q : ℕ) → D q → q < n)
      → ((q r : ℕ) → M q a r → r < n)
      → (r : ℕ)
      → HasReply now n width row r ↔ HasReplyFrom M ok a p D r
  step_done old now width row n room h clear below stays r = (
    λ (r_in, cell). elim ((h.next r (omega arith)).0 cell) [
      | inl was ↦ absurd (false≢true (sym (clear r (omega arith)) ∙ was))
      | inr found ↦ (found.0, found.3, found.4)
    ],
    λ (q, is, reply).
        let r_in : r < n = stays q r reply.0 in
        let q_in : q < n = below q is in
        (r_in, (h.next r (omega arith)).1 (inr (q, omega arith, omega arith, is, reply))),
  )

  -- from a place on there is no state of D
  pub step_finished :
      (old now : List ℕ) (width row n at : ℕ)
      → n ≤ width * 64
      → at ≤ width * 64
      → HasStepUpto old now width row 0 at
      → ((q : ℕ) → at ≤ q → D q → ⊥)
      → ((q : ℕ) → q < width * 64 → cell_of old width row q ≡ false)
      → ((q : ℕ) → D q → q < n)
      → ((q r : ℕ) → M q a r → r < n)
      → (r : ℕ)
      → HasReply now n width row r ↔ HasReplyFrom M ok a p D r
  step_finished old now width row n at room upto h none clear below stays =
      step_done old now width row n room (step_zero old now width row at (width * 64) upto h (λ q from lt. none q from)) clear below stays

-- the same row holds the same states
pub reply_same :
    (old now : List ℕ) (n w i : ℕ)
    → n ≤ w * 64
    → ((q : ℕ) → q < w * 64 → cell_of now w i q ≡ cell_of old w i q)
    → (q : ℕ)
    → HasReply now n w i q ↔ HasReply old n w i q
reply_same old now n w i room same q = (
  λ h. let lt = h.0 in (h.0, sym (same q (omega arith)) ∙ h.1),
  λ h. let lt = h.0 in (h.0, same q (omega arith) ∙ h.1),
)
