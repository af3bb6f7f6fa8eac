-- A search ends in one way.
use Rattle.std.proofs.Common.{◌≡◌, ℕ, suc, ◌<◌, List, [], ◌∷◌, ◌++◌, length, sym, ap, ◌∙◌, subst, inl, inr, arith}
use Rattle.std.proofs.lemmas.Bool.{cases_eq, cases_lt}
use Rattle.auto_core.specs.Outcome.{Rules, Outcome, Apart, At, StaysLive, IsDropped, HasSubsumer, HasNoSubsumer, PassesBefore, FirstFailing, Comes, passed_over, limit_met, told_apart, entered, turn_of_live, turn_of_dropped, done}
use Rattle.auto_laws.proofs.PlaceLemmas.{at_same, at_within}

-- No pair both passes and fails.
abbrev pub IsConsistent : (E : Type 0) → Rules E → Type 0
IsConsistent E R = (x y : E) → R.passes x y → R.fails x y → ⊥

module _ (E : Type 0) (R : Rules E) (limit : ℕ) (consistent : IsConsistent E R) where
  -- What passes before a place does not fail there.
  not_before : (es : List E) (c x y : E) (place : ℕ) → (f : FirstFailing R es c x y) → PassesBefore R es c place → f.place < place → ⊥
  not_before es c x y place f before lt =
      let both = before f.place f.other lt f.is f.live in
      elim f.fails [
        | inl fails ↦ consistent c f.other both.0 fails.2
        | inr fails ↦ consistent f.other c both.1 fails.3
      ]

  first_same : (es : List E) (c x y v w : E) → FirstFailing R es c x y → FirstFailing R es c v w → (x ≡ v) × (y ≡ w)
  first_same es c x y v w f g = elim (cases_eq f.place g.place) [
    | inr other ↦ elim (cases_lt f.place g.place) [
      | inl less ↦ absurd (not_before es c x y g.place f g.before less)
      | inr more ↦ absurd (not_before es c v w f.place g f.before (omega arith))
    ]
    | inl same ↦
        let e : f.other ≡ g.other = at_same es g.place f.other g.other (subst (λ p. At es p f.other) same f.is) g.is in
        elim f.fails [
          | inl a ↦ elim g.fails [
            | inl b ↦ (a.0 ∙ sym b.0, a.1 ∙ e ∙ sym b.1)
            | inr b ↦ absurd (consistent c g.other b.2 (subst (λ o. R.fails c o) e a.2))
          ]
          | inr a ↦ elim g.fails [
            | inl b ↦ absurd (consistent c f.other a.2 (subst (λ o. R.fails c o) (sym e) b.2))
            | inr b ↦ (a.0 ∙ e ∙ sym b.0, a.1 ∙ sym b.1)
          ]
        ]
  ]

  -- What is subsumed is not new.
  not_new : (es : List E) (c : E) → HasSubsumer R es c → HasNoSubsumer R es c → ⊥
  not_new es c has none = none has.0 has.1 has.2 has.3

  not_all : (es : List E) (c x y : E) → FirstFailing R (es ++ c ∷ []) c x y → PassesBefore R (es ++ c ∷ []) c (length (es ++ c ∷ [])) → ⊥
  not_all es c x y f all = not_before (es ++ c ∷ []) c x y (length (es ++ c ∷ [])) f all (at_within (es ++ c ∷ []) f.place f.other f.is)

  dropped_live : (es : List E) (i : ℕ) → IsDropped R es i → StaysLive R es i → ⊥
  dropped_live es i d live = live d.place d.element d.by d.later d.is d.by_is d.subsumes

  pub one_outcome : (es cs : List E) (turn : ℕ) (o p : Outcome E) → Comes E R limit es cs turn o → Comes E R limit es cs turn p → o ≡ p
  one_outcome es (c ∷ cs) turn o p (passed_over has rest) (passed_over has' rest') = one_outcome es cs turn o p rest rest'
  one_outcome es (c ∷ cs) turn o p (passed_over has rest) (limit_met none full is) = absurd (not_new es c has none)
  one_outcome es (c ∷ cs) turn o p (passed_over has rest) (told_apart x y none few first is) = absurd (not_new es c has none)
  one_outcome es (c ∷ cs) turn o p (passed_over has rest) (entered none few passes rest') = absurd (not_new es c has none)
  one_outcome es (c ∷ cs) turn o p (limit_met none full is) (passed_over has rest) = absurd (not_new es c has none)
  one_outcome es (c ∷ cs) turn o p (limit_met none full is) (limit_met none' full' is') = is ∙ sym is'
  one_outcome es (c ∷ cs) turn o p (limit_met none full is) (told_apart x y none' few first is') = absurd (omega arith)
  one_outcome es (c ∷ cs) turn o p (limit_met none full is) (entered none' few passes rest) = absurd (omega arith)
  one_outcome es (c ∷ cs) turn o p (told_apart x y none few first is) (passed_over has rest) = absurd (not_new es c has none)
  one_outcome es (c ∷ cs) turn o p (told_apart x y none few first is) (limit_met none' full' is') = absurd (omega arith)
  one_outcome es (c ∷ cs) turn o p (told_apart x y none few first is) (told_apart v w none' few' first' is') =
      let both = first_same (es ++ c ∷ []) c x y v w first first' in
      is ∙ ap (λ a. Apart a y) both.0 ∙ ap (λ b. Apart v b) both.1 ∙ sym is'
  one_outcome es (c ∷ cs) turn o p (told_apart x y none few first is) (entered none' few' passes rest) = absurd (not_all es c x y first passes)
  one_outcome es (c ∷ cs) turn o p (entered none few passes rest) (passed_over has rest') = absurd (not_new es c has none)
  one_outcome es (c ∷ cs) turn o p (entered none few passes rest) (limit_met none' full' is') = absurd (omega arith)
  one_outcome es (c ∷ cs) turn o p (entered none few passes rest) (told_apart x y none' few' first' is) = absurd (not_all es c x y first' passes)
  one_outcome es (c ∷ cs) turn o p (entered none few passes rest) (entered none' few' passes' rest') = one_outcome (es ++ c ∷ []) cs turn o p rest rest'
  one_outcome es [] turn o p (turn_of_live x is live rest) (turn_of_live y is' live' rest') =
      one_outcome es (R.extensions turn x) (suc turn) o p rest
      (subst (λ z. Comes E R limit es (R.extensions turn z) (suc turn) p) (at_same es turn y x is' is) rest')
  one_outcome es [] turn o p (turn_of_live x is live rest) (turn_of_dropped dropped rest') = absurd (dropped_live es turn dropped live)
  one_outcome es [] turn o p (turn_of_live x is live rest) (done past is') = let lt = at_within es turn x is in absurd (omega arith)
  one_outcome es [] turn o p (turn_of_dropped dropped rest) (turn_of_live x is live rest') = absurd (dropped_live es turn dropped live)
  one_outcome es [] turn o p (turn_of_dropped dropped rest) (turn_of_dropped dropped' rest') = one_outcome es [] (suc turn) o p rest rest'
  one_outcome es [] turn o p (turn_of_dropped dropped rest) (done past is) = let lt = at_within es turn dropped.element dropped.is in absurd (omega arith)
  one_outcome es [] turn o p (done past is) (turn_of_live x x_is live rest) = let lt = at_within es turn x x_is in absurd (omega arith)
  one_outcome es [] turn o p (done past is) (turn_of_dropped dropped rest) = let lt = at_within es turn dropped.element dropped.is in absurd (omega arith)
  one_outcome es [] turn o p (done past is) (done past' is') = is ∙ sym is'
