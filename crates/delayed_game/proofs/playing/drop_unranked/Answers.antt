use Rattle.std.proofs.Common.{◌≡◌, ℕ, ◌+◌, ◌<◌, ◌≤◌, ◌↔◌, inl, inr, Bool, true, false, List, length, refl, sym, ap, ◌∙◌, subst, arith}
use Rattle.std.proofs.lemmas.Bool.{cases_eq, iff_false, false≢true}
use Rattle.auto_core.specs.Automaton.{Automaton, IsAccepting}
use Rattle.auto_core.specs.Rows.{bit_of}
use Rattle.auto_core.specs.Game.{Holds}
use Rattle.delayed_game.specs.Pairings.{Pairing, IsPairing}
use Rattle.delayed_game.proofs.BoardLemmas.{no_more_pairs}
use Rattle.delayed_game.specs.Settling.{HasSomeRank, IsFiltered}
use Rattle.delayed_game.proofs.playing.drop_unranked.Goals as goal
use Rattle.delayed_game.proofs.playing.drop_unranked.Goals.{then-accepting+then-drop_row, then-accepting+else-drop_row, else-accepting}

-- The next row was filtered.
pairs_more :
    (L : Automaton) (n : ℕ) (ranks : List ℕ) (old now new : Pairing) (p : ℕ) (b : Bool)
    → ((r s : ℕ) → Holds now.pairs r s ↔ (Holds old.pairs r s × (r < p → IsAccepting L r → HasSomeRank ranks n r s)))
    → IsAccepting L p
    → IsFiltered now new p (λ q. HasSomeRank ranks n p q) b
    → (r s : ℕ) → Holds new.pairs r s ↔ (Holds old.pairs r s × (r < p + 1 → IsAccepting L r → HasSomeRank ranks n r s))
pairs_more L n ranks old now new p b h accepting f r s = (
  λ held.
      let two = (f.pairs r s).0 held in
      let was = (h r s).0 two.0 in (
        was.0,
        λ lt acc. elim (cases_eq r p) [
          | inl e ↦ subst (λ x. HasSomeRank ranks n x s) (sym e) (two.1 e)
          | inr apart ↦ was.1 (omega arith) acc
        ],
      ),
  λ both. (f.pairs r s).1 (
    (h r s).1 (both.0, λ lt. both.1 (omega arith)),
    λ e. subst (λ x. HasSomeRank ranks n x s) e (both.1 (omega arith) (subst (λ x. IsAccepting L x) (sym e) accepting)),
  ),
)

-- The next row's state is not accepting.
pairs_passed :
    (L : Automaton) (n : ℕ) (ranks : List ℕ) (old now : Pairing) (p : ℕ)
    → ((r s : ℕ) → Holds now.pairs r s ↔ (Holds old.pairs r s × (r < p → IsAccepting L r → HasSomeRank ranks n r s)))
    → (IsAccepting L p → ⊥)
    → (r s : ℕ) → Holds now.pairs r s ↔ (Holds old.pairs r s × (r < p + 1 → IsAccepting L r → HasSomeRank ranks n r s))
pairs_passed L n ranks old now p h none r s = (
  λ held. let was = (h r s).0 held in (
    was.0,
    λ lt acc. elim (cases_eq r p) [
      | inl e ↦ absurd (none (subst (λ x. IsAccepting L x) e acc))
      | inr apart ↦ was.1 (omega arith) acc
    ],
  ),
  λ both. (h r s).1 (both.0, λ lt. both.1 (omega arith)),
)

pub loop-p-init : goal.loop-p-init
loop-p-init c = (
  (refl, refl),
  c.requires.valid,
  λ r s. (λ held. (held, λ lt. absurd (omega arith)), λ both. both.0),
  omega arith,
  λ yes. absurd (false≢true yes),
  λ no. refl,
  λ x clear. (clear, λ q held. held),
)

pub loop-p-preserved : goal.loop-p-preserved
loop-p-preserved c =
    let L = c.args.places.now in
    let n = c.args.board.now.states in
    let ranks = c.args.ranks.now in
    let old = c.args.board.now in
    let R = c.loop-p.board in
    let marks = c.loop-p.marks in
    let p = c.loop-p.p in
    let h = c.loop-p.invariant in
    let size : R.states ≡ n = h.0.1 in
    let upto = h.3 in
    let All : Pairing → List ℕ → Bool → Type 0 = λ T m any.
    ((T.places ≡ old.places) × (T.states ≡ old.states))
    × IsPairing T
    × ((r s : ℕ) → Holds T.pairs r s ↔ (Holds old.pairs r s × (r < p + 1 → IsAccepting L r → HasSomeRank ranks n r s)))
    × (length T.pairs ≤ length old.pairs)
    × (any ≡ true → length T.pairs < length old.pairs)
    × (any ≡ false → T ≡ old)
    × ((x : ℕ) → bit_of m x ≡ false → (bit_of c.args.marks.now x ≡ false) × ((q : ℕ) → Holds old.pairs x q → Holds T.pairs x q)) in
    elim c.if-accepting.branch [
      | then-accepting+then-drop_row w ↦
          let S = w.drop_row.new.board in
          let f : IsFiltered R S p (λ q. HasSomeRank ranks n p q) w.drop_row.result = subst (λ m. IsFiltered R S p (λ q. HasSomeRank ranks m p q) w.drop_row.result) size w.drop_row.ensures in
          let fell = f.some w.if-drop_row.true in
          let marks' = w.set_bit.new.row in
          let away : (x : ℕ) → bit_of marks' x ≡ false → ¬ (x ≡ p) = λ x clear e. false≢true (sym clear ∙ ap (λ y. bit_of marks' y) e ∙ w.set_bit.ensures.here) in
          subst (λ T. All T c.if-accepting.marks c.if-accepting.any) (sym w.board-is)
          (subst (λ m. All S m c.if-accepting.any) (sym w.marks-is) (subst (λ any. All S marks' any) (sym w.any-is) (
            (f.places ∙ h.0.0, f.states ∙ h.0.1),
            f.valid,
            pairs_more L n ranks old R S p w.drop_row.result h.2 (c.accepting.ensures.told.0 w.if-accepting.true) f,
            omega arith,
            λ yes. omega arith,
            λ no. absurd (false≢true (sym no)),
            λ x clear.
                let was = h.6 x (sym (w.set_bit.ensures.others x (away x clear)) ∙ clear) in
                (was.0, λ q held. (f.pairs x q).1 (was.1 q held, λ e. absurd (away x clear e))),
          )))
      | then-accepting+else-drop_row w ↦
          let S = w.drop_row.new.board in
          let f : IsFiltered R S p (λ q. HasSomeRank ranks n p q) w.drop_row.result = subst (λ m. IsFiltered R S p (λ q. HasSomeRank ranks m p q) w.drop_row.result) size w.drop_row.ensures in
          let same : S ≡ R = f.same w.if-drop_row.false in
          let upto_new = no_more_pairs R S h.1 f.valid (λ r s k. ((f.pairs r s).0 k).0) in
          subst (λ T. All T c.if-accepting.marks c.if-accepting.any) (sym w.board-is)
          (subst (λ m. All S m c.if-accepting.any) (sym w.marks-is) (subst (λ any. All S marks any) (sym w.any-is) (
            (f.places ∙ h.0.0, f.states ∙ h.0.1),
            f.valid,
            pairs_more L n ranks old R S p w.drop_row.result h.2 (c.accepting.ensures.told.0 w.if-accepting.true) f,
            omega arith,
            λ yes. let fell = h.4 yes in omega arith,
            λ no. same ∙ h.5 no,
            λ x clear. let was = h.6 x clear in (was.0, λ q held. subst (λ (T : Pairing). Holds T.pairs x q) (sym same) (was.1 q held)),
          )))
      | else-accepting w ↦
          subst (λ T. All T c.if-accepting.marks c.if-accepting.any) (sym w.board-is)
          (subst (λ m. All R m c.if-accepting.any) (sym w.marks-is) (subst (λ any. All R marks any) (sym w.any-is) (
            h.0,
            h.1,
            pairs_passed L n ranks old R p h.2 (iff_false c.accepting.ensures.told w.if-accepting.false),
            h.3,
            h.4,
            h.5,
            h.6,
          )))
    ]

pub returns-clause-drops : goal.returns-clause-drops
returns-clause-drops c =
    let h = c.loop-p.invariant in
    record {
      places = h.0.0;
      states = h.0.1;
      valid = h.1;
      within = λ p q held. ((h.2 p q).0 held).0;
      stays = λ p q held ranked. (h.2 p q).1 (held, λ lt. ranked);
      ranked = λ p q held accepting.
          let was = (h.2 p q).0 held in
          let lt = (c.requires.valid.in_range p q was.0).0 in
          was.1 (omega (arith, lt, c.requires.rows, c.loop-p-test.false, c.states-p-end.ensures.count)) accepting;
      marked = h.6;
    }
