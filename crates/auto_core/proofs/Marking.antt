-- What holds each time round the loop of a work list.
use Rattle.std.proofs.Common.{◌≡◌, ℕ, ◌*◌, ◌<◌, ◌≤◌, ◌⊎◌, inl, inr, Bool, true, false, ◌||◌, List, sym, ap, ◌∙◌, subst, arith}
use Rattle.std.proofs.lemmas.Bool.{cases_eq, cases_lt, or_cases, false≢true}
use Rattle.auto_core.proofs.ReachLemmas.{close_trans, close_one}
use Rattle.auto_core.specs.Rows.{bit_of, cell_of, HasBit, HasCell}
use Rattle.auto_core.specs.Reach.{IsTable, HasArc, MarksBelow}
use Rattle.auto_core.specs.Game.{Close}

-- The marks are reached from the old ones, and the arcs out of what is done lead to marks.
pub record IsMarking (table : List ℕ) (count width : ℕ) (old marks done : List ℕ) : Type 0 where
  pub below : MarksBelow marks count
  pub each : (q : ℕ) → HasBit marks q → (p : ℕ) × HasBit old p × Close (HasArc table count width) p q
  pub kept : (q : ℕ) → HasBit old q → HasBit marks q
  pub visited : (p q : ℕ) → HasBit done p → HasArc table count width p q → HasBit marks q

or_left : (a b c : Bool) → a ≡ (b || c) → b ≡ true → a ≡ true
or_left a b c e h = e ∙ ap (λ x. x || c) h

or_right : (a b c : Bool) → a ≡ (b || c) → c ≡ true → a ≡ true
or_right a true c e h = e
or_right a false c e h = e ∙ h

-- a place is visited: the arcs out of it are marked
pub visit :
    (table : List ℕ) (count width : ℕ) (old marks done : List ℕ)
    → IsMarking table count width old marks done
    → IsTable table count width
    → (p : ℕ) (row marks' done' : List ℕ)
    → HasBit marks p
    → ((q : ℕ) → q < width * 64 → bit_of row q ≡ cell_of table width p q)
    → ((q : ℕ) → width * 64 ≤ q → bit_of row q ≡ false)
    → ((q : ℕ) → bit_of marks' q ≡ (bit_of marks q || bit_of row q))
    → ((q : ℕ) → ¬ (q ≡ p) → bit_of done' q ≡ bit_of done q)
    → IsMarking table count width old marks' done'
visit table count width old marks done m t p row marks' done' p_marked inside outside merged others =
    let p_in : p < count = m.below p p_marked in
    let arc_of : (q : ℕ) → HasBit row q → HasArc table count width p q =
    λ q h.
    elim (cases_lt q (width * 64)) [
      | inl near ↦
          let cell : HasCell table width p q = sym (inside q near) ∙ h in
          (p_in, t.columns p q p_in near cell, cell)
      | inr far ↦ absurd (false≢true (sym (outside q far) ∙ h))
    ] in
    let cases : (q : ℕ) → HasBit marks' q → HasBit marks q ⊎ HasBit row q =
    λ q h. or_cases (bit_of marks q) (bit_of row q) (sym (merged q) ∙ h) in
    record {
      below = λ q h. elim (cases q h) [ inl was ↦ m.below q was | inr new ↦ (arc_of q new).1 ];
      each = λ q h.
          elim (cases q h) [
            | inl was ↦ m.each q was
            | inr new ↦
                let (s, marked, way) = m.each p p_marked in
                (s, marked, close_trans (HasArc table count width) s p q way (close_one (HasArc table count width) p q (arc_of q new)))
          ];
      kept = λ q h. or_left (bit_of marks' q) (bit_of marks q) (bit_of row q) (merged q) (m.kept q h);
      visited = λ r q h a.
          elim (cases_eq r p) [
            | inl e ↦
                let room = t.room in
                let near : q < width * 64 = omega (arith, a.1) in
                let cell : cell_of table width p q ≡ true = subst (λ s. cell_of table width s q ≡ true) e a.2 in
                or_right (bit_of marks' q) (bit_of marks q) (bit_of row q) (merged q) (inside q near ∙ cell)
            | inr n ↦
                or_left (bit_of marks' q) (bit_of marks q) (bit_of row q) (merged q) (m.visited r q (sym (others r n) ∙ h) a)
          ];
    }
