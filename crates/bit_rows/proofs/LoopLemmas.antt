-- Tables turned round, components, and what they mark.
use Rattle.std.proofs.Common.{◌≡◌, ℕ, zero, suc, ◌+◌, ◌*◌, ◌<◌, ◌≤◌, ◌⊎◌, ◌↔◌, inl, inr, ◌||◌, ◌&&◌, Bool, true, false, List, length, refl, sym, ◌∙◌, subst, arith}
use Rattle.std.proofs.lemmas.Bool.{cases_eq, cases_lt, false≢true}
use Rattle.auto_core.specs.Game.{Chain, Close}
use Rattle.auto_core.specs.Rows.{bit_of, cell_of, HasBit, HasCell}
use Rattle.auto_core.specs.Reach.{IsTable, HasArc, ReturnsTo}
use Rattle.auto_core.proofs.ReachLemmas.{close_refl, close_trans, close_one}
use Rattle.bit_rows.specs.Loops.{LeadsToLoop, AreArcs, IsTurned}
use Rattle.bit_rows.specs.Marking.{HasArcWithin, IsComponent, AreDone}

-- ---- bits

pub or_has : (a b : Bool) → (a || b) ≡ true ↔ ((a ≡ true) ⊎ (b ≡ true))
or_has true b = (λ h. inl refl, λ h. refl)
or_has false b = (λ h. inr h, λ h. elim h [ inl p ↦ absurd (false≢true p) | inr q ↦ q ])

pub and_has : (a b : Bool) → (a && b) ≡ true ↔ ((a ≡ true) × (b ≡ true))
and_has true b = (λ h. (refl, h), λ h. h.1)
and_has false b = (λ h. absurd (false≢true h), λ h. absurd (false≢true h.0))

-- ---- a table turned round

pub turned_all :
    (table turned : List ℕ) (n width : ℕ)
    → IsTable table n width
    → length turned ≡ n * width
    → ((p q : ℕ) → p < n → q < width * 64 → HasCell turned width p q ↔ ((q < n) × HasCell table width q p))
    → IsTurned table turned n width
turned_all table turned n width t len is =
    let room = t.room in
    record {
      fits = record { len = len; room = room; columns = λ p q p_in q_in h. ((is p q p_in q_in).0 h).0 };
      each = λ p q. (
        λ (p_in, q_in, h). (q_in, p_in, ((is p q p_in (omega arith)).0 h).1),
        λ (q_in, p_in, h). (p_in, q_in, (is p q p_in (omega arith)).1 (q_in, h)),
      );
    }

-- ---- chains turned round

module _ (R T : ℕ → ℕ → Type 0) (turned : (p q : ℕ) → T p q → R q p) where
  chain_turned : (n p q : ℕ) → Chain T n p q → Close R q p
  chain_turned zero p q e = subst (λ x. Close R x p) e (close_refl R p)
  chain_turned (suc n) p q (s, step, rest) = close_trans R q s p (chain_turned n s q rest) (close_one R s p (turned p s step))

  pub close_turned : (p q : ℕ) → Close T p q → Close R q p
  close_turned p q (n, c) = chain_turned n p q c

pub close_in : (table : List ℕ) (n width p q : ℕ) → q < n → Close (HasArc table n width) p q → p < n
close_in table n width p q q_in (zero, e) = subst (λ x. x < n) (sym e) q_in
close_in table n width p q q_in (suc m, (s, arc, rest)) = arc.0

-- what the table turned round reaches is what reaches
pub reached_back :
    (table turned : List ℕ) (n width at : ℕ) (behind : List ℕ)
    → IsTurned table turned n width
    → ((q : ℕ) → HasBit behind q ↔ Close (HasArc turned n width) at q)
    → (q : ℕ)
    → HasBit behind q ↔ Close (HasArc table n width) q at
reached_back table turned n width at behind t is q = (
  λ has. close_turned (HasArc table n width) (HasArc turned n width) (λ p r a. (t.each p r).0 a) at q ((is q).0 has),
  λ way. (is q).1 (close_turned (HasArc turned n width) (HasArc table n width) (λ p r a. (t.each r p).1 a) q at way),
)

-- the bits of a row are the arcs out of its place
pub row_arc :
    (table : List ℕ) (n width at : ℕ)
    → IsTable table n width
    → at < n
    → (row : List ℕ)
    → ((q : ℕ) → q < width * 64 → bit_of row q ≡ cell_of table width at q)
    → ((q : ℕ) → width * 64 ≤ q → bit_of row q ≡ false)
    → (q : ℕ)
    → HasBit row q ↔ HasArc table n width at q
row_arc table n width at t at_in row inside outside q = (
  λ has. elim (cases_lt q (width * 64)) [
    | inl near ↦ let cell : HasCell table width at q = sym (inside q near) ∙ has in (at_in, t.columns at q at_in near cell, cell)
    | inr far ↦ absurd (false≢true (sym (outside q far) ∙ has))
  ],
  λ (_, q_in, cell). let room = t.room in inside q (omega arith) ∙ cell,
)

-- ---- what a component marks

module _ (any flagged : ℕ → ℕ → Type 0) (arcs : AreArcs flagged any) (at : ℕ) (component : List ℕ) (is : IsComponent any at component) where
  -- a flagged arc within it leads back
  pub within_returns : HasArcWithin flagged component → (x : ℕ) × Close any at x × ReturnsTo any flagged x
  within_returns (p, q, p_in, arc, q_in) = (p, ((is p).0 p_in).0, (q, arc, close_trans any q at p ((is q).0 q_in).1 ((is p).0 p_in).0))

  -- a flagged arc that leads back lies within it
  pub returns_within : (x : ℕ) → HasBit component x → ReturnsTo any flagged x → HasArcWithin flagged component
  returns_within x x_in (next, arc, back) =
      let (to, from) = (is x).0 x_in in
      (x, next, x_in, arc, (is next).1 (close_trans any at x next to (close_one any x next (arcs x next arc)), close_trans any next x at back from))

module _ (any flagged : ℕ → ℕ → Type 0) (count at : ℕ) (looping done_places : List ℕ) (s : AreDone any flagged count looping done_places at) where
  pub done_over : HasBit looping at ⊎ HasBit done_places at → AreDone any flagged count looping done_places (at + 1)
  done_over here = record {
    sound = s.sound;
    closed = s.closed;
    plain = s.plain;
    all = λ q lt. elim (cases_eq q at) [
      | inl e ↦ elim here [ inl h ↦ inl (subst (λ x. HasBit looping x) (sym e) h) | inr h ↦ inr (subst (λ x. HasBit done_places x) (sym e) h) ]
      | inr apart ↦ s.all q (omega arith)
    ];
  }

  pub done_looping : (behind new : List ℕ) → ((q : ℕ) → HasBit behind q ↔ Close any q at) → ((q : ℕ) → Close any q at → q < count) → ((i : ℕ) → bit_of new i ≡ (bit_of looping i || bit_of behind i))
      → ((x : ℕ) × Close any at x × ReturnsTo any flagged x)
      → AreDone any flagged count new done_places (at + 1)
  done_looping behind new reach below is (x, way, returns) = record {
    sound = λ q h. elim ((or_has (bit_of looping q) (bit_of behind q)).0 (sym (is q) ∙ h)) [
      | inl was ↦ s.sound q was
      | inr now ↦ let to = (reach q).0 now in (below q to, (x, close_trans any q at x to way, returns))
    ];
    closed = λ p q c h. elim ((or_has (bit_of looping q) (bit_of behind q)).0 (sym (is q) ∙ h)) [
      | inl was ↦ is p ∙ (or_has (bit_of looping p) (bit_of behind p)).1 (inl (s.closed p q c was))
      | inr now ↦ is p ∙ (or_has (bit_of looping p) (bit_of behind p)).1 (inr ((reach p).1 (close_trans any p q at c ((reach q).0 now))))
    ];
    plain = s.plain;
    all = λ q lt. elim (cases_eq q at) [
      | inl e ↦ inl (is q ∙ (or_has (bit_of looping q) (bit_of behind q)).1 (inr ((reach q).1 (subst (λ z. Close any z at) (sym e) (close_refl any at)))))
      | inr apart ↦ elim (s.all q (omega arith)) [
        | inl was ↦ inl (is q ∙ (or_has (bit_of looping q) (bit_of behind q)).1 (inl was))
        | inr was ↦ inr was
      ]
    ];
  }

  pub done_plain : (component new : List ℕ) → IsComponent any at component → ((i : ℕ) → bit_of new i ≡ (bit_of done_places i || bit_of component i)) → ((x : ℕ) → HasBit component x → ReturnsTo any flagged x → ⊥)
      → AreDone any flagged count looping new (at + 1)
  done_plain component new reach is none = record {
    sound = s.sound;
    closed = s.closed;
    plain = λ q h. elim ((or_has (bit_of done_places q) (bit_of component q)).0 (sym (is q) ∙ h)) [
      | inl was ↦ s.plain q was
      | inr now ↦ none q now
    ];
    all = λ q lt. elim (cases_eq q at) [
      | inl e ↦ inr (is q ∙ (or_has (bit_of done_places q) (bit_of component q)).1 (inr ((reach q).1 (subst (λ z. Close any at z × Close any z at) (sym e) (close_refl any at, close_refl any at)))))
      | inr apart ↦ elim (s.all q (omega arith)) [
        | inl was ↦ inl was
        | inr was ↦ inr (is q ∙ (or_has (bit_of done_places q) (bit_of component q)).1 (inl was))
      ]
    ];
  }

-- once all are done, just those are marked that lead to a loop
pub all_done : (any flagged : ℕ → ℕ → Type 0) (count at : ℕ) (looping done_places : List ℕ) → count ≤ at → ((p q : ℕ) → flagged p q → p < count) → AreDone any flagged count looping done_places at
    → (q : ℕ) → HasBit looping q ↔ ((q < count) × LeadsToLoop any flagged q)
all_done any flagged count at looping done_places over inside s q = (
  s.sound q,
  λ (q_in, (x, way, returns)). elim (s.all x (let lt = inside x returns.0 returns.1 in omega arith)) [
    | inl has ↦ s.closed q x way has
    | inr has ↦ absurd (s.plain x has returns)
  ],
)
