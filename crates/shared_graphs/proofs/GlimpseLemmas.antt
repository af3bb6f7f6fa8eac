-- Glimpses of graphs as they come, and lassos seen by them.
use Rattle.std.proofs.Common.{◌≡◌, ◌⊎◌, ℕ, zero, suc, ◌<◌, ◌/◌, ◌%◌, ◌==◌, List, [], ◌∷◌, ◌++◌, length, get_or, slice_set, refl, subst, inl, inr, sym, ap, ◌∙◌, arith}
use Rattle.std.specs.Int.{bit_at}
use Rattle.std.proofs.lemmas.Bool.{cases_eq, false≢true}
use Rattle.std.proofs.lemmas.Nat.Bits.{bit_at-zero}
use Rattle.std.proofs.lemmas.Option.{same_Some}
use Rattle.auto_core.specs.Automaton.{Automaton}
use Rattle.auto_core.specs.Graph as words
use Rattle.auto_core.specs.Outcome.{At}
use Rattle.auto_core.specs.Rows.{HasBit}
use Rattle.auto_core.proofs.BitLemmas.{bit_past}
use Rattle.graph_rows.specs.Block.{IsFormed, block_graph}
use Rattle.auto_laws.proofs.PlaceLemmas.{at_cases}
use Rattle.lasso_test.proofs.LoopLemmas.{blocks_enter}
use Rattle.shared_graphs.specs.declared.glimpses.Glimpse.{Glimpse}
use Rattle.shared_graphs.specs.Graphs.{block_at}
use Rattle.shared_graphs.specs.Glimpses.{AreGlimpses, IsGlimpse, MeetAtSight}

-- The first word of a row has no bit that the row has not.
pub first_bits : (x : ℕ) (row : List ℕ) (q : ℕ) → x ≡ get_or row 0 0 → HasBit (x ∷ []) q → HasBit row q
first_bits x row q is bit = elim (cases_eq (q / 64) 0) [
  | inl e ↦
      ap (λ k. bit_at (get_or row k 0) (q % 64) == 1) e
      ∙ ap (λ k. bit_at k (q % 64) == 1) (sym is)
      ∙ sym (ap (λ k. bit_at (get_or (x ∷ []) k 0) (q % 64) == 1) e)
      ∙ bit
  | inr n ↦ absurd (false≢true (sym (bit_past (x ∷ []) q (omega arith)) ∙ bit))
]

-- A word of zero has no bit.
pub no_bit : (q : ℕ) → HasBit (0 ∷ []) q → ⊥
no_bit q bit = elim (cases_eq (q / 64) 0) [
  | inl e ↦ absurd (false≢true (sym (ap (λ k. bit_at (get_or (0 ∷ []) k 0) (q % 64) == 1) e ∙ ap (λ n. n == 1) (bit_at-zero (q % 64))) ∙ bit))
  | inr n ↦ absurd (false≢true (sym (bit_past (0 ∷ []) q (omega arith)) ∙ bit))
]

-- One glimpse more.
pub glimpses_more :
    (B : Automaton) (graphs : List (List ℕ)) (old now : List Glimpse) (glimpse : Glimpse)
    → now ≡ old ++ glimpse ∷ []
    → length old < length graphs
    → IsGlimpse B (block_graph B.states (block_at graphs (length old))) glimpse
    → AreGlimpses B graphs old
    → AreGlimpses B graphs now
glimpses_more B graphs old now glimpse now_is within is all k x x_is =
    elim (at_cases old glimpse k x (subst (λ l. At l k x) now_is x_is)) [
      | inl was ↦ all k x was
      | inr new ↦
          subst (λ i. (i < length graphs) × IsGlimpse B (block_graph B.states (block_at graphs i)) x) (sym new.0)
          (subst (λ (y : Glimpse). (length old < length graphs) × IsGlimpse B (block_graph B.states (block_at graphs (length old))) y) (sym new.1) (within, is))
    ]

-- What stands at a place where one thing was put in another's place.
at_put : {X : Type 0} (xs : List X) (h : ℕ) (c : X) (i : ℕ) (x : X) → At (slice_set xs h c) i x → At xs i x ⊎ ((i ≡ h) × (x ≡ c))
at_put [] h c i x p = inl p
at_put (y ∷ xs) zero c zero x p = inr (refl, sym (same_Some c x p))
at_put (y ∷ xs) zero c (suc i) x p = inl p
at_put (y ∷ xs) (suc h) c zero x p = inl p
at_put (y ∷ xs) (suc h) c (suc i) x p = elim (at_put xs h c i x p) [ inl was ↦ inl was | inr new ↦ inr (ap suc new.0, new.1) ]

-- Another glimpse of a graph.
pub glimpse_set :
    (B : Automaton) (graphs : List (List ℕ)) (old : List Glimpse) (h : ℕ) (glimpse : Glimpse)
    → h < length graphs
    → IsGlimpse B (block_graph B.states (block_at graphs h)) glimpse
    → AreGlimpses B graphs old
    → AreGlimpses B graphs (slice_set old h glimpse)
glimpse_set B graphs old h glimpse within is all k x x_is =
    elim (at_put old h glimpse k x x_is) [
      | inl was ↦ all k x was
      | inr new ↦
          subst (λ i. (i < length graphs) × IsGlimpse B (block_graph B.states (block_at graphs i)) x) (sym new.0)
          (subst (λ (y : Glimpse). (h < length graphs) × IsGlimpse B (block_graph B.states (block_at graphs h)) y) (sym new.1) (within, is))
    ]

pub seen_lasso :
    (B : Automaton) (graphs : List (List ℕ)) (glimpses : List Glimpse) (g h : ℕ)
    → IsFormed B.states (block_at graphs h)
    → AreGlimpses B graphs glimpses
    → MeetAtSight glimpses g h
    → words.LassoIn (block_graph B.states (block_at graphs g)) (block_graph B.states (block_at graphs h)) B.initial
seen_lasso B graphs glimpses g h formed all meet =
    let law = blocks_enter B.states (block_at graphs g) (block_at graphs h) B.initial formed in
    law.1 (meet.state, (all g meet.first meet.first_is).1.entered meet.state meet.entered, (all h meet.second meet.second_is).1.looping meet.state meet.looping)
