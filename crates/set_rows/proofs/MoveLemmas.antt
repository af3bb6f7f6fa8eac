-- The targets of the moves of a state with a label.
use Rattle.std.proofs.Common.{◌≡◌, ℕ, ◌+◌, ◌<◌, ◌≤◌, ◌⊎◌, ◌↔◌, inl, inr, refl, sym, ◌∙◌, subst, arith}
use Rattle.std.proofs.lemmas.Bool.{cases_eq}
use Rattle.auto_core.specs.Automaton.{Automaton, Moves, IsSuccessors, trans_at}
use Rattle.auto_core.proofs.MoveLemmas.{successor_moves, moves_in_successors}

-- One of the transitions from `begin` up to `upto` leads to q.
abbrev pub IsTarget : Automaton → ℕ → ℕ → ℕ → Type 0
IsTarget A begin upto q = (t : ℕ) × (begin ≤ t) × (t < upto) × ((trans_at A t).target ≡ q)

pub no_target : (A : Automaton) (begin q : ℕ) → IsTarget A begin begin q → ⊥
no_target A begin q (t, from, below, at) = absurd (omega arith)

pub target_more : (A : Automaton) (begin t : ℕ) → begin ≤ t → (q : ℕ) → IsTarget A begin (t + 1) q ↔ (IsTarget A begin t q ⊎ (q ≡ (trans_at A t).target))
target_more A begin t begin_le q = (
  λ (s, from, below, at). elim (cases_eq s t) [
    | inl e ↦ inr (sym at ∙ subst (λ k. (trans_at A s).target ≡ (trans_at A k).target) e refl)
    | inr n ↦ inl (s, from, omega arith, at)
  ],
  λ h. elim h [
    | inl (s, from, below, at) ↦ (s, from, omega arith, at)
    | inr same ↦ (t, begin_le, omega arith, sym same)
  ],
)

-- All of them.
pub target_moves : (A : Automaton) (p a begin end : ℕ) → IsSuccessors A p a begin end → (q : ℕ) → IsTarget A begin end q ↔ Moves A p a q
target_moves A p a begin end s q = (
  λ (t, from, below, at). subst (λ x. Moves A p a x) at (successor_moves A p a begin end s t from below),
  λ m. moves_in_successors A p a begin end s q m,
)
