-- The moves and the accepting places of the automaton of the places.
use Rattle.std.specs.Prelude.{◌≡◌, ℕ, ◌+◌, ◌*◌, ◌/◌, ◌%◌, ◌<◌, ◌↔◌, List, length, Contains, slice_index_or}
use Rattle.std.specs.List.{AllPairs}
use Rattle.auto_core.specs.declared.parts.Trans.{Trans}
use Rattle.auto_core.specs.Automaton.{Automaton, IsAccepting, trans, trans_at}

-- The move of places by the transition, after which the word is that with the number c.
abbrev pub step_announcing : ℕ → ℕ → Trans → ℕ → Trans
step_announcing labels words t c =
    trans (t.source * words + (t.label * words + c) / labels) t.label (t.target * words + c)

-- The move with this number: those of a transition stand together.
abbrev pub step_at : Automaton → ℕ → ℕ → Trans
step_at A words k = step_announcing A.labels words (trans_at A (k / words)) (k % words)

-- The first moves.
abbrev pub AreSteps : Automaton → ℕ → List Trans → ℕ → Type 0
AreSteps A words steps upto =
    (length steps ≡ upto)
    × ((k : ℕ) (d : Trans) → k < upto → slice_index_or steps k d ≡ step_at A words k)

-- Just the accepting places below a number, ascending.
pub record AreAcceptingPlaces (A : Automaton) (words : ℕ) (accepting : List ℕ)
    (upto : ℕ) : Type 0 where
  pub each : (x : ℕ) → Contains accepting x ↔ ((x < upto) × IsAccepting A (x / words))
  pub in_order : AllPairs (λ x y. x < y) accepting
