-- Passes: all steps in order, again and again until a pass changes nothing.
use Rattle.std.specs.Prelude.{◌≡◌, ℕ, zero, suc, List, [], ◌∷◌, Contains}
use Rattle.auto_core.specs.Automaton.{Automaton}
use Rattle.auto_core.specs.declared.parts.Mode.{Mode}
use Rattle.reduce_loop.specs.declared.steps.Foresight.{Foresight}
use Rattle.reduce_loop.specs.declared.steps.Kind.{Kind}
use Rattle.reduce_loop.specs.Kinds.{kinds_of, After}

-- A step of each of these kinds leaves A as it is.
abbrev pub AreIdle : Automaton → Mode → Foresight → List Kind → Type 0
AreIdle A mode sight kinds = (kind : Kind) → Contains kinds kind → After A mode sight kind A

-- Steps of these kinds, one after the other, lead from A to C.
abbrev pub Through : Automaton → Mode → Foresight → List Kind → Automaton → Type 0
Through A mode sight [] C = C ≡ A
Through A mode sight (kind ∷ kinds) C =
    (B : Automaton) × After A mode sight kind B × Through B mode sight kinds C

-- B is A after one pass.
abbrev pub IsPass : Automaton → Mode → Foresight → Automaton → Type 0
IsPass A mode sight B = Through A mode sight (kinds_of mode) B

-- n passes that each change the automaton lead from A to C, and the next pass leaves C as it is.
abbrev pub LeadByPasses : Automaton → Mode → Foresight → ℕ → Automaton → Type 0
LeadByPasses A mode sight zero C = (C ≡ A) × IsPass A mode sight A
LeadByPasses A mode sight (suc n) C =
    (B : Automaton) × IsPass A mode sight B × (B ≡ A → ⊥) × LeadByPasses B mode sight n C

-- C is the first of A, A after one pass, A after two passes and so on that a further pass leaves as
-- it is.
abbrev pub IsReduced : Automaton → Mode → Foresight → Automaton → Type 0
IsReduced A mode sight C = (n : ℕ) × LeadByPasses A mode sight n C
