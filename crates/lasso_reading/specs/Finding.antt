-- What the answers mean where a lasso is sought.
use Rattle.std.specs.Prelude.{◌≡◌, ℕ, List}
use Rattle.auto_core.specs.Automaton.{Automaton, Moves}
use Rattle.auto_core.specs.Accept.{AcceptsLasso}
use Rattle.auto_core.specs.declared.parts.Lasso.{Lasso}
use Rattle.lasso_reading.specs.Reading.{ReadsLasso, AreMoreRead}
use Rattle.lasso_reading.specs.declared.finding.Answer.{Answer}

-- The automaton has no move.
abbrev pub HasNoMoves : Automaton → Type 0
HasNoMoves A = (p a q : ℕ) → Moves A p a q → ⊥

-- It accepts no lasso.
abbrev pub AcceptsNone : Automaton → Type 0
AcceptsNone A = (u v : List ℕ) → AcceptsLasso A u v → ⊥

-- A lasso that is given is accepted, and its classes spell the same as the lasso of classes.
abbrev pub LassoIsRight : Automaton → List ℕ → List ℕ → List ℕ → Answer → Type 0
LassoIsRight A classes cu cv answer =
    (lasso : Lasso) → answer ≡ Answer.Accepted lasso
    → ReadsLasso A classes cu cv lasso.prefix lasso.turn

-- Where none is given there is none.
abbrev pub RejectedIsRight : Automaton → List ℕ → List ℕ → List ℕ → Answer → Type 0
RejectedIsRight A classes cu cv answer =
    answer ≡ Answer.Rejected → (u v : List ℕ) → ReadsLasso A classes cu cv u v → ⊥

-- The limit is met only where more pairs are reached.
abbrev pub LimitIsRight : Automaton → List ℕ → List ℕ → List ℕ → ℕ → Answer → Type 0
LimitIsRight A classes cu cv limit answer =
    answer ≡ Answer.Limit → AreMoreRead A classes cu cv limit
