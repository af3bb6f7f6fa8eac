-- The searches of both modes: over supergraphs where lassos are compared, over pairs of a state and
-- a set where finite words are.
use Rattle.std.specs.Prelude.{ℕ, ◌<◌, List, length}
use Rattle.auto_core.specs.Automaton.{Automaton}
use Rattle.auto_core.specs.Outcome.{Rules, Entry, supergraph_rules}
use Rattle.auto_core.specs.PairOutcome.{pair_rules}
use Rattle.auto_core.specs.declared.parts.Mode.{Mode}
use Rattle.auto_core.specs.declared.parts.Mode.TheVariants.{Buchi, Finite}
use Rattle.auto_core.specs.declared.parts.Origin.{Origin}
use Rattle.auto_laws.specs.Bounds.{supergraph_bound, pair_bound}
use Rattle.evidence.specs.Evidence.{entry_at}

-- The rules of the search.
abbrev pub rules_in : Mode → Automaton → Automaton → List (ℕ × ℕ) → Rules Entry
rules_in Buchi A B S = supergraph_rules A B S
rules_in Finite A B S = pair_rules A B S

-- So many different elements are there at most for automata with a and b states.
abbrev pub bound_in : Mode → ℕ → ℕ → ℕ
bound_in Buchi a b = supergraph_bound a b
bound_in Finite a b = pair_bound a b

-- No origin's element is subsumed by that of an earlier one.
abbrev pub NoneSubsumedBeforeIn : Rules Entry → Automaton → List Origin → Type 0
NoneSubsumedBeforeIn R A origins =
    (i j : ℕ) → i < j → j < length origins
    → R.subsumes (entry_at A origins i) (entry_at A origins j) → ⊥
