-- What ranked products and cycles of pairs show.
use Rattle.std.specs.Prelude.{ℕ, List}
use Rattle.auto_core.specs.Automaton.{Automaton, IsAutomaton}
use Rattle.auto_core.specs.Accept.{Includes, SeparatesLasso}
use Rattle.auto_core.specs.declared.parts.Mode.TheVariants.{Buchi}
use Rattle.product_laws.specs.declared.RankedPair.{RankedPair}
use Rattle.product_laws.specs.Ranked.{IsDeterministic, IsRankedProduct}
use Rattle.product_laws.specs.Reached.{LeadsTo, IsReachedPair, IsBadCycle, ReachesGoal}

-- If there is a ranked product, B accepts each lasso that A accepts.
abbrev pub RankedProductIncludes : Type 0
RankedProductIncludes =
    (A B : Automaton) (pairs : List RankedPair) → IsAutomaton B → IsRankedProduct A B pairs
    → Includes A B Buchi

-- If B is deterministic, a word to a pair and a bad cycle at it are a lasso that A accepts and B
-- does not.
abbrev pub CycleSeparates : Type 0
CycleSeparates =
    (A B : Automaton) (u v : List ℕ) (p q : ℕ)
    → IsAutomaton B
    → IsDeterministic B
    → LeadsTo A B u p q
    → IsBadCycle A B p q v
    → SeparatesLasso A B u v

-- Some lasso separates A and B.
abbrev pub AreSeparate : Automaton → Automaton → Type 0
AreSeparate A B = (u v : List ℕ) × SeparatesLasso A B u v

-- If B is deterministic, some word leads B to no state and A to one that reaches an accepting state
-- on a cycle, a lasso separates them.
abbrev pub LostRunSeparates : Type 0
LostRunSeparates =
    (A B : Automaton) (p : ℕ) → IsAutomaton B → IsDeterministic B → IsReachedPair A B p B.states
    → ReachesGoal A p → AreSeparate A B

-- No reached pair has a bad cycle, and where A reaches an accepting state on a cycle, B still has a
-- state.
pub record HasNoFault (A B : Automaton) : Type 0 where
  pub no_cycle : (p q : ℕ) (v : List ℕ) → IsReachedPair A B p q → IsBadCycle A B p q v → ⊥
  pub no_lost_run : (p : ℕ) → IsReachedPair A B p B.states → ReachesGoal A p → ⊥

-- If B is deterministic and accepts each lasso that A accepts, the product has no such fault.
abbrev pub IncludedHasNoFault : Type 0
IncludedHasNoFault =
    (A B : Automaton) → IsAutomaton B → IsDeterministic B → Includes A B Buchi → HasNoFault A B
