-- The log of a reduction: the steps that changed something, in order, each with what it was done
-- by.
use Rattle.std.specs.Prelude.{◌≡◌, ℕ, zero, suc, ◌⊎◌, Option, None, Some, List, [], ◌∷◌, ◌++◌}
use Rattle.std.specs.List.Sorted.{IsStrictlyIncreasing}
use Rattle.auto_core.specs.Automaton.{Automaton}
use Rattle.auto_core.specs.Delayed.{IsGreatestDelayed, AreStateRelated, letters_for}
use Rattle.auto_core.specs.Game.{Close, Holds, IsGreatestForward, IsGreatestBackward}
use Rattle.auto_core.specs.Pruning.{look_backward, look_forward}
use Rattle.auto_core.specs.Useful.{AreUseful}
use Rattle.auto_core.specs.Quotient.{AreClassesOf}
use Rattle.auto_core.specs.declared.parts.Mode.{Mode}
use Rattle.bit_rel.specs.Relation.{Relation, IsRelation}
use Rattle.delayed_sim.specs.Rankings.{Ranking, IsRanking}
use Rattle.prune_pairs.specs.Least.{AreLeastBetter}
use Rattle.prune_pairs.specs.declared.removing.Gone.{Gone}
use Rattle.reduce_loop.specs.declared.steps.Foresight.{Foresight}
use Rattle.reduce_loop.specs.declared.steps.Kind.{Kind}
use Rattle.reduce_loop.specs.declared.steps.Kind.TheVariants.{Trim, Forward, Backward, Delayed, Prune}
use Rattle.reduce_loop.specs.declared.steps.Step.{Step}
use Rattle.reduce_loop.specs.declared.steps.Step.TheVariants as step
use Rattle.reduce_loop.specs.declared.steps.MergeBy.TheVariants as by
use Rattle.reduce_loop.specs.Kinds.{kinds_of, After}

-- The list has just the useful states, ascending.
pub record IsUsefulList (A : Automaton) (mode : Mode) (kept : List ℕ) : Type 0 where
  pub ascending : IsStrictlyIncreasing kept
  pub useful : AreUseful A mode kept

-- The relation is one on the states of A, and its pairs, ascending, are the greatest list of its
-- sort.
pub record IsRelationOf (A : Automaton) (Greatest : List (ℕ × ℕ) → Type 0)
    (rel : Relation) : Type 0 where
  pub valid : IsRelation rel
  pub on_states : rel.size ≡ A.states
  pub greatest : Greatest rel.pairs

-- The classes are those of the closure of such a relation.
pub record IsMergeOf (A : Automaton) (Greatest : List (ℕ × ℕ) → Type 0) (rel : Relation)
    (classes : List ℕ) : Type 0 where
  pub relation : IsRelationOf A Greatest rel
  pub joined : AreClassesOf A.states (Close (Holds rel.pairs)) classes

-- The relation with ranks is the greatest delayed one on A with n announced letters, its triples
-- ascend, and the classes are those of the closure of its state relation.
pub record IsDelayedMergeOf (A : Automaton) (n : ℕ) (ranks : Ranking)
    (classes : List ℕ) : Type 0 where
  pub valid : IsRanking ranks
  pub on_states : ranks.states ≡ A.states
  pub on_labels : ranks.labels ≡ A.labels
  pub announced : ranks.letters ≡ n
  pub greatest : IsGreatestDelayed A n ranks.triples
  pub joined : AreClassesOf A.states (Close (AreStateRelated A.labels n ranks.triples)) classes

-- A relation is given just where there is a use for one, and is as it has to be.
abbrev pub IsGivenWhere : Type 0 → (Relation → Type 0) → Option Relation → Type 0
IsGivenWhere wanted is None = wanted → ⊥
IsGivenWhere wanted is (Some rel) = wanted × is rel

-- The pairs of the relation, none where no relation is given.
abbrev pub pairs_given : Option Relation → List (ℕ × ℕ)
pairs_given None = []
pairs_given (Some rel) = rel.pairs

-- Where pair n has a backward relation, it is given and the greatest of A at the pair's lookahead.
abbrev pub IsBackOf : Automaton → ℕ → ℕ → Option Relation → Type 0
IsBackOf A n k back =
    IsGivenWhere (¬ (n ≡ 1)) (IsRelationOf A (IsGreatestBackward A (look_backward n k))) back

-- The same of the forward relation.
abbrev pub IsAheadOf : Automaton → ℕ → ℕ → Option Relation → Type 0
IsAheadOf A n k ahead =
    IsGivenWhere (¬ (n ≡ 2)) (IsRelationOf A (IsGreatestForward A (look_forward n k))) ahead

-- Ascending and with the least better one each, these are just the transitions of A that have a
-- better one by pair n over the closures of the greatest relations at lookahead k.
pub record IsCutOf (A : Automaton) (n k : ℕ) (gone : List Gone)
    (back ahead : Option Relation) : Type 0 where
  pub is_back : IsBackOf A n k back
  pub is_ahead : IsAheadOf A n k ahead
  pub least : AreLeastBetter A n (Close (Holds (pairs_given back)))
      (Close (Holds (pairs_given ahead))) gone

-- The entry tells of a step of this kind on A: the useful states, ascending; which relation, the
-- greatest as it is, without being closed, joined the states by its closure, with the class of
-- each; which transitions are gone and by which relations.
abbrev pub IsStepEntry : Automaton → Mode → Foresight → Kind → Step → Type 0
IsStepEntry A mode sight Trim entry =
    (kept : List ℕ) × (entry ≡ step.Trim kept) × IsUsefulList A mode kept
IsStepEntry A mode sight Forward entry =
    (rel : Relation) × (classes : List ℕ) × (entry ≡ step.Merge (by.Forward sight.look rel) classes)
    × IsMergeOf A (IsGreatestForward A sight.look) rel classes
IsStepEntry A mode sight Backward entry =
    (rel : Relation) × (classes : List ℕ)
    × (entry ≡ step.Merge (by.Backward sight.look rel) classes)
    × IsMergeOf A (IsGreatestBackward A sight.look) rel classes
IsStepEntry A mode sight Delayed entry =
    (ranks : Ranking) × (classes : List ℕ) × (entry ≡ step.Merge (by.Delayed ranks) classes)
    × IsDelayedMergeOf A (letters_for A sight.letters) ranks classes
IsStepEntry A mode sight (Prune n) entry =
    (gone : List Gone) × (back ahead : Option Relation)
    × (entry ≡ step.Cut n sight.look gone back ahead) × IsCutOf A n sight.look gone back ahead

-- What is logged of a step from A to B: nothing where it changed nothing, and else its entry alone.
abbrev pub IsLogged : Automaton → Mode → Foresight → Kind → Automaton → List Step → Type 0
IsLogged A mode sight kind B log =
    ((B ≡ A) × (log ≡ []))
    ⊎ ((B ≡ A → ⊥) × ((entry : Step) × IsStepEntry A mode sight kind entry × (log ≡ entry ∷ [])))

-- Steps of these kinds lead from A to C, and this is logged of them.
abbrev pub LogThrough : Automaton → Mode → Foresight → List Kind → Automaton → List Step → Type 0
LogThrough A mode sight [] C log = (C ≡ A) × (log ≡ [])
LogThrough A mode sight (kind ∷ kinds) C log =
    (B : Automaton)
    × (now later : List Step)
    × After A mode sight kind B
    × IsLogged A mode sight kind B now
    × LogThrough B mode sight kinds C later
    × (log ≡ now ++ later)

-- Steps of these kinds lead from A to C, and what is logged of them stands behind what was logged
-- before.
abbrev pub LogsOn : Automaton → Mode → Foresight → List Kind → List Step → Automaton → List Step
    → Type 0
LogsOn A mode sight kinds before C log =
    (now : List Step) × LogThrough A mode sight kinds C now × (log ≡ before ++ now)

-- n passes that each change the automaton lead from A to C, the next one leaves C as it is, and
-- this is logged of them.
abbrev pub LogPasses : Automaton → Mode → Foresight → ℕ → Automaton → List Step → Type 0
LogPasses A mode sight zero C log = (C ≡ A) × LogThrough A mode sight (kinds_of mode) A log
LogPasses A mode sight (suc n) C log =
    (B : Automaton)
    × (now later : List Step)
    × LogThrough A mode sight (kinds_of mode) B now
    × (B ≡ A → ⊥)
    × LogPasses B mode sight n C later
    × (log ≡ now ++ later)

-- The log of the reduction of A to C.
abbrev pub IsLog : Automaton → Mode → Foresight → Automaton → List Step → Type 0
IsLog A mode sight C log = (n : ℕ) × LogPasses A mode sight n C log
