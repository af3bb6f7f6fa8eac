-- The rules of a ranked product in order, and the first that is broken.
use Rattle.std.specs.Prelude.{◌≡◌, ℕ, ◌+◌, ◌<◌, ◌⊎◌, List, length}
use Rattle.auto_core.specs.Automaton.{Automaton}
use Rattle.product_laws.specs.declared.RankedPair.{RankedPair}
use Rattle.product_laws.specs.Ranked.{IsDeterministic, HasInitialPair, IsPairOfStates, CoversMoves, RanksGoOn}
use Rattle.ranked_product.specs.declared.checking.Refusal.{Refusal}
use Rattle.product_laws.specs.Ascending.{pair_at}

-- The pair keeps all rules of a pair.
pub record KeepsRules (A B : Automaton) (pairs : List RankedPair) (x : RankedPair) : Type 0 where
  pub states : IsPairOfStates A B x
  pub moves : CoversMoves A B pairs x
  pub ranks : RanksGoOn A B pairs x

-- This is the first rule that the pair breaks: 3, its parts are states; 4, its moves lead to pairs
-- of the list; 5, the ranks go on.
abbrev pub BreaksRule : Automaton → Automaton → List RankedPair → RankedPair → ℕ → Type 0
BreaksRule A B pairs x rule =
    ((rule ≡ 3) × (IsPairOfStates A B x → ⊥))
    ⊎ ((rule ≡ 4) × IsPairOfStates A B x × (CoversMoves A B pairs x → ⊥))
    ⊎ ((rule ≡ 5) × IsPairOfStates A B x × CoversMoves A B pairs x × (RanksGoOn A B pairs x → ⊥))

-- The pair with this number is the first that breaks a rule, this one.
pub record BreaksFirst (A B : Automaton) (pairs : List RankedPair) (place rule : ℕ) : Type 0 where
  pub within : place < length pairs
  pub before : (i : ℕ) → i < place → KeepsRules A B pairs (pair_at pairs i)
  pub here : BreaksRule A B pairs (pair_at pairs place) rule

-- The refusal names the first broken rule, 1 that B is deterministic, 2 that the pair of the
-- initial states is there, with item 0, or the first that a pair breaks, with the pair's number
-- from 1.
abbrev pub FirstBroken : Automaton → Automaton → List RankedPair → Refusal → Type 0
FirstBroken A B pairs refusal =
    ((refusal.rule ≡ 1) × (refusal.item ≡ 0) × (IsDeterministic B → ⊥))
    ⊎ ((refusal.rule ≡ 2) × (refusal.item ≡ 0) × IsDeterministic B × (HasInitialPair A B pairs → ⊥))
    ⊎ (IsDeterministic B × HasInitialPair A B pairs
    × ((place : ℕ) × (refusal.item ≡ place + 1) × BreaksFirst A B pairs place refusal.rule))
