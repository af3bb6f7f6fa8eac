-- The least better transition, and the lists of the transitions that have one.
use Rattle.std.specs.Prelude.{◌≡◌, ℕ, ◌<◌, ◌≤◌, List, length, All, Contains, map}
use Rattle.std.specs.List.Sorted.{IsStrictlyIncreasing}
use Rattle.auto_core.specs.Automaton.{Automaton, trans_at}
use Rattle.auto_core.specs.Pruning.{IsBetterAt, HasBetter}
use Rattle.prune_pairs.specs.declared.removing.Gone.{Gone}

-- Among the numbers of D, u is the least that P holds of.
pub record IsLeastOf (D P : ℕ → Type 0) (u : ℕ) : Type 0 where
  pub among : D u
  pub holds : P u
  pub least : (v : ℕ) → D v → P v → u ≤ v

-- P holds of none of the numbers of D.
abbrev pub HasNone : (ℕ → Type 0) → (ℕ → Type 0) → Type 0
HasNone D P = (v : ℕ) → D v → P v → ⊥

-- u is the number of the transition with these three parts.
pub record IsTransition (A : Automaton) (p a q u : ℕ) : Type 0 where
  pub is : u < length A.transitions
  pub source : (trans_at A u).source ≡ p
  pub label : (trans_at A u).label ≡ a
  pub target : (trans_at A u).target ≡ q

-- No transition has these three parts.
abbrev pub HasNoTransition : Automaton → ℕ → ℕ → ℕ → Type 0
HasNoTransition A p a q = (u : ℕ) → IsTransition A p a q u → ⊥

-- The numbers from `begin` up to `end` are just those of the transitions out of p with the letter a
-- whose targets are q or more.
pub record AreSuccessorsFrom (A : Automaton) (p a q begin end : ℕ) : Type 0 where
  pub is_range : begin ≤ end
  pub within : end ≤ length A.transitions
  pub inside : (u : ℕ) → begin ≤ u → u < end
      → ((trans_at A u).source ≡ p) × ((trans_at A u).label ≡ a) × (q ≤ (trans_at A u).target)
  pub all : (u : ℕ) → u < length A.transitions → (trans_at A u).source ≡ p
      → (trans_at A u).label ≡ a → q ≤ (trans_at A u).target → (begin ≤ u) × (u < end)

-- u is the least transition that is better than t.
pub record IsLeastBetter (A : Automaton) (n : ℕ) (back ahead : ℕ → ℕ → Type 0)
    (t u : ℕ) : Type 0 where
  pub better : IsBetterAt A n back ahead t u
  pub least : (v : ℕ) → IsBetterAt A n back ahead t v → u ≤ v

-- The numbers of the transitions that are gone.
abbrev pub numbers_of_gone : List Gone → List ℕ
numbers_of_gone gone = map (λ (g : Gone). g.trans) gone

-- The list has, ascending, just the transitions that have a better one, each with the least better
-- one.
pub record AreLeastBetter (A : Automaton) (n : ℕ) (back ahead : ℕ → ℕ → Type 0)
    (gone : List Gone) : Type 0 where
  pub ascending : IsStrictlyIncreasing (numbers_of_gone gone)
  pub each : All (λ (g : Gone). IsLeastBetter A n back ahead g.trans g.by) gone
  pub all : (t : ℕ) → HasBetter A n back ahead t → Contains (numbers_of_gone gone) t
