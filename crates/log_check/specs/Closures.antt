-- Closures of relations as tables, and the tests of a cut by them.
use Rattle.std.specs.Prelude.{◌≡◌, ℕ, ◌<◌, ◌↔◌, List}
use Rattle.auto_core.specs.Automaton.{Automaton, trans_at}
use Rattle.auto_core.specs.Game.{Close, Holds}
use Rattle.auto_core.specs.Quotient.{class_of}
use Rattle.bit_rel.specs.Relation.{Relation}
use Rattle.cert_value.specs.declared.types.GoneBy.{GoneBy}

-- The table holds just the pairs of states below n that the closure of R relates.
pub record IsClosureOf (n : ℕ) (R : ℕ → ℕ → Type 0) (rel : Relation) : Type 0 where
  pub size : rel.size ≡ n
  pub pairs : (p q : ℕ) → p < n → q < n → Holds rel.pairs p q ↔ Close R p q

-- If p and q are of one class, the table has the pair.
abbrev pub IsJoinedInClass : List ℕ → Relation → ℕ → ℕ → Type 0
IsJoinedInClass classes rel p q = class_of classes p ≡ class_of classes q → Holds rel.pairs p q

-- So has it for p and each state below n.
abbrev pub IsRowJoined : List ℕ → Relation → ℕ → ℕ → Type 0
IsRowJoined classes rel n p = (q : ℕ) → q < n → IsJoinedInClass classes rel p q

-- The table relates any two members of a class.
abbrev pub JoinsMembers : List ℕ → Relation → ℕ → Type 0
JoinsMembers classes rel n = (p : ℕ) → p < n → IsRowJoined classes rel n p

-- The second transition has the letter of the first, and the tables relate the ends of the first to
-- its own.
abbrev pub IsAsGoodBy : Automaton → Relation → Relation → GoneBy → Type 0
IsAsGoodBy A back ahead gone =
    ((trans_at A gone.trans).label ≡ (trans_at A gone.by).label)
    × Holds back.pairs (trans_at A gone.trans).source (trans_at A gone.by).source
    × Holds ahead.pairs (trans_at A gone.trans).target (trans_at A gone.by).target

-- The table does not relate the source of the second transition back to that of the first.
abbrev pub IsSourceBetter : Automaton → Relation → GoneBy → Type 0
IsSourceBetter A back gone =
    Holds back.pairs (trans_at A gone.by).source (trans_at A gone.trans).source → ⊥

-- Nor the target of the second to that of the first.
abbrev pub IsTargetBetter : Automaton → Relation → GoneBy → Type 0
IsTargetBetter A ahead gone =
    Holds ahead.pairs (trans_at A gone.by).target (trans_at A gone.trans).target → ⊥

-- The one of the two that the pair asks for.
abbrev pub IsBetterBy : Automaton → ℕ → Relation → Relation → GoneBy → Type 0
IsBetterBy A pair back ahead gone =
    ((pair ≡ 1) → IsTargetBetter A ahead gone)
    × ((pair ≡ 2) → IsSourceBetter A back gone)
    × ((pair ≡ 3) → IsTargetBetter A ahead gone)
    × ((pair ≡ 4) → IsSourceBetter A back gone)
