-- Prints of graphs as they come, and graphs told apart by them.
use Rattle.std.proofs.Common.{◌≡◌, ℕ, ◌<◌, Bool, true, false, List, [], ◌∷◌, ◌++◌, length, subst, inl, inr, sym}
use Rattle.auto_core.specs.Game.{Holds}
use Rattle.auto_core.specs.Graph as words
use Rattle.auto_core.specs.Outcome.{At}
use Rattle.graph_rows.specs.declared.prints.PairBits.{PairBits}
use Rattle.graph_rows.specs.declared.prints.Print.{Print}
use Rattle.graph_rows.specs.Block.{block_graph}
use Rattle.graph_rows.specs.Prints.{AreBitsOf, IsFolded, IsPicked, IsPrint, Misses, MissesAt, joined_pairs}
use Rattle.auto_laws.proofs.PlaceLemmas.{at_cases}
use Rattle.shared_graphs.specs.Graphs.{block_at}
use Rattle.shared_graphs.specs.GraphPairs.{ArePrints}

-- One print more.
pub prints_more :
    (n : ℕ) (S : List (ℕ × ℕ)) (graphs : List (List ℕ)) (old now : List Print) (print : Print)
    → now ≡ old ++ print ∷ []
    → length old < length graphs
    → IsPrint n (Holds S) (block_at graphs (length old)) print
    → ArePrints n S graphs old
    → ArePrints n S graphs now
prints_more n S graphs old now print now_is within is all k p p_is =
    elim (at_cases old print k p (subst (λ l. At l k p) now_is p_is)) [
      | inl was ↦ all k p was
      | inr new ↦
          subst (λ i. (i < length graphs) × IsPrint n (Holds S) (block_at graphs i) p) (sym new.0)
          (subst (λ (q : Print). (length old < length graphs) × IsPrint n (Holds S) (block_at graphs (length old)) q) (sym new.1) (within, is))
    ]

-- A pair without an answer.
missed :
    (S : ℕ → ℕ → Type 0) (g h : words.Graph) (flag : Bool) (s t : ℕ)
    → joined_pairs g flag s t
    → ((u : ℕ) → joined_pairs h flag s u → S t u → ⊥)
    → words.Covers S g h
    → ⊥
missed S g h false s t has none c = let (u, arc, rel) = c.joined s t has in none u arc rel
missed S g h true s t has none c = let (u, arc, rel) = c.past s t has in none u arc rel

bits_apart :
    (IsAsked : ℕ → Bool → ℕ → ℕ → Type 0) (S : ℕ → ℕ → Type 0) (g h : words.Graph) (first second : PairBits)
    → AreBitsOf IsAsked S g first
    → AreBitsOf IsAsked S h second
    → MissesAt first second
    → words.Covers S g h
    → ⊥
bits_apart IsAsked S g h first second first_is second_is misses =
    let j = misses.at in
    let (past, p, q, asked, has) = first_is.own j misses.own in
    missed S g h past p q has (λ u. second_is.answered j past p q misses.within misses.unanswered asked u)

pub misses_apart :
    (n : ℕ) (S : List (ℕ × ℕ)) (g h : List ℕ) (first second : Print)
    → IsPrint n (Holds S) g first
    → IsPrint n (Holds S) h second
    → Misses first second
    → words.Covers (Holds S) (block_graph n g) (block_graph n h)
    → ⊥
misses_apart n S g h first second first_is second_is misses = elim misses [
  | inl at ↦ bits_apart (IsPicked n) (Holds S) (block_graph n g) (block_graph n h) first.picked second.picked first_is.picked second_is.picked at
  | inr at ↦ bits_apart (IsFolded n) (Holds S) (block_graph n g) (block_graph n h) first.folded second.folded first_is.folded second_is.folded at
]
