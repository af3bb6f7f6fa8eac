-- A graph gets its number once it stands in the fresh block: what then holds of the graphs as they were before it was written there.
use Rattle.std.proofs.Common.{◌≡◌, ℕ, List, Result, IfOk, sym, subst}
use Rattle.std.proofs.lemmas.Result.{IfOk-weaker}
use Rattle.auto_core.specs.Automaton.{Automaton}
use Rattle.auto_core.specs.Graph.{Graph, extended}
use Rattle.graph_rows.specs.Block.{IsFormed, block_graph}
use Rattle.shared_graphs.specs.declared.graphs.Graphs.{Graphs}
use Rattle.shared_graphs.specs.Graphs.{HasGrown, IsBlockOf, IsGraphOf, IsStock, Keeping, block_at}

abbrev longer : Automaton → List (List ℕ) → ℕ → ℕ → Graph
longer B graphs from label = extended B (block_graph B.states (block_at graphs from)) label

pub taken_grown : {E : Type 0} (r : Result ℕ E) (old mid now : List (List ℕ)) → mid ≡ old → IfOk r (λ _. HasGrown mid now) → IfOk r (λ _. HasGrown old now)
taken_grown r old mid now items = IfOk-weaker r (λ _. HasGrown mid now) (λ _. HasGrown old now) (λ _ grown. subst (λ l. HasGrown l now) items grown)

module _ {E : Type 0} (r : Result ℕ E) (B : Automaton) (keeping : Keeping) (from label : ℕ) (old mid now : Graphs) (items : mid.graphs.items ≡ old.graphs.items)
    (block : IsBlockOf B keeping (longer B old.graphs.items from label) mid.graphs.fresh) where
  there : IsBlockOf B keeping (longer B mid.graphs.items from label) mid.graphs.fresh
  there = subst (λ l. IsBlockOf B keeping (longer B l from label) mid.graphs.fresh) (sym items) block

  pub taken_is : IfOk r (λ k. (C : Automaton) (kind : Keeping) → IsBlockOf C kind (longer C mid.graphs.items from label) mid.graphs.fresh → IsGraphOf C kind (longer C mid.graphs.items from label) now.graphs.items k)
      → IfOk r (IsGraphOf B keeping (longer B old.graphs.items from label) now.graphs.items)
  taken_is = IfOk-weaker r
      (λ k. (C : Automaton) (kind : Keeping) → IsBlockOf C kind (longer C mid.graphs.items from label) mid.graphs.fresh → IsGraphOf C kind (longer C mid.graphs.items from label) now.graphs.items k)
      (IsGraphOf B keeping (longer B old.graphs.items from label) now.graphs.items)
      (λ k is. subst (λ l. IsGraphOf B keeping (longer B l from label) now.graphs.items k) items (is B keeping there))

  pub taken_stock : IsStock B keeping mid → IsFormed B.states (block_at old.graphs.items from) →
      IfOk r (λ _. (C : Automaton) (kind : Keeping) → IsStock C kind mid → IsFormed C.states (block_at mid.graphs.items from) → IsBlockOf C kind (longer C mid.graphs.items from label) mid.graphs.fresh → IsStock C kind now)
      → IfOk r (λ _. IsStock B keeping now)
  taken_stock stock formed = IfOk-weaker r
      (λ _. (C : Automaton) (kind : Keeping) → IsStock C kind mid → IsFormed C.states (block_at mid.graphs.items from) → IsBlockOf C kind (longer C mid.graphs.items from label) mid.graphs.fresh → IsStock C kind now)
      (λ _. IsStock B keeping now)
      (λ _ still. still B keeping stock (subst (λ l. IsFormed B.states (block_at l from)) (sym items) formed) there)
