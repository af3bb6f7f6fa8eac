use Rattle.std.proofs.Common.{ℕ, ◌≡◌, ◌⊎◌, [], List, Vec, Global, slice_set, inl, inr, sym, subst}
use Rattle.std.proofs.lemmas.Bool.{cases_eq}
use Rattle.graph_rows.specs.Block.{block_graph}
use Rattle.shared_graphs.specs.Graphs.{block_at}
use Rattle.shared_graphs.specs.Looping.{IsLoopRow}
use Rattle.evidence.specs.Tables.{numbers_at}
use Rattle.evidence.proofs.TableLemmas.{numbers_set, numbers_stay}
use Rattle.cert_check.proofs.pairs.mark_loops.Goals as goal

pub returns-clause-here : goal.returns-clause-here
returns-clause-here c =
    let n : ℕ = c.args.states in
    let row : List ℕ = c.in_ok-row.row.items in
    let is : IsLoopRow n (block_graph n (block_at c.args.graphs.now.items c.args.h)) row = subst (λ b. IsLoopRow n (block_graph n b) row) c.block.ensures c.in_ok-row.ensures.row in
    subst (IsLoopRow n (block_graph n (block_at c.args.graphs.now.items c.args.h))) (sym (numbers_set c.args.loops.now.items c.args.h c.in_ok-row.row c.requires.there)) is

pub returns-clause-loops : goal.returns-clause-loops
returns-clause-loops c h =
    let n : ℕ = c.args.states in
    let loops : List (Vec ℕ Global) = c.args.loops.now.items in
    let row : List ℕ = c.in_ok-row.row.items in
    let is : IsLoopRow n (block_graph n (block_at c.args.graphs.now.items c.args.h)) row = subst (λ b. IsLoopRow n (block_graph n b) row) c.block.ensures c.in_ok-row.ensures.row in
    elim (cases_eq h c.args.h) [
      | inl same ↦
          inr (subst (λ k. IsLoopRow n (block_graph n (block_at c.args.graphs.now.items k)) (numbers_at (slice_set loops c.args.h c.in_ok-row.row) k)) (sym same)
          (subst (IsLoopRow n (block_graph n (block_at c.args.graphs.now.items c.args.h))) (sym (numbers_set loops c.args.h c.in_ok-row.row c.requires.there)) is))
      | inr other ↦
          subst (λ l. (l ≡ []) ⊎ IsLoopRow n (block_graph n (block_at c.args.graphs.now.items h)) l) (sym (numbers_stay loops c.args.h h c.in_ok-row.row other)) (c.requires.loops h)
    ]
