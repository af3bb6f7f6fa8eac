-- Loops of a graph, as what leads to them, and what enters them.
use Rattle.std.proofs.Common.{ℕ, zero, suc, ◌<◌, ◌↔◌, List, sym, subst}
use Rattle.auto_core.specs.Game.{Chain}
use Rattle.auto_core.specs.Graph.{Graph, IsGraph, LassoIn, graph_of, graph_of_values}
use Rattle.auto_core.specs.Rows.{HasBit}
use Rattle.auto_laws.proofs.GraphLemmas.{word_graph_is, value_graph_is}
use Rattle.graph_rows.specs.Block.{block_graph}
use Rattle.auto_laws.proofs.LassoLemmas.{loop_of_lasso, lasso_of_loop}
use Rattle.bit_rows.specs.Loops.{LeadsToLoop}
use Rattle.lasso_test.specs.Loops.{HasLoop}
use Rattle.lasso_test.specs.Laws.{EntersLoop, LassosEnterLoops, BlocksEnterLoops, WordsEnterLoops}

-- All arcs leave one of the n states.
pub record IsWithinStates (h : Graph) (n : ℕ) : Type 0 where
  pub joined : (p q : ℕ) → h.joined p q → p < n
  pub past : (p q : ℕ) → h.past p q → p < n

-- A state that has a loop is one of the graph's.
pub loops_are_within : (h : Graph) (n s : ℕ) → IsWithinStates h n → HasLoop h s → s < n
loops_are_within h n s within loop = starts_within loop.reaches.0 s loop.reaches.1 where
  starts_within : (k p : ℕ) → Chain h.joined k p loop.at → p < n
  starts_within zero p same = subst (λ x. x < n) (sym same) (within.past loop.at loop.next loop.leaves)
  starts_within (suc k) p (r, arc, rest) = within.joined p r arc

-- A state leads to a loop just where it has one.
pub leads_as_loop : (h : Graph) (n s : ℕ) → IsWithinStates h n → ((s < n) × LeadsToLoop h.joined h.past s) ↔ HasLoop h s
leads_as_loop h n s within = (
  λ (s_in, (at, way, (next, leaves, back))). record { at = at; next = next; reaches = way; leaves = leaves; returns = back },
  λ loop. (loops_are_within h n s within loop, (loop.at, loop.reaches, (loop.next, loop.leaves, loop.returns))),
)

-- Graphs have a lasso just where the first leads to a state from which the second has a loop.
enter_loops : (g h : Graph) (i : ℕ) → IsGraph h → LassoIn g h i ↔ EntersLoop g h i
enter_loops g h i is = (
  λ lasso.
      let loop = loop_of_lasso g h i lasso in
      (loop.start, loop.enters, record { at = loop.at; next = loop.next; reaches = loop.reaches; leaves = loop.leaves; returns = loop.returns }),
  λ (q, arc, loop).
      lasso_of_loop g h i is (record { start = q; at = loop.at; next = loop.next; enters = arc; reaches = loop.reaches; leaves = loop.leaves; returns = loop.returns }),
)

pub values_enter : LassosEnterLoops
values_enter v w i = enter_loops (graph_of_values v) (graph_of_values w) i (value_graph_is w)

pub blocks_enter : BlocksEnterLoops
blocks_enter n g h i formed = enter_loops (block_graph n g) (block_graph n h) i formed.within

pub words_enter : WordsEnterLoops
words_enter B u v i = enter_loops (graph_of B u) (graph_of B v) i (word_graph_is B v)

-- An arc of the first graph from the state to one from which the second has a loop is a lasso.
pub lassos_enter_loops :
    (g h : Graph) (i : ℕ) (looping : List ℕ)
    → IsGraph h
    → ((q : ℕ) → HasBit looping q ↔ HasLoop h q)
    → ((q : ℕ) × g.joined i q × HasBit looping q) ↔ LassoIn g h i
lassos_enter_loops g h i looping is marked =
    let law = enter_loops g h i is in (
      λ (q, arc, bit). law.1 (q, arc, (marked q).0 bit),
      λ lasso. let (q, arc, loop) = law.0 lasso in (q, arc, (marked q).1 loop),
    )
