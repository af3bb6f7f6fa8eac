-- The laws of graphs and of the lasso test, at lists of pairs and at graphs given by values or by tables.
use Rattle.std.proofs.Common.{ℕ}
use Rattle.auto_core.specs.Automaton.{Automaton, Moves}
use Rattle.auto_core.specs.Game.{MatchesForward, Stable, Close, Holds}
use Rattle.auto_core.specs.Graph.{graph_of_values, graph_of_tables}
use Rattle.auto_laws.proofs.GameLemmas.{close_refl, close_trans, close_one}
use Rattle.auto_laws.proofs.AppliedLemmas.{closure_stays_stable}
use Rattle.auto_laws.specs.Graphs.{GraphsOfLetters, GraphsExtend, valued, IsKeptByExtension, SubsumptionIsKept, SubsumptionIsAnOrder}
use Rattle.auto_laws.specs.Lassos.{LassosAreReached, LassosAreCycles, LassosAreAccepted, LassosReachWords, LassosLeaveWords, CoveredLassosAreAccepted}
use Rattle.auto_laws.proofs.GraphLemmas.{graph_of_letter, graph_of_more, value_graph_is, subsumes_refl, subsumes_trans, subsumes_more, subsumes_extended}
use Rattle.auto_laws.proofs.LassoLemmas.{loop_of_lasso, lasso_of_loop, cycle_of_lasso, lasso_of_cycle, lasso_is_accepted, lasso_to_words, lasso_from_words}

pub graphs_of_letters : GraphsOfLetters
graphs_of_letters B a = graph_of_letter B a

pub graphs_extend : GraphsExtend
graphs_extend B w a = graph_of_more B w a

kept : (A B : Automaton) (W : ℕ → ℕ → Type 0) → Stable (Moves B) (Moves B) (MatchesForward B B) 1 W → IsKeptByExtension A B W
kept A B W stable p q r s e f v w t c = subsumes_extended A B W stable (valued p q e v) (valued r s f w) t c

pub subsumption_is_kept : SubsumptionIsKept
subsumption_is_kept A B S stable = (kept A B (Holds S) stable, kept A B (Close (Holds S)) (closure_stays_stable B S stable))

pub subsumption_is_an_order : SubsumptionIsAnOrder
subsumption_is_an_order S = record {
  reflexive = λ p q e v. subsumes_refl (Close (Holds S)) (close_refl (Holds S)) (valued p q e v);
  transitive = λ p q r s m n e f d v w x c k. subsumes_trans (Close (Holds S)) (close_trans (Holds S)) (valued p q e v) (valued r s f w) (valued m n d x) c k;
  holds = λ p q r s e f v w c. subsumes_more (Holds S) (Close (Holds S)) (close_one (Holds S)) (valued p q e v) (valued r s f w) c;
}

pub lassos_are_reached : LassosAreReached
lassos_are_reached v w i = (
  loop_of_lasso (graph_of_values v) (graph_of_values w) i,
  lasso_of_loop (graph_of_values v) (graph_of_values w) i (value_graph_is w),
)

pub lassos_are_cycles : LassosAreCycles
lassos_are_cycles first first_past second second_past marks n width i is marked = (
  cycle_of_lasso (graph_of_tables first first_past n width) (graph_of_tables second second_past n width) i marks (λ q arc. (marked q).1 arc),
  lasso_of_cycle (graph_of_tables first first_past n width) (graph_of_tables second second_past n width) i marks is (λ q bit. (marked q).0 bit),
)

pub lassos_are_accepted : LassosAreAccepted
lassos_are_accepted B u v = lasso_is_accepted B u v

pub lassos_reach_words : LassosReachWords
lassos_reach_words B S valid stable v w x y i c d lasso =
    lasso_to_words B valid (Close (Holds S)) (closure_stays_stable B S stable) (close_trans (Holds S)) (graph_of_values v) (graph_of_values w) x y i c d lasso

pub lassos_leave_words : LassosLeaveWords
lassos_leave_words B S valid stable x y v w i c d lasso =
    lasso_from_words B valid (Close (Holds S)) (closure_stays_stable B S stable) (close_trans (Holds S)) x y (graph_of_values v) (graph_of_values w) i (value_graph_is w) c d lasso

pub covered_lassos_are_accepted : CoveredLassosAreAccepted
covered_lassos_are_accepted B S valid stable x y v w c d e f = (
  λ lasso. (lasso_is_accepted B x y).0 (lassos_reach_words B S valid stable v w x y B.initial c d lasso),
  λ accepted. lassos_leave_words B S valid stable x y v w B.initial e f ((lasso_is_accepted B x y).1 accepted),
)
