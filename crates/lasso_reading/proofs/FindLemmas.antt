-- A lasso that an automaton accepts, from the decision against one that has no move.
use Rattle.std.proofs.Common.{ℕ, true, List, [], ◌∷◌}
use Rattle.std.proofs.lemmas.Bool.{true≢false}
use Rattle.std.proofs.lemmas.List.Sorted.{Contains-permutation, IsPermutation-sym}
use Rattle.auto_core.specs.Automaton.{Automaton, IsAutomaton, trans}
use Rattle.auto_core.specs.Run.{Run, repeated}
use Rattle.auto_core.specs.Accept.{AcceptsLasso, SeparatesLasso}
use Rattle.auto_core.specs.Build.{IsBuilt}
use Rattle.auto_core.specs.Useful.{IsTrimmed}
use Rattle.auto_core.specs.declared.parts.Mode.TheVariants.{Buchi}
use Rattle.auto_core.proofs.PathLemmas.{none_in_nil}
use Rattle.product_laws.specs.declared.RankedPair.{RankedPair}
use Rattle.product_laws.specs.Ranked.{IsDeterministic, IsRankedProduct}
use Rattle.product_laws.proofs.RankLemmas.{ranked_product_includes}
use Rattle.useful_states.proofs.KeepLaws.{trimmed_the_same}
use Rattle.lasso_reading.specs.Finding.{HasNoMoves, AcceptsNone}

pub built_without : (labels : ℕ) (A : Automaton) → IsBuilt 1 labels 0 [] [] A → HasNoMoves A
built_without labels A built p a q move = none_in_nil (trans p a q) (Contains-permutation A.transitions [] (trans p a q) (IsPermutation-sym [] A.transitions built.transitions_given) move)

pub goes_nowhere : (A : Automaton) → HasNoMoves A → IsDeterministic A
goes_nowhere A none q a s t move other = absurd (none q a s move)

no_run : (A : Automaton) → HasNoMoves A → (p : ℕ) (w : List ℕ) (q : ℕ) → Run A p w q true → ⊥
no_run A none p [] q (e, flag) = true≢false flag
no_run A none p (a ∷ w) q (next, later, move, rest, is) = none p a next move

pub accepts_none : (A : Automaton) → HasNoMoves A → AcceptsNone A
accepts_none A none u v h = no_run A none h.state (repeated v h.turns) h.state h.cycles

pub included_in_none : (A first B : Automaton) (pairs : List RankedPair) → IsTrimmed A Buchi first → IsAutomaton B → HasNoMoves B → IsRankedProduct first B pairs → AcceptsNone A
included_in_none A first B pairs trimmed valid none product u v h =
    accepts_none B none u v (ranked_product_includes first B pairs valid product u v ((trimmed_the_same A first Buchi trimmed).0 u v h))

pub apart_from_none : (A first B : Automaton) (u v : List ℕ) → IsTrimmed A Buchi first → SeparatesLasso first B u v → AcceptsLasso A u v
apart_from_none A first B u v trimmed (accepted, rejected) = (trimmed_the_same A first Buchi trimmed).1 u v accepted
