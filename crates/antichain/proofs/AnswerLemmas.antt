-- The answer is true.
use Rattle.std.proofs.Common.{◌≡◌, ℕ, ◌+◌, List, map, sym, ap, ◌∙◌, subst}
use Rattle.auto_core.specs.Automaton.{Automaton, IsAutomaton}
use Rattle.auto_core.specs.Accept.{SeparatesWord}
use Rattle.auto_core.specs.Game.{Holds, IsGreatestForward}
use Rattle.auto_core.specs.Graph.{arcs_of}
use Rattle.auto_core.specs.Pairs.{PairSubsumes, pair_of}
use Rattle.auto_core.specs.ClosedPairs.{ClosedPairs}
use Rattle.auto_core.specs.Outcome.{Entry, Closed, TellsLive, arcs_in}
use Rattle.auto_core.specs.PairOutcome.{PairSearchEnds, ArePairsListed, NoPairSubsumedBefore, pair_rules}
use Rattle.cert_value.specs.declared.types.Element.{Element}
use Rattle.auto_laws.specs.PairOutcomes.{HavePairOrigins}
use Rattle.auto_laws.proofs.PairOutcomeLemmas.{pair_origins_fit, closed_list_is_closed_pairs, closed_list_includes_words, live_pairs_stand_apart, apart_separates_word, limit_lists_pairs}
use Rattle.evidence.specs.declared.parts.Closure.{Closure}
use Rattle.antichain.specs.declared.parts.WordOutcome.{WordOutcome}
use Rattle.antichain.specs.declared.parts.WordOutcome.TheVariants as end
use Rattle.evidence.specs.Evidence.{marked_live, IsEvidenceOf}
use Rattle.evidence.proofs.ApartLemmas.{live_stand_apart}
use Rattle.evidence.proofs.MarkLemmas.{marks_tell}
use Rattle.antichain.specs.Ends.{IsWordOutcomeOf, IsWordClosing, IsTrueWordOutcome}

module _ (A B : Automaton) (S : List (ℕ × ℕ)) (limit : ℕ) (valid : IsAutomaton B) (greatest : IsGreatestForward B 1 S) where
  module _ (es : List Entry) (ends : PairSearchEnds A B S limit (Closed es)) (c : Closure) (is : IsEvidenceOf (pair_rules A B S) es c) where
    tells_live : TellsLive (pair_rules A B S) es (marked_live c.elements)
    tells_live = marks_tell (pair_rules A B S) es c is

    have : HavePairOrigins A es
    have = (pair_origins_fit A B S limit es).0 ends

    arcs_are : arcs_of A (map (λ (m : Element). m.origin) c.elements) ≡ arcs_in es
    arcs_are = ap (arcs_of A) is.origins ∙ have.arcs

    closing : IsWordClosing A B S c
    closing = record {
      includes = closed_list_includes_words A B S limit es (marked_live c.elements) valid greatest ends tells_live;
      closed = subst (λ l. ClosedPairs A B S l (marked_live c.elements)) (sym arcs_are) (closed_list_is_closed_pairs A B S limit es (marked_live c.elements) valid greatest ends tells_live);
      apart = live_stand_apart A (pair_rules A B S) (λ a b. PairSubsumes (Holds S) (pair_of B a) (pair_of B b)) (λ x y is. is) es c is have.arcs (live_pairs_stand_apart A B S limit es ends);
    }

  pub answer_is_true : (o : WordOutcome) → IsWordOutcomeOf A B S limit o → IsTrueWordOutcome A B S limit o
  answer_is_true (end.Closed c) (es, ends, is) = closing es ends c is
  answer_is_true (end.Apart word) (x, ends, is) = subst (SeparatesWord A B) (sym is) (apart_separates_word A B S limit x x ends).1
  answer_is_true (end.Limit origins) (es, ends, is) =
      let listed = limit_lists_pairs A B S limit es valid greatest ends in
      (subst (ArePairsListed A B (limit + 1)) (sym is) listed.0, subst (NoPairSubsumedBefore A B S) (sym is) listed.1)
