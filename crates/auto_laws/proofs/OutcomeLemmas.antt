-- The laws of the search over supergraphs.
use Rattle.std.proofs.Common.{◌≡◌, ℕ, ◌<◌, Bool, List, [], length, refl, sym, ap, ◌∙◌, subst, inl, inr, arith}
use Rattle.std.proofs.lemmas.Bool.{cases_lt}
use Rattle.auto_core.specs.Automaton.{Automaton, IsAutomaton}
use Rattle.auto_core.specs.Game.{Holds, IsGreatestForward}
use Rattle.auto_core.specs.Graph.{Covers, Subsumes, Passes, WordArc, IsReal, super_of, graph_of, arc_at, arcs_of, IsPlacedAt}
use Rattle.auto_core.specs.Closed.{ClosedSet}
use Rattle.auto_core.specs.Outcome.{Outcome, Closed, Apart, Limit, HasSubsumer, TellsLive, Entry, super_entry, super_at, base_entry, supergraph_rules, SearchEnds, origins_in, arcs_in, NoneSubsumedBefore, SameSupergraph}
use Rattle.auto_laws.proofs.GraphLemmas.{subsumes_trans, covers_between, same_refl}
use Rattle.auto_laws.proofs.OriginLemmas.{placing}
use Rattle.auto_laws.proofs.ClosedLemmas.{closed_set_includes, failing_pairs_separate}
use Rattle.auto_laws.specs.Outcomes.{OneOutcome, HaveOrigins, OriginsFit, ClosedListIsClosedSet, ClosedListIncludes, LiveOnesStandApart, ApartSeparates, LimitLists, LiveOnesAreEnough, GreatestIsAnOrder}
use Rattle.auto_laws.proofs.PlaceLemmas.{at_some}
use Rattle.auto_laws.proofs.UniqueLemmas.{one_outcome as one_of}
use Rattle.auto_laws.proofs.SearchLemmas.{IsMet, HasClosed, HasFailed, HasMet, Ends, at_the_end}
use Rattle.auto_laws.proofs.LiveLemmas.{live_ones_are_enough as enough_of}
use Rattle.auto_laws.proofs.OrderLemmas.{greatest_reflexive, greatest_transitive}
use Rattle.auto_laws.proofs.PlacingLemmas.{FitsBehind, origins_size, arcs_size, arc_here, fits_later, fits_after_a_turn}
use Rattle.auto_laws.proofs.EntryLemmas.{origins_of_none, origins_more, fits_at_the_start, base_starts, entry_is_real, entry_subsumes_itself}
use Rattle.auto_laws.proofs.ArcLemmas.{AreClosed, arcs_have, fresh_arcs, arcs_closed}

pub one_outcome : OneOutcome
one_outcome A B S limit o p h k =
    one_of Entry (supergraph_rules A B S) limit (λ x y passes fails. fails.1 (passes fails.0)) [] (supergraph_rules A B S).starts 0 o p h k

-- What each end has.
ends : (A B : Automaton) (S : List (ℕ × ℕ)) (limit : ℕ) (o : Outcome Entry) → SearchEnds A B S limit o → Ends (supergraph_rules A B S) limit (HaveOrigins A) o
ends A B S limit o h =
    at_the_end Entry (supergraph_rules A B S) limit (HaveOrigins A) (FitsBehind A (IsPlacedAt A)) (origins_of_none A) (origins_more A) (fits_at_the_start A B S) (fits_later A (IsPlacedAt A) (placing A))
    (λ es e x c have is has. fits_after_a_turn A (IsPlacedAt A) (placing A) es e x c is has) o h

pub closed_end : (A B : Automaton) (S : List (ℕ × ℕ)) (limit : ℕ) (es : List Entry) → SearchEnds A B S limit (Closed es) → HasClosed (supergraph_rules A B S) limit (HaveOrigins A) es
closed_end A B S limit es h = ends A B S limit (Closed es) h

pub apart_end : (A B : Automaton) (S : List (ℕ × ℕ)) (limit : ℕ) (x y : Entry) → SearchEnds A B S limit (Apart x y) → HasFailed (supergraph_rules A B S) (HaveOrigins A) x y
apart_end A B S limit x y h = ends A B S limit (Apart x y) h

pub limit_end : (A B : Automaton) (S : List (ℕ × ℕ)) (limit : ℕ) (es : List Entry) → SearchEnds A B S limit (Limit es) → HasMet (supergraph_rules A B S) limit (HaveOrigins A) es
limit_end A B S limit es h = ends A B S limit (Limit es) h

pub origins_fit : OriginsFit
origins_fit A B S limit es = (λ h. (closed_end A B S limit es h).grown.sound, λ h. (limit_end A B S limit es h).grown.sound)

-- Subsuming by the greatest relation goes on.
entries_join : (A B : Automaton) (S : List (ℕ × ℕ)) → IsGreatestForward B 1 S → (x y z : Entry) →
    (supergraph_rules A B S).subsumes x y → (supergraph_rules A B S).subsumes y z → (supergraph_rules A B S).subsumes x z
entries_join A B S greatest x y z = subsumes_trans (Holds S) (greatest_transitive B S greatest) (super_entry B x) (super_entry B y) (super_entry B z)

-- What is met is subsumed.
pub met_is_subsumed : (A B : Automaton) (S : List (ℕ × ℕ)) → IsAutomaton B → IsGreatestForward B 1 S → (es : List Entry) → HaveOrigins A es → (c : Entry) →
    IsMet (supergraph_rules A B S) es c → HasSubsumer (supergraph_rules A B S) es c
met_is_subsumed A B S valid greatest es have c met = elim met [
  | inl has ↦ has
  | inr is ↦ (is.0, c, is.1, entry_subsumes_itself A B S valid greatest c (entry_is_real A es have is.0 c is.1))
]

-- Subsuming, of the arcs.
abbrev Above : Automaton → List (ℕ × ℕ) → WordArc → WordArc → Type 0
Above B S a b = Subsumes (Holds S) (super_of B a) (super_of B b)

module _ (A B : Automaton) (S : List (ℕ × ℕ)) (limit : ℕ) (es : List Entry) (live : ℕ → Bool) (valid : IsAutomaton B) (greatest : IsGreatestForward B 1 S)
    (h : SearchEnds A B S limit (Closed es)) (tells : TellsLive (supergraph_rules A B S) es live)
  where
    has : HasClosed (supergraph_rules A B S) limit (HaveOrigins A) es
    has = closed_end A B S limit es h

    arcs : AreClosed A (supergraph_rules A B S) (Above B S) es live
    arcs = arcs_closed A (supergraph_rules A B S) (Above B S) (λ x y is. is) (entries_join A B S greatest) (λ e x. refl) limit (HaveOrigins A) es live has tells
        (met_is_subsumed A B S valid greatest es has.grown.sound)

    pub closed_set : ClosedSet A B S (arcs_in es) live
    closed_set = record {
      stable = greatest.stable;
      real = arcs_have A (IsReal A) es (entry_is_real A es has.grown.sound);
      starts = λ t lt. arcs.subsumed (base_entry A t) (has.starts (base_entry A t) (base_starts A B S t lt));
      steps = arcs.steps;
      passes = λ e f e_live f_live.
          let size = arcs_size es in
          let e_in = e_live.0 in
          let f_in = f_live.0 in
          let x = at_some es e (omega arith) in
          let y = at_some es f (omega arith) in
          subst (λ a. Passes A B (super_of B a) (super_of B (arc_at A (arcs_in es) f))) (sym (arc_here A es e x.0 x.1))
          (subst (λ b. Passes A B (super_of B x.0.arc) (super_of B b)) (sym (arc_here A es f y.0 y.1))
          (has.passed e f x.0 y.0 x.1 y.1 (arcs.stays e e_live) (arcs.stays f f_live)));
    }

pub closed_list_is_closed_set : ClosedListIsClosedSet
closed_list_is_closed_set A B S limit es live valid greatest h tells = closed_set A B S limit es live valid greatest h tells

pub closed_list_includes : ClosedListIncludes
closed_list_includes A B S limit es live valid greatest h tells =
    closed_set_includes A B S (arcs_in es) live valid (closed_set A B S limit es live valid greatest h tells)

pub live_ones_stand_apart : LiveOnesStandApart
live_ones_stand_apart A B S limit es h i j x y differ x_is y_is x_live y_live subsumes = elim (cases_lt i j) [
  | inl less ↦ (closed_end A B S limit es h).grown.fresh i j x y less x_is y_is subsumes
  | inr more ↦ y_live i y x (let apart : j ≡ i → ⊥ = λ e. differ (sym e) in omega arith) y_is x_is subsumes
]

pub apart_separates : ApartSeparates
apart_separates A B S limit x y h =
    let has = apart_end A B S limit x y h in
    failing_pairs_separate A B x.arc y.arc (entry_is_real A has.among has.grown.sound has.first x has.first_is) (entry_is_real A has.among has.grown.sound has.second y has.second_is) has.fails

pub live_ones_are_enough : LiveOnesAreEnough
live_ones_are_enough A B S es live x greatest tells = enough_of Entry (supergraph_rules A B S) (entries_join A B S greatest) es live tells x

pub greatest_is_an_order : GreatestIsAnOrder
greatest_is_an_order B S valid greatest = (greatest_reflexive B S valid greatest, greatest_transitive B S greatest)

-- The same supergraphs subsume one another.
same_subsumes : (B : Automaton) (S : List (ℕ × ℕ)) (x y : WordArc) → Covers (Holds S) (graph_of B x.word) (graph_of B x.word) → SameSupergraph (super_of B x) (super_of B y) → Subsumes (Holds S) (super_of B x) (super_of B y)
same_subsumes B S x y covers same = record {
  from = same.from;
  to = same.to;
  flag = λ e. same.flag ∙ e;
  covers = covers_between (Holds S) (graph_of B x.word) (graph_of B x.word) (graph_of B x.word) (graph_of B y.word) (same_refl (graph_of B x.word)) same.graph covers;
}

pub limit_lists : LimitLists
limit_lists A B S limit es valid greatest h =
    let size = (limit_end A B S limit es h).size in
    let count = origins_size es in
    (record { size = omega arith; placed = have.placed; differ = differ }, fresh)
  where
    have : HaveOrigins A es
    have = (limit_end A B S limit es h).grown.sound

    fresh : NoneSubsumedBefore A B S (origins_in es)
    fresh = fresh_arcs A (Above B S) es have.arcs (limit_end A B S limit es h).grown.fresh

    differ : (i j : ℕ) → i < j → j < length (origins_in es) → SameSupergraph (super_at A B (origins_in es) i) (super_at A B (origins_in es) j) → ⊥
    differ i j lt within same =
        let count = origins_size es in
        let x = at_some es i (omega arith) in
        let is = ap (λ l. arc_at A l i) have.arcs ∙ arc_here A es i x.0 x.1 in
        let real : IsReal A x.0.arc = entry_is_real A es have i x.0 x.1 in
        let covers : Covers (Holds S) (graph_of B x.0.arc.word) (graph_of B x.0.arc.word) = (entry_subsumes_itself A B S valid greatest x.0 real).covers in
        fresh i j lt within
        (same_subsumes B S (arc_at A (arcs_of A (origins_in es)) i) (arc_at A (arcs_of A (origins_in es)) j)
        (subst (λ a. Covers (Holds S) (graph_of B a.word) (graph_of B a.word)) (sym is) covers) same)
