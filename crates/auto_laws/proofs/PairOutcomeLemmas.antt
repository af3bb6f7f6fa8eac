-- The laws of the search on finite words.
use Rattle.std.proofs.Common.{◌≡◌, ℕ, ◌<◌, Bool, List, [], length, refl, sym, subst, inl, inr, arith}
use Rattle.std.proofs.lemmas.Bool.{cases_lt}
use Rattle.auto_core.specs.Automaton.{Automaton, IsAutomaton}
use Rattle.auto_core.specs.Game.{Holds, IsGreatestForward}
use Rattle.auto_core.specs.Graph.{WordArc, arc_at, arcs_of}
use Rattle.auto_core.specs.Outcome.{Outcome, Closed, Apart, Limit, HasSubsumer, TellsLive, Entry, origins_in, arcs_in}
use Rattle.auto_core.specs.Pairs.{PairSubsumes, PairPasses, pair_of, IsReached, IsPairPlacedAt}
use Rattle.auto_core.specs.ClosedPairs.{ClosedPairs}
use Rattle.auto_core.specs.PairOutcome.{pair_entry, start_entry, pair_rules, PairSearchEnds, SamePair, pair_at, NoPairSubsumedBefore}
use Rattle.auto_laws.specs.PairOutcomes.{OnePairOutcome, HavePairOrigins, PairOriginsFit, ClosedListIsClosedPairs, ClosedListIncludesWords, LivePairsStandApart, ApartSeparatesWord, LimitListsPairs, LivePairsAreEnough}
use Rattle.auto_laws.proofs.PlaceLemmas.{at_some}
use Rattle.auto_laws.proofs.UniqueLemmas.{one_outcome as one_of}
use Rattle.auto_laws.proofs.SearchLemmas.{IsMet, HasClosed, HasFailed, HasMet, Ends, at_the_end}
use Rattle.auto_laws.proofs.LiveLemmas.{live_ones_are_enough as enough_of}
use Rattle.auto_laws.proofs.OrderLemmas.{greatest_transitive}
use Rattle.auto_laws.proofs.PlacingLemmas.{FitsBehind, origins_size, arcs_size, arc_here, fits_later, fits_after_a_turn}
use Rattle.auto_laws.proofs.PairLemmas.{pair_trans, pair_subsumes_itself, failing_pair_separates}
use Rattle.auto_laws.proofs.ClosedPairLemmas.{closed_pairs_include}
use Rattle.auto_laws.proofs.PairEntryLemmas.{pair_placing, origins_of_none, origins_more, fits_at_the_start, start_starts, entry_is_reached}
use Rattle.auto_laws.proofs.ArcLemmas.{AreClosed, arcs_have, fresh_arcs, arcs_closed}

pub one_pair_outcome : OnePairOutcome
one_pair_outcome A B S limit o p h k =
    one_of Entry (pair_rules A B S) limit (λ x y passes fails. let q = passes fails.0 fails.1.0 in fails.1.1 q.0 q.1 q.2) [] (pair_rules A B S).starts 0 o p h k

-- What each end has.
ends : (A B : Automaton) (S : List (ℕ × ℕ)) (limit : ℕ) (o : Outcome Entry) → PairSearchEnds A B S limit o → Ends (pair_rules A B S) limit (HavePairOrigins A) o
ends A B S limit o h =
    at_the_end Entry (pair_rules A B S) limit (HavePairOrigins A) (FitsBehind A (IsPairPlacedAt A)) (origins_of_none A) (origins_more A) (fits_at_the_start A B S) (fits_later A (IsPairPlacedAt A) (pair_placing A))
    (λ es e x c have is has. fits_after_a_turn A (IsPairPlacedAt A) (pair_placing A) es e x c is has) o h

pub closed_end : (A B : Automaton) (S : List (ℕ × ℕ)) (limit : ℕ) (es : List Entry) → PairSearchEnds A B S limit (Closed es) → HasClosed (pair_rules A B S) limit (HavePairOrigins A) es
closed_end A B S limit es h = ends A B S limit (Closed es) h

pub apart_end : (A B : Automaton) (S : List (ℕ × ℕ)) (limit : ℕ) (x y : Entry) → PairSearchEnds A B S limit (Apart x y) → HasFailed (pair_rules A B S) (HavePairOrigins A) x y
apart_end A B S limit x y h = ends A B S limit (Apart x y) h

pub limit_end : (A B : Automaton) (S : List (ℕ × ℕ)) (limit : ℕ) (es : List Entry) → PairSearchEnds A B S limit (Limit es) → HasMet (pair_rules A B S) limit (HavePairOrigins A) es
limit_end A B S limit es h = ends A B S limit (Limit es) h

pub pair_origins_fit : PairOriginsFit
pair_origins_fit A B S limit es = (λ h. (closed_end A B S limit es h).grown.sound, λ h. (limit_end A B S limit es h).grown.sound)

-- Subsuming by the greatest relation goes on.
pub pair_entries_join : (A B : Automaton) (S : List (ℕ × ℕ)) → IsGreatestForward B 1 S → (x y z : Entry) →
    (pair_rules A B S).subsumes x y → (pair_rules A B S).subsumes y z → (pair_rules A B S).subsumes x z
pair_entries_join A B S greatest x y z = pair_trans (Holds S) (greatest_transitive B S greatest) (pair_entry B x) (pair_entry B y) (pair_entry B z)

-- What is met is subsumed.
pub pair_met_is_subsumed : (A B : Automaton) (S : List (ℕ × ℕ)) → IsAutomaton B → IsGreatestForward B 1 S → (es : List Entry) → (c : Entry) →
    IsMet (pair_rules A B S) es c → HasSubsumer (pair_rules A B S) es c
pair_met_is_subsumed A B S valid greatest es c met = elim met [
  | inl has ↦ has
  | inr is ↦ (is.0, c, is.1, pair_subsumes_itself B S valid greatest c.arc)
]

-- Subsuming, of the arcs.
abbrev Above : Automaton → List (ℕ × ℕ) → WordArc → WordArc → Type 0
Above B S a b = PairSubsumes (Holds S) (pair_of B a) (pair_of B b)

module _ (A B : Automaton) (S : List (ℕ × ℕ)) (limit : ℕ) (es : List Entry) (live : ℕ → Bool) (valid : IsAutomaton B) (greatest : IsGreatestForward B 1 S)
    (h : PairSearchEnds A B S limit (Closed es)) (tells : TellsLive (pair_rules A B S) es live)
  where
    has : HasClosed (pair_rules A B S) limit (HavePairOrigins A) es
    has = closed_end A B S limit es h

    arcs : AreClosed A (pair_rules A B S) (Above B S) es live
    arcs = arcs_closed A (pair_rules A B S) (Above B S) (λ x y is. is) (pair_entries_join A B S greatest) (λ e x. refl) limit (HavePairOrigins A) es live has tells
        (pair_met_is_subsumed A B S valid greatest es)

    pub closed_pairs : ClosedPairs A B S (arcs_in es) live
    closed_pairs = record {
      stable = greatest.stable;
      reached = arcs_have A (IsReached A) es (entry_is_reached A es has.grown.sound);
      start = arcs.subsumed (start_entry A) (has.starts (start_entry A) (start_starts A B S));
      steps = arcs.steps;
      passes = λ e e_live.
          let size = arcs_size es in
          let e_in = e_live.0 in
          let x = at_some es e (omega arith) in
          subst (λ a. PairPasses A B (pair_of B a)) (sym (arc_here A es e x.0 x.1))
          (has.passed e e x.0 x.0 x.1 x.1 (arcs.stays e e_live) (arcs.stays e e_live) refl);
    }

pub closed_list_is_closed_pairs : ClosedListIsClosedPairs
closed_list_is_closed_pairs A B S limit es live valid greatest h tells = closed_pairs A B S limit es live valid greatest h tells

pub closed_list_includes_words : ClosedListIncludesWords
closed_list_includes_words A B S limit es live valid greatest h tells =
    closed_pairs_include A B S (arcs_in es) live (closed_pairs A B S limit es live valid greatest h tells)

pub live_pairs_stand_apart : LivePairsStandApart
live_pairs_stand_apart A B S limit es h i j x y differ x_is y_is x_live y_live subsumes = elim (cases_lt i j) [
  | inl less ↦ (closed_end A B S limit es h).grown.fresh i j x y less x_is y_is subsumes
  | inr more ↦ y_live i y x (let apart : j ≡ i → ⊥ = λ e. differ (sym e) in omega arith) y_is x_is subsumes
]

pub apart_separates_word : ApartSeparatesWord
apart_separates_word A B S limit x y h =
    let has = apart_end A B S limit x y h in
    (has.fails.0, failing_pair_separates A B x.arc (entry_is_reached A has.among has.grown.sound has.first x has.first_is) has.fails.1)

pub live_pairs_are_enough : LivePairsAreEnough
live_pairs_are_enough A B S es live x greatest tells = enough_of Entry (pair_rules A B S) (pair_entries_join A B S greatest) es live tells x

-- The same pairs subsume one another.
same_subsumes : (B : Automaton) (S : List (ℕ × ℕ)) (x y : WordArc) → PairSubsumes (Holds S) (pair_of B x) (pair_of B x) → SamePair (pair_of B x) (pair_of B y) → PairSubsumes (Holds S) (pair_of B x) (pair_of B y)
same_subsumes B S x y own same = record {
  state = same.state;
  members = λ q is. let r = own.members q is in (r.0, (same.members r.0).0 r.1, r.2);
}

pub limit_lists_pairs : LimitListsPairs
limit_lists_pairs A B S limit es valid greatest h =
    let size = (limit_end A B S limit es h).size in
    let count = origins_size es in
    (record { size = omega arith; placed = have.placed; differ = differ }, fresh)
  where
    have : HavePairOrigins A es
    have = (limit_end A B S limit es h).grown.sound

    fresh : NoPairSubsumedBefore A B S (origins_in es)
    fresh = fresh_arcs A (Above B S) es have.arcs (limit_end A B S limit es h).grown.fresh

    differ : (i j : ℕ) → i < j → j < length (origins_in es) → SamePair (pair_at A B (origins_in es) i) (pair_at A B (origins_in es) j) → ⊥
    differ i j lt within same =
        fresh i j lt within
        (same_subsumes B S (arc_at A (arcs_of A (origins_in es)) i) (arc_at A (arcs_of A (origins_in es)) j)
        (pair_subsumes_itself B S valid greatest (arc_at A (arcs_of A (origins_in es)) i)) same)
