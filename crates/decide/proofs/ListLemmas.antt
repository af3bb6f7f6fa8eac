-- A list of a search keeps all rules of the check.
use Rattle.std.proofs.Common.{◌≡◌, ℕ, ◌+◌, ◌<◌, ◌≤◌, List, ◌++◌, length, slice_index_or, sym, ◌∙◌, subst}
use Rattle.std.proofs.lemmas.Option.{get_or_from_slice_get}
use Rattle.auto_core.specs.Automaton.{Automaton}
use Rattle.auto_core.specs.Graph.{arc_at, arcs_of}
use Rattle.auto_core.specs.Outcome.{At}
use Rattle.auto_core.specs.declared.parts.Mode.{Mode}
use Rattle.auto_core.specs.declared.parts.Mode.TheVariants.{Buchi, Finite}
use Rattle.auto_core.specs.declared.parts.Origin.{Origin}
use Rattle.auto_core.specs.declared.parts.Origin.TheVariants.{Start}
use Rattle.auto_laws.proofs.PlaceLemmas.{at_within}
use Rattle.cert_value.specs.declared.types.Element.{Element}
use Rattle.cert_value.specs.declared.types.ListBody.{ListBody}
use Rattle.cert_value.specs.declared.types.Mark.TheVariants.{Live}
use Rattle.log_check.specs.Checks.{AllHold, checks_of_each}
use Rattle.log_check.proofs.CheckLemmas.{all_join}
use Rattle.cert_check.specs.Inclusion.{no_element, element_checks, NamesOrigin}
use Rattle.cert_check.specs.Listing.{AreDifferentListed, as_elements, SameIn, count_checks, difference_checks, listing_checks}
use Rattle.cert_check.proofs.ListingLemmas.{origins_of_live, live_count, live_at}
use Rattle.decide.proofs.PlaceLemmas.{checks_from_places}
use Rattle.decide.proofs.YesLemmas.{parts_of_placed, PlacedParts, IsPlacedIn}

-- No two of the elements are the same.
abbrev pub AllDiffer : Mode → Automaton → Automaton → List Origin → Type 0
AllDiffer m A B origins = (i j : ℕ) → i < j → j < length origins → SameIn m B (arc_at A (arcs_of A origins) i) (arc_at A (arcs_of A origins) j) → ⊥

pub listed_differ : (m : Mode) (A B : Automaton) (count : ℕ) (origins : List Origin) → AreDifferentListed m A B count origins → AllDiffer m A B origins
listed_differ Buchi A B count origins listed = listed.listed.differ
listed_differ Finite A B count origins listed = listed.listed.differ

module _ (m : Mode) (n : ℕ) (A B : Automaton) (list : ListBody) (few : length list.elements ≤ 100001) (few_transitions : length A.transitions ≤ 65536)
    (placed : (e : ℕ) → e < length list.elements → IsPlacedIn m A (arcs_of A list.elements) e (slice_index_or list.elements e Start)) where
  abbrev es : List Element
  es = as_elements list.elements

  abbrev live : Origin → Element
  live o = record { mark = Live; origin = o }

  -- The element at a place is that of the origin there.
  here : (e : ℕ) (x : Element) → At es e x → (e < length list.elements) × (x ≡ live (slice_index_or list.elements e Start))
  here e x is =
      let lt : e < length list.elements = subst (λ k. e < k) (live_count list.elements) (at_within es e x is) in
      (lt, sym (get_or_from_slice_get es e x no_element is) ∙ live_at list.elements e lt)

  parts_at : (e : ℕ) → e < length list.elements → PlacedParts m A (arcs_of A list.elements) (length list.elements) e (slice_index_or list.elements e Start)
  parts_at e lt = parts_of_placed m A (arcs_of A list.elements) (length list.elements) e (slice_index_or list.elements e Start) lt few few_transitions (placed e lt)

  elements_hold : AllHold (checks_of_each (element_checks A es (n + 1)) 0 es)
  elements_hold = checks_from_places (element_checks A es (n + 1)) es (λ e x is.
      let (lt, x_is) = here e x is in
      let o : Origin = slice_index_or list.elements e Start in
      let p : PlacedParts m A (arcs_of A list.elements) (length list.elements) e o = parts_at e lt in
      let all : AllHold (element_checks A es (n + 1) e (live o)) =
      subst (λ (l : List Origin). PlacedParts m A (arcs_of A l) (length list.elements) e o → AllHold (element_checks A es (n + 1) e (live o))) (origins_of_live list.elements)
      (λ q. ((subst (λ k. NamesOrigin A k o) (sym (live_count list.elements)) q.names, tt), (q.earlier, (q.goes, tt)))) p in
      subst (λ y. AllHold (element_checks A es (n + 1) e y)) (sym x_is) all)

  pub list_holds : length list.elements ≡ list.limit + 1 → AllDiffer m A B list.elements → AllHold (listing_checks m list n A B)
  list_holds count differ =
      let new : AllHold (checks_of_each (difference_checks m A B es (n + 1)) 0 es) =
      checks_from_places (difference_checks m A B es (n + 1)) es (λ e x is. (
        subst (λ (l : List Origin). (d : ℕ) → d < e → SameIn m B (arc_at A (arcs_of A l) d) (arc_at A (arcs_of A l) e) → ⊥) (sym (origins_of_live list.elements))
            (λ d before same. differ d e before (here e x is).0 same),
        tt,
      )) in
      all_join (checks_of_each (element_checks A es (n + 1)) 0 es) (count_checks list n ++ checks_of_each (difference_checks m A B es (n + 1)) 0 es) elements_hold
      (all_join (count_checks list n) (checks_of_each (difference_checks m A B es (n + 1)) 0 es) (count, tt) new)
