-- A list that keeps its rules has pairwise different elements, one more than its limit.
use Rattle.std.proofs.Common.{◌≡◌, ℕ, zero, suc, ◌+◌, ◌<◌, true, List, [], ◌∷◌, ◌++◌, length, map, All, slice_index_or, refl, sym, ap, ◌∙◌, subst, arith, inl, Result, Err}
use Rattle.log_check.specs.declared.faults.CheckFault.{CheckFault}
use Rattle.std.specs.List.{list_all}
use Rattle.std.proofs.lemmas.Bool.{and_parts}
use Rattle.std.proofs.lemmas.List.{get_or-map, length-map}
use Rattle.auto_core.specs.Automaton.{Automaton}
use Rattle.auto_core.specs.Graph.{arc_at, arcs_of}
use Rattle.auto_core.specs.declared.parts.Mode.{Mode}
use Rattle.auto_core.specs.declared.parts.Mode.TheVariants.{Buchi, Finite}
use Rattle.auto_core.specs.declared.parts.Origin.{Origin}
use Rattle.auto_core.specs.declared.parts.Origin.TheVariants.{Start}
use Rattle.ba_format.specs.declared.parts.Joined.{Joined}
use Rattle.cert_value.specs.declared.types.Body.TheVariants.{Listing}
use Rattle.cert_value.specs.declared.types.Cert.{Cert}
use Rattle.cert_value.specs.declared.types.Element.{Element}
use Rattle.cert_value.specs.declared.types.ListBody.{ListBody}
use Rattle.cert_value.specs.declared.types.Mark.TheVariants.{Live}
use Rattle.cert_value.specs.WellFormed.{WellFormed, is_origin, is_listing}
use Rattle.log_check.specs.Checks.{RuleCheck, AllHold, FirstBroken, Tells, checks_of_each}
use Rattle.log_check.specs.Ends.{item_after}
use Rattle.log_check.proofs.CheckLemmas.{all_front, all_back, broken_back, tells_fault, tells_after, each_of}
use Rattle.cert_check.specs.Inclusion.{element_arcs, element_checks, no_element, NamesOrigin, HasEarlierParent, GoesOn}
use Rattle.cert_check.specs.Laws.{ValidListShows}
use Rattle.auto_laws.proofs.OriginLemmas.{placed_arcs_are_real}
use Rattle.auto_laws.proofs.PairEntryLemmas.{placed_pairs_are_reached}
use Rattle.cert_check.specs.Listing.{AreListedIn, AreDifferentListed, as_elements, SameIn, count_checks, difference_checks, listing_checks}
use Rattle.cert_check.specs.Rules.{BodyHolds, KeepsRules, ListHolds, ListsDifferent}
use Rattle.cert_check.proofs.ClosedLemmas.{list_parts, list_formed}
use Rattle.cert_check.proofs.PlaceLemmas.{IsPlacedIn, placed_one}

-- The origins of a list's elements are the list's.
pub origins_of_live : (origins : List Origin) → map (λ (e : Element). e.origin) (as_elements origins) ≡ origins
origins_of_live [] = refl
origins_of_live (o ∷ origins) = ap (λ l. o ∷ l) (origins_of_live origins)

abbrev live : Origin → Element
live o = record { mark = Live; origin = o }

pub live_count : (origins : List Origin) → length (as_elements origins) ≡ length origins
live_count origins = length-map origins live

pub live_at : (origins : List Origin) (e : ℕ) → e < length origins → slice_index_or (as_elements origins) e no_element ≡ live (slice_index_or origins e Start)
live_at origins e lt = get_or-map live origins e Start no_element lt

origin_passes : (m : Mode) (origins : List Origin) (e : ℕ) → list_all (is_origin m) origins ≡ true → e < length origins → is_origin m (slice_index_or origins e Start) ≡ true
origin_passes m [] e h lt = absurd (omega arith)
origin_passes m (o ∷ origins) zero h lt = (and_parts (is_origin m o) (list_all (is_origin m) origins) h).0
origin_passes m (o ∷ origins) (suc e) h lt = origin_passes m origins e (and_parts (is_origin m o) (list_all (is_origin m) origins) h).1 (omega arith)

module _ (m : Mode) (n : ℕ) (A B : Automaton) (list : ListBody) (fits : list_all (is_origin m) list.elements ≡ true) (hold : AllHold (listing_checks m list n A B)) where
  abbrev es : List Element
  es = as_elements list.elements

  abbrev E : List RuleCheck
  E = checks_of_each (element_checks A es (n + 1)) 0 es

  abbrev N : List RuleCheck
  N = checks_of_each (difference_checks m A B es (n + 1)) 0 es

  size : length list.elements ≡ list.limit + 1
  size = (all_front (count_checks list n) N (all_back E (count_checks list n ++ N) hold)).0

  placed : (e : ℕ) → e < length list.elements → IsPlacedIn m A (arcs_of A list.elements) e (slice_index_or list.elements e Start)
  placed e lt =
      let here = each_of (element_checks A es (n + 1)) e es no_element (subst (λ k. e < k) (sym (live_count list.elements)) lt) (all_front E (count_checks list n ++ N) hold) in
      let is = live_at list.elements e lt in
      let o : Origin = slice_index_or list.elements e Start in
      let goes : GoesOn A (element_arcs A es) o = subst (λ (x : Element). GoesOn A (element_arcs A es) x.origin) is here.1.1.0 in
      placed_one m A (arcs_of A list.elements) (length es) e o (origin_passes m list.elements e fits lt)
      (subst (λ (x : Element). NamesOrigin A (length es) x.origin) is here.0.0)
      (subst (λ (x : Element). HasEarlierParent e x.origin) is here.1.0)
      (subst (λ (l : List Origin). GoesOn A (arcs_of A l) o) (origins_of_live list.elements) goes)

  differ : (i j : ℕ) → i < j → j < length list.elements → SameIn m B (arc_at A (arcs_of A list.elements) i) (arc_at A (arcs_of A list.elements) j) → ⊥
  differ i j before lt same =
      let here = each_of (difference_checks m A B es (n + 1)) j es no_element (subst (λ k. j < k) (sym (live_count list.elements)) lt)
      (all_back (count_checks list n) N (all_back E (count_checks list n ++ N) hold)) in
      here.0 i before (subst (λ (l : List Origin). SameIn m B (arc_at A (arcs_of A l) i) (arc_at A (arcs_of A l) j)) (sym (origins_of_live list.elements)) same)

pub live_fit : (m : Mode) (origins : List Origin) (elements : List Element) → elements ≡ as_elements origins → list_all (is_origin m) origins ≡ true → All (λ element. is_origin m element.origin ≡ true) elements
live_fit m origins elements is fits k d lt =
    let k_in : k < length origins = omega (arith, lt, ap length is, live_count origins) in
    let here : slice_index_or elements k d ≡ live (slice_index_or origins k Start) = ap (λ l. slice_index_or l k d) is ∙ get_or-map live origins k Start d k_in in
    subst (λ (x : Element). is_origin m x.origin ≡ true) (sym here) (origin_passes m origins k fits k_in)

-- The parts of what is asked of a list, tested one after another.
module _ (m : Mode) (n : ℕ) (A B : Automaton) (list : ListBody) (elements : List Element) (is : elements ≡ as_elements list.elements) where
  abbrev held : List Element → List RuleCheck
  held l = checks_of_each (element_checks A l (n + 1)) 0 l

  abbrev new : List Element → List RuleCheck
  new l = checks_of_each (difference_checks m A B l (n + 1)) 0 l

  abbrev asked : List Element → List RuleCheck
  asked l = held l ++ (count_checks list n ++ new l)

  pub fault_in_elements : (X : Type 0) (e : CheckFault) → Tells {X = X} (held elements) (Err e) → Tells {X = Unit {0}} (listing_checks m list n A B) (Err e)
  fault_in_elements X e h = subst (λ (l : List Element). Tells {X = Unit {0}} (asked l) (Err e)) is (tells_fault X (Unit {0}) (held elements) (count_checks list n ++ new elements) e h)

  pub count_broken : AllHold (held elements) → (length list.elements ≡ list.limit + 1 → ⊥) → FirstBroken (listing_checks m list n A B) (record { rule = 18; item = n })
  count_broken h wrong = subst (λ (l : List Element). FirstBroken (asked l) (record { rule = 18; item = n })) is
      (broken_back (held elements) (count_checks list n ++ new elements) (record { rule = 18; item = n }) h (inl (wrong, refl)))

  pub new_last : (r : Result (Unit {0}) CheckFault) → AllHold (held elements) → length list.elements ≡ list.limit + 1 → Tells (new elements) r → Tells (listing_checks m list n A B) r
  new_last r h count told = subst (λ (l : List Element). Tells (asked l) r) is
      (tells_after (Unit {0}) (held elements) (count_checks list n ++ new elements) r h (tells_after (Unit {0}) (count_checks list n) (new elements) r (count, tt) told))

-- The arcs of different origins are those of runs.
pub listed_in : (m : Mode) (A B : Automaton) (count : ℕ) (origins : List Origin) → AreListedIn m A B count origins → AreDifferentListed m A B count origins
listed_in Buchi A B count origins d = record { listed = d; real = placed_arcs_are_real A origins d.placed }
listed_in Finite A B count origins d = record { listed = d; real = placed_pairs_are_reached A origins d.placed }

-- What the elements of a list show of the automata that the logs lead to.
pub listed : (m : Mode) (n : ℕ) (A B : Automaton) (list : ListBody) → list_all (is_origin m) list.elements ≡ true → AllHold (listing_checks m list n A B) →
    AreDifferentListed m A B (list.limit + 1) list.elements
listed Buchi n A B list fits hold =
    listed_in Buchi A B (list.limit + 1) list.elements
    (record { size = size Buchi n A B list fits hold; placed = placed Buchi n A B list fits hold; differ = differ Buchi n A B list fits hold })
listed Finite n A B list fits hold =
    listed_in Finite A B (list.limit + 1) list.elements
    (record { size = size Finite n A B list fits hold; placed = placed Finite n A B list fits hold; differ = differ Finite n A B list fits hold })

-- What a list shows that keeps its rules.
pub list_shows : (v : ℕ) (m : Mode) (pair : Joined) (list : ListBody) → is_listing v m list ≡ true → ListHolds m pair list → ListsDifferent m pair (list.limit + 1) list
list_shows v m pair list formed h = record {
  ends = h.ends;
  logs = h.logs;
  listed = listed m (item_after list.first list.second) h.ends.first h.ends.second list (list_parts v m list formed).origins h.hold;
}

pub kept_list_shows : (pair : Joined) (cert : Cert) (list : ListBody) → cert.body ≡ Listing list → WellFormed cert → KeepsRules pair cert → ListsDifferent cert.mode pair (list.limit + 1) list
kept_list_shows pair cert list is formed hold = list_shows cert.version cert.mode pair list (list_formed cert list is formed) (subst (λ b. BodyHolds cert.mode pair b) is hold.1)

pub valid_list : ValidListShows
valid_list pair cert list is v = kept_list_shows pair cert list is v.formed v.keeps
