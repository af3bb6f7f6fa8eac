-- How the search keeps its elements.
use Rattle.std.specs.Prelude.{◌≡◌, ℕ, ◌<◌, ◌≤◌, ◌⊎◌, ◌↔◌, Bool, true, false, List, [], ◌∷◌, ◌++◌, length, map, Contains, filter, slice_index_or}
use Rattle.std.specs.List.Sorted.{IsStrictlyIncreasing}
use Rattle.auto_core.specs.Automaton.{Automaton}
use Rattle.auto_core.specs.Game.{Holds}
use Rattle.auto_core.specs.Rows.{HasBit}
use Rattle.auto_core.specs.Outcome.{At, Entry, Outcome, Closed, Apart, Limit, Comes, TellsLive, PassesBefore, FirstFailing, arcs_in}
use Rattle.auto_core.specs.Pairs.{StatePair, set_of, PairSubsumes, IsPairPlacedAt}
use Rattle.auto_core.specs.PairOutcome.{pair_rules, PairSearchEnds}
use Rattle.auto_laws.specs.PairOutcomes.{HavePairOrigins}
use Rattle.set_rows.specs.Sets.{IsRow, IsSubset, IsCovered}
use Rattle.evidence.specs.Tables.{numbers_at}
use Rattle.evidence.specs.Entries.{entry_of, entries_of}
use Rattle.antichain.specs.declared.parts.Held.{Held}
use Rattle.antichain.specs.declared.parts.Fate.{Fate}
use Rattle.antichain.specs.declared.parts.Fate.TheVariants as fates
use Rattle.antichain.specs.declared.family.Family.{Family}

-- The rows of the kept element are for n states, the one below has what S relates to a member, and
-- their first words stand beside them.
pub record IsPrepared (n : ℕ) (S : List (ℕ × ℕ)) (h : Held) : Type 0 where
  pub row : IsRow n h.members.items
  pub below : IsRow n h.below.items
  pub covering : (other : List ℕ)
      → IsSubset other h.below.items ↔ IsCovered (Holds S) other h.members.items
  pub head : h.head ≡ slice_index_or h.members.items 0 0
  pub below_head : h.below_head ≡ slice_index_or h.below.items 0 0

-- The kept element stands for x: it has its origin and its state, and the row is that of its word's
-- set.
pub record IsKept (B : Automaton) (S : List (ℕ × ℕ)) (h : Held) (x : Entry) : Type 0 where
  pub origin : h.origin ≡ x.origin
  pub state : h.state ≡ x.arc.to
  pub prepared : IsPrepared B.states S h
  pub members : (q : ℕ) → HasBit h.members.items q ↔ set_of B x.arc.word q

-- The pair that the kept element holds.
abbrev pub held_pair : Held → StatePair
held_pair h = record { state = h.state; set = HasBit h.members.items }

-- The element with this number is live and has the state p.
pub record LiesAt (es : List Entry) (live : List Bool) (p j : ℕ) : Type 0 where
  pub element : Entry
  pub is : At es j element
  pub stays : slice_index_or live j false ≡ true
  pub state : element.arc.to ≡ p

-- The list has just the numbers of the live elements with the state p, ascending.
pub record AreThoseAt (es : List Entry) (live : List Bool) (p : ℕ) (numbers : List ℕ) : Type 0 where
  pub ascending : IsStrictlyIncreasing numbers
  pub only : (j : ℕ) → Contains numbers j → LiesAt es live p j
  pub all : (j : ℕ) → LiesAt es live p j → Contains numbers j

-- The family holds these elements.
pub record IsFamily (A B : Automaton) (S : List (ℕ × ℕ)) (f : Family)
    (es : List Entry) : Type 0 where
  pub size : length f.held.items ≡ length es
  pub live_size : length f.live.items ≡ length es
  pub table_size : length f.by_state.items ≡ A.states
  pub origins : HavePairOrigins A es
  pub kept : (i : ℕ) (h : Held) (x : Entry) → At f.held.items i h → At es i x → IsKept B S h x
  pub tells : TellsLive (pair_rules A B S) es (λ i. slice_index_or f.live.items i false)
  pub those : (p : ℕ) → p < A.states → AreThoseAt es f.live.items p (numbers_at f.by_state.items p)

-- The elements of the family, by the origins that it holds.
abbrev pub entries_held : Automaton → Family → List Entry
entries_held A f = entries_of A (map (λ (h : Held). h.origin) f.held.items)

-- The family holds just the elements of its origins.
abbrev pub IsWhole : Automaton → Automaton → List (ℕ × ℕ) → Family → Type 0
IsWhole A B S f = IsFamily A B S f (entries_held A f)

-- From es with the candidates cs before a turn the search comes to `now` with `left` before a later
-- turn, or it ends there: with an element of `now` that fails, or with `now`, which is longer than
-- the limit.
abbrev pub Leads : Automaton → Automaton → List (ℕ × ℕ) → ℕ → List Entry → List Entry → ℕ → Fate
    → List Entry → List Entry → ℕ → Type 0
Leads A B S limit es cs turn fates.GoesOn now left later =
    (o : Outcome Entry) → Comes Entry (pair_rules A B S) limit now left later o
    → Comes Entry (pair_rules A B S) limit es cs turn o
Leads A B S limit es cs turn (fates.Apart i) now left later =
    (x : Entry) × At now i x × Comes Entry (pair_rules A B S) limit es cs turn (Apart x x)
Leads A B S limit es cs turn fates.Limit now left later =
    Comes Entry (pair_rules A B S) limit es cs turn (Limit now)

-- The kept elements are prepared.
abbrev pub ArePrepared : ℕ → List (ℕ × ℕ) → List Held → Type 0
ArePrepared n S held = (i : ℕ) (h : Held) → At held i h → IsPrepared n S h

-- The numbers are those of elements that are there.
abbrev pub AreThere : List ℕ → ℕ → Type 0
AreThere numbers count = (k j : ℕ) → At numbers k j → j < count

-- No kept element of these numbers subsumes x.
abbrev pub NoneSubsumes : List (ℕ × ℕ) → List Held → List ℕ → StatePair → Type 0
NoneSubsumes S held numbers x =
    (k j : ℕ) (h : Held) → At numbers k j → At held j h → PairSubsumes (Holds S) (held_pair h) x → ⊥

-- Of the kept elements of these numbers j is the first that subsumes x.
pub record IsFirstSubsumer (S : List (ℕ × ℕ)) (held : List Held) (numbers : List ℕ) (x : StatePair)
    (j : ℕ) : Type 0 where
  pub place : ℕ
  pub is : At numbers place j
  pub element : Held
  pub element_is : At held j element
  pub subsumes : PairSubsumes (Holds S) (held_pair element) x
  pub before : (k i : ℕ) (h : Held) → k < place → At numbers k i → At held i h
      → PairSubsumes (Holds S) (held_pair h) x → ⊥

-- The kept element is one of these numbers, and x subsumes it.
pub record IsSubsumedOf (S : List (ℕ × ℕ)) (held : List Held) (numbers : List ℕ) (x : StatePair)
    (j : ℕ) : Type 0 where
  pub place : ℕ
  pub is : At numbers place j
  pub element : Held
  pub element_is : At held j element
  pub subsumes : PairSubsumes (Holds S) x (held_pair element)

-- Of the flags just those of the kept elements of these numbers that x subsumes are taken away.
pub record AreDropped (S : List (ℕ × ℕ)) (held : List Held) (numbers : List ℕ) (x : StatePair)
    (old new : List Bool) : Type 0 where
  pub size : length new ≡ length old
  pub each : (j : ℕ)
      → (slice_index_or new j false ≡ slice_index_or old j false)
      ⊎ ((slice_index_or new j false ≡ false) × IsSubsumedOf S held numbers x j)
  pub all : (j : ℕ) → IsSubsumedOf S held numbers x j → slice_index_or new j false ≡ false

-- The parts of the family fit one another, for sets of n states: there are as many flags as
-- elements, each number in the table is that of an element, and the elements are prepared.
pub record FitsTogether (n : ℕ) (S : List (ℕ × ℕ)) (f : Family) : Type 0 where
  pub live_size : length f.live.items ≡ length f.held.items
  pub there : (p : ℕ) → p < length f.by_state.items
      → AreThere (numbers_at f.by_state.items p) (length f.held.items)
  pub prepared : ArePrepared n S f.held.items

-- The new element has entered the family behind the others and is live; of those with its state,
-- the ones that it subsumes are dropped, and its number stands behind the rest of them.
pub record HasEntered (S : List (ℕ × ℕ)) (new : Held) (old now : Family) : Type 0 where
  pub held : now.held.items ≡ old.held.items ++ new ∷ []
  pub flags : List Bool
  pub dropped : AreDropped S old.held.items (numbers_at old.by_state.items new.state)
      (held_pair new) old.live.items flags
  pub live : now.live.items ≡ flags ++ true ∷ []
  pub table_size : length now.by_state.items ≡ length old.by_state.items
  pub here : numbers_at now.by_state.items new.state
      ≡ filter (λ j. slice_index_or flags j false) (numbers_at old.by_state.items new.state)
      ++ length old.held.items ∷ []
  pub others : (k : ℕ) → (k ≡ new.state → ⊥)
      → numbers_at now.by_state.items k ≡ numbers_at old.by_state.items k

-- The kept element may come behind these: its origin fits, and it stands for the element of its
-- origin.
pub record IsCandidate (A B : Automaton) (S : List (ℕ × ℕ)) (es : List Entry)
    (h : Held) : Type 0 where
  pub placed : IsPairPlacedAt A (arcs_in es) (length es) h.origin
  pub kept : IsKept B S h (entry_of A es h.origin)

-- What was told of the newest element, which is c: it passes, or it fails and has this number.
abbrev pub IsTold : Automaton → Automaton → List (ℕ × ℕ) → List Entry → Entry → Fate → Type 0
IsTold A B S es c fates.GoesOn = PassesBefore (pair_rules A B S) es c (length es)
IsTold A B S es c (fates.Apart i) = At es i c × FirstFailing (pair_rules A B S) es c c c
IsTold A B S es c fates.Limit = ⊥

-- The search has come from the old family with the candidates cs before a turn to the family now
-- with `left` before a later turn, or to an end.
pub record HasCome (A B : Automaton) (S : List (ℕ × ℕ)) (limit : ℕ) (old now : Family) (fate : Fate)
    (cs left : List Entry) (turn later : ℕ) : Type 0 where
  pub whole : IsWhole A B S now
  pub few : fate ≡ fates.GoesOn → length now.held.items ≤ limit
  pub grown : (i : ℕ) (x : Entry) → At (entries_held A old) i x → At (entries_held A now) i x
  pub leads : Leads A B S limit (entries_held A old) cs turn fate (entries_held A now) left later

-- The whole search has ended so.
abbrev pub HasEnded : Automaton → Automaton → List (ℕ × ℕ) → ℕ → Fate → List Entry → Type 0
HasEnded A B S limit fates.GoesOn now = PairSearchEnds A B S limit (Closed now)
HasEnded A B S limit (fates.Apart i) now =
    (x : Entry) × At now i x × PairSearchEnds A B S limit (Apart x x)
HasEnded A B S limit fates.Limit now = PairSearchEnds A B S limit (Limit now)
