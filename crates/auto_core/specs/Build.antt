-- What `Auto::build` is given, what it refuses, and what it holds.
use Rattle.std.specs.Prelude.{◌≡◌, ℕ, ◌+◌, ◌<◌, ◌≤◌, ◌⊎◌, List, length, All, Any, Contains, slice_index, slice_index_or, Bool, false, ◌==◌, map}
use Rattle.std.specs.List.{list_any}
use Rattle.std.specs.List.Sorted.{IsPermutation}
use Rattle.auto_core.specs.declared.parts.Trans.{Trans}
use Rattle.auto_core.specs.Automaton.{Automaton, IsAutomaton, trans}

-- The initial state, an end of a transition or an accepting state is no state.
abbrev pub HasStateFault : ℕ → ℕ → List Trans → List ℕ → Type 0
HasStateFault states initial transitions accepting =
    (states ≤ initial)
    ⊎ Any (λ t. (states ≤ t.source) ⊎ (states ≤ t.target)) transitions
    ⊎ Any (λ q. states ≤ q) accepting

-- The initial state, both ends of each transition and each accepting state are states.
abbrev pub HasStates : ℕ → ℕ → List Trans → List ℕ → Type 0
HasStates states initial transitions accepting =
    (initial < states) × All (λ t. (t.source < states) × (t.target < states)) transitions
    × All (λ q. q < states) accepting

-- The label of a transition is no label.
abbrev pub HasLabelFault : ℕ → List Trans → Type 0
HasLabelFault labels transitions = Any (λ t. labels ≤ t.label) transitions

-- The label of each transition is a label.
abbrev pub HasLabels : ℕ → List Trans → Type 0
HasLabels labels transitions = All (λ t. t.label < labels) transitions

-- The automaton is a valid one with just the parts that were given, in order.
pub record IsBuilt (states labels initial : ℕ) (transitions : List Trans) (accepting : List ℕ)
    (A : Automaton) : Type 0 where
  pub valid : IsAutomaton A
  pub states_given : A.states ≡ states
  pub labels_given : A.labels ≡ labels
  pub initial_given : A.initial ≡ initial
  pub transitions_given : IsPermutation transitions A.transitions
  pub accepting_given : IsPermutation accepting A.accepting

-- The first i keys are below p, and the others are not.
pub record IsStart (keys : List ℕ) (p i : ℕ) : Type 0 where
  pub within : i ≤ length keys
  pub below : (k : ℕ) → k < i → slice_index keys k < p
  pub above : (k : ℕ) → i ≤ k → k < length keys → p ≤ slice_index keys k

-- For each number up to n, where the keys that are not below it start.
pub record AreStarts (keys : List ℕ) (n : ℕ) (starts : List ℕ) : Type 0 where
  pub len : length starts ≡ n + 1
  pub each : (p : ℕ) → p ≤ n → IsStart keys p (slice_index starts p)

-- A flag for each state tells whether it is accepting.
pub record AreFlags (states : ℕ) (accepting : List ℕ) (flags : List Bool) : Type 0 where
  pub len : length flags ≡ states
  pub each : (q : ℕ) → q < states → slice_index_or flags q false ≡ list_any (λ x. x == q) accepting

-- The sources of the transitions.
abbrev pub sources_of : List Trans → List ℕ
sources_of transitions = map (λ t. t.source) transitions

-- The target of the transition with this number.
abbrev pub target_of : List Trans → ℕ → ℕ
target_of transitions t = (slice_index_or transitions t (trans 0 0 0)).target

-- The targets of the transitions with these numbers.
abbrev pub targets_at : List Trans → List ℕ → List ℕ
targets_at transitions numbers = map (target_of transitions) numbers

-- The numbers of all the transitions, by target, and then ascending.
pub record AreArrivals (transitions : List Trans) (numbers : List ℕ) : Type 0 where
  pub len : length numbers ≡ length transitions
  pub each : All (λ t. t < length transitions) numbers
  pub all : (t : ℕ) → t < length transitions → Contains numbers t
  pub in_order :
      (i j : ℕ)
      → i < j
      → j < length numbers
      → (target_of transitions (slice_index numbers i)
      < target_of transitions (slice_index numbers j))
      ⊎ ((target_of transitions (slice_index numbers i)
      ≡ target_of transitions (slice_index numbers j))
      × (slice_index numbers i < slice_index numbers j))
