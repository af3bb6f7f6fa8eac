-- The value of an automaton: plain numbers and lists.
use Rattle.std.specs.Prelude.{◌≡◌, ℕ, ◌^◌, ◌<◌, ◌≤◌, ◌⊎◌, List, length, All, Contains, slice_index_or, Bool, ◌==◌}
use Rattle.std.specs.List.{list_any}
use Rattle.std.specs.List.Sorted.{IsStrictlyIncreasing}
use Rattle.auto_core.specs.declared.parts.Trans.{Trans}

-- An automaton over labels below `labels`. `IsAutomaton` says which of these values are valid.
pub record Automaton : Type 0 where
  pub states : ℕ
  pub labels : ℕ
  pub initial : ℕ
  pub transitions : List Trans
  pub accepting : List ℕ

-- The transition with these three parts.
abbrev pub trans : ℕ → ℕ → ℕ → Trans
trans p a q = record { source = p; label = a; target = q }

-- A transition leads from p by the letter a to q.
abbrev pub Moves : Automaton → ℕ → ℕ → ℕ → Type 0
Moves A p a q = Contains A.transitions (trans p a q)

-- The state is one of the accepting states.
abbrev pub IsAccepting : Automaton → ℕ → Type 0
IsAccepting A q = Contains A.accepting q

-- Whether the state is one of the accepting states, as a test.
abbrev pub is_accepting : Automaton → ℕ → Bool
is_accepting A q = list_any (λ x. x == q) A.accepting

-- The transition with this number; there is none past the end, and then it is the transition of
-- zeros.
abbrev pub trans_at : Automaton → ℕ → Trans
trans_at A t = slice_index_or A.transitions t (trans 0 0 0)

-- t stands before u: by source, then by label, then by target.
abbrev pub IsBefore : Trans → Trans → Type 0
IsBefore t u =
    (t.source < u.source)
    ⊎ ((t.source ≡ u.source) × (t.label < u.label))
    ⊎ ((t.source ≡ u.source) × (t.label ≡ u.label) × (t.target < u.target))

-- Each transition stands before all later ones.
abbrev pub IsAscending : List Trans → Type 0
IsAscending transitions =
    (i j : ℕ)
    → i < j
    → j < length transitions
    → IsBefore (slice_index_or transitions i (trans 0 0 0))
    (slice_index_or transitions j (trans 0 0 0))

-- Both ends of the transition are states, and its label is a label.
abbrev pub IsInRange : ℕ → ℕ → Trans → Type 0
IsInRange states labels t = (t.source < states) × (t.target < states) × (t.label < labels)

-- A valid automaton: every number is in range, transitions and accepting states stand in strictly
-- ascending order.
pub record IsAutomaton (A : Automaton) : Type 0 where
  pub states_fit : A.states < 2 ^ 32
  pub labels_fit : A.labels < 2 ^ 32
  pub initial_is_state : A.initial < A.states
  pub in_range : All (IsInRange A.states A.labels) A.transitions
  pub in_order : IsAscending A.transitions
  pub few : length A.transitions < 2 ^ 32
  pub accepting_in_range : All (λ q. q < A.states) A.accepting
  pub accepting_in_order : IsStrictlyIncreasing A.accepting

-- The numbers from `begin` up to `end` are just those of the transitions out of p;
-- those before have lesser sources, those after have greater ones.
pub record IsOutgoing (A : Automaton) (p begin end : ℕ) : Type 0 where
  pub is_range : begin ≤ end
  pub within : end ≤ length A.transitions
  pub before : (t : ℕ) → t < begin → (trans_at A t).source < p
  pub inside : (t : ℕ) → begin ≤ t → t < end → (trans_at A t).source ≡ p
  pub after : (t : ℕ) → end ≤ t → t < length A.transitions → p < (trans_at A t).source

-- The source and the label of the transition stand before p and a.
abbrev pub IsBelowPair : Trans → ℕ → ℕ → Type 0
IsBelowPair t p a = (t.source < p) ⊎ ((t.source ≡ p) × (t.label < a))

-- They stand after p and a.
abbrev pub IsAbovePair : Trans → ℕ → ℕ → Type 0
IsAbovePair t p a = (p < t.source) ⊎ ((t.source ≡ p) × (a < t.label))

-- The numbers from `begin` up to `end` are just those of the transitions out of p with the letter
-- a; those before stand before p and a, those after stand after them.
pub record IsSuccessors (A : Automaton) (p a begin end : ℕ) : Type 0 where
  pub is_range : begin ≤ end
  pub within : end ≤ length A.transitions
  pub before : (t : ℕ) → t < begin → IsBelowPair (trans_at A t) p a
  pub inside : (t : ℕ) → begin ≤ t → t < end
      → ((trans_at A t).source ≡ p) × ((trans_at A t).label ≡ a)
  pub after : (t : ℕ) → end ≤ t → t < length A.transitions → IsAbovePair (trans_at A t) p a

-- The list holds just the numbers of the transitions into q, ascending.
pub record IsIncoming (A : Automaton) (q : ℕ) (numbers : List ℕ) : Type 0 where
  pub ascending : IsStrictlyIncreasing numbers
  pub each : All (λ t. (t < length A.transitions) × ((trans_at A t).target ≡ q)) numbers
  pub all : (t : ℕ) → t < length A.transitions → (trans_at A t).target ≡ q → Contains numbers t

-- Two places of the list hold the same.
abbrev pub HasRepeat : {X : Type 0} → List X → Type 0
HasRepeat {X} xs =
    (i j : ℕ) × (¬ (i ≡ j)) × (i < length xs) × (j < length xs)
    × ((d : X) → slice_index_or xs i d ≡ slice_index_or xs j d)
