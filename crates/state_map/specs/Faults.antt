-- What a map of states lacks that carries no automaton over into another.
use Rattle.std.specs.Prelude.{◌≡◌, ℕ, ◌<◌, ◌≤◌, List, length}
use Rattle.auto_core.specs.Automaton.{Automaton, Moves, IsAccepting, trans_at}
use Rattle.auto_core.specs.Quotient.{class_of}
use Rattle.state_map.specs.declared.checking.MapFault.{MapFault}
use Rattle.state_map.specs.declared.checking.MapFault.TheVariants.{Number, Initial, Move, Accepting}

-- One of the transitions from the number `begin` up to `end` has this target.
abbrev pub HasTarget : Automaton → ℕ → ℕ → ℕ → Type 0
HasTarget A begin end q = (t : ℕ) × (begin ≤ t) × (t < end) × ((trans_at A t).target ≡ q)

-- The images of the states below n are states of B.
abbrev pub AreStatesBelow : Automaton → List ℕ → ℕ → Type 0
AreStatesBelow B map n = (q : ℕ) → q < n → class_of map q < B.states

-- The image of the transition t of A is a move of B.
abbrev pub HasImage : Automaton → Automaton → List ℕ → ℕ → Type 0
HasImage A B map t =
    Moves B (class_of map (trans_at A t).source) (trans_at A t).label
    (class_of map (trans_at A t).target)

-- The images of the transitions of A below n are moves of B.
abbrev pub HaveImagesBelow : Automaton → Automaton → List ℕ → ℕ → Type 0
HaveImagesBelow A B map n = (t : ℕ) → t < n → HasImage A B map t

-- The accepting states of A below n have accepting images.
abbrev pub AcceptBelow : Automaton → Automaton → List ℕ → ℕ → Type 0
AcceptBelow A B map n = (q : ℕ) → q < n → IsAccepting A q → IsAccepting B (class_of map q)

-- The fault is the first: first come the images that are no states, then the initial state, then
-- the moves, then the accepting states.
abbrev pub IsFirstFault : Automaton → Automaton → List ℕ → MapFault → Type 0
IsFirstFault A B map (Number q) =
    (q < A.states) × AreStatesBelow B map q × (B.states ≤ class_of map q)
IsFirstFault A B map Initial =
    AreStatesBelow B map A.states × (B.initial ≡ class_of map A.initial → ⊥)
IsFirstFault A B map (Move t) =
    AreStatesBelow B map A.states
    × (B.initial ≡ class_of map A.initial)
    × (t < length A.transitions)
    × HaveImagesBelow A B map t
    × (HasImage A B map t → ⊥)
IsFirstFault A B map (Accepting q) =
    AreStatesBelow B map A.states
    × (B.initial ≡ class_of map A.initial)
    × HaveImagesBelow A B map (length A.transitions)
    × (q < A.states)
    × AcceptBelow A B map q
    × IsAccepting A q
    × (IsAccepting B (class_of map q) → ⊥)
