-- The intersection of two automata: both run side by side, and in Büchi mode accepting states of
-- the first and of the second are awaited in turn.
use Rattle.std.specs.Prelude.{◌≡◌, ℕ, zero, suc, ◌<◌, ◌⊎◌, ◌↔◌, Bool, false, not, ◌&&◌, ◌==◌, if◌then◌else◌, List, ◌∷◌, length, map, filter, Contains}
use Rattle.std.specs.List.{flat_map}
use Rattle.auto_core.specs.Automaton.{Automaton, IsAutomaton, Moves, IsAccepting, is_accepting}
use Rattle.auto_core.specs.Outcome.{At}
use Rattle.auto_core.specs.declared.parts.Mode.{Mode}
use Rattle.auto_core.specs.declared.parts.Mode.TheVariants.{Buchi, Finite}
use Rattle.auto_core.specs.declared.parts.Trans.{Trans}
use Rattle.ba_format.specs.Sight.{first_seen}
use Rattle.auto_ops.specs.declared.product_states.ProductState.{ProductState}
use Rattle.auto_ops.specs.declared.limits.TheConstants.{MOST_STATES, MOST_TRANSITIONS, MOST_LABELS}
use Rattle.auto_ops.specs.Limits.{AreMoreThan}

-- The product state with these parts.
abbrev pub product_state : ℕ → ℕ → Bool → ProductState
product_state p q awaits = record { first = p; second = q; awaits_second = awaits }

-- Both initial states; an accepting state of the first is awaited.
abbrev pub start_of : Automaton → Automaton → ProductState
start_of A B = product_state A.initial B.initial false

-- Whether, after a move from the product state, an accepting state of the second is awaited: from
-- an accepting state of the first on, if that was awaited, and up to an accepting state of the
-- second. Over finite words none is ever awaited.
abbrev pub awaits_after : Mode → Automaton → Automaton → ProductState → Bool
awaits_after Buchi A B t =
    if t.awaits_second then not (is_accepting B t.second) else is_accepting A t.first
awaits_after Finite A B t = false

-- Both automata move with the letter from the states of the one product state to those of the
-- other.
pub record GoesBeside (mode : Mode) (A B : Automaton) (t : ProductState) (a : ℕ)
    (u : ProductState) : Type 0 where
  pub first : Moves A t.first a u.first
  pub second : Moves B t.second a u.second
  pub awaits : u.awaits_second ≡ awaits_after mode A B t

-- n such moves lead from both initial states to the product state.
abbrev pub IsReachedBy : Mode → Automaton → Automaton → ℕ → ProductState → Type 0
IsReachedBy mode A B zero u = u ≡ start_of A B
IsReachedBy mode A B (suc n) u =
    (t : ProductState) × (a : ℕ) × IsReachedBy mode A B n t × GoesBeside mode A B t a u

-- The product state is reached from both initial states.
abbrev pub IsProductReached : Mode → Automaton → Automaton → ProductState → Type 0
IsProductReached mode A B u = (n : ℕ) × IsReachedBy mode A B n u

-- The product state is accepting: the accepting state of the first that was awaited; over finite
-- words both states are.
abbrev pub IsAcceptingProductState : Mode → Automaton → Automaton → ProductState → Type 0
IsAcceptingProductState Buchi A B t = IsAccepting A t.first × (t.awaits_second ≡ false)
IsAcceptingProductState Finite A B t = IsAccepting A t.first × IsAccepting B t.second

-- A move of both automata, from a product state to a product state.
pub record ProductMove : Type 0 where
  pub source : ProductState
  pub label : ℕ
  pub target : ProductState

-- From the product state, the first automaton goes by its transition x and the second by y.
abbrev pub product_move : Mode → Automaton → Automaton → ProductState → Trans → Trans → ProductMove
product_move mode A B t x y =
    record {
      source = t;
      label = x.label;
      target = product_state x.target y.target (awaits_after mode A B t);
    }

-- Whether the transition leaves p, or leaves it with the letter a.
abbrev pub goes_from : ℕ → Trans → Bool
goes_from p x = x.source == p

abbrev pub goes_with : ℕ → ℕ → Trans → Bool
goes_with p a y = y.source == p && y.label == a

-- The moves from the product state in which the first automaton goes by x, in the order of the
-- second's transitions.
abbrev pub moves_beside : Mode → Automaton → Automaton → ProductState → Trans → List ProductMove
moves_beside mode A B t x =
    map (product_move mode A B t x) (filter (goes_with t.second x.label) B.transitions)

-- The moves from the product state: by letter, then by the state of the first, then by that of the
-- second, since transitions ascend so.
abbrev pub moves_of : Mode → Automaton → Automaton → ProductState → List ProductMove
moves_of mode A B t = flat_map (moves_beside mode A B t) (filter (goes_from t.first) A.transitions)

-- The moves from each of the product states, in their order.
abbrev pub moves_from : Mode → Automaton → Automaton → List ProductState → List ProductMove
moves_from mode A B product_states = flat_map (moves_of mode A B) product_states

-- Whether both product states have the same parts.
abbrev pub same_product_state : ProductState → ProductState → Bool
same_product_state t u =
    t.first == u.first && t.second == u.second
    && (if t.awaits_second then u.awaits_second else not u.awaits_second)

-- What is seen: the start, and then what the moves lead to.
abbrev pub seen_by : Automaton → Automaton → List ProductMove → List ProductState
seen_by A B moves = start_of A B ∷ map (λ (m : ProductMove). m.target) moves

-- Just the reached product states, numbered by first sight: each once, in the order in which they
-- are first seen when all their moves are gone through in order.
pub record AreNumberedBySight (mode : Mode) (A B : Automaton)
    (product_states : List ProductState) : Type 0 where
  pub reached : (t : ProductState) → Contains product_states t ↔ IsProductReached mode A B t
  pub in_order : product_states
      ≡ first_seen same_product_state (seen_by A B (moves_from mode A B product_states))

-- C is the intersection of A and B.
pub record IsIntersection (mode : Mode) (A B C : Automaton) : Type 0 where
  pub valid : IsAutomaton C
  pub product_states : List ProductState
  pub numbered : AreNumberedBySight mode A B product_states
  pub states : C.states ≡ length product_states
  pub labels : C.labels ≡ A.labels
  pub initial : C.initial ≡ 0
  pub moves :
      (p a q : ℕ)
      → Moves C p a q
      ↔ ((t : ProductState) × (u : ProductState) × At product_states p t × At product_states q u
      × GoesBeside mode A B t a u)
  pub accepting : (p : ℕ)
      → IsAccepting C p
      ↔ ((t : ProductState) × At product_states p t × IsAcceptingProductState mode A B t)

-- The intersection has more states, transitions or labels than a result may have.
abbrev pub IsIntersectionTooLarge : Mode → Automaton → Automaton → Type 0
IsIntersectionTooLarge mode A B =
    (MOST_LABELS < A.labels)
    ⊎ AreMoreThan MOST_STATES (IsProductReached mode A B)
    ⊎ AreMoreThan
    MOST_TRANSITIONS (λ (m : ProductMove). IsProductReached mode A B m.source
    × GoesBeside mode A B m.source m.label m.target)
