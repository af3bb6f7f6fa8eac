-- Where the search for components stands.
use Rattle.std.specs.Prelude.{◌≡◌, ℕ, ◌+◌, ◌<◌, ◌≤◌, ◌⊎◌, List, length}
use Rattle.auto_core.specs.Game.{Close}
use Rattle.strong_components.specs.Graph.{at, IsArcOf, HasArc}

-- What stands for no number.
abbrev pub none : ℕ
none = 4294967295

-- The search: the nodes that are seen and have no component yet; where each group starts among
-- them; the places of those that may have arcs left; how many arcs each node has left; each node's
-- place; the number of its component; and how many there are.
pub record State : Type 0 where
  pub stack : List ℕ
  pub bounds : List ℕ
  pub path : List ℕ
  pub rest : List ℕ
  pub places : List ℕ
  pub numbers : List ℕ
  pub count : ℕ

-- The group of the place y is that of x or a later one.
abbrev pub Behind : List ℕ → ℕ → ℕ → Type 0
Behind bounds x y = (i : ℕ) → i < length bounds → at bounds i ≤ x → at bounds i ≤ y

-- The node has a component.
abbrev pub IsDone : State → ℕ → Type 0
IsDone s v = at s.numbers v < s.count

-- The node is seen and has none yet.
abbrev pub IsOpen : State → ℕ → Type 0
IsOpen s v = (at s.places v < length s.stack) × (at s.stack (at s.places v) ≡ v)

-- The node is not seen.
abbrev pub IsNew : State → ℕ → Type 0
IsNew s v = at s.places v ≡ none

-- The arc has been followed.
abbrev pub IsTaken : List ℕ → State → ℕ → ℕ → Type 0
IsTaken starts s v k = (at starts v ≤ k) × (k + at s.rest v < at starts (v + 1))

-- The node w has a component, or is in the group of the place x or a later one.
abbrev pub LeadsOn : State → ℕ → ℕ → Type 0
LeadsOn s x w =
    IsDone s w ⊎ ((y : ℕ) × (y < length s.stack) × (at s.stack y ≡ w) × Behind s.bounds x y)

-- The node w has a component of no greater number, and if it is the same, there is a way from w to
-- v.
pub record EndsIn (starts targets : List ℕ) (s : State) (v w : ℕ) : Type 0 where
  pub done : IsDone s w
  pub fall : at s.numbers w ≤ at s.numbers v
  pub joined : at s.numbers w ≡ at s.numbers v → Close (HasArc starts targets) w v

-- The list rises.
abbrev pub Rises : List ℕ → Type 0
Rises xs = (i j : ℕ) → i < j → j < length xs → at xs i < at xs j

-- A node on the stack.
pub record IsPlaced (nodes : ℕ) (s : State) (x : ℕ) : Type 0 where
  pub below : at s.stack x < nodes
  pub place : at s.places (at s.stack x) ≡ x
  pub number : at s.numbers (at s.stack x) ≡ none

-- The search is under way.
pub record IsUnderWay (starts targets : List ℕ) (nodes : ℕ) (s : State) : Type 0 where
  pub rest_size : length s.rest ≡ nodes
  pub places_size : length s.places ≡ nodes
  pub numbers_size : length s.numbers ≡ nodes
  pub few : s.count < none
  pub room : length s.stack ≤ none
  pub placed : (x : ℕ) → x < length s.stack → IsPlaced nodes s x
  pub seen : (v : ℕ) → v < nodes → IsNew s v ⊎ IsDone s v ⊎ IsOpen s v
  pub new : (v : ℕ) → v < nodes → IsNew s v
      → (at s.numbers v ≡ none) × (at s.rest v + at starts v ≡ at starts (v + 1))
  pub left : (v : ℕ) → v < nodes → at s.rest v + at starts v ≤ at starts (v + 1)
  pub bounds_rise : Rises s.bounds
  pub bounds_in : (i : ℕ) → i < length s.bounds → at s.bounds i < length s.stack
  pub first : 0 < length s.stack → (0 < length s.bounds) × (at s.bounds 0 ≡ 0)
  pub path_rises : Rises s.path
  pub path_in : (i : ℕ) → i < length s.path → at s.path i < length s.stack
  pub finished : (x : ℕ) → x < length s.stack
      → (at s.rest (at s.stack x) ≡ 0) ⊎ ((i : ℕ) × (i < length s.path) × (at s.path i ≡ x))
  pub led : (x k : ℕ) → x < length s.stack → IsTaken starts s (at s.stack x) k
      → LeadsOn s x (at targets k)
  pub joined : (x y : ℕ) → x < length s.stack → y < length s.stack → Behind s.bounds x y
      → Close (HasArc starts targets) (at s.stack x) (at s.stack y)
  pub done : (v k : ℕ) → v < nodes → IsDone s v → IsArcOf starts v k
      → EndsIn starts targets s v (at targets k)

-- The nodes on the stack from the place `start` on have this number, and all others the one that
-- they had.
pub record AreMarked (stack : List ℕ) (start number : ℕ) (old new : List ℕ) : Type 0 where
  pub size : length new ≡ length old
  pub each : (x : ℕ) → start ≤ x → x < length stack → at new (at stack x) ≡ number
  pub others : (v : ℕ) → ((x : ℕ) → start ≤ x → x < length stack → at stack x ≡ v → ⊥)
      → at new v ≡ at old v
