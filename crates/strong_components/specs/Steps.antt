-- What one step of the search does.
use Rattle.std.specs.Prelude.{◌≡◌, ℕ, ◌+◌, ◌-◌, ◌*◌, ◌<◌, ◌≤◌, List, length}
use Rattle.std.specs.List.{sum_by}
use Rattle.strong_components.specs.Graph.{at, HasArc}
use Rattle.strong_components.specs.UnderWay.{State, IsNew, IsUnderWay, LeadsOn}

-- The node at the place x is in the last group, and an arc leads from it to w.
pub record CanGo (starts targets : List ℕ) (nodes : ℕ) (s : State) (x w : ℕ) : Type 0 where
  pub within : x < length s.stack
  pub is_last : (i : ℕ) → i < length s.bounds → at s.bounds i ≤ x
  pub arc : HasArc starts targets (at s.stack x) w
  pub below : w < nodes

-- The second list begins with the first one.
pub record Begins (xs ys : List ℕ) : Type 0 where
  pub size : length xs ≤ length ys
  pub same : (i : ℕ) → i < length xs → at ys i ≡ at xs i

-- No seen node is new again.
abbrev pub KeepsSeen : State → State → Type 0
KeepsSeen s t = (v : ℕ) → (IsNew s v → ⊥) → IsNew t v → ⊥

-- The search has gone on from the place x to w: the arc may now be taken.
pub record Went (starts targets : List ℕ) (nodes : ℕ) (s t : State) (x w : ℕ) : Type 0 where
  pub way : IsUnderWay starts targets nodes t
  pub leads : LeadsOn t x w
  pub rest : t.rest ≡ s.rest
  pub stack : Begins s.stack t.stack
  pub path : Begins s.path t.path
  pub most : length t.path + length t.stack ≤ length s.path + length s.stack + 2
  pub seen : KeepsSeen s t
  pub is_seen : IsNew t w → ⊥

-- The place is the last on the path, and in the last group.
pub record IsLastOnPath (s : State) (x : ℕ) : Type 0 where
  pub some : 0 < length s.path
  pub here : at s.path (length s.path - 1) ≡ x
  pub is_last : (i : ℕ) → i < length s.bounds → at s.bounds i ≤ x

-- How much work is left at most.
abbrev pub work : State → ℕ
work s = 3 * sum_by (λ n. n) s.rest + length s.path + length s.stack

-- The search has made a step, and less work is left.
pub record Stepped (starts targets : List ℕ) (nodes : ℕ) (s t : State) : Type 0 where
  pub way : IsUnderWay starts targets nodes t
  pub less : work t < work s
  pub seen : KeepsSeen s t

-- The search from the root is at its end.
pub record SearchedFrom (starts targets : List ℕ) (nodes : ℕ) (s t : State)
    (root : ℕ) : Type 0 where
  pub way : IsUnderWay starts targets nodes t
  pub ended : length t.bounds ≡ 0
  pub seen : KeepsSeen s t
  pub is_seen : IsNew t root → ⊥

-- The list has the number of arcs of each node.
pub record AreRests (starts : List ℕ) (nodes : ℕ) (rest : List ℕ) : Type 0 where
  pub size : length rest ≡ nodes
  pub each : (v : ℕ) → v < nodes → at rest v + at starts v ≡ at starts (v + 1)
