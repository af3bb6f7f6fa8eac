-- The graph of the pairs, and moves of it that lie on a cycle.
use Rattle.std.specs.Prelude.{◌≡◌, ℕ, ◌+◌, ◌^◌, ◌<◌, ◌≤◌, ◌⊎◌, true, false, List, [], ◌∷◌, ◌++◌, length}
use Rattle.auto_core.specs.declared.parts.Trans.{Trans}
use Rattle.auto_core.specs.Automaton.{Automaton, IsAccepting, is_accepting}
use Rattle.product_laws.specs.Reached.{GoesTo}
use Rattle.strong_components.specs.Graph.{at, IsArcOf}
use Rattle.product_search.specs.Found.{pair_at, Follows, IsClosedAt}
use Rattle.product_search.specs.declared.cycles.BadMove.{BadMove}

-- Pairs of states, the right one maybe none, to which the quiet steps from them lead.
pub record ArePairs (A B : Automaton) (pairs : List (ℕ × ℕ)) : Type 0 where
  pub few : length pairs < 2 ^ 32
  pub left : (i : ℕ) → i < length pairs → (pair_at pairs i).0 < A.states
  pub right : (i : ℕ) → i < length pairs → (pair_at pairs i).1 ≤ B.states
  pub closed : (i : ℕ) → i < length pairs → IsClosedAt A B true pairs i

-- The arc of the move is added, if B goes to a state that does not accept.
abbrev pub IsPushed : Automaton → List (ℕ × ℕ) → ℕ → Trans → List ℕ → List ℕ → List ℕ → List ℕ
    → Type 0
IsPushed B pairs right move targets letters new_targets new_letters =
    (s : ℕ)
    × GoesTo B right move.label s
    × (((is_accepting B s ≡ false)
    × ((to : ℕ) × (to < length pairs) × (pair_at pairs to ≡ (move.target, s))
    × (new_targets ≡ targets ++ to ∷ []) × (new_letters ≡ letters ++ move.label ∷ [])))
    ⊎ ((is_accepting B s ≡ true) × (new_targets ≡ targets) × (new_letters ≡ letters)))

-- The arcs out of the first n pairs are their quiet steps.
pub record AreArcs (A B : Automaton) (pairs : List (ℕ × ℕ)) (n : ℕ)
    (starts targets letters : List ℕ) : Type 0 where
  pub size : length starts ≡ n + 1
  pub last : at starts n ≡ length targets
  pub rising : (v : ℕ) → v < n → at starts v ≤ at starts (v + 1)
  pub within : (v : ℕ) → v < n → at starts (v + 1) ≤ length targets
  pub letters_size : length letters ≡ length targets
  pub to_pairs : (k : ℕ) → k < length targets → at targets k < length pairs
  pub sound : (v k : ℕ) → v < n → IsArcOf starts v k
      → Follows A B true (pair_at pairs v) (at letters k) (pair_at pairs (at targets k))
  pub full : (v a : ℕ) (y : ℕ × ℕ) → v < n → Follows A B true (pair_at pairs v) a y
      → (k : ℕ) × IsArcOf starts v k × (pair_at pairs (at targets k) ≡ y)

-- The arc leads to a pair with the same number whose left state accepts.
abbrev pub IsBadArc : Automaton → List (ℕ × ℕ) → List ℕ → List ℕ → ℕ → ℕ → Type 0
IsBadArc A pairs targets numbers v k =
    (at numbers (at targets k) ≡ at numbers v) × IsAccepting A (pair_at pairs (at targets k)).0

-- The pair has no such arc.
abbrev pub HasNoBadArc : Automaton → List (ℕ × ℕ) → List ℕ → List ℕ → List ℕ → ℕ → Type 0
HasNoBadArc A pairs starts targets numbers v =
    (k : ℕ) → IsArcOf starts v k → IsBadArc A pairs targets numbers v k → ⊥

-- The move is along such an arc.
abbrev pub IsBadMove : Automaton → List (ℕ × ℕ) → List ℕ → List ℕ → List ℕ → List ℕ → BadMove
    → Type 0
IsBadMove A pairs starts targets letters numbers move =
    (move.from < length pairs)
    × ((k : ℕ) × IsArcOf starts move.from k × (at targets k ≡ move.to)
    × (at letters k ≡ move.letter) × IsBadArc A pairs targets numbers move.from k)

-- Some quiet step leads from one pair to the other.
abbrev pub QuietStep : Automaton → Automaton → List (ℕ × ℕ) → ℕ → ℕ → Type 0
QuietStep A B pairs i j = (a : ℕ) × Follows A B true (pair_at pairs i) a (pair_at pairs j)

-- Along each arc the rank does not grow, and falls where the left state accepts.
abbrev pub RanksFall : Automaton → List (ℕ × ℕ) → List ℕ → List ℕ → List ℕ → Type 0
RanksFall A pairs starts targets ranks =
    (v k : ℕ) → v < length pairs → IsArcOf starts v k
    → (at ranks (at targets k) ≤ at ranks v)
    × (IsAccepting A (pair_at pairs (at targets k)).0 → at ranks (at targets k) < at ranks v)
