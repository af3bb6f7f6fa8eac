-- Moves that a list names, and what is decided of them.
use Rattle.std.proofs.Common.{◌≡◌, ℕ, List, [], ◌∷◌, map, Contains, refl, ap, subst, inl, inr}
use Rattle.std.proofs.lemmas.Bool.{cases_eq}
use Rattle.auto_core.specs.declared.parts.Trans.{Trans}
use Rattle.auto_core.specs.Automaton.{Automaton, Moves, IsAccepting, trans}
use Rattle.auto_core.specs.Game.{BackwardMoves, MatchesForward, MatchesBackward}
use Rattle.auto_core.proofs.PathLemmas.{Contains-here, Contains-later, Contains-cons_cases, none_in_nil}
use Rattle.auto_laws.proofs.DecisionLemmas.{Decided, decide_as, decide_both, decide_then, decide_some, decide_each, decide_number}

-- A member of the images is the image of a member, and the other way round.
pub contains_map : {X Y : Type 0} (f : X → Y) (xs : List X) (y : Y) → Contains (map f xs) y → (x : X) × Contains xs x × (f x ≡ y)
contains_map f [] y h = absurd (none_in_nil y h)
contains_map f (x ∷ xs) y h = elim (Contains-cons_cases (f x) y (map f xs) h) [
  | inl e ↦ (x, Contains-here x x xs refl, e)
  | inr later ↦ let r = contains_map f xs y later in (r.0, Contains-later x r.0 xs r.1, r.2)
]

pub map_contains : {X Y : Type 0} (f : X → Y) (xs : List X) (x : X) → Contains xs x → Contains (map f xs) (f x)
map_contains f [] x h = absurd (none_in_nil x h)
map_contains f (y ∷ ys) x h = elim (Contains-cons_cases y x ys h) [
  | inl e ↦ Contains-here (f y) (f x) (map f ys) (ap f e)
  | inr later ↦ Contains-later (f y) (f x) (map f ys) (map_contains f ys x later)
]

-- The moves are those of a list.
pub record ListsMoves (M : ℕ → ℕ → ℕ → Type 0) : Type 0 where
  pub moves : List Trans
  pub has : (p a q : ℕ) → M p a q → Contains moves (trans p a q)
  pub only : (p a q : ℕ) → Contains moves (trans p a q) → M p a q

pub forward_listing : (A : Automaton) → ListsMoves (Moves A)
forward_listing A = record { moves = A.transitions; has = λ p a q h. h; only = λ p a q h. h }

-- The transition read backward.
abbrev swapped : Trans → Trans
swapped t = trans t.target t.label t.source

pub backward_listing : (A : Automaton) → ListsMoves (BackwardMoves A)
backward_listing A =
    record {
      moves = map swapped A.transitions;
      has = λ p a q h. map_contains swapped A.transitions (trans q a p) h;
      only = λ p a q h. let r = contains_map swapped A.transitions (trans p a q) h in subst (Contains A.transitions) (ap swapped r.2) r.1;
    }

module _ (M : ℕ → ℕ → ℕ → Type 0) (listing : ListsMoves M) where
  -- For each move of a state.
  pub decide_moves : (p : ℕ) (P : ℕ → ℕ → Type 0) → ((a q : ℕ) → Decided (P a q)) → Decided ((a q : ℕ) → M p a q → P a q)
  decide_moves p P decide =
      decide_as ((t : Trans) → Contains listing.moves t → (t.source ≡ p → P t.label t.target)) ((a q : ℕ) → M p a q → P a q)
      (λ all a q move. all (trans p a q) (listing.has p a q move) refl)
      (λ each t h e. each t.label t.target (subst (λ s. M s t.label t.target) e (listing.only t.source t.label t.target h)))
      (decide_each Trans (λ t. t.source ≡ p → P t.label t.target) (λ t. decide_then (t.source ≡ p) (P t.label t.target) (cases_eq t.source p) (decide t.label t.target)) listing.moves)

  -- For some move of a state by a letter.
  pub decide_move : (p a : ℕ) (P : ℕ → Type 0) → ((q : ℕ) → Decided (P q)) → Decided ((q : ℕ) × M p a q × P q)
  decide_move p a P decide =
      decide_as ((t : Trans) × Contains listing.moves t × ((t.source ≡ p) × ((t.label ≡ a) × P t.target))) ((q : ℕ) × M p a q × P q) to from
      (decide_some Trans (λ t. (t.source ≡ p) × ((t.label ≡ a) × P t.target))
      (λ t. decide_both (t.source ≡ p) ((t.label ≡ a) × P t.target) (cases_eq t.source p) (decide_both (t.label ≡ a) (P t.target) (cases_eq t.label a) (decide t.target))) listing.moves)
    where
      to : (t : Trans) × Contains listing.moves t × ((t.source ≡ p) × ((t.label ≡ a) × P t.target)) → (q : ℕ) × M p a q × P q
      to (t, h, e) =
          let move : M p a t.target = subst (λ s. M s a t.target) e.0 (subst (λ l. M t.source l t.target) e.1.0 (listing.only t.source t.label t.target h)) in
          (t.target, move, e.1.1)

      from : (q : ℕ) × M p a q × P q → (t : Trans) × Contains listing.moves t × ((t.source ≡ p) × ((t.label ≡ a) × P t.target))
      from (q, move, h) = (trans p a q, listing.has p a q move, (refl, (refl, h)))

-- ---- what a state matches

pub decide_forward : (A B : Automaton) (p q : ℕ) → Decided (MatchesForward A B p q)
decide_forward A B p q = decide_then (IsAccepting A p) (IsAccepting B q) (decide_number A.accepting p) (decide_number B.accepting q)

pub decide_backward : (A B : Automaton) (p q : ℕ) → Decided (MatchesBackward A B p q)
decide_backward A B p q =
    decide_both (MatchesForward A B p q) (p ≡ A.initial → q ≡ B.initial) (decide_forward A B p q)
    (decide_then (p ≡ A.initial) (q ≡ B.initial) (cases_eq p A.initial) (cases_eq q B.initial))
