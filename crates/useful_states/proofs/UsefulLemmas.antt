-- What is found from the initial state on, and from the goals back.
use Rattle.std.proofs.Common.{◌≡◌, ℕ, ◌<◌, ◌↔◌, inl, inr, false, List, [], Contains, refl, sym, subst}
use Rattle.std.proofs.lemmas.List.Elements.{All-contains}
use Rattle.auto_core.specs.Automaton.{Automaton, IsAutomaton, IsAccepting}
use Rattle.auto_core.specs.Useful.{Reaches, IsGoal, AreUseful}
use Rattle.auto_core.specs.declared.parts.Mode.{Mode}
use Rattle.useful_states.specs.declared.direction.Direction.TheVariants.{Forward, Backward}
use Rattle.useful_states.specs.declared.gathering.Gathered.{Gathered}
use Rattle.useful_states.specs.Gathering.{IsReachedFrom, ListsMembers, HasGained, HoldsJust}
use Rattle.useful_states.specs.Goals.{ComesToGoal}
use Rattle.useful_states.proofs.GatherLemmas.{held_and}
use Rattle.useful_states.proofs.RunLemmas.{reaches_by, moves_of_run, ahead_from_back, back_from_ahead}

pub accepting_below : (A : Automaton) → IsAutomaton A → (q : ℕ) → IsAccepting A q → q < A.states
accepting_below A valid q there = All-contains (λ x. x < A.states) A.accepting q valid.accepting_in_range there

pub member_below : (g : Gathered) → ListsMembers g → (q : ℕ) → Contains g.set.members q → q < g.set.states
member_below g listed q there = let (i, lt, is) = listed.full q there in subst (λ x. x < g.set.states) is (listed.below i lt)

-- The goals, and what leads to them.
pub goals_and_before : (A : Automaton) (mode : Mode) (states : ℕ) (old new : Gathered) → HoldsJust states (IsGoal A mode) old → HasGained (IsReachedFrom A Backward old.set.members) old new → HoldsJust states (ComesToGoal A mode) new
goals_and_before A mode states old new goals gained = held_and (IsGoal A mode) (IsReachedFrom A Backward old.set.members) (ComesToGoal A mode) states old new goals gained (λ q. (
  λ (g, (w, flag, run), is). let way = moves_of_run A q w g flag run in inr (g, (goals.members g).1 is, back_from_ahead A way.0 q g way.1),
  λ h. elim h [
    | inl is ↦ (q, ([], false, (refl, refl)), is)
    | inr (g, there, way) ↦ let on = ahead_from_back A way.0 g q way.1 in (g, reaches_by A on.0 q g on.1, (goals.members g).0 there)
  ],
))

-- The initial state, and where it leads.
pub initial_and_after :
    (A : Automaton) (states : ℕ) (none one all : Gathered)
    → HoldsJust states (λ q. ⊥) none
    → HasGained (λ q. q ≡ A.initial) none one
    → HasGained (IsReachedFrom A Forward one.set.members) one all
    → HoldsJust states (Reaches A A.initial) all
initial_and_after A states none one all nothing first gained = held_and (λ q. q ≡ A.initial) (IsReachedFrom A Forward one.set.members) (Reaches A A.initial) states one all initial gained (λ q. (
  λ (w, flag, run). inr (A.initial, (initial.members A.initial).1 refl, moves_of_run A A.initial w q flag run),
  λ h. elim h [
    | inl e ↦ ([], false, (sym e, refl))
    | inr (p, there, way) ↦ subst (λ x. Reaches A x q) ((initial.members p).0 there) (reaches_by A way.0 p q way.1)
  ],
))
  where
    initial : HoldsJust states (λ q. q ≡ A.initial) one
    initial = held_and (λ q. ⊥) (λ q. q ≡ A.initial) (λ q. q ≡ A.initial) states none one nothing first (λ q. (λ e. inr e, λ h. elim h [ inl is ↦ absurd is | inr e ↦ e ]))

-- What is reached and leads to a goal is useful.
pub useful_in_both :
    (A : Automaton) (mode : Mode) (reached goals : Gathered) (n : ℕ) (members : List ℕ)
    → HoldsJust n (Reaches A A.initial) reached
    → HoldsJust n (ComesToGoal A mode) goals
    → ((q : ℕ) → Contains members q ↔ ((q < n) × Contains reached.set.members q × Contains goals.set.members q))
    → AreUseful A mode members
useful_in_both A mode reached goals n members from to both q = (
  λ there.
      let (lt, a, b) = (both q).0 there in
      let (g, way, is) = (to.members q).0 b in
      record { reached = (from.members q).0 a; goal = g; reaches = way; is_goal = is },
  λ u.
      let a = (from.members q).1 u.reached in
      (both q).1 (subst (λ m. q < m) from.size (member_below reached from.listed q a), a, (to.members q).1 (u.goal, u.reaches, u.is_goal)),
)
