-- The elements of the search over supergraphs have origins that fit.
use Rattle.std.proofs.Common.{ℕ, ◌<◌, ◌≤◌, Bool, true, List, [], ◌∷◌, ◌++◌, length, Contains, refl, subst, arith}
use Rattle.auto_core.specs.Automaton.{Automaton, IsAutomaton}
use Rattle.auto_core.specs.Run.{Run}
use Rattle.auto_core.specs.Game.{Holds, IsGreatestForward}
use Rattle.auto_core.specs.Graph.{Covers, Subsumes, IsReal, graph_of, arc_at, IsPlacedAt}
use Rattle.auto_core.specs.Outcome.{At, Entry, super_entry, base_entry, all_steps, supergraph_rules, origins_in}
use Rattle.auto_core.proofs.MemberLemmas.{map_has, map_from, range_has, range_from}
use Rattle.auto_core.proofs.MoveLemmas.{move_in_range}
use Rattle.auto_laws.proofs.OriginLemmas.{placing, placed_arcs_are_real}
use Rattle.auto_laws.specs.Outcomes.{HaveOrigins}
use Rattle.auto_laws.proofs.PlaceLemmas.{at_within}
use Rattle.auto_laws.proofs.OrderLemmas.{greatest_reflexive}
use Rattle.auto_laws.proofs.PlacingLemmas.{FitsBehind, origins_size, arc_here, have_more}

-- The laws that a search asks for.
pub origins_of_none : (A : Automaton) → HaveOrigins A []
origins_of_none A = record { placed = λ e lt. absurd (omega arith); arcs = refl }

pub origins_more : (A : Automaton) (es : List Entry) (c : Entry) → HaveOrigins A es → FitsBehind A (IsPlacedAt A) es c → HaveOrigins A (es ++ c ∷ [])
origins_more A es c have fits =
    let more = have_more A (IsPlacedAt A) (placing A) es c (record { placed = have.placed; arcs = have.arcs }) fits in
    record { placed = more.placed; arcs = more.arcs }

pub fits_at_the_start : (A B : Automaton) (S : List (ℕ × ℕ)) (c : Entry) → Contains (supergraph_rules A B S).starts c → FitsBehind A (IsPlacedAt A) [] c
fits_at_the_start A B S c has =
    let from = map_from (base_entry A) (all_steps A) c has in
    subst (FitsBehind A (IsPlacedAt A) []) from.2 (record { placed = range_from (length A.transitions) from.0 from.1; is = refl })

-- The candidates that there are at the start.
pub base_starts : (A B : Automaton) (S : List (ℕ × ℕ)) (t : ℕ) → t < length A.transitions → Contains (supergraph_rules A B S).starts (base_entry A t)
base_starts A B S t lt = map_has (base_entry A) (all_steps A) t (range_has (length A.transitions) t lt)

-- Elements are real, and subsume themselves.
pub entry_is_real : (A : Automaton) (es : List Entry) → HaveOrigins A es → (i : ℕ) (x : Entry) → At es i x → IsReal A x.arc
entry_is_real A es have i x is =
    let count = origins_size es in
    let within = at_within es i x is in
    subst (IsReal A) (arc_here A es i x is) (subst (λ l. IsReal A (arc_at A l i)) have.arcs (placed_arcs_are_real A (origins_in es) have.placed i (omega arith)))

run_ends_in_range : (B : Automaton) → IsAutomaton B → (w : List ℕ) (s t : ℕ) (flag : Bool) → 1 ≤ length w → Run B s w t flag → t < B.states
run_ends_in_range B valid [] s t flag some run = absurd (omega arith)
run_ends_in_range B valid (a ∷ []) s t flag some (next, later, move, rest, e) = subst (λ k. k < B.states) rest.0 (move_in_range B valid s a next move).1
run_ends_in_range B valid (a ∷ b ∷ w) s t flag some (next, later, move, rest, e) = run_ends_in_range B valid (b ∷ w) next t later (omega arith) rest

pub word_covers_itself : (B : Automaton) (S : List (ℕ × ℕ)) → IsAutomaton B → IsGreatestForward B 1 S → (w : List ℕ) → 1 ≤ length w → Covers (Holds S) (graph_of B w) (graph_of B w)
word_covers_itself B S valid greatest w some = record {
  joined = λ s t arc. (t, arc, greatest_reflexive B S valid greatest t (run_ends_in_range B valid w s t arc.0 some arc.1));
  past = λ s t arc. (t, arc, greatest_reflexive B S valid greatest t (run_ends_in_range B valid w s t true some arc));
}

pub entry_subsumes_itself : (A B : Automaton) (S : List (ℕ × ℕ)) → IsAutomaton B → IsGreatestForward B 1 S → (x : Entry) → IsReal A x.arc → Subsumes (Holds S) (super_entry B x) (super_entry B x)
entry_subsumes_itself A B S valid greatest x real = record { from = refl; to = refl; flag = λ e. e; covers = word_covers_itself B S valid greatest x.arc.word real.reads }
