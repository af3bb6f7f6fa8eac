-- Each supergraph, and each pair of a state and a set, has a number, and equal numbers are of the same one.
use Rattle.std.proofs.Common.{◌≡◌, ℕ, ◌+◌, ◌*◌, ◌^◌, ◌<◌, ◌≤◌, ◌↔◌, Bool, true, false, List, [], ◌∷◌, length, refl, subst, inl, inr, arith}
use Rattle.std.proofs.Math.Nat.{mul_comm}
use Rattle.std.proofs.lemmas.Bool.{cases_lt}
use Rattle.std.proofs.lemmas.Nat.{mul-add-lt, same_from_place}
use Rattle.auto_core.specs.Automaton.{Automaton, IsAutomaton}
use Rattle.auto_core.specs.Run.{Run}
use Rattle.auto_core.specs.Graph.{SameGraph, WordArc, IsReal, graph_of, super_of}
use Rattle.auto_core.specs.Outcome.{SameSupergraph}
use Rattle.auto_core.specs.Pairs.{IsReached, set_of, pair_of}
use Rattle.auto_core.specs.PairOutcome.{SamePair}
use Rattle.auto_core.proofs.MoveLemmas.{move_in_range}
use Rattle.auto_laws.proofs.PumpingLemmas.{run_in_range}
use Rattle.auto_laws.proofs.PairLemmas.{member_in_range, reached_in_range}
use Rattle.auto_laws.specs.Bounds.{supergraph_bound, pair_bound}
use Rattle.auto_laws.proofs.CountLemmas.{numeral, AreDigits, numeral_below, same_digits, pow-times}
use Rattle.auto_laws.proofs.DecidedBoundLemmas.{Decided, decide_joined, value_at, same_first, same_second}

-- A run on a word that is not empty begins and ends in states.
run_states : (A : Automaton) → IsAutomaton A → (w : List ℕ) → 1 ≤ length w → (p q : ℕ) (flag : Bool) → Run A p w q flag → (p < A.states) × (q < A.states)
run_states A valid [] some p q flag run = absurd (omega arith)
run_states A valid (a ∷ w) some p q flag (next, later, move, rest, e) =
    let ends = move_in_range A valid p a next move in
    (ends.0, run_in_range A valid next w q later ends.1 rest)

neither : (P Q : Type 0) → (P → ⊥) → (Q → ⊥) → P ↔ Q
neither P Q p q = (λ h. absurd (p h), λ h. absurd (q h))

-- The row of a state in the graph of a word, and the graph, as numbers.
abbrev row_code : Automaton → ℕ → List ℕ → ℕ → ℕ
row_code B b w s = numeral 3 (λ t. (value_at B w s t).number) b

abbrev graph_code : Automaton → ℕ → List ℕ → ℕ
graph_code B b w = numeral (3 ^ b) (row_code B b w) b

row_code_below : (B : Automaton) (b : ℕ) (w : List ℕ) (s : ℕ) → row_code B b w s < 3 ^ b
row_code_below B b w s = numeral_below 3 (λ t. (value_at B w s t).number) b (λ t lt. (value_at B w s t).below)

graph_code_below : (B : Automaton) (b : ℕ) (w : List ℕ) → graph_code B b w < 3 ^ (b * b)
graph_code_below B b w = subst (λ m. graph_code B b w < m) (pow-times 3 b b) (numeral_below (3 ^ b) (row_code B b w) b (λ s lt. row_code_below B b w s))

same_values : (B : Automaton) (b : ℕ) (w x : List ℕ) → graph_code B b w ≡ graph_code B b x → (s t : ℕ) → s < b → t < b → (value_at B w s t).number ≡ (value_at B x s t).number
same_values B b w x e s t s_in t_in =
    let rows = same_digits (3 ^ b) (row_code B b w) (row_code B b x) b (λ k lt. row_code_below B b w k) (λ k lt. row_code_below B b x k) e s s_in in
    same_digits 3 (λ k. (value_at B w s k).number) (λ k. (value_at B x s k).number) b (λ k lt. (value_at B w s k).below) (λ k lt. (value_at B x s k).below) rows t t_in

-- Words that are not empty join states alone, so their graphs are the same where the numbers are.
same_graph : (B : Automaton) → IsAutomaton B → (b : ℕ) → B.states ≤ b → (w x : List ℕ) → 1 ≤ length w → 1 ≤ length x →
    graph_code B b w ≡ graph_code B b x → SameGraph (graph_of B w) (graph_of B x)
same_graph B valid b enough w x some more e = record {
  joined = λ s t. elim (cases_lt s b) [
    | inl s_in ↦ elim (cases_lt t b) [
      | inl t_in ↦ same_first (joined w s t) (past w s t) (joined x s t) (past x s t) (value_at B w s t) (value_at B x s t) (same_values B b w x e s t s_in t_in)
      | inr far ↦ neither (joined w s t) (joined x s t) (λ h. late w some s t far h.0 h.1) (λ h. late x more s t far h.0 h.1)
    ]
    | inr far ↦ neither (joined w s t) (joined x s t) (λ h. early w some s t far h.0 h.1) (λ h. early x more s t far h.0 h.1)
  ];
  past = λ s t. elim (cases_lt s b) [
    | inl s_in ↦ elim (cases_lt t b) [
      | inl t_in ↦ same_second (joined w s t) (past w s t) (joined x s t) (past x s t) (value_at B w s t) (value_at B x s t) (same_values B b w x e s t s_in t_in)
      | inr far ↦ neither (past w s t) (past x s t) (λ h. late w some s t far true h) (λ h. late x more s t far true h)
    ]
    | inr far ↦ neither (past w s t) (past x s t) (λ h. early w some s t far true h) (λ h. early x more s t far true h)
  ];
}
  where
    joined : List ℕ → ℕ → ℕ → Type 0
    joined v s t = (graph_of B v).joined s t

    past : List ℕ → ℕ → ℕ → Type 0
    past v s t = (graph_of B v).past s t

    early : (v : List ℕ) → 1 ≤ length v → (s t : ℕ) → b ≤ s → (flag : Bool) → Run B s v t flag → ⊥
    early v reads s t far flag run = let ends = run_states B valid v reads s t flag run in let begin = ends.0 in omega arith

    late : (v : List ℕ) → 1 ≤ length v → (s t : ℕ) → b ≤ t → (flag : Bool) → Run B s v t flag → ⊥
    late v reads s t far flag run = let ends = run_states B valid v reads s t flag run in let end = ends.1 in omega arith

-- A flag as a number.
abbrev flag_code : Bool → ℕ
flag_code true = 1
flag_code false = 0

flag_code_below : (flag : Bool) → flag_code flag < 2
flag_code_below true = omega arith
flag_code_below false = omega arith

same_flag : (flag more : Bool) → flag_code flag ≡ flag_code more → flag ≡ more
same_flag true true e = refl
same_flag true false e = absurd (omega arith)
same_flag false true e = absurd (omega arith)
same_flag false false e = refl

-- An arc with its ends below a and its flag, as a number.
abbrev arc_code : ℕ → WordArc → ℕ
arc_code a x = (x.from * a + x.to) * 2 + flag_code x.flag

-- The supergraph of the arc, as a number.
pub super_code : Automaton → ℕ → ℕ → WordArc → ℕ
super_code B a b x = arc_code a x * 3 ^ (b * b) + graph_code B b x.word

ends_below : (A : Automaton) → IsAutomaton A → (a : ℕ) → A.states ≤ a → (x : WordArc) → IsReal A x → (x.from < a) × (x.to < a)
ends_below A valid a enough x real =
    let ends = run_states A valid x.word real.reads x.from x.to x.flag real.run in
    let begin = ends.0 in
    let end = ends.1 in
    (omega arith, omega arith)

-- It is below the bound.
pub super_code_below : (A B : Automaton) → IsAutomaton A → (a b : ℕ) → A.states ≤ a → (x : WordArc) → IsReal A x → super_code B a b x < supergraph_bound a b
unfolding super_code
super_code_below A B valid a b enough x real =
    let ends = ends_below A valid a enough x real in
    let arc : arc_code a x < 2 * (a * a) = mul-add-lt (x.from * a + x.to) 2 (flag_code x.flag) (a * a) (mul-add-lt x.from a x.to a ends.0 ends.1) (flag_code_below x.flag) in
    subst (λ m. super_code B a b x < m) (mul_comm (3 ^ (b * b)) (2 * (a * a))) (mul-add-lt (arc_code a x) (3 ^ (b * b)) (graph_code B b x.word) (2 * (a * a)) arc (graph_code_below B b x.word))

-- Arcs with the same number have the same supergraph.
pub same_super : (A B : Automaton) → IsAutomaton A → IsAutomaton B → (a b : ℕ) → A.states ≤ a → B.states ≤ b → (x y : WordArc) → IsReal A x → IsReal A y →
    super_code B a b x ≡ super_code B a b y → SameSupergraph (super_of B x) (super_of B y)
unfolding super_code
same_super A B valid also a b enough fits x y real other e =
    let parts = same_from_place (arc_code a x) (graph_code B b x.word) (arc_code a y) (graph_code B b y.word) (3 ^ (b * b)) (graph_code_below B b x.word) (graph_code_below B b y.word) e in
    let arcs = same_from_place (x.from * a + x.to) (flag_code x.flag) (y.from * a + y.to) (flag_code y.flag) 2 (flag_code_below x.flag) (flag_code_below y.flag) parts.0 in
    let ends = same_from_place x.from x.to y.from y.to a (ends_below A valid a enough x real).1 (ends_below A valid a enough y other).1 arcs.0 in
    record {
      from = ends.0;
      to = ends.1;
      flag = same_flag x.flag y.flag arcs.1;
      graph = same_graph B also b fits x.word y.word real.reads other.reads parts.1;
    }

-- Whether a state is in the set of a word, and the set, as numbers.
member_code : (P : Type 0) → Decided P → ℕ
member_code P (inl p) = 1
member_code P (inr none) = 0

member_code_below : (P : Type 0) (d : Decided P) → member_code P d < 2
unfolding member_code
member_code_below P (inl p) = omega arith
member_code_below P (inr none) = omega arith

same_member : (P Q : Type 0) (d : Decided P) (e : Decided Q) → member_code P d ≡ member_code Q e → P ↔ Q
unfolding member_code
same_member P Q (inl p) (inl q) same = (λ h. q, λ h. p)
same_member P Q (inl p) (inr no_q) same = absurd (omega arith)
same_member P Q (inr no_p) (inl q) same = absurd (omega arith)
same_member P Q (inr no_p) (inr no_q) same = neither P Q no_p no_q

abbrev state_code : Automaton → List ℕ → ℕ → ℕ
state_code B w q = member_code (set_of B w q) (decide_joined B w B.initial q)

abbrev set_code : Automaton → ℕ → List ℕ → ℕ
set_code B b w = numeral 2 (state_code B w) b

state_code_below : (B : Automaton) (b : ℕ) (w : List ℕ) → AreDigits 2 (state_code B w) b
state_code_below B b w q lt = member_code_below (set_of B w q) (decide_joined B w B.initial q)

set_code_below : (B : Automaton) (b : ℕ) (w : List ℕ) → set_code B b w < 2 ^ b
set_code_below B b w = numeral_below 2 (state_code B w) b (state_code_below B b w)

-- The set of a word has states alone.
same_set : (B : Automaton) → IsAutomaton B → (b : ℕ) → B.states ≤ b → (w x : List ℕ) → set_code B b w ≡ set_code B b x → (q : ℕ) → set_of B w q ↔ set_of B x q
same_set B valid b enough w x e q = elim (cases_lt q b) [
  | inl below ↦ same_member (set_of B w q) (set_of B x q) (decide_joined B w B.initial q) (decide_joined B x B.initial q) (same_digits 2 (state_code B w) (state_code B x) b (state_code_below B b w) (state_code_below B b x) e q below)
  | inr far ↦ neither (set_of B w q) (set_of B x q) (λ h. let lt = member_in_range B valid w q h in omega arith) (λ h. let lt = member_in_range B valid x q h in omega arith)
]

-- The pair of an arc, as a number.
pub pair_code : Automaton → ℕ → WordArc → ℕ
pair_code B b x = x.to * 2 ^ b + set_code B b x.word

-- It is below the bound on pairs.
pub pair_code_below : (A B : Automaton) → IsAutomaton A → (a b : ℕ) → A.states ≤ a → (x : WordArc) → IsReached A x → pair_code B b x < pair_bound a b
unfolding pair_code
pair_code_below A B valid a b enough x reached =
    let end = reached_in_range A valid x reached in
    subst (λ m. pair_code B b x < m) (mul_comm (2 ^ b) a) (mul-add-lt x.to (2 ^ b) (set_code B b x.word) a (omega arith) (set_code_below B b x.word))

-- Arcs with the same number have the same pair.
pub same_pair : (B : Automaton) → IsAutomaton B → (b : ℕ) → B.states ≤ b → (x y : WordArc) → pair_code B b x ≡ pair_code B b y → SamePair (pair_of B x) (pair_of B y)
unfolding pair_code
same_pair B valid b enough x y e =
    let parts = same_from_place x.to (set_code B b x.word) y.to (set_code B b y.word) (2 ^ b) (set_code_below B b x.word) (set_code_below B b y.word) e in
    record { state = parts.0; members = same_set B valid b enough x.word y.word parts.1 }
