-- Pairs of a state and a set: the sets of words, subsuming, and what extends it.
use Rattle.std.proofs.Common.{ℕ, ◌<◌, Bool, List, [], ◌∷◌, ◌++◌, refl, ◌∙◌, subst}
use Rattle.auto_core.specs.Automaton.{Automaton, IsAutomaton, Moves}
use Rattle.auto_core.specs.Run.{Run}
use Rattle.auto_core.specs.Accept.{AcceptsWord}
use Rattle.auto_core.specs.Game.{Holds, MatchesForward, Stable, IsGreatestForward}
use Rattle.auto_core.specs.Graph.{WordArc}
use Rattle.auto_core.specs.Pairs.{StatePair, set_of, pair_after, PairSubsumes, pair_of, IsReached}
use Rattle.auto_core.specs.declared.parts.Trans.{Trans}
use Rattle.auto_core.proofs.MoveLemmas.{move_in_range}
use Rattle.auto_laws.proofs.GraphLemmas.{graph_of_more, move_answered}
use Rattle.auto_laws.specs.PairOutcomes.{SetsExtend, ReachedPairsAreReal, marked_pair, PairSubsumptionIsKept, FailingPairSeparates}
use Rattle.auto_laws.proofs.OrderLemmas.{greatest_reflexive}

-- The set of a word is the row of the initial state in its graph.
pub sets_extend : SetsExtend
sets_extend B w a q = (graph_of_more B w a).joined B.initial q

-- The pair of a state and a word.
abbrev pub word_pair : Automaton → ℕ → List ℕ → StatePair
word_pair B p w = record { state = p; set = set_of B w }

pub pair_trans : (S : ℕ → ℕ → Type 0) → ((p q r : ℕ) → S p q → S q r → S p r) → (x y z : StatePair) → PairSubsumes S x y → PairSubsumes S y z → PairSubsumes S x z
pair_trans S joins x y z c d = record {
  state = c.state ∙ d.state;
  members = λ q is.
      let r = c.members q is in
      let s = d.members r.0 r.1 in
      (s.0, s.1, joins q r.0 s.0 r.2 s.2);
}

pub pair_more : (S T : ℕ → ℕ → Type 0) → ((p q : ℕ) → S p q → T p q) → (x y : StatePair) → PairSubsumes S x y → PairSubsumes T x y
pair_more S T f x y c = record {
  state = c.state;
  members = λ q is. let r = c.members q is in (r.0, r.1, f q r.0 r.2);
}

-- Subsuming is kept by one transition more.
pub pair_extended : (B : Automaton) (W : ℕ → ℕ → Type 0) → Stable (Moves B) (Moves B) (MatchesForward B B) 1 W → (x y : StatePair) (t : Trans) → PairSubsumes W x y → PairSubsumes W (pair_after B x t) (pair_after B y t)
pair_extended B W stable x y t c = record {
  state = refl;
  members = λ q (m, is, move).
      let r = c.members m is in
      let s = move_answered B W stable m r.0 t.label q r.2 move in
      (s.0, (r.0, r.1, s.1), s.3);
}

pub pair_subsumption_is_kept : PairSubsumptionIsKept
pair_subsumption_is_kept B S stable p r v w t c = pair_extended B (Holds S) stable (marked_pair p v) (marked_pair r w) t c

-- The pair of a word with one letter more is the extension of the word's, and each subsumes the other.
pub pair_above : (B : Automaton) (T : ℕ → ℕ → Type 0) → ((s : ℕ) → T s s) → (p : ℕ) (w : List ℕ) (t : Trans) →
    PairSubsumes T (pair_after B (word_pair B p w) t) (word_pair B t.target (w ++ t.label ∷ []))
pair_above B T same p w t = record { state = refl; members = λ q is. (q, (sets_extend B w t.label q).1 is, same q) }

pub pair_below : (B : Automaton) (T : ℕ → ℕ → Type 0) → ((s : ℕ) → T s s) → (p : ℕ) (w : List ℕ) (t : Trans) →
    PairSubsumes T (word_pair B t.target (w ++ t.label ∷ [])) (pair_after B (word_pair B p w) t)
pair_below B T same p w t = record { state = refl; members = λ q is. (q, (sets_extend B w t.label q).0 is, same q) }

-- A reached arc's pair.
pub reached_pairs_are_real : ReachedPairsAreReal
reached_pairs_are_real A B x reached = record {
  flag = x.flag;
  run = subst (λ s. Run A s x.word x.to x.flag) reached.starts reached.run;
  members = λ q. (λ is. is, λ is. is);
}

-- A pair that fails.
pub failing_pair_separates : FailingPairSeparates
failing_pair_separates A B x reached (accepts, none) = (
  record {
    state = x.to;
    flag = x.flag;
    run = subst (λ s. Run A s x.word x.to x.flag) reached.starts reached.run;
    ends = accepts;
  },
  λ (other : AcceptsWord B x.word). none other.state (other.flag, other.run) other.ends,
)

-- Members of a word's set are states, and so its pair subsumes itself.
ends_in_range : (B : Automaton) → IsAutomaton B → (w : List ℕ) (s t : ℕ) (flag : Bool) → s < B.states → Run B s w t flag → t < B.states
ends_in_range B valid [] s t flag lt run = subst (λ k. k < B.states) run.0 lt
ends_in_range B valid (a ∷ w) s t flag lt (next, later, move, rest, e) = ends_in_range B valid w next t later (move_in_range B valid s a next move).1 rest

pub member_in_range : (B : Automaton) → IsAutomaton B → (w : List ℕ) (q : ℕ) → set_of B w q → q < B.states
member_in_range B valid w q (flag, run) = ends_in_range B valid w B.initial q flag valid.initial_is_state run

pub reached_in_range : (A : Automaton) → IsAutomaton A → (x : WordArc) → IsReached A x → x.to < A.states
reached_in_range A valid x reached =
    ends_in_range A valid x.word A.initial x.to x.flag valid.initial_is_state (subst (λ s. Run A s x.word x.to x.flag) reached.starts reached.run)

pub pair_subsumes_itself : (B : Automaton) (S : List (ℕ × ℕ)) → IsAutomaton B → IsGreatestForward B 1 S → (x : WordArc) → PairSubsumes (Holds S) (pair_of B x) (pair_of B x)
pair_subsumes_itself B S valid greatest x = record {
  state = refl;
  members = λ q is. (q, is, greatest_reflexive B S valid greatest q (member_in_range B valid x.word q is));
}
