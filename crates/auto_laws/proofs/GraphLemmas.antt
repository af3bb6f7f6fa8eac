-- Graphs of words, what extends them, and what covers them.
use Rattle.std.proofs.Common.{◌≡◌, ℕ, Bool, true, false, ◌||◌, List, [], ◌∷◌, ◌++◌, refl, sym, ap, ◌∙◌, subst, inl, inr, arith}
use Rattle.std.proofs.lemmas.Bool.{or_cases, or_left, or_right, false≢true}
use Rattle.auto_core.specs.Automaton.{Automaton, Moves, IsAccepting, is_accepting}
use Rattle.auto_core.specs.Run.{Run}
use Rattle.auto_core.specs.Game.{MatchesForward, Answers, Stable}
use Rattle.auto_core.specs.Graph.{Graph, IsGraph, SameGraph, graph_of, letter_graph, extended, graph_of_values, Covers, Supergraph, extension_of, Subsumes}
use Rattle.auto_core.specs.declared.parts.Trans.{Trans}
use Rattle.auto_core.proofs.PathLemmas.{run_join, run_split, accepting_from_test, test_from_accepting}

-- In graphs of words, graphs given by values and extended graphs the arcs of value 2 are among the arcs.
pub word_graph_is : (B : Automaton) (w : List ℕ) → IsGraph (graph_of B w)
word_graph_is B w s t run = (true, run)

pub value_graph_is : (value : ℕ → ℕ → ℕ) → IsGraph (graph_of_values value)
value_graph_is value s t two = omega (arith, two)

pub extended_graph_is : (B : Automaton) (g : Graph) (a : ℕ) → IsGraph g → IsGraph (extended B g a)
extended_graph_is B g a is s t (m, move, arc) = elim arc [
  | inl past ↦ (m, is s m past, move)
  | inr ends ↦ (m, ends.0, move)
]

-- Graphs with the same values.
pub same_refl : (g : Graph) → SameGraph g g
same_refl g = record { joined = λ s t. (λ h. h, λ h. h); past = λ s t. (λ h. h, λ h. h) }

pub same_sym : (g h : Graph) → SameGraph g h → SameGraph h g
same_sym g h e = record { joined = λ s t. ((e.joined s t).1, (e.joined s t).0); past = λ s t. ((e.past s t).1, (e.past s t).0) }

pub same_trans : (g h k : Graph) → SameGraph g h → SameGraph h k → SameGraph g k
same_trans g h k d e = record {
  joined = λ s t. (λ x. (e.joined s t).0 ((d.joined s t).0 x), λ x. (d.joined s t).1 ((e.joined s t).1 x));
  past = λ s t. (λ x. (e.past s t).0 ((d.past s t).0 x), λ x. (d.past s t).1 ((e.past s t).1 x));
}

pub same_extended : (B : Automaton) (g h : Graph) (a : ℕ) → SameGraph g h → SameGraph (extended B g a) (extended B h a)
same_extended B g h a e = record {
  joined = λ s t. (
    λ (m, arc, move). (m, (e.joined s m).0 arc, move),
    λ (m, arc, move). (m, (e.joined s m).1 arc, move),
  );
  past = λ s t. (
    λ (m, move, arc). (m, move, elim arc [ inl x ↦ inl ((e.past s m).0 x) | inr x ↦ inr ((e.joined s m).0 x.0, x.1) ]),
    λ (m, move, arc). (m, move, elim arc [ inl x ↦ inl ((e.past s m).1 x) | inr x ↦ inr ((e.joined s m).1 x.0, x.1) ]),
  );
}

-- A run on one letter is a move, past an accepting state where its target is one.
run_of_move : (B : Automaton) (s a t : ℕ) → Moves B s a t → Run B s (a ∷ []) t (is_accepting B t || false)
run_of_move B s a t move = (t, false, move, (refl, refl), refl)

flag_alone : (b : Bool) → (b || false) ≡ true → b ≡ true
flag_alone b h = elim (or_cases b false h) [ inl e ↦ e | inr e ↦ absurd (false≢true e) ]

move_of_run : (B : Automaton) (s a t : ℕ) (flag : Bool) → Run B s (a ∷ []) t flag → Moves B s a t × (flag ≡ true → IsAccepting B t)
move_of_run B s a t flag (next, later, move, stop, e) = (
  subst (λ x. Moves B s a x) stop.0 move,
  λ on. subst (λ x. IsAccepting B x) stop.0 (accepting_from_test B next
      (flag_alone (is_accepting B next) (ap (λ b. is_accepting B next || b) (sym stop.1) ∙ sym e ∙ on))),
)

run_of_accepting : (B : Automaton) (s a t : ℕ) → Moves B s a t → IsAccepting B t → Run B s (a ∷ []) t true
run_of_accepting B s a t move ends =
    subst (λ b. Run B s (a ∷ []) t b) (or_left (is_accepting B t) false (test_from_accepting B t ends)) (run_of_move B s a t move)

pub graph_of_letter : (B : Automaton) (a : ℕ) → SameGraph (graph_of B (a ∷ [])) (letter_graph B a)
graph_of_letter B a = record {
  joined = λ s t. (
    λ (flag, run). (move_of_run B s a t flag run).0,
    λ move. (is_accepting B t || false, run_of_move B s a t move),
  );
  past = λ s t. (
    λ run. let r = move_of_run B s a t true run in (r.0, r.1 refl),
    λ (move, ends). run_of_accepting B s a t move ends,
  );
}

-- The graph of a word and one letter more.
pub graph_of_more : (B : Automaton) (w : List ℕ) (a : ℕ) → SameGraph (graph_of B (w ++ a ∷ [])) (extended B (graph_of B w) a)
graph_of_more B w a = record {
  joined = λ s t. (
    λ (flag, run).
        let cut = run_split B s w (a ∷ []) t flag run in
        (cut.middle, (cut.first_flag, cut.first), (move_of_run B cut.middle a t cut.second_flag cut.second).0),
    λ (m, (flag, run), move).
        (flag || (is_accepting B t || false), run_join B s w m flag (a ∷ []) t (is_accepting B t || false) run (run_of_move B m a t move)),
  );
  past = λ s t. (
    λ run.
        let cut = run_split B s w (a ∷ []) t true run in
        let last = move_of_run B cut.middle a t cut.second_flag cut.second in (
          cut.middle,
          last.0,
          elim (or_cases cut.first_flag cut.second_flag (sym cut.is)) [
            | inl first ↦ inl (subst (λ b. Run B s w cut.middle b) first cut.first)
            | inr second ↦ inr ((cut.first_flag, cut.first), last.1 second)
          ],
        ),
    λ (m, move, arc). elim arc [
      | inl run ↦
          subst (λ b. Run B s (w ++ a ∷ []) t b) (or_left true (is_accepting B t || false) refl)
          (run_join B s w m true (a ∷ []) t (is_accepting B t || false) run (run_of_move B m a t move))
      | inr ends ↦
          subst (λ b. Run B s (w ++ a ∷ []) t b) (or_right ends.0.0 true refl)
          (run_join B s w m ends.0.0 (a ∷ []) t true ends.0.1 (run_of_accepting B m a t move ends.1))
    ],
  );
}

-- From a graph that stands for a word to one that stands for the word with one letter more.
pub same_more : (B : Automaton) (g : Graph) (w : List ℕ) (a : ℕ) → SameGraph g (graph_of B w) → SameGraph (extended B g a) (graph_of B (w ++ a ∷ []))
same_more B g w a e =
    same_trans (extended B g a) (extended B (graph_of B w) a) (graph_of B (w ++ a ∷ []))
    (same_extended B g (graph_of B w) a e) (same_sym (graph_of B (w ++ a ∷ [])) (extended B (graph_of B w) a) (graph_of_more B w a))

-- Covering.
pub covers_same : (S : ℕ → ℕ → Type 0) → ((s : ℕ) → S s s) → (g h : Graph) → SameGraph g h → Covers S g h
covers_same S same g h e = record {
  joined = λ s t arc. (t, (e.joined s t).0 arc, same t);
  past = λ s t arc. (t, (e.past s t).0 arc, same t);
}

pub covers_trans : (S : ℕ → ℕ → Type 0) → ((p q r : ℕ) → S p q → S q r → S p r) → (g h k : Graph) → Covers S g h → Covers S h k → Covers S g k
covers_trans S joins g h k c d = record {
  joined = λ s t arc.
      let x = c.joined s t arc in
      let y = d.joined s x.0 x.1 in
      (y.0, y.1, joins t x.0 y.0 x.2 y.2);
  past = λ s t arc.
      let x = c.past s t arc in
      let y = d.past s x.0 x.1 in
      (y.0, y.1, joins t x.0 y.0 x.2 y.2);
}

pub covers_more : (S T : ℕ → ℕ → Type 0) → ((p q : ℕ) → S p q → T p q) → (g h : Graph) → Covers S g h → Covers T g h
covers_more S T f g h c = record {
  joined = λ s t arc. let x = c.joined s t arc in (x.0, x.1, f t x.0 x.2);
  past = λ s t arc. let x = c.past s t arc in (x.0, x.1, f t x.0 x.2);
}

-- The same values answer alike.
pub covers_between : (S : ℕ → ℕ → Type 0) (g h x y : Graph) → SameGraph g x → SameGraph h y → Covers S g h → Covers S x y
covers_between S g h x y d e c = record {
  joined = λ s t arc. let r = c.joined s t ((d.joined s t).1 arc) in (r.0, (e.joined s r.0).0 r.1, r.2);
  past = λ s t arc. let r = c.past s t ((d.past s t).1 arc) in (r.0, (e.past s r.0).0 r.1, r.2);
}

-- Subsuming.
pub subsumes_refl : (S : ℕ → ℕ → Type 0) → ((s : ℕ) → S s s) → (x : Supergraph) → Subsumes S x x
subsumes_refl S same x = record { from = refl; to = refl; flag = λ e. e; covers = covers_same S same x.graph x.graph (same_refl x.graph) }

pub subsumes_trans : (S : ℕ → ℕ → Type 0) → ((p q r : ℕ) → S p q → S q r → S p r) → (x y z : Supergraph) → Subsumes S x y → Subsumes S y z → Subsumes S x z
subsumes_trans S joins x y z c d = record {
  from = c.from ∙ d.from;
  to = c.to ∙ d.to;
  flag = λ e. c.flag (d.flag e);
  covers = covers_trans S joins x.graph y.graph z.graph c.covers d.covers;
}

pub subsumes_more : (S T : ℕ → ℕ → Type 0) → ((p q : ℕ) → S p q → T p q) → (x y : Supergraph) → Subsumes S x y → Subsumes T x y
subsumes_more S T f x y c = record { from = c.from; to = c.to; flag = c.flag; covers = covers_more S T f x.graph y.graph c.covers }

-- Arcs with graphs of the same values subsume alike.
pub subsumes_between : (S : ℕ → ℕ → Type 0) (p q r s : ℕ) (e f : Bool) (g h x y : Graph) → SameGraph g x → SameGraph h y →
    Subsumes S (record { from = p; to = q; flag = e; graph = g }) (record { from = r; to = s; flag = f; graph = h }) →
    Subsumes S (record { from = p; to = q; flag = e; graph = x }) (record { from = r; to = s; flag = f; graph = y })
subsumes_between S p q r s e f g h x y d k c = record { from = c.from; to = c.to; flag = c.flag; covers = covers_between S g h x y d k c.covers }

-- By a relation that is stable at lookahead 1: one move, and a whole run.
pub move_answered : (B : Automaton) (W : ℕ → ℕ → Type 0) → Stable (Moves B) (Moves B) (MatchesForward B B) 1 W → (p q a r : ℕ) → W p q → Moves B p a r →
    (s : ℕ) × Moves B q a s × MatchesForward B B r s × W r s
move_answered B W stable p q a r held move =
    let answer : Answers (Moves B) (MatchesForward B B) W q (a ∷ []) (r ∷ []) = (stable p q held).1 (a ∷ []) (r ∷ []) (move, tt) (inl refl) in
    (answer.0, answer.1, answer.2, elim answer.3 [ inl w ↦ w | inr more ↦ absurd more ])

pub run_answered : (B : Automaton) (W : ℕ → ℕ → Type 0) → Stable (Moves B) (Moves B) (MatchesForward B B) 1 W → (w : List ℕ) (p q r : ℕ) (flag : Bool) → W p q → Run B p w r flag →
    (s : ℕ) × (more : Bool) × Run B q w s more × W r s × (flag ≡ true → more ≡ true)
run_answered B W stable [] p q r flag held run = (q, false, (refl, refl), subst (λ x. W x q) run.0 held, λ e. sym run.1 ∙ e)
run_answered B W stable (a ∷ w) p q r flag held (next, later, move, rest, e) =
    let one = move_answered B W stable p q a next held move in
    let on = run_answered B W stable w next one.0 r later one.3 rest in (
      on.0,
      is_accepting B one.0 || on.1,
      (one.0, on.1, one.1, on.2, refl),
      on.3,
      λ marked. elim (or_cases (is_accepting B next) later (sym e ∙ marked)) [
        | inl here ↦ or_left (is_accepting B one.0) on.1 (test_from_accepting B one.0 (one.2 (accepting_from_test B next here)))
        | inr rests ↦ or_right (is_accepting B one.0) on.1 (on.4 rests)
      ],
    )

pub past_answered : (B : Automaton) (W : ℕ → ℕ → Type 0) → Stable (Moves B) (Moves B) (MatchesForward B B) 1 W → (w : List ℕ) (p q r : ℕ) → W p q → Run B p w r true →
    (s : ℕ) × Run B q w s true × W r s
past_answered B W stable w p q r held run =
    let on = run_answered B W stable w p q r true held run in
    (on.0, subst (λ b. Run B q w on.0 b) (on.4 refl) on.2, on.3)

-- Covering is kept by one letter more, and subsuming by one transition more.
pub covers_extended : (B : Automaton) (W : ℕ → ℕ → Type 0) → Stable (Moves B) (Moves B) (MatchesForward B B) 1 W → (g h : Graph) (a : ℕ) → Covers W g h → Covers W (extended B g a) (extended B h a)
covers_extended B W stable g h a c = record {
  joined = λ s t (m, arc, move).
      let x = c.joined s m arc in
      let y = move_answered B W stable m x.0 a t x.2 move in
      (y.0, (x.0, x.1, y.1), y.3);
  past = λ s t (m, move, arc). elim arc [
    | inl past ↦
        let x = c.past s m past in
        let y = move_answered B W stable m x.0 a t x.2 move in
        (y.0, (x.0, y.1, inl x.1), y.3)
    | inr ends ↦
        let x = c.joined s m ends.0 in
        let y = move_answered B W stable m x.0 a t x.2 move in
        (y.0, (x.0, y.1, inr (x.1, y.2 ends.1)), y.3)
  ];
}

pub subsumes_extended : (A B : Automaton) (W : ℕ → ℕ → Type 0) → Stable (Moves B) (Moves B) (MatchesForward B B) 1 W → (x y : Supergraph) (t : Trans) → Subsumes W x y → Subsumes W (extension_of A B x t) (extension_of A B y t)
subsumes_extended A B W stable x y t c = record {
  from = c.from;
  to = refl;
  flag = λ e. elim (or_cases y.flag (is_accepting A t.target) e) [
    | inl first ↦ or_left x.flag (is_accepting A t.target) (c.flag first)
    | inr last ↦ or_right x.flag (is_accepting A t.target) last
  ];
  covers = covers_extended B W stable x.graph y.graph t.label c.covers;
}
