-- The lasso test: its two forms, what it says of two words' graphs, and how it goes from graphs to what they cover.
use Rattle.std.proofs.Common.{◌≡◌, ℕ, zero, suc, ◌+◌, ◌-◌, ◌<◌, ◌≤◌, ◌↔◌, Bool, true, false, ◌||◌, List, [], ◌∷◌, refl, sym, ap, ◌∙◌, subst, inl, inr, arith, le_refl}
use Rattle.std.proofs.lemmas.Bool.{or_cases, false≢true}
use Rattle.auto_core.specs.Automaton.{Automaton, IsAutomaton, Moves}
use Rattle.auto_core.specs.Run.{Run, repeated}
use Rattle.auto_core.specs.Accept.{AcceptsLasso}
use Rattle.auto_core.specs.Game.{MatchesForward, Stable, Chain, Close}
use Rattle.auto_core.specs.Rows.{HasBit}
use Rattle.auto_core.specs.Reach.{HasFlaggedCycle}
use Rattle.auto_core.specs.Graph.{Graph, IsGraph, SameGraph, graph_of, Covers, LassoIn, ReachesLoop}
use Rattle.auto_core.proofs.PathLemmas.{run_join, run_split}
use Rattle.auto_laws.proofs.PumpingLemmas.{chain_repeats, move_in_range}
use Rattle.auto_laws.proofs.GameLemmas.{close_refl, close_trans, close_one}
use Rattle.auto_laws.proofs.GraphLemmas.{word_graph_is, run_answered, past_answered}

-- A number set before the first place.
abbrev ahead : ℕ → (ℕ → ℕ) → ℕ → ℕ
ahead p s zero = p
ahead p s (suc k) = s k

-- A walk from p that goes on, from its place n, through the places of s for `last` steps.
abbrev Before : (ℕ → ℕ → Type 0) → ℕ → ℕ → (ℕ → ℕ) → ℕ → Type 0
Before R n p s last = (t : ℕ → ℕ) × (t 0 ≡ p) × ((k m : ℕ) → m ≡ n + k → t m ≡ s k) × ((k : ℕ) → k < n + last → R (t k) (t (suc k)))

prepend_one : (R : ℕ → ℕ → Type 0) (n p r : ℕ) (s : ℕ → ℕ) (last : ℕ) → R p r → Before R n r s last → Before R (suc n) p s last
prepend_one R n p r s last h rest = (ahead p rest.0, refl, shifted, stepped)
  where
    shifted : (k m : ℕ) → m ≡ suc n + k → ahead p rest.0 m ≡ s k
    shifted k zero e = absurd (omega arith)
    shifted k (suc m) e = rest.2 k m (omega arith)

    stepped : (k : ℕ) → k < suc n + last → R (ahead p rest.0 k) (ahead p rest.0 (suc k))
    stepped zero lt = subst (λ x. R p x) (sym rest.1) h
    stepped (suc k) lt = rest.3 k (omega arith)

-- A chain before a walk makes a longer walk.
prepend : (R : ℕ → ℕ → Type 0) (n p q : ℕ) → Chain R n p q → (s : ℕ → ℕ) (last : ℕ) → s 0 ≡ q → ((k : ℕ) → k < last → R (s k) (s (suc k))) → Before R n p s last
prepend R zero p q c s last at steps = (s, at ∙ sym c, λ k m e. let f : m ≡ k = omega arith in ap s f, λ k lt. steps k (omega arith))
prepend R (suc n) p q (r, h, c) s last at steps = prepend_one R n p r s last h (prepend R n r q c s last at steps)

-- The part of a walk between two places is a chain.
chain_of_walk : (R : ℕ → ℕ → Type 0) (s : ℕ → ℕ) (last : ℕ) → ((k : ℕ) → k < last → R (s k) (s (suc k))) → (d a b : ℕ) → b ≡ a + d → b ≤ last → Chain R d (s a) (s b)
chain_of_walk R s last steps zero a b e upto = let f : a ≡ b = omega arith in ap s f
chain_of_walk R s last steps (suc d) a b e upto = (s (suc a), steps a (omega arith), chain_of_walk R s last steps d (suc a) b (omega arith) upto)

-- The test by places gives the one by reachability.
pub loop_of_lasso : (g h : Graph) (i : ℕ) → LassoIn g h i → ReachesLoop g h i
loop_of_lasso g h i r =
    let state : ℕ → ℕ = r.state in
    let j_le : r.j ≤ r.marked = r.after in
    let lt_l : r.marked < r.l = r.before in
    let l_le : r.l ≤ r.last = r.within in
    let between : (d a b : ℕ) → b ≡ a + d → b ≤ r.last → Chain h.joined d (state a) (state b) = chain_of_walk h.joined state r.last r.walks in
    let on : Close h.joined (state (suc r.marked)) (state r.l) = (r.l - suc r.marked, between (r.l - suc r.marked) (suc r.marked) r.l (omega arith) (omega arith)) in
    let around : Close h.joined (state r.j) (state r.marked) = (r.marked - r.j, between (r.marked - r.j) r.j r.marked (omega arith) (omega arith)) in
    record {
      start = state 0;
      at = state r.marked;
      next = state (suc r.marked);
      enters = r.enters;
      reaches = (r.marked, between r.marked 0 r.marked (omega arith) (omega arith));
      leaves = r.flagged;
      returns = close_trans h.joined (state (suc r.marked)) (state r.l) (state r.marked) on (subst (λ x. Close h.joined x (state r.marked)) r.returns around);
    }

lasso_of_chains : (g h : Graph) (i start at next n m : ℕ) → IsGraph h → g.joined i start → Chain h.joined n start at → h.past at next → Chain h.joined m next at → LassoIn g h i
lasso_of_chains g h i start at next n m is enters reaches leaves returns = record {
  state = whole.0;
  last = n + suc m;
  enters = subst (λ x. g.joined i x) (sym whole.1) enters;
  walks = whole.3;
  j = n;
  marked = n;
  l = n + suc m;
  after = le_refl n;
  before = omega arith;
  within = le_refl (n + suc m);
  returns = at_n ∙ sym at_end;
  flagged = subst (λ x. h.past x (whole.0 (suc n))) (sym at_n) (subst (λ x. h.past at x) (sym at_next) leaves);
}
  where
    back : Before h.joined m next (λ k. at) 0
    back = prepend h.joined m next at returns (λ k. at) 0 refl (λ k lt. absurd (omega arith))

    turn_steps : (k : ℕ) → k < suc m → h.joined (ahead at back.0 k) (ahead at back.0 (suc k))
    turn_steps zero lt = subst (λ x. h.joined at x) (sym back.1) (is at next leaves)
    turn_steps (suc k) lt = back.3 k (omega arith)

    whole : Before h.joined n start (ahead at back.0) (suc m)
    whole = prepend h.joined n start at reaches (ahead at back.0) (suc m) refl turn_steps

    at_n : whole.0 n ≡ at
    at_n = whole.2 0 n (omega arith)

    at_next : whole.0 (suc n) ≡ next
    at_next = whole.2 (suc zero) (suc n) (omega arith) ∙ back.1

    at_end : whole.0 (n + suc m) ≡ at
    at_end = whole.2 (suc m) (n + suc m) refl ∙ back.2 0 m (omega arith)

-- And the other way round, if the arcs of value 2 are arcs.
pub lasso_of_loop : (g h : Graph) (i : ℕ) → IsGraph h → ReachesLoop g h i → LassoIn g h i
lasso_of_loop g h i is r = lasso_of_chains g h i r.start r.at r.next r.reaches.0 r.returns.0 is r.enters r.reaches.1 r.leaves r.returns.1

-- By marks on what g joins to i: a cycle of h with an arc of value 2 is reached from them.
pub cycle_of_lasso : (g h : Graph) (i : ℕ) (marks : List ℕ) → ((q : ℕ) → g.joined i q → HasBit marks q) → LassoIn g h i → HasFlaggedCycle h.joined h.past marks
cycle_of_lasso g h i marks marked lasso =
    let r = loop_of_lasso g h i lasso in
    record { start = r.start; at = r.at; next = r.next; marked = marked r.start r.enters; enters = r.reaches; leaves = r.leaves; returns = r.returns }

pub lasso_of_cycle : (g h : Graph) (i : ℕ) (marks : List ℕ) → IsGraph h → ((q : ℕ) → HasBit marks q → g.joined i q) → HasFlaggedCycle h.joined h.past marks → LassoIn g h i
lasso_of_cycle g h i marks is marked r =
    lasso_of_loop g h i is (record { start = r.start; at = r.at; next = r.next; enters = marked r.start r.marked; reaches = r.enters; leaves = r.leaves; returns = r.returns })

-- Two words' graphs have a lasso just where the automaton accepts the words as one.
accepted_of_loop : (B : Automaton) (u v : List ℕ) → ReachesLoop (graph_of B u) (graph_of B v) B.initial → AcceptsLasso B u v
accepted_of_loop B u v r =
    let first = runs r.reaches.0 r.start r.at r.reaches.1 in
    let rest = runs r.returns.0 r.next r.at r.returns.1 in
    record {
      before = r.reaches.0;
      turns = suc r.returns.0;
      state = r.at;
      flag = r.enters.0 || first.0;
      enters = run_join B B.initial u r.start r.enters.0 (repeated v r.reaches.0) r.at first.0 r.enters.1 first.1;
      some_turn = omega arith;
      cycles = run_join B r.at v r.next true (repeated v r.returns.0) r.at rest.0 r.leaves rest.1;
    }
  where
    runs : (n p q : ℕ) → Chain (λ s t. (flag : Bool) × Run B s v t flag) n p q → (flag : Bool) × Run B p (repeated v n) q flag
    runs zero p q c = (false, (c, refl))
    runs (suc n) p q (s, h, c) = let more = runs n s q c in (h.0 || more.0, run_join B p v s h.0 (repeated v n) q more.0 h.1 more.1)

-- The turns of a run on a word so many times, and the one that passes an accepting state.
turns_of_run : (B : Automaton) (v : List ℕ) (m p q : ℕ) (flag : Bool) → Run B p (repeated v m) q flag →
    Close (graph_of B v).joined p q × (flag ≡ true → (a b : ℕ) × Close (graph_of B v).joined p a × (graph_of B v).past a b × Close (graph_of B v).joined b q)
turns_of_run B v zero p q flag run = ((zero, run.0), λ on. absurd (false≢true (sym run.1 ∙ on)))
turns_of_run B v (suc m) p q flag run =
    let J : ℕ → ℕ → Type 0 = (graph_of B v).joined in
    let cut = run_split B p v (repeated v m) q flag run in
    let rest = turns_of_run B v m cut.middle q cut.second_flag cut.second in
    let first : Close J p cut.middle = close_one J p cut.middle (cut.first_flag, cut.first) in (
      close_trans J p cut.middle q first rest.0,
      λ on. elim (or_cases cut.first_flag cut.second_flag (sym cut.is ∙ on)) [
        | inl here ↦ (p, cut.middle, close_refl J p, subst (λ b. Run B p v cut.middle b) here cut.first, rest.0)
        | inr later ↦ let r = rest.1 later in (r.0, r.1, close_trans J p cut.middle r.0 first r.2, r.3, r.4)
      ],
    )

loop_of_accepted : (B : Automaton) (u v : List ℕ) → AcceptsLasso B u v → ReachesLoop (graph_of B u) (graph_of B v) B.initial
loop_of_accepted B u v h =
    let J : ℕ → ℕ → Type 0 = (graph_of B v).joined in
    let cut = run_split B B.initial u (repeated v h.before) h.state h.flag h.enters in
    let in_front = turns_of_run B v h.before cut.middle h.state cut.second_flag cut.second in
    let turn = (turns_of_run B v h.turns h.state h.state true h.cycles).1 refl in
    record {
      start = cut.middle;
      at = turn.0;
      next = turn.1;
      enters = (cut.first_flag, cut.first);
      reaches = close_trans J cut.middle h.state turn.0 in_front.0 turn.2;
      leaves = turn.3;
      returns = close_trans J turn.1 h.state turn.0 turn.4 turn.2;
    }

pub lasso_is_accepted : (B : Automaton) (u v : List ℕ) → LassoIn (graph_of B u) (graph_of B v) B.initial ↔ AcceptsLasso B u v
lasso_is_accepted B u v = (
  λ lasso. accepted_of_loop B u v (loop_of_lasso (graph_of B u) (graph_of B v) B.initial lasso),
  λ h. lasso_of_loop (graph_of B u) (graph_of B v) B.initial (word_graph_is B v) (loop_of_accepted B u v h),
)

-- What follows the arcs of h step by step from related states, with states below a bound wherever the next arc has the value 2,
-- follows the lasso too: among as many turns as the bound some state comes back.
module _ (h k : Graph) (T : ℕ → ℕ → Type 0)
    (steps : (q p r : ℕ) → T q p → h.joined q r → (s : ℕ) × k.joined p s × T r s)
    (passes : (q p r : ℕ) → T q p → h.past q r → (s : ℕ) × k.past p s × T r s)
  where
    chain_followed : (n q p r : ℕ) → T q p → Chain h.joined n q r → (s : ℕ) × Chain k.joined n p s × T r s
    chain_followed zero q p r rel c = (p, refl, subst (λ x. T x p) c rel)
    chain_followed (suc n) q p r rel (x, arc, c) =
        let one = steps q p x rel arc in
        let more = chain_followed n x one.0 r one.2 c in
        (more.0, (one.0, one.1, more.1), more.2)

    -- A turn: an arc of value 2, and then any arcs.
    abbrev Turn : ℕ → ℕ → ℕ → Type 0
    Turn bound s t = (t < bound) × (b : ℕ) × k.past s b × Close k.joined b t

    turns_followed : (bound at next : ℕ) → ((p : ℕ) → T at p → p < bound) → h.past at next → Close h.joined next at → (n p : ℕ) → T at p → (s : ℕ) × Chain (Turn bound) n p s
    turns_followed bound at next below leaves returns zero p rel = (p, refl)
    turns_followed bound at next below leaves returns (suc n) p rel =
        let one = passes at p next rel leaves in
        let back = chain_followed returns.0 next one.0 at one.2 returns.1 in
        let more = turns_followed bound at next below leaves returns n back.0 back.2 in
        (more.0, (back.0, (below back.0 back.2, one.0, one.1, (returns.0, back.1)), more.1))

    turn_joined : (bound : ℕ) → IsGraph k → (n p q : ℕ) → Chain (Turn bound) n p q → Close k.joined p q
    turn_joined bound is zero p q c = (zero, c)
    turn_joined bound is (suc n) p q (s, turn, c) =
        let on = turn_joined bound is n s q c in
        let one = close_trans k.joined p turn.1 s (close_one k.joined p turn.1 (is p turn.1 turn.2)) turn.3 in
        close_trans k.joined p s q one on

    loop_of_turns : (bound : ℕ) → IsGraph k → (g : Graph) (i start at m r : ℕ) → g.joined i start → Close k.joined start r → 1 ≤ m → Chain (Turn bound) m r r → ReachesLoop g k i
    loop_of_turns bound is g i start at zero r enters reaches some c = absurd (omega arith)
    loop_of_turns bound is g i start at (suc m) r enters reaches some (s, turn, c) = record {
      start = start;
      at = r;
      next = turn.1;
      enters = enters;
      reaches = reaches;
      leaves = turn.2;
      returns = close_trans k.joined turn.1 s r turn.3 (turn_joined bound is m s r c);
    }

    pub loop_followed : (bound : ℕ) → ((q p r : ℕ) → T q p → h.past q r → p < bound) → IsGraph k → (f g : Graph) (i : ℕ) →
        ((q : ℕ) → f.joined i q → (p : ℕ) × g.joined i p × T q p) → ReachesLoop f h i → ReachesLoop g k i
    loop_followed bound below is f g i first r =
        let one = first r.start r.enters in
        let to = chain_followed r.reaches.0 r.start one.0 r.at one.2 r.reaches.1 in
        let small : (p : ℕ) → T r.at p → p < bound = λ p rel. below r.at p r.next rel r.leaves in
        let many = turns_followed bound r.at r.next small r.leaves r.returns bound to.0 to.2 in
        let again = chain_repeats (Turn bound) bound (λ s t lt turn. turn.0) bound to.0 many.0 (le_refl bound) (small to.0 to.2) many.1 in
        let reaches : Close k.joined one.0 again.0 = close_trans k.joined one.0 to.0 again.0 (r.reaches.0, to.1) (turn_joined bound is again.1 to.0 again.0 again.3) in
        loop_of_turns bound is g i one.0 r.at again.2 again.0 one.1 reaches again.4 again.5

-- A run past an accepting state leaves a state of the automaton.
past_run_start : (B : Automaton) → IsAutomaton B → (w : List ℕ) (p q : ℕ) → Run B p w q true → p < B.states
past_run_start B valid [] p q run = absurd (false≢true (sym run.1))
past_run_start B valid (a ∷ w) p q (next, later, move, rest, e) = (move_in_range B valid p a next move).0

-- By a relation that is stable at lookahead 1 and transitive, the lasso goes from graphs to the words' graphs that they cover,
-- and from words' graphs to any graphs that they cover.
module _ (B : Automaton) (valid : IsAutomaton B) (W : ℕ → ℕ → Type 0) (stable : Stable (Moves B) (Moves B) (MatchesForward B B) 1 W)
    (joins : (p q r : ℕ) → W p q → W q r → W p r) where
  pub lasso_to_words : (g h : Graph) (x y : List ℕ) (i : ℕ) → Covers W g (graph_of B x) → Covers W h (graph_of B y) → LassoIn g h i → LassoIn (graph_of B x) (graph_of B y) i
  lasso_to_words g h x y i c d lasso =
      let k : Graph = graph_of B y in
      lasso_of_loop (graph_of B x) k i (word_graph_is B y)
      (loop_followed h k W
      (λ q p r rel arc.
      let t = d.joined q r arc in
      let on = run_answered B W stable y q p t.0 t.1.0 rel t.1.1 in
      (on.0, (on.1, on.2), joins r t.0 on.0 t.2 on.3))
      (λ q p r rel arc.
      let t = d.past q r arc in
      let on = past_answered B W stable y q p t.0 rel t.1 in
      (on.0, on.1, joins r t.0 on.0 t.2 on.2))
      B.states
      (λ q p r rel arc.
      let t = d.past q r arc in
      let on = past_answered B W stable y q p t.0 rel t.1 in
      past_run_start B valid y p on.0 on.1)
      (word_graph_is B y)
      g (graph_of B x) i
      (λ q arc. c.joined i q arc)
      (loop_of_lasso g h i lasso))

  pub lasso_from_words : (x y : List ℕ) (g h : Graph) (i : ℕ) → IsGraph h → Covers W (graph_of B x) g → Covers W (graph_of B y) h → LassoIn (graph_of B x) (graph_of B y) i → LassoIn g h i
  lasso_from_words x y g h i is c d lasso =
      lasso_of_loop g h i is
      (loop_followed (graph_of B y) h W
      (λ q p r rel arc.
      let on = run_answered B W stable y q p r arc.0 rel arc.1 in
      let t = d.joined p on.0 (on.1, on.2) in
      (t.0, t.1, joins r on.0 t.0 on.3 t.2))
      (λ q p r rel arc.
      let on = past_answered B W stable y q p r rel arc in
      let t = d.past p on.0 on.1 in
      (t.0, t.1, joins r on.0 t.0 on.2 t.2))
      B.states
      (λ q p r rel arc.
      let on = past_answered B W stable y q p r rel arc in
      past_run_start B valid y p on.0 on.1)
      is
      (graph_of B x) g i
      (λ q arc. c.joined i q arc)
      (loop_of_lasso (graph_of B x) (graph_of B y) i lasso))

-- The same values have the same lassos.
pub lasso_same : (g h x y : Graph) (i : ℕ) → SameGraph g x → SameGraph h y → LassoIn g h i → LassoIn x y i
lasso_same g h x y i d e r = record {
  state = r.state;
  last = r.last;
  enters = (d.joined i (r.state 0)).0 r.enters;
  walks = λ k lt. (e.joined (r.state k) (r.state (suc k))).0 (r.walks k lt);
  j = r.j;
  marked = r.marked;
  l = r.l;
  after = r.after;
  before = r.before;
  within = r.within;
  returns = r.returns;
  flagged = (e.past (r.state r.marked) (r.state (suc r.marked))).0 r.flagged;
}
