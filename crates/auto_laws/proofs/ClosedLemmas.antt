-- A closed family of supergraphs: what is read has a live one that subsumes it, and so lassos are accepted.
use Rattle.std.proofs.Common.{◌≡◌, ℕ, ◌+◌, ◌<◌, ◌≤◌, Bool, true, false, ◌||◌, List, [], ◌∷◌, ◌++◌, length, refl, sym, ap, ◌∙◌, subst, arith, append_assoc, append-nil}
use Rattle.std.proofs.lemmas.Bool.{false≢true}
use Rattle.auto_core.specs.Automaton.{Automaton, IsAutomaton, Moves, is_accepting, trans_at}
use Rattle.auto_core.specs.Run.{Run, repeated}
use Rattle.auto_core.specs.Accept.{Includes}
use Rattle.auto_core.specs.Game.{MatchesForward, Stable, Close, Holds}
use Rattle.auto_core.specs.Graph.{graph_of, extended, Supergraph, base_of, extension_of, Subsumes, LassoIn, Passes, WordArc, super_of, arc_at, extended_arc}
use Rattle.auto_core.specs.declared.parts.Mode.TheVariants.{Buchi}
use Rattle.auto_core.specs.declared.parts.Trans.{Trans}
use Rattle.auto_core.proofs.PathLemmas.{run_join, or-assoc}
use Rattle.auto_core.proofs.MoveLemmas.{number_of}
use Rattle.auto_laws.proofs.PumpingLemmas.{reblock, repeated-add}
use Rattle.auto_laws.proofs.GameLemmas.{close_refl, close_trans, close_one}
use Rattle.auto_laws.proofs.AppliedLemmas.{closure_stays_stable}
use Rattle.auto_core.specs.Closed.{IsLive}
use Rattle.auto_laws.specs.Closed.{ClosedSetIncludes, FailingPairsSeparate}
use Rattle.auto_laws.proofs.GraphLemmas.{graph_of_more, same_sym, covers_same, subsumes_trans, subsumes_more, subsumes_extended}
use Rattle.auto_laws.proofs.LassoLemmas.{lasso_to_words, lasso_is_accepted}

-- An arc with a word's graph.
abbrev pub word_super : Automaton → ℕ → ℕ → Bool → List ℕ → Supergraph
word_super B p q flag w = record { from = p; to = q; flag = flag; graph = graph_of B w }

-- The supergraph of a word with one letter more is the extension of the word's, and each subsumes the other.
pub extension_above : (A B : Automaton) (T : ℕ → ℕ → Type 0) → ((s : ℕ) → T s s) → (p q : ℕ) (flag : Bool) (w : List ℕ) (t : Trans) →
    Subsumes T (extension_of A B (word_super B p q flag w) t) (word_super B p t.target (flag || is_accepting A t.target) (w ++ t.label ∷ []))
extension_above A B T same p q flag w t = record {
  from = refl;
  to = refl;
  flag = λ e. e;
  covers = covers_same T same (extended B (graph_of B w) t.label) (graph_of B (w ++ t.label ∷ [])) (same_sym (graph_of B (w ++ t.label ∷ [])) (extended B (graph_of B w) t.label) (graph_of_more B w t.label));
}

pub extension_below : (A B : Automaton) (T : ℕ → ℕ → Type 0) → ((s : ℕ) → T s s) → (p q : ℕ) (flag : Bool) (w : List ℕ) (t : Trans) →
    Subsumes T (word_super B p t.target (flag || is_accepting A t.target) (w ++ t.label ∷ [])) (extension_of A B (word_super B p q flag w) t)
extension_below A B T same p q flag w t = record {
  from = refl;
  to = refl;
  flag = λ e. e;
  covers = covers_same T same (graph_of B (w ++ t.label ∷ [])) (extended B (graph_of B w) t.label) (graph_of_more B w t.label);
}

-- The family has supergraphs with any graphs, and T is reflexive, transitive and stable forward at lookahead 1.
module _ (A B : Automaton) (T : ℕ → ℕ → Type 0) (same : (s : ℕ) → T s s) (joins : (p q r : ℕ) → T p q → T q r → T p r)
    (stable : Stable (Moves B) (Moves B) (MatchesForward B B) 1 T)
    (item : ℕ → Supergraph) (Live : ℕ → Type 0)
    (starts : (t : ℕ) → t < length A.transitions → (e : ℕ) × Live e × Subsumes T (item e) (base_of A B (trans_at A t)))
    (steps : (e t : ℕ) → Live e → t < length A.transitions → (trans_at A t).source ≡ (item e).to → (f : ℕ) × Live f × Subsumes T (item f) (extension_of A B (item e) (trans_at A t)))
  where
    -- Some live one subsumes it.
    abbrev Has : Supergraph → Type 0
    Has x = (e : ℕ) × Live e × Subsumes T (item e) x

    has_step : (p q r : ℕ) (flag : Bool) (w : List ℕ) (a : ℕ) → Has (word_super B p q flag w) → Moves A q a r → Has (word_super B p r (flag || is_accepting A r) (w ++ a ∷ []))
    has_step p q r flag w a has move =
        let n = number_of A q a r move in
        let t : Trans = trans_at A n.0 in
        let leaves : t.source ≡ (item has.0).to = ap (λ (u : Trans). u.source) n.2 ∙ sym has.2.to in
        let more = steps has.0 n.0 has.1 n.1 leaves in
        let up : Subsumes T (extension_of A B (item has.0) t) (extension_of A B (word_super B p q flag w) t) = subsumes_extended A B T stable (item has.0) (word_super B p q flag w) t has.2 in
        let above : Subsumes T (item more.0) (extension_of A B (word_super B p q flag w) t) =
        subsumes_trans T joins (item more.0) (extension_of A B (item has.0) t) (extension_of A B (word_super B p q flag w) t) more.2 up in
        let here : Subsumes T (item more.0) (word_super B p t.target (flag || is_accepting A t.target) (w ++ t.label ∷ [])) =
        subsumes_trans T joins (item more.0) (extension_of A B (word_super B p q flag w) t) (word_super B p t.target (flag || is_accepting A t.target) (w ++ t.label ∷ [])) above
        (extension_above A B T same p q flag w t) in
        (more.0, more.1, subst (λ (u : Trans). Subsumes T (item more.0) (word_super B p u.target (flag || is_accepting A u.target) (w ++ u.label ∷ []))) n.2 here)

    has_on : (p : ℕ) (x : List ℕ) (q r : ℕ) (flag more : Bool) (w : List ℕ) → Has (word_super B p q flag w) → Run A q x r more → Has (word_super B p r (flag || more) (w ++ x))
    has_on p [] q r flag more w has run = subst (λ l. Has (word_super B p r (flag || more) l)) (sym (append-nil w)) (subst (λ b. Has (word_super B p r b w)) (or_end flag more run.1) (subst (λ s. Has (word_super B p s flag w)) run.0 has))
      where
        or_end : (b c : Bool) → c ≡ false → b ≡ (b || c)
        or_end true c e = refl
        or_end false c e = sym e
    has_on p (a ∷ x) q r flag more w has (next, later, move, rest, e) =
        let one = has_step p q next flag w a has move in
        let on = has_on p x next r (flag || is_accepting A next) later (w ++ a ∷ []) one rest in
        let flags : ((flag || is_accepting A next) || later) ≡ (flag || more) = sym (or-assoc flag (is_accepting A next) later) ∙ ap (λ b. flag || b) (sym e) in
        subst (λ b. Has (word_super B p r b (w ++ a ∷ x))) flags
        (subst (λ l. Has (word_super B p r ((flag || is_accepting A next) || later) l)) (append_assoc w (a ∷ []) x) on)

    -- Each run of A on a word that is not empty has a live one that subsumes its arc with the word's graph.
    pub has_each : (p : ℕ) (w : List ℕ) (q : ℕ) (flag : Bool) → 1 ≤ length w → Run A p w q flag → Has (word_super B p q flag w)
    has_each p [] q flag some run = absurd (omega arith)
    has_each p (a ∷ x) q flag some (next, later, move, rest, e) =
        let n = number_of A p a next move in
        let first = starts n.0 n.1 in
        let base : Subsumes T (item first.0) (word_super B p next (is_accepting A next) (a ∷ [])) =
        subst (λ (u : Trans). Subsumes T (item first.0) (base_of A B u)) n.2 first.2 in
        subst (λ b. Has (word_super B p q b (a ∷ x))) (sym e)
        (has_on p x next q (is_accepting A next) later (a ∷ []) (first.0, first.1, base) rest)

    pub closed_family : IsAutomaton B → ((e f : ℕ) → Live e → Live f → Passes A B (item e) (item f)) → Includes A B Buchi
    closed_family valid passes u v h =
        let x : List ℕ = u ++ repeated v (h.before + h.turns) in
        let y : List ℕ = repeated v h.turns in
        let turns_read : 1 ≤ length y = past_reads h.state y h.state h.cycles in
        let enters : Run A A.initial ((u ++ repeated v h.before) ++ y) h.state (h.flag || true) =
        run_join A A.initial (u ++ repeated v h.before) h.state h.flag y h.state true h.enters h.cycles in
        let same_word : (u ++ repeated v h.before) ++ y ≡ x = append_assoc u (repeated v h.before) y ∙ ap (λ l. u ++ l) (sym (repeated-add v h.before h.turns)) in
        let goes : Run A A.initial x h.state (h.flag || true) = subst (λ l. Run A A.initial l h.state (h.flag || true)) same_word enters in
        let reads : 1 ≤ length x = subst (λ l. 1 ≤ length l) same_word (append_reads (u ++ repeated v h.before) y turns_read) in
        let front = has_each A.initial x h.state (h.flag || true) reads goes in
        let turn = has_each h.state y h.state true turns_read h.cycles in
        let lasso : LassoIn (item front.0).graph (item turn.0).graph B.initial =
        passes front.0 turn.0 front.1 turn.1 (record {
          starts = front.2.from;
          meets = front.2.to ∙ sym turn.2.from;
          returns = turn.2.from ∙ sym turn.2.to;
          flagged = turn.2.flag refl;
        }) in
        let words : LassoIn (graph_of B x) (graph_of B y) B.initial =
        lasso_to_words B valid T stable joins (item front.0).graph (item turn.0).graph x y B.initial front.2.covers turn.2.covers lasso in
        reblock B u v (h.before + h.turns) h.turns h.some_turn ((lasso_is_accepted B x y).0 words)
      where
        past_reads : (p : ℕ) (l : List ℕ) (q : ℕ) → Run A p l q true → 1 ≤ length l
        past_reads p [] q run = absurd (false≢true (sym run.1))
        past_reads p (a ∷ l) q run = omega arith

        append_reads : (k l : List ℕ) → 1 ≤ length l → 1 ≤ length (k ++ l)
        append_reads [] l some = some
        append_reads (a ∷ k) l some = omega arith

-- A closed set, by the words' graphs and the closure of its list.
pub closed_set_includes : ClosedSetIncludes
closed_set_includes A B S arcs live valid closed =
    let T : ℕ → ℕ → Type 0 = Close (Holds S) in
    let same : (s : ℕ) → T s s = close_refl (Holds S) in
    let item : ℕ → Supergraph = λ e. super_of B (arc_at A arcs e) in
    closed_family A B T same (close_trans (Holds S)) (closure_stays_stable B S closed.stable)
    item (IsLive arcs live)
    (λ t lt.
    let r = closed.starts t lt in
    (r.0, r.1, subsumes_more (Holds S) T (close_one (Holds S)) (item r.0) (base_of A B (trans_at A t)) r.2))
    (λ e t is lt leaves.
    let r = closed.steps e t is lt leaves in
    let x : WordArc = arc_at A arcs e in
    let up : Subsumes T (item r.0) (super_of B (extended_arc A x (trans_at A t))) =
    subsumes_more (Holds S) T (close_one (Holds S)) (item r.0) (super_of B (extended_arc A x (trans_at A t))) r.2 in (
      r.0,
      r.1,
      subsumes_trans T (close_trans (Holds S)) (item r.0) (super_of B (extended_arc A x (trans_at A t))) (extension_of A B (item e) (trans_at A t)) up
          (extension_below A B T same x.from x.to x.flag x.word (trans_at A t)),
    ))
    valid closed.passes

-- A failing pair.
pub failing_pairs_separate : FailingPairsSeparate
failing_pairs_separate A B x y real_x real_y (tested, fails) = (
  record {
    before = 0;
    turns = 1;
    state = x.to;
    flag = x.flag;
    enters = subst (λ l. Run A A.initial l x.to x.flag) (sym (append-nil x.word)) (subst (λ s. Run A s x.word x.to x.flag) tested.starts real_x.run);
    some_turn = omega arith;
    cycles = subst (λ l. Run A x.to l x.to true) (sym (append-nil y.word)) turn;
  },
  λ accepted. fails ((lasso_is_accepted B x.word y.word).1 accepted),
)
  where
    flagged : Run A y.from y.word y.to true
    flagged = subst (λ b. Run A y.from y.word y.to b) tested.flagged real_y.run

    back : Run A y.from y.word y.from true
    back = subst (λ s. Run A y.from y.word s true) (sym tested.returns) flagged

    turn : Run A x.to y.word x.to true
    turn = subst (λ s. Run A s y.word s true) (sym tested.meets) back
