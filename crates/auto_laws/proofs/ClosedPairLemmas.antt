-- A closed set of pairs: what is read has a live one that subsumes it, and so words are accepted.
use Rattle.std.proofs.Common.{◌≡◌, ℕ, ◌<◌, Bool, List, [], ◌∷◌, ◌++◌, length, sym, ap, ◌∙◌, subst, append_assoc, append-nil}
use Rattle.auto_core.specs.Automaton.{Automaton, Moves, IsAccepting, trans_at}
use Rattle.auto_core.specs.Run.{Run}
use Rattle.auto_core.specs.Accept.{AcceptsWord}
use Rattle.auto_core.specs.Game.{MatchesForward, Stable, Close, Holds}
use Rattle.auto_core.specs.Graph.{WordArc, start_arc, arc_at, extended_arc}
use Rattle.auto_core.specs.Closed.{IsLive}
use Rattle.auto_core.specs.Pairs.{StatePair, pair_after, PairSubsumes, PairPasses, pair_of}
use Rattle.auto_core.specs.declared.parts.Trans.{Trans}
use Rattle.auto_core.proofs.MoveLemmas.{number_of}
use Rattle.auto_laws.proofs.GameLemmas.{close_refl, close_trans, close_one}
use Rattle.auto_laws.proofs.AppliedLemmas.{closure_stays_stable}
use Rattle.auto_laws.specs.PairOutcomes.{ClosedPairsInclude}
use Rattle.auto_laws.proofs.PairLemmas.{word_pair, pair_trans, pair_more, pair_extended, pair_above, pair_below}

module _ (A B : Automaton) (T : ℕ → ℕ → Type 0) (same : (s : ℕ) → T s s) (joins : (p q r : ℕ) → T p q → T q r → T p r)
    (stable : Stable (Moves B) (Moves B) (MatchesForward B B) 1 T) (item : ℕ → StatePair) (Live : ℕ → Type 0)
    (start : (e : ℕ) × Live e × PairSubsumes T (item e) (word_pair B A.initial []))
    (steps : (e t : ℕ) → Live e → t < length A.transitions → (trans_at A t).source ≡ (item e).state → (f : ℕ) × Live f × PairSubsumes T (item f) (pair_after B (item e) (trans_at A t)))
  where
    -- Some live one subsumes the pair of the state and the word.
    abbrev Has : ℕ → List ℕ → Type 0
    Has p w = (e : ℕ) × Live e × PairSubsumes T (item e) (word_pair B p w)

    has_step : (p q : ℕ) (w : List ℕ) (a : ℕ) → Has p w → Moves A p a q → Has q (w ++ a ∷ [])
    has_step p q w a has move =
        let n = number_of A p a q move in
        let t : Trans = trans_at A n.0 in
        let leaves : t.source ≡ (item has.0).state = ap (λ (u : Trans). u.source) n.2 ∙ sym has.2.state in
        let more = steps has.0 n.0 has.1 n.1 leaves in
        let up : PairSubsumes T (pair_after B (item has.0) t) (pair_after B (word_pair B p w) t) = pair_extended B T stable (item has.0) (word_pair B p w) t has.2 in
        let above : PairSubsumes T (item more.0) (pair_after B (word_pair B p w) t) =
        pair_trans T joins (item more.0) (pair_after B (item has.0) t) (pair_after B (word_pair B p w) t) more.2 up in
        let here : PairSubsumes T (item more.0) (word_pair B t.target (w ++ t.label ∷ [])) =
        pair_trans T joins (item more.0) (pair_after B (word_pair B p w) t) (word_pair B t.target (w ++ t.label ∷ [])) above (pair_above B T same p w t) in
        (more.0, more.1, subst (λ (u : Trans). PairSubsumes T (item more.0) (word_pair B u.target (w ++ u.label ∷ []))) n.2 here)

    has_on : (x : List ℕ) (p q : ℕ) (flag : Bool) (w : List ℕ) → Has p w → Run A p x q flag → Has q (w ++ x)
    has_on [] p q flag w has run = subst (λ l. Has q l) (sym (append-nil w)) (subst (λ s. Has s w) run.0 has)
    has_on (a ∷ x) p q flag w has (next, later, move, rest, e) =
        subst (λ l. Has q l) (append_assoc w (a ∷ []) x) (has_on x next q later (w ++ a ∷ []) (has_step p next w a has move) rest)

    -- Each run of A from its initial state has a live one that subsumes the pair of its word.
    pub has_each : (w : List ℕ) (p : ℕ) (flag : Bool) → Run A A.initial w p flag → Has p w
    has_each w p flag run = has_on w A.initial p flag [] start run

    pub closed_words : ((e : ℕ) → Live e → PairPasses A B (item e)) → (w : List ℕ) → AcceptsWord A w → AcceptsWord B w
    closed_words passes w h =
        let has = has_each w h.state h.flag h.run in
        let accepts : IsAccepting A (item has.0).state = subst (IsAccepting A) (sym has.2.state) h.ends in
        let q = passes has.0 has.1 accepts in
        let r = has.2.members q.0 q.1 in
        record { state = r.0; flag = r.1.0; run = r.1.1; ends = (stable q.0 r.0 r.2).0 q.2 }

-- By the closure of its list.
pub closed_pairs_include : ClosedPairsInclude
closed_pairs_include A B S arcs live closed =
    let T : ℕ → ℕ → Type 0 = Close (Holds S) in
    let same : (s : ℕ) → T s s = close_refl (Holds S) in
    let item : ℕ → StatePair = λ e. pair_of B (arc_at A arcs e) in
    closed_words A B T same (close_trans (Holds S)) (closure_stays_stable B S closed.stable) item (IsLive arcs live)
    (let r = closed.start in (r.0, r.1, pair_more (Holds S) T (close_one (Holds S)) (item r.0) (pair_of B (start_arc A)) r.2))
    (λ e t is lt leaves.
    let r = closed.steps e t is lt leaves in
    let x : WordArc = arc_at A arcs e in
    let up : PairSubsumes T (item r.0) (pair_of B (extended_arc A x (trans_at A t))) =
    pair_more (Holds S) T (close_one (Holds S)) (item r.0) (pair_of B (extended_arc A x (trans_at A t))) r.2 in (
      r.0,
      r.1,
      pair_trans T (close_trans (Holds S)) (item r.0) (pair_of B (extended_arc A x (trans_at A t))) (pair_after B (item e) (trans_at A t)) up
          (pair_below B T same x.to x.word (trans_at A t)),
    ))
    closed.passes
