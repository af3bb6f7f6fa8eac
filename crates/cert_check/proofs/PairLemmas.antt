-- The turns of a certificate, and the pairs of elements.
use Rattle.std.proofs.Common.{◌≡◌, ◌↔◌, ◌⊎◌, ℕ, ◌+◌, ◌<◌, inl, inr, Bool, true, List, [], ◌∷◌, length, slice_index_or, Vec, Global, refl, sym, ap, ◌∙◌, subst, arith, Contains}
use Rattle.std.specs.BTreeSet.{BTreeSet}
use Rattle.std.proofs.lemmas.Bool.{cases_lt, cases_eq}
use Rattle.std.proofs.lemmas.List.Elements.{Contains-append_left, Contains-push_cases, Contains-push}
use Rattle.auto_core.specs.Automaton.{Automaton}
use Rattle.auto_core.specs.Graph.{WordArc, LassoIn, IsTested, super_of, graph_of, arc_at}
use Rattle.auto_core.specs.Closed.{IsLive}
use Rattle.auto_core.specs.declared.parts.Mode.TheVariants.{Buchi}
use Rattle.graph_rows.specs.Block.{block_graph, IsFormed}
use Rattle.shared_graphs.specs.Graphs.{block_at}
use Rattle.evidence.specs.Tables.{numbers_at}
use Rattle.cert_value.specs.declared.types.YesBody.{YesBody}
use Rattle.cert_check.specs.Inclusion.{element_arcs, live_in, PassesWithAll}
use Rattle.cert_check.specs.Supers.{AreSupers, held_block, held_arc, held_number, Key, HasKey}
use Rattle.cert_check.specs.Turns.{IsTurn, IsTurnAt, AreTurns, HasAddedAt, HasLassos}
use Rattle.cert_check.specs.declared.elements.Supers.{Supers}
use Rattle.cert_check.proofs.SuperLemmas.{arcs_count, lassos_alike}

-- What was listed stays, and the number that was added is listed.
pub listed_stay : (old new : List (Vec ℕ Global)) (p g : ℕ) → HasAddedAt old new p g → (q h : ℕ) → Contains (numbers_at old q) h → Contains (numbers_at new q) h
listed_stay old new p g added q h there = elim (cases_eq q p) [
  | inl same ↦
      subst (λ k. Contains (numbers_at new k) h) (sym same)
      (subst (λ l. Contains l h) (sym added.here) (Contains-append_left (numbers_at old p) (g ∷ []) h (subst (λ k. Contains (numbers_at old k) h) same there)))
  | inr other ↦ subst (λ l. Contains l h) (sym (added.others q other)) there
]

pub listed_now : (old new : List (Vec ℕ Global)) (p g : ℕ) → HasAddedAt old new p g → Contains (numbers_at new p) g
listed_now old new p g added = subst (λ l. Contains l g) (sym added.here) (Contains-push (numbers_at old p) g)

-- One element more: its graph is listed already if it is a turn, or it comes now.
module _ (evidence : YesBody) (supers : Supers) (e states : ℕ) where
  later : (p g : ℕ) → IsTurnAt evidence supers e p g → IsTurnAt evidence supers (e + 1) p g
  later p g at = let before = at.before in record { element = at.element; before = omega arith; turn = at.turn; state = at.state; graph = at.graph }

  one_more : (turns : List (Vec ℕ Global)) (p g : ℕ) → (IsTurnAt evidence supers e p g → Contains (numbers_at turns p) g) →
      (IsTurn evidence supers e → Contains (numbers_at turns (held_arc supers e).from) (held_number supers e)) → IsTurnAt evidence supers (e + 1) p g → Contains (numbers_at turns p) g
  one_more turns p g listed here at = elim (cases_lt at.element e) [
    | inl before ↦ listed (record { element = at.element; before = before; turn = at.turn; state = at.state; graph = at.graph })
    | inr after ↦
        let within = at.before in
        let last : at.element ≡ e = omega arith in
        let turn : IsTurn evidence supers e = subst (IsTurn evidence supers) last at.turn in
        let state : (held_arc supers e).from ≡ p = subst (λ k. (held_arc supers k).from ≡ p) last at.state in
        let graph : held_number supers e ≡ g = subst (λ k. held_number supers k ≡ g) last at.graph in
        subst (λ k. Contains (numbers_at turns k) g) state (subst (Contains (numbers_at turns (held_arc supers e).from)) graph (here turn))
  ]

  pub turns_kept : (turns : List (Vec ℕ Global)) → AreTurns evidence supers e states turns →
      (IsTurn evidence supers e → Contains (numbers_at turns (held_arc supers e).from) (held_number supers e)) → AreTurns evidence supers (e + 1) states turns
  turns_kept turns are here = record {
    count = are.count;
    only = λ p g there. later p g (are.only p g there);
    all = λ p g at. one_more turns p g (are.all p g) here at;
  }

  pub turns_added : (old new : List (Vec ℕ Global)) → AreTurns evidence supers e states old → IsTurn evidence supers e →
      HasAddedAt old new (held_arc supers e).from (held_number supers e) → AreTurns evidence supers (e + 1) states new
  turns_added old new are turn added = record {
    count = added.size ∙ are.count;
    only = λ p g there. elim (cases_eq p (held_arc supers e).from) [
      | inl same ↦ elim (Contains-push_cases (numbers_at old (held_arc supers e).from) (held_number supers e) g (subst (λ l. Contains l g) added.here (subst (λ k. Contains (numbers_at new k) g) same there))) [
        | inl before ↦ later p g (are.only p g (subst (λ k. Contains (numbers_at old k) g) (sym same) before))
        | inr is ↦ record { element = e; before = omega arith; turn = turn; state = sym same; graph = is }
      ]
      | inr other ↦ later p g (are.only p g (subst (λ l. Contains l g) (added.others p other) there))
    ];
    all = λ p g at. one_more new p g (λ before. listed_stay old new (held_arc supers e).from (held_number supers e) added p g (are.all p g before))
        (λ _. listed_now old new (held_arc supers e).from (held_number supers e) added) at;
  }

-- Keys of a state and a graph.
key_parts : (xs ys : List ℕ) (p g q h : ℕ) → xs ≡ p ∷ g ∷ [] → ys ≡ q ∷ h ∷ [] → xs ≡ ys → (p ≡ q) × (g ≡ h)
key_parts xs ys p g q h x y same = let both = sym x ∙ same ∙ y in (ap (λ l. slice_index_or l 0 0) both, ap (λ l. slice_index_or l 1 0) both)

-- One key more, of which this holds.
pub keys_more : (P : ℕ → ℕ → Type 0) (old new : BTreeSet Key) (key : Key) (p g : ℕ) → key ≡ p ∷ g ∷ [] →
    ((other : Key) → HasKey new other ↔ (HasKey old other ⊎ (other ≡ key))) → P p g →
    ((k : Key) (q h : ℕ) → HasKey old k → k ≡ q ∷ h ∷ [] → P q h) → (k : Key) (q h : ℕ) → HasKey new k → k ≡ q ∷ h ∷ [] → P q h
keys_more P old new key p g is added here before k q h has k_is = elim ((added k).0 has) [
  | inl was ↦ before k q h was k_is
  | inr same ↦ let parts = key_parts key k p g q h is k_is (sym same) in subst (P q) parts.1 (subst (λ m. P m g) parts.0 here)
]

-- The test of one element against the turns at its end.
module _ (A B : Automaton) (evidence : YesBody) (supers : Supers) (are : AreSupers Buchi A B evidence.elements (length evidence.elements) supers) where
  turn_of_tested : (e f : ℕ) → e < length evidence.elements → IsLive (element_arcs A evidence.elements) (live_in evidence) f →
      IsTested A (super_of B (arc_at A (element_arcs A evidence.elements) e)) (super_of B (arc_at A (element_arcs A evidence.elements) f)) → IsTurn evidence supers f × ((held_arc supers f).from ≡ (held_arc supers e).to)
  turn_of_tested e f e_in live tested =
      let f_in : f < length evidence.elements = omega (arith, live.0, arcs_count A evidence.elements) in
      let x = are.each e e_in in
      let y = are.each f f_in in
      let y_from = ap (λ (z : WordArc). z.from) y.arc in
      let y_to = ap (λ (z : WordArc). z.to) y.arc in (
        record {
          is = f_in;
          live = live.1;
          returns = y_from ∙ tested.returns ∙ sym y_to;
          flagged = ap (λ (z : WordArc). z.flag) y.arc ∙ tested.flagged;
        },
        y_from ∙ sym tested.meets ∙ sym (ap (λ (z : WordArc). z.to) x.arc),
      )

  tested_of_turn : (e f : ℕ) → e < length evidence.elements → (held_arc supers e).from ≡ A.initial → IsTurn evidence supers f → (held_arc supers f).from ≡ (held_arc supers e).to →
      IsTested A (super_of B (arc_at A (element_arcs A evidence.elements) e)) (super_of B (arc_at A (element_arcs A evidence.elements) f))
  tested_of_turn e f e_in starts turn meets =
      let x = are.each e e_in in
      let y = are.each f turn.is in
      let y_from = ap (λ (z : WordArc). z.from) y.arc in
      let y_to = ap (λ (z : WordArc). z.to) y.arc in
      record {
        starts = sym (ap (λ (z : WordArc). z.from) x.arc) ∙ starts;
        meets = sym (ap (λ (z : WordArc). z.to) x.arc) ∙ sym meets ∙ y_from;
        returns = sym y_from ∙ turn.returns ∙ y_to;
        flagged = sym (ap (λ (z : WordArc). z.flag) y.arc) ∙ turn.flagged;
      }

  blocks_of_words : (e f : ℕ) → e < length evidence.elements → f < length evidence.elements →
      LassoIn (block_graph B.states (held_block supers e)) (block_graph B.states (held_block supers f)) B.initial
      ↔ LassoIn (graph_of B (arc_at A (element_arcs A evidence.elements) e).word) (graph_of B (arc_at A (element_arcs A evidence.elements) f).word) B.initial
  blocks_of_words e f e_in f_in =
      lassos_alike A B (held_arc supers e) (held_arc supers f) (held_block supers e) (held_block supers f)
      (arc_at A (element_arcs A evidence.elements) e) (arc_at A (element_arcs A evidence.elements) f) B.initial (are.each e e_in) (are.each f f_in)

  pub passes_told : (e : ℕ) (others : List ℕ) (told : Bool) → e < length evidence.elements → live_in evidence e ≡ true → (held_arc supers e).from ≡ A.initial →
      ((g : ℕ) → Contains others g ↔ IsTurnAt evidence supers (length evidence.elements) (held_arc supers e).to g) →
      ((told ≡ true) ↔ HasLassos B supers.graphs.graphs.items (held_number supers e) others) → (told ≡ true) ↔ PassesWithAll A B evidence e
  passes_told e others told e_in live starts just asked = (
    λ is. λ _ f live_f. λ tested.
        let turn = turn_of_tested e f e_in live_f tested in
        (blocks_of_words e f e_in turn.0.is).0
        (asked.0 is (held_number supers f) ((just (held_number supers f)).1 (record { element = f; before = turn.0.is; turn = turn.0; state = turn.1; graph = refl }))),
    λ passes. asked.1 (λ g there.
        let at = (just g).0 there in
        let f : ℕ = at.element in
        let live_e : IsLive (element_arcs A evidence.elements) (live_in evidence) e = (omega (arith, e_in, arcs_count A evidence.elements), live) in
        let live_f : IsLive (element_arcs A evidence.elements) (live_in evidence) f = (omega (arith, at.turn.is, arcs_count A evidence.elements), at.turn.live) in
        subst (λ k. LassoIn (block_graph B.states (held_block supers e)) (block_graph B.states (block_at supers.graphs.graphs.items k)) B.initial) at.graph
        ((blocks_of_words e f e_in at.turn.is).1 (passes live_e f live_f (tested_of_turn e f e_in starts at.turn at.state)))),
  )

  -- A graph that is listed at a state is one of those held.
  pub turn_formed : (p g : ℕ) → IsTurnAt evidence supers (length evidence.elements) p g → IsFormed B.states (block_at supers.graphs.graphs.items g)
  turn_formed p g at = subst (λ k. IsFormed B.states (block_at supers.graphs.graphs.items k)) at.graph (are.each at.element at.turn.is).formed

  pub turn_within : (p g : ℕ) → IsTurnAt evidence supers (length evidence.elements) p g → g < length supers.graphs.graphs.items
  turn_within p g at = subst (λ k. k < length supers.graphs.graphs.items) at.graph (are.within at.element at.turn.is)

-- Lassos of graphs with other names.
pub lassos_named : (B : Automaton) (graphs known : List (List ℕ)) (g k : ℕ) (others list : List ℕ) (told : Bool) → graphs ≡ known → g ≡ k → others ≡ list →
    ((told ≡ true) ↔ HasLassos B graphs g others) → (told ≡ true) ↔ HasLassos B known k list
lassos_named B graphs known g k others list told a b c asked =
    subst (λ l. (told ≡ true) ↔ HasLassos B known k l) c
    (subst (λ m. (told ≡ true) ↔ HasLassos B known m others) b
    (subst (λ gs. (told ≡ true) ↔ HasLassos B gs g others) a asked))
