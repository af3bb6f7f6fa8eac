use Rattle.std.proofs.Common.{◌≡◌, ℕ, ◌+◌, ◌*◌, ◌^◌, ◌<◌, ◌≤◌, ◌⊎◌, inl, inr, Bool, true, false, sym, ◌∙◌, subst, arith, rules}
use Rattle.auto_core.specs.Automaton.{IsAccepting, Moves}
use Rattle.auto_core.specs.Rows.{HasBit, HasCell, bit_of}
use Rattle.auto_core.specs.Reach.{HasArc}
use Rattle.auto_core.specs.Graph.{extended, graph_of_tables}
use Rattle.graph_rows.specs.Added.{HasAdded}
use Rattle.graph_rows.proofs.AddedLemmas.{added_then, added_as}
use Rattle.graph_rows.proofs.ExtensionLemmas.{Through, through_more, through_all, no_arc}
use Rattle.graph_rows.proofs.moves.extend_row.Goals as goal
use Rattle.graph_rows.proofs.moves.extend_row.Goals.{In_default}

pub overflow_cast-middle : goal.overflow_cast-middle
overflow_cast-middle c =
    let found : HasBit c.row_at-reached.result.now c.in-Some.middle = search rules in
    let near : c.in-Some.middle < c.args.width * 64 = search rules in
    let cell : HasCell c.args.from_joined.now c.args.width c.args.row c.in-Some.middle = sym (c.row_at-reached.ensures.bits c.in-Some.middle near) ∙ found in
    let is_state : c.in-Some.middle < c.args.automaton.now.states = c.requires.from_joined.columns c.args.row c.in-Some.middle c.requires.is_row near cell in
    let fits : c.in-Some.middle < 2 ^ 32 = omega (arith, c.requires.states_fit) in
    search rules

pub loop-middle-preserved : goal.loop-middle-preserved
loop-middle-preserved c =
    let A = c.args.automaton.now in
    let a : ℕ = c.args.label in
    let w : ℕ = c.args.width in
    let row : ℕ = c.args.row in
    let at : ℕ = c.loop-middle.at in
    let middle : ℕ = c.in-Some.middle in
    let found : HasBit c.row_at-reached.result.now middle = search rules in
    let near : middle < w * 64 = search rules in
    let from : at ≤ middle = search rules in
    let between : (k : ℕ) → at ≤ k → k < middle → bit_of c.row_at-reached.result.now k ≡ false = search rules in
    let cell : HasCell c.args.from_joined.now w row middle = sym (c.row_at-reached.ensures.bits middle near) ∙ found in
    let is_state : middle < A.states = c.requires.from_joined.columns row middle c.requires.is_row near cell in
    let R : ℕ → Type 0 = HasArc c.args.from_joined.now A.states w row in
    let arc : R middle = (c.requires.is_row, is_state, cell) in
    let free : (k : ℕ) → at ≤ k → k < middle → R k → ⊥ = λ k k_from k_to.
    no_arc c.args.from_joined.now c.row_at-reached.result.now A.states w row k c.row_at-reached.ensures.bits c.requires.from_joined.room (between k k_from k_to) in
    let C : ℕ → ℕ → Type 0 = λ m q. Moves A m a q in
    let D : ℕ → ℕ → Type 0 = λ m q. Moves A m a q × (HasCell c.args.from_past.now w row m ⊎ IsAccepting A q) in
    let F : Bool → Type 0 = λ b. HasAdded w row (λ q. Moves A middle a q × ((b ≡ true) ⊎ IsAccepting A q)) c.loop-middle.past c.add_moves.new.past in (
      added_then w row (Through R at C) (λ q. Moves A middle a q) (Through R (middle + 1) C) c.args.joined.now c.loop-middle.joined c.add_moves.new.joined
          (λ q q_in. through_more R at middle C (λ r. Moves A middle a r) from arc free q (λ h. h, λ h. h))
          c.loop-middle.invariant.0 c.add_moves.ensures.joined,
      added_then w row (Through R at D) (λ q. D middle q) (Through R (middle + 1) D) c.args.past.now c.loop-middle.past c.add_moves.new.past
          (λ q q_in. through_more R at middle D (λ r. D middle r) from arc free q (λ h. h, λ h. h))
          c.loop-middle.invariant.1 (subst F c.has_cell-flagged.ensures c.add_moves.ensures.past),
      omega arith,
    )

-- The state has no arc to one that was not looked at.
no_more : (c : goal.In_default) (k : ℕ) → c.loop-middle.at ≤ k → HasArc c.args.from_joined.now c.args.automaton.now.states c.args.width c.args.row k → ⊥
no_more c k k_from =
    let none : (k : ℕ) → c.loop-middle.at ≤ k → bit_of c.row_at-reached.result.now k ≡ false = search rules in
    no_arc c.args.from_joined.now c.row_at-reached.result.now c.args.automaton.now.states c.args.width c.args.row k c.row_at-reached.ensures.bits c.requires.from_joined.room (none k k_from)

pub returns-clause-joined : goal.returns-clause-joined
returns-clause-joined c =
    let A = c.args.automaton.now in
    let w : ℕ = c.args.width in
    let row : ℕ = c.args.row in
    let R : ℕ → Type 0 = HasArc c.args.from_joined.now A.states w row in
    let C : ℕ → ℕ → Type 0 = λ m q. Moves A m c.args.label q in
    added_as w row (Through R c.loop-middle.at C) ((extended A (graph_of_tables c.args.from_joined.now c.args.from_past.now A.states w) c.args.label).joined row) c.args.joined.now c.loop-middle.joined
    (λ q q_in. through_all R c.loop-middle.at C (no_more c) q) c.loop-middle.invariant.0

pub returns-clause-past : goal.returns-clause-past
returns-clause-past c =
    let A = c.args.automaton.now in
    let w : ℕ = c.args.width in
    let row : ℕ = c.args.row in
    let R : ℕ → Type 0 = HasArc c.args.from_joined.now A.states w row in
    let D : ℕ → ℕ → Type 0 = λ m q. Moves A m c.args.label q × (HasCell c.args.from_past.now w row m ⊎ IsAccepting A q) in
    added_as w row (Through R c.loop-middle.at D) ((extended A (graph_of_tables c.args.from_joined.now c.args.from_past.now A.states w) c.args.label).past row) c.args.past.now c.loop-middle.past
    (λ q q_in.
    let is = through_all R c.loop-middle.at D (no_more c) q in (
      λ h.
          let (m, arc, move) = is.0 h in
          (m, move.0, elim move.1 [ inl cell ↦ inl (arc.0, arc.1, cell) | inr acc ↦ inr (arc, acc) ]),
      λ (m, move, way).
          elim way [
            | inl past ↦ is.1 (m, c.requires.within row m past, (move, inl past.2))
            | inr both ↦ is.1 (m, both.0, (move, inr both.1))
          ],
    ))
    c.loop-middle.invariant.1
