use Rattle.std.proofs.Common.{◌≡◌, ℕ, ◌⊎◌, inl, inr, false, true, arith, subst, rules}
use Rattle.std.proofs.lemmas.Bool.{false≢true}
use Rattle.auto_core.specs.Automaton.{Moves, IsAccepting}
use Rattle.auto_core.specs.Graph.{letter_graph}
use Rattle.graph_rows.proofs.AddedLemmas.{added_as}
use Rattle.graph_rows.proofs.RowsLemmas.{HasRows, rows_more, rows_table, rows_graph}
use Rattle.graph_rows.proofs.ExtensionLemmas.{letter_joined_in, letter_past_in}
use Rattle.graph_rows.proofs.letters.write_letter.Goals as goal

pub loop-state-preserved : goal.loop-state-preserved
loop-state-preserved c =
    let A = c.args.automaton.now in
    let a : ℕ = c.args.label in
    let w : ℕ = c.args.width in
    let s : ℕ = c.loop-state.state in (
      rows_more w s (letter_graph A a).joined c.loop-state.joined c.add_moves.new.joined c.loop-state.invariant.0 c.add_moves.ensures.joined,
      rows_more w s (letter_graph A a).past c.loop-state.past c.add_moves.new.past c.loop-state.invariant.1
          (added_as w s (λ q. Moves A s a q × ((false ≡ true) ⊎ IsAccepting A q)) ((letter_graph A a).past s) c.loop-state.past c.add_moves.new.past
          (λ q q_in. (λ (m, way). (m, elim way [ inl e ↦ absurd (false≢true e) | inr acc ↦ acc ]), λ (m, acc). (m, inr acc)))
          c.add_moves.ensures.past),
    )

pub returns-clause-joined : goal.returns-clause-joined
returns-clause-joined c =
    let A = c.args.automaton.now in
    let P : ℕ → Type 0 = λ k. HasRows c.args.width k (letter_graph A c.args.label).joined c.loop-state.joined in
    let over : c.loop-state.state ≡ A.states = omega arith in
    rows_table A.states c.args.width (letter_graph A c.args.label).joined c.loop-state.joined c.requires.room (search rules)
    (λ p q arc. (letter_joined_in A c.states-state-end.ensures.valid c.args.label p q arc).1)
    (subst P over c.loop-state.invariant.0)

pub returns-clause-past : goal.returns-clause-past
returns-clause-past c =
    let A = c.args.automaton.now in
    let P : ℕ → Type 0 = λ k. HasRows c.args.width k (letter_graph A c.args.label).past c.loop-state.past in
    let over : c.loop-state.state ≡ A.states = omega arith in
    rows_table A.states c.args.width (letter_graph A c.args.label).past c.loop-state.past c.requires.room (search rules)
    (λ p q arc. (letter_past_in A c.states-state-end.ensures.valid c.args.label p q arc).1)
    (subst P over c.loop-state.invariant.1)

pub returns-clause-graph : goal.returns-clause-graph
returns-clause-graph c =
    let A = c.args.automaton.now in
    let g = letter_graph A c.args.label in
    let P : ℕ → Type 0 = λ k. HasRows c.args.width k g.joined c.loop-state.joined × HasRows c.args.width k g.past c.loop-state.past in
    let over : c.loop-state.state ≡ A.states = omega arith in
    let all = subst P over c.loop-state.invariant in
    let valid = c.states-state-end.ensures.valid in
    rows_graph A.states c.args.width g c.loop-state.joined c.loop-state.past c.requires.room
    (letter_joined_in A valid c.args.label) (letter_past_in A valid c.args.label) all.0 all.1
