use Rattle.std.proofs.Common.{rules, ◌≡◌, ℕ, ◌+◌, ◌^◌, ◌<◌, ◌≤◌, ◌↔◌, List, subst, sym, ◌∙◌, arith}
use Rattle.std.proofs.lemmas.Bool.{iff_false, false≢true}
use Rattle.auto_core.specs.Rows.{HasBit}
use Rattle.auto_core.specs.Game.{Holds}
use Rattle.bit_rel.specs.Relation.{Relation, IsRelation}
use Rattle.look_round.proofs.AnsweringLemmas.{HasAnswersUpto, answers_marked, answers_passed, answers_done}
use Rattle.look_round.proofs.answer_rows.write_answers.Goals as goal
use Rattle.look_round.proofs.answer_rows.write_answers.Goals.{then-matched, else-matched}

-- a bit of the row is a state
state_below : (R : Relation) (row : List ℕ) (n p q : ℕ) → R.size ≡ n → IsRelation R → HasBit row q ↔ Holds R.pairs p q → HasBit row q → q < n
state_below R row n p q size valid both bit = let lt = (valid.in_range p q (both.0 bit)).1 in omega arith

pub next_bit-requires : goal.next_bit-requires
next_bit-requires g c =
    let few = c.requires.states in
    let len = c.row.ensures.len in
    let equal = c.requires.equal in
    omega arith

pub overflow_cast-r : goal.overflow_cast-r
overflow_cast-r g c =
    let below = state_below c.args.rel.now c.row.result.now c.args.automaton.now.states c.args.t c.in-Some.r c.requires.equal c.row.ensures.valid (c.row.ensures.bits c.in-Some.r) c.in-Some.ensures.found.here in
    let few = c.requires.states in
    let fits : c.in-Some.r < 2 ^ 32 = omega arith in
    search rules

pub matched-requires-clause-right : goal.matched-requires-clause-right
matched-requires-clause-right g c =
    state_below c.args.rel.now c.row.result.now c.args.automaton.now.states c.args.t c.in-Some.r c.requires.equal c.row.ensures.valid (c.row.ensures.bits c.in-Some.r) c.in-Some.ensures.found.here

pub overflow_cast-r-then-matched : goal.overflow_cast-r-then-matched
overflow_cast-r-then-matched g c =
    let below = state_below c.args.rel.now c.row.result.now c.args.automaton.now.states c.args.t c.in-Some.r c.requires.equal c.row.ensures.valid (c.row.ensures.bits c.in-Some.r) c.in-Some.ensures.found.here in
    let few = c.requires.states in
    let fits : c.in-Some.r < 2 ^ 32 = omega arith in
    search rules

pub add-requires-clause-state : goal.add-requires-clause-state
add-requires-clause-state g c =
    state_below c.args.rel.now c.row.result.now c.args.automaton.now.states c.args.t c.in-Some.r c.requires.equal c.row.ensures.valid (c.row.ensures.bits c.in-Some.r) c.in-Some.ensures.found.here

pub overflow_add-at : goal.overflow_add-at
overflow_add-at g c =
    let below = state_below c.args.rel.now c.row.result.now c.args.automaton.now.states c.args.t c.in-Some.r c.requires.equal c.row.ensures.valid (c.row.ensures.bits c.in-Some.r) c.in-Some.ensures.found.here in
    let few = c.requires.states in
    let fits : c.in-Some.r + 1 < 2 ^ 64 = omega arith in
    search rules

pub loop-r-smaller : goal.loop-r-smaller
loop-r-smaller g c =
    let below = state_below c.args.rel.now c.row.result.now c.args.automaton.now.states c.args.t c.in-Some.r c.requires.equal c.row.ensures.valid (c.row.ensures.bits c.in-Some.r) c.in-Some.ensures.found.here in
    let behind = c.in-Some.ensures.found.behind in
    omega arith

pub loop-r-preserved : goal.loop-r-preserved
loop-r-preserved g c =
    let A = c.args.automaton.now in
    let s = c.args.side.now in
    let M = g.S.Side.goes s A in
    let ok = g.S.Side.matches s A in
    let W = Holds c.args.rel.now.pairs in
    let l = c.args.arrivals.now.labels in
    let w = c.args.arrivals.now.width in
    let t = c.args.t in
    let r = c.in-Some.r in
    let old = c.args.table.now in
    let now = c.loop-r.table in
    let next = c.in-Some.ensures.found in
    let below = state_below c.args.rel.now c.row.result.now A.states t r c.requires.equal c.row.ensures.valid (c.row.ensures.bits r) next.here in
    let related : W t r = (c.row.ensures.bits r).0 next.here in
    let none : (x : ℕ) → c.loop-r.at ≤ x → x < r → W t x → ⊥ = λ x from before is. false≢true (sym (next.none_between x from before) ∙ (c.row.ensures.bits x).1 is) in
    let P : List ℕ → Type 0 = λ table. HasAnswersUpto M ok W old table l w t (r + 1) in (
      elim c.if-matched.branch [
        | then-matched b ↦
            subst P (sym b.table-is)
            (answers_marked M ok W old now b.add.new.table l w t c.loop-r.at r c.loop-r.invariant.0 next.behind none related (c.matched.ensures.0 b.if-matched.true) b.add.ensures.here b.add.ensures.others)
        | else-matched b ↦ subst P (sym b.table-is) (answers_passed M ok W old now l w t c.loop-r.at r c.loop-r.invariant.0 next.behind none (iff_false c.matched.ensures b.if-matched.false))
      ],
      omega arith,
    )

pub returns-clause-here : goal.returns-clause-here
returns-clause-here g c =
    let M = g.S.Side.goes c.args.side.now c.args.automaton.now in
    let ok = g.S.Side.matches c.args.side.now c.args.automaton.now in
    answers_done M ok (Holds c.args.rel.now.pairs) c.args.table.now c.loop-r.table c.args.arrivals.now.labels c.args.arrivals.now.width c.args.t c.loop-r.at c.loop-r.invariant.0
    (λ x from is. false≢true (sym (c.in_default.ensures.none x from) ∙ (c.row.ensures.bits x).1 is))
