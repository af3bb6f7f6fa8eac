use Rattle.std.proofs.Common.{◌≡◌, ◌<◌, ◌≤◌, ◌*◌, ◌+◌, ℕ, inl, inr, sym, arith, ◌∙◌}
use Rattle.std.proofs.lemmas.Bool.{cases_lt, false≢true}
use Rattle.look_round.specs.Replies.{IsInRow}
use Rattle.look_round.proofs.StepLemmas.{step_more, step_zero, step_finished}
use Rattle.look_round.proofs.replies.step_replies.Goals as goal

pub returns-then-q-states-clause-here : goal.returns-then-q-states-clause-here
returns-then-q-states-clause-here g c =
    let A = c.args.automaton.now in
    let s = c.args.side.now in
    let M = g.S.Side.goes s A in
    let ok = g.S.Side.matches s A in
    let a = c.args.step.label in
    let p = c.args.step.to in
    let w = c.args.width in
    let n = A.states in
    let number = c.args.number in
    let D : ℕ → Type 0 = IsInRow c.args.from.now n in
    let width = c.requires.width in
    let next = c.in-Some.ensures.found in
    let past = c.if-q-states.true in
    let count = c.states.ensures.count in
    step_finished M ok a p D c.clear_table_row.new.table c.loop-q.table w number n c.loop-q.at (omega arith) c.loop-q.invariant.1 c.loop-q.invariant.0
    (λ q from is. elim (cases_lt q c.in-Some.q) [
      | inl before ↦ false≢true (sym (next.none_between q from before) ∙ is.1)
      | inr behind ↦ let lt = is.0 in absurd (omega arith)
    ])
    c.clear_table_row.ensures.here (λ q is. is.0) (λ q r go. g.met.S.Side.stays s A c.requires.valid q a r go)

pub loop-q-preserved : goal.loop-q-preserved
loop-q-preserved g c =
    let A = c.args.automaton.now in
    let s = c.args.side.now in
    let M = g.S.Side.goes s A in
    let ok = g.S.Side.matches s A in
    let a = c.args.step.label in
    let p = c.args.step.to in
    let start = c.clear_table_row.new.table in
    let now = c.loop-q.table in
    let w = c.args.width in
    let n = A.states in
    let number = c.args.number in
    let q = c.in-Some.q in
    let D : ℕ → Type 0 = IsInRow c.args.from.now n in
    let width = c.requires.width in
    let next = c.in-Some.ensures.found in
    let behind = next.behind in
    let below = c.if-q-states.false in
    let count = c.states.ensures.count in
    let between = step_zero M ok a p D start now w number c.loop-q.at q behind c.loop-q.invariant.0
    (λ x from before is. false≢true (sym (next.none_between x from before) ∙ is.1)) in
    (step_more M ok a p D start now c.mark_replies.new.table w number 0 q (omega arith) between (omega arith, next.here) c.mark_replies.ensures.here c.mark_replies.ensures.others, omega arith)

pub returns-clause-here : goal.returns-clause-here
returns-clause-here g c =
    let A = c.args.automaton.now in
    let s = c.args.side.now in
    let M = g.S.Side.goes s A in
    let ok = g.S.Side.matches s A in
    let w = c.args.width in
    let n = A.states in
    let D : ℕ → Type 0 = IsInRow c.args.from.now n in
    let width = c.requires.width in
    step_finished M ok c.args.step.label c.args.step.to D c.clear_table_row.new.table c.loop-q.table w c.args.number n c.loop-q.at (omega arith) c.loop-q.invariant.1 c.loop-q.invariant.0
    (λ q from is. false≢true (sym (c.in_default.ensures.none q from) ∙ is.1))
    c.clear_table_row.ensures.here (λ q is. is.0) (λ q r go. g.met.S.Side.stays s A c.requires.valid q c.args.step.label r go)
