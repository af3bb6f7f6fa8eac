use Rattle.std.proofs.Common.{◌≡◌, ℕ, ◌+◌, List, sym, ap, ◌∙◌, subst, arith}
use Rattle.auto_core.specs.Rows.{bit_of}
use Rattle.lasso_accept.specs.Plane.{chosen}
use Rattle.lasso_accept.proofs.GuideLemmas.{HasSpan, span_none, span_passed, span_more}
use Rattle.lasso_accept.proofs.guide.write_span.Goals as goal
use Rattle.lasso_accept.proofs.guide.write_span.Goals.{then-has_bit, else-has_bit}

pub loop-state-init : goal.loop-state-init
loop-state-init c = span_none c.args.automaton.now c.args.label c.args.width c.args.at c.args.begin c.args.marked.now c.args.plain.now c.args.table.now

pub loop-state-preserved : goal.loop-state-preserved
loop-state-preserved c =
    let A = c.args.automaton.now in
    let state : ℕ = c.loop-state.state in
    let marked = c.args.marked.now in
    let plain = c.args.plain.now in
    let bit : c.has_bit.result ≡ bit_of (chosen A marked plain state) state = c.has_bit.ensures ∙ ap (λ xs. bit_of xs state) c.pick-row.ensures in
    let P : List ℕ → Type 0 = λ table. HasSpan A c.args.label c.args.width c.args.at c.args.begin (state + 1) marked plain c.args.table.now table in
    elim c.if-has_bit.branch [
      | then-has_bit w ↦
          subst P (sym w.table-is)
          (span_more A c.args.label c.args.width c.args.at c.args.begin state marked plain c.args.table.now c.loop-state.table w.mark_sources.new.table (omega arith)
          c.loop-state.invariant (sym bit ∙ w.if-has_bit.true) w.mark_sources.ensures.here w.mark_sources.ensures.others)
      | else-has_bit w ↦
          subst P (sym w.table-is)
          (span_passed A c.args.label c.args.width c.args.at c.args.begin state marked plain c.args.table.now c.loop-state.table c.loop-state.invariant
          (sym bit ∙ w.if-has_bit.false))
    ]

pub returns-clause-here : goal.returns-clause-here
returns-clause-here c =
    let over : c.loop-state.state ≡ c.args.end = omega arith in
    let P : ℕ → Type 0 = λ k. HasSpan c.args.automaton.now c.args.label c.args.width c.args.at c.args.begin k c.args.marked.now c.args.plain.now c.args.table.now c.loop-state.table in
    let all = subst P over c.loop-state.invariant in
    all.here

pub returns-clause-others : goal.returns-clause-others
returns-clause-others c = c.loop-state.invariant.others
