use Rattle.std.proofs.Common.{◌≡◌, ℕ, ◌+◌, ◌*◌, min, arith}
use Rattle.lasso_accept.proofs.GuideLemmas.{HasSpan, span_clear, span_of_states}
use Rattle.lasso_accept.proofs.guide.write_word.Goals as goal

pub returns-then-is_clear-clause-here : goal.returns-then-is_clear-clause-here
returns-then-is_clear-clause-here c =
    let none = c.is_clear.ensures c.if-is_clear.true in
    let s = span_clear c.args.automaton.now c.args.label c.args.width c.args.at c.args.word c.args.marked.now c.args.plain.now c.args.table.now none.0 none.1 in
    s.here

pub returns-clause-here : goal.returns-clause-here
returns-clause-here c =
    let A = c.args.automaton.now in
    let n : ℕ = c.states-states.result in
    let count : n ≡ A.states = c.states-states.ensures.count in
    let begin : ℕ = c.min-begin.result in
    let end : ℕ = c.min-end.result in
    let word : ℕ = c.args.word in
    let is_begin : begin ≡ min (word * 64) n = c.min-begin.ensures in
    let is_end : end ≡ min (word * 64 + 64) n = c.min-end.ensures in
    let span : HasSpan A c.args.label c.args.width c.args.at begin end c.args.marked.now c.args.plain.now c.args.table.now c.write_span.new.table =
    record { here = c.write_span.ensures.here; others = c.write_span.ensures.others } in
    let all = span_of_states A c.states-states.ensures.valid c.args.label c.args.width c.args.at begin end (word * 64) ((word + 1) * 64) c.args.marked.now c.args.plain.now c.args.table.now c.write_span.new.table
    (λ r r_in from below. (omega arith, omega arith))
    (λ r r_in from below. (omega arith, omega arith)) span in
    all.here
