use Rattle.std.proofs.Common.{◌≡◌, ℕ, ◌+◌, ◌*◌, ◌≤◌, arith}
use Rattle.lasso_accept.proofs.GuideLemmas.{HasSpan, span_none, span_join, span_all}
use Rattle.lasso_accept.proofs.guide.write_row.Goals as goal

pub loop-word-init : goal.loop-word-init
loop-word-init c = span_none c.args.automaton.now c.args.label c.args.width c.args.at 0 c.args.marked.now c.args.plain.now c.args.table.now

pub loop-word-preserved : goal.loop-word-preserved
loop-word-preserved c =
    let word : ℕ = c.loop-word.word in
    let A = c.args.automaton.now in
    let more : HasSpan A c.args.label c.args.width c.args.at (word * 64) ((word + 1) * 64) c.args.marked.now c.args.plain.now c.loop-word.table c.write_word.new.table =
    record { here = c.write_word.ensures.here; others = c.write_word.ensures.others } in
    span_join A c.args.label c.args.width c.args.at 0 (word * 64) ((word + 1) * 64) c.args.marked.now c.args.plain.now c.args.table.now c.loop-word.table c.write_word.new.table
    (omega arith) (omega arith) c.loop-word.invariant more

pub returns-clause-here : goal.returns-clause-here
returns-clause-here c =
    let room = c.requires.room in
    let enough : c.args.automaton.now.states ≤ c.loop-word.word * 64 = let over : c.args.width ≡ c.loop-word.word = omega arith in rw (← over) room in
    span_all c.args.automaton.now c.requires.valid c.args.label c.args.width c.args.at (c.loop-word.word * 64) c.args.marked.now c.args.plain.now c.args.table.now c.loop-word.table
    enough c.loop-word.invariant

pub returns-clause-others : goal.returns-clause-others
returns-clause-others c = c.loop-word.invariant.others
