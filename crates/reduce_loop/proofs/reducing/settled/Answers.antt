use Rattle.std.proofs.Common.{◌≡◌, ◌≤◌, length, sym, ap, ◌∙◌, subst, arith}
use Rattle.auto_core.specs.Accept.{Same}
use Rattle.reduce_loop.specs.Kinds.{kinds_of}
use Rattle.reduce_loop.specs.Logs.{LogsOn, IsLog}
use Rattle.reduce_loop.specs.Passes.{IsReduced}
use Rattle.reduce_loop.specs.Settled.{IsSettled}
use Rattle.reduce_loop.proofs.PassLemmas.{log_through, through_valid, through_smaller, log_of_reduced, reduced_same, reduced_settled}
use Rattle.reduce_loop.proofs.LoopLemmas.{IsFurther, ends, goes_on}
use Rattle.reduce_loop.proofs.reducing.settled.Goals as goal
use Rattle.reduce_loop.proofs.reducing.settled.Goals.{Then-as_slice-before, Else-as_slice-before}

-- the log where the passes end
log_at_end : (c : goal.Then-as_slice-before) → IsLog c.args.automaton.now c.args.mode c.args.sight c.in_ok-state.state.auto c.in_ok-state.state.log
log_at_end c =
    let len : length c.in_ok-state.state.log ≡ length c.loop-state.state.log = ap length (sym c.as_slice.ensures) ∙ c.if-as_slice-before.true ∙ ap length c.as_slice-before.ensures in
    ends c.args.automaton.now c.loop-state.state.auto c.in_ok-state.state.auto c.args.mode c.args.sight c.loop-state.state.log c.in_ok-state.state.log
    c.loop-state.invariant.0 c.loop-state.invariant.2 c.in_ok-state.ensures.logs len

reduced_at_end : (c : goal.Then-as_slice-before) → IsReduced c.args.automaton.now c.args.mode c.args.sight c.in_ok-state.state.auto
reduced_at_end c = log_of_reduced c.args.automaton.now c.in_ok-state.state.auto c.args.mode c.args.sight c.in_ok-state.state.log (log_at_end c)

pub returns-then-as_slice-before-clause-reduced : goal.returns-then-as_slice-before-clause-reduced
returns-then-as_slice-before-clause-reduced c =
    reduced_at_end c

pub returns-then-as_slice-before-clause-log : goal.returns-then-as_slice-before-clause-log
returns-then-as_slice-before-clause-log c =
    log_at_end c

pub returns-then-as_slice-before-clause-same : goal.returns-then-as_slice-before-clause-same
returns-then-as_slice-before-clause-same c =
    reduced_same c.args.automaton.now c.in_ok-state.state.auto c.args.mode c.args.sight c.in_ok-copied.ensures.valid c.requires.look_from (reduced_at_end c)

pub returns-then-as_slice-before-clause-settled : goal.returns-then-as_slice-before-clause-settled
returns-then-as_slice-before-clause-settled c =
    reduced_settled c.args.automaton.now c.in_ok-state.state.auto c.args.mode c.args.sight c.in_ok-copied.ensures.valid c.requires.look_from (reduced_at_end c)

further : (c : goal.Else-as_slice-before) → IsFurther c.args.automaton.now c.loop-state.state.auto c.in_ok-state.state.auto c.args.mode c.args.sight c.in_ok-state.state.log
further c = goes_on c.args.automaton.now c.loop-state.state.auto c.in_ok-state.state.auto c.args.mode c.args.sight c.loop-state.state.log c.in_ok-state.state.log
    c.loop-state.invariant.0 c.loop-state.invariant.2 c.in_ok-state.ensures.logs
    (λ e. c.if-as_slice-before.false (ap length c.as_slice.ensures ∙ e ∙ sym (ap length c.as_slice-before.ensures)))

pub loop-state-smaller : goal.loop-state-smaller
loop-state-smaller c = (further c).less

pub loop-state-preserved : goal.loop-state-preserved
loop-state-preserved c =
    let B = c.loop-state.state.auto in
    let C = c.in_ok-state.state.auto in
    let on : LogsOn B c.args.mode c.args.sight (kinds_of c.args.mode) c.loop-state.state.log C c.in_ok-state.state.log = c.in_ok-state.ensures.logs in
    let through = log_through c.args.mode c.args.sight (kinds_of c.args.mode) B C on.0 on.1 in
    let le : C.states ≤ B.states = (through_smaller c.args.mode c.args.sight (kinds_of c.args.mode) B C c.loop-state.invariant.0 through).no_larger.states in
    let few : B.states ≤ 65535 = c.loop-state.invariant.1 in (
      through_valid c.args.mode c.args.sight (kinds_of c.args.mode) B C c.loop-state.invariant.0 through,
      omega arith,
      (further c).leads,
      c.in_ok-state.ensures.known,
      c.in_ok-state.ensures.idle,
    )
