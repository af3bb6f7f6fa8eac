use Rattle.std.proofs.Common.{◌≡◌, ℕ, ◌-◌, ◌+◌, ◌<◌, subst, sym, arith, rules}
use Rattle.auto_core.specs.Rows.{HasCell}
use Rattle.lasso_accept.proofs.RunLemmas.{IsTurning, turning_none, turning_leads, turning_more, turning_all}
use Rattle.lasso_accept.proofs.runs.take_turns.Goals as goal

pub loop-left-init : goal.loop-left-init
loop-left-init c = turning_none c.args.automaton.now c.args.turn.now c.args.width c.args.turns c.args.table.now c.args.start c.args.places.now c.requires.is_state c.requires.here

pub spell-requires-clause-leads : goal.spell-requires-clause-leads
spell-requires-clause-leads c =
    let left : ℕ = c.loop-left.left - 1 in
    let next : left + 1 ≡ c.loop-left.left = search rules in
    let (target, counts) = c.requires.counts in
    let t = c.loop-left.invariant in
    let turns_in = c.requires.turns_in in
    let upto = c.loop-left.auto.left in
    let left_in : left + 1 < c.args.automaton.now.states = omega arith in
    let H : ℕ → Type 0 = λ k. HasCell c.args.table.now c.args.width k c.loop-left.state in
    turning_leads c.args.automaton.now c.requires.valid c.args.turn.now c.args.width target c.args.table.now left c.loop-left.state c.row_at-next.result.now
    c.requires.room counts left_in t.is_state (subst H (sym next) t.here) c.row_at-next.ensures.bits

pub loop-left-preserved : goal.loop-left-preserved
loop-left-preserved c =
    let left : ℕ = c.loop-left.left - 1 in
    let next : left + 1 ≡ c.loop-left.left = search rules in
    let T : ℕ → Type 0 = λ k. IsTurning c.args.automaton.now c.args.turn.now c.args.width c.args.turns c.args.table.now c.args.start c.args.places.now k c.loop-left.state c.loop-left.places in
    turning_more c.args.automaton.now c.requires.valid c.args.turn.now c.args.width c.args.turns c.args.table.now c.args.start c.args.places.now left c.loop-left.state c.loop-left.places
    c.row_at-next.result.now c.in_ok-state.state c.spell.new.places (subst T (sym next) c.loop-left.invariant) c.row_at-next.ensures.bits c.row_at-next.ensures.outside c.in_ok-state.ensures

pub returns : goal.returns
returns c = λ target counts. turning_all c.args.automaton.now c.args.turn.now c.args.width target c.args.turns c.args.table.now c.args.start c.args.places.now c.loop-left.left c.loop-left.state c.loop-left.places
    counts (omega arith) c.loop-left.invariant
