use Rattle.std.proofs.Common.{[], ◌∷◌, ◌++◌, ap, ◌∙◌, arith}
use Rattle.useful_states.proofs.CycleLemmas.{spans_none, spans_more, spans_all}
use Rattle.useful_states.proofs.cycles.starts_of.Goals as goal

pub loop-state-init : goal.loop-state-init
loop-state-init c = spans_none c.args.automaton.now c.push.new.self.items (c.in_ok-push.ensures.items ∙ ap (λ l. l ++ 0 ∷ []) c.new-starts.ensures.items)

pub loop-state-preserved : goal.loop-state-preserved
loop-state-preserved c =
    spans_more c.args.automaton.now c.loop-state.state c.outgoing.result.begin c.outgoing.result.end c.loop-state.starts.items c.push-in-loop-state.new.self.items
    c.loop-state.invariant c.outgoing.ensures.range c.in_ok-push-2.ensures.items

pub returns : goal.returns
returns c = spans_all c.args.automaton.now c.loop-state.state c.loop-state.starts.items (omega (arith, c.states-state-end.ensures.count)) c.loop-state.invariant
