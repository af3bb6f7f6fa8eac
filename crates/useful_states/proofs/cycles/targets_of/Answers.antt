use Rattle.std.proofs.Common.{ℕ, List, length, get_or, ap, arith}
use Rattle.auto_core.specs.Automaton.{trans}
use Rattle.auto_core.specs.declared.parts.Trans.{Trans}
use Rattle.useful_states.proofs.CycleLemmas.{targets_none, targets_more, targets_all}
use Rattle.useful_states.proofs.cycles.targets_of.Goals as goal

pub loop-t-init : goal.loop-t-init
loop-t-init c = targets_none c.args.automaton.now c.new-targets.result.items c.new-targets.ensures.items

pub loop-t-preserved : goal.loop-t-preserved
loop-t-preserved c =
    let t : ℕ = c.loop-t.t in
    let of : List Trans → ℕ = λ ts. (get_or ts t (trans 0 0 0)).target in
    targets_more c.args.automaton.now t (of c.transitions-transitions.result.now) c.loop-t.targets.items c.push.new.self.items c.loop-t.invariant (ap of c.transitions-transitions.ensures.list) c.in_ok-push.ensures.items

pub returns : goal.returns
returns c = targets_all c.args.automaton.now c.loop-t.t c.loop-t.targets.items (omega (arith, ap length c.transitions-transitions.ensures.list)) c.loop-t.invariant
