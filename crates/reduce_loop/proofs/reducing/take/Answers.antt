use Rattle.std.proofs.Common.{subst}
use Rattle.reduce_loop.specs.Kinds.{After}
use Rattle.reduce_loop.proofs.LoopLemmas.{idle_more}
use Rattle.reduce_loop.proofs.reducing.take.Goals as goal

pub returns-then-is_same_automaton-clause-idle : goal.returns-then-is_same_automaton-clause-idle
returns-then-is_same_automaton-clause-idle c =
    let A = c.args.state.auto in
    let still = c.is_same_automaton.ensures.0 c.if-is_same_automaton.true in
    idle_more A c.args.mode c.args.sight c.args.state.idle c.push.new.self c.args.kind c.requires.idle
    (subst (λ B. After A c.args.mode c.args.sight c.args.kind B) still c.in_ok-made.ensures.after) c.in_ok-push.ensures.ok
