use Rattle.std.proofs.Common.{◌<◌, ◌+◌, List, ℕ, take, length, refl, sym, subst, arith}
use Rattle.reduce_loop.specs.declared.steps.Kind.{Kind}
use Rattle.reduce_loop.specs.Kinds.{kinds_of}
use Rattle.reduce_loop.specs.Logs.{LogsOn}
use Rattle.reduce_loop.proofs.PassLemmas.{log_through, through_smaller}
use Rattle.reduce_loop.proofs.LoopLemmas.{logs_more}
use Rattle.reduce_loop.proofs.reducing.pass.Goals as goal

pub take-requires-clause-few : goal.take-requires-clause-few
take-requires-clause-few c =
    let kinds = take c.loop-kind.kind-index (kinds_of c.args.mode) in
    let on : LogsOn c.args.state.auto c.args.mode c.args.sight kinds c.args.state.log c.loop-kind.state.auto c.loop-kind.state.log = c.loop-kind.invariant.0 in
    let le = (through_smaller c.args.mode c.args.sight kinds c.args.state.auto c.loop-kind.state.auto c.requires.valid
    (log_through c.args.mode c.args.sight kinds c.args.state.auto c.loop-kind.state.auto on.0 on.1)).no_larger.states in
    let few = c.requires.few in
    omega arith

pub loop-kind-preserved : goal.loop-kind-preserved
loop-kind-preserved c =
    let i : ℕ = c.loop-kind.kind-index in
    let kinds : List Kind = c.kinds-kind-items.result.now in
    let A = c.args.state.auto in
    let B = c.loop-kind.state.auto in
    let new = c.in_ok-state.state in
    let lt : i < length kinds = c.loop-kind-test.true in
    let on : LogsOn A c.args.mode c.args.sight (take i kinds) c.args.state.log B c.loop-kind.state.log =
    subst (λ l. LogsOn A c.args.mode c.args.sight (take i l) c.args.state.log B c.loop-kind.state.log) (sym c.kinds-kind-items.ensures) c.loop-kind.invariant.0 in
    let logged = c.in_ok-state.ensures.logged in
    let more : LogsOn A c.args.mode c.args.sight (take (i + 1) kinds) c.args.state.log new.auto new.log =
    logs_more A B new.auto c.args.mode c.args.sight i kinds _ _ c.args.state.log c.loop-kind.state.log new.log logged.0 on lt refl c.in_ok-state.ensures.after logged.1 logged.2 in (
      subst (λ l. LogsOn A c.args.mode c.args.sight (take (i + 1) l) c.args.state.log new.auto new.log) c.kinds-kind-items.ensures more,
      c.in_ok-state.ensures.known,
      c.in_ok-state.ensures.idle,
    )

pub take-requires-clause-known : goal.take-requires-clause-known
take-requires-clause-known c = c.loop-kind.invariant.1

pub returns-clause-known : goal.returns-clause-known
returns-clause-known c = c.loop-kind.invariant.1

pub take-requires-clause-idle : goal.take-requires-clause-idle
take-requires-clause-idle c = c.loop-kind.invariant.2

pub returns-clause-idle : goal.returns-clause-idle
returns-clause-idle c = c.loop-kind.invariant.2
