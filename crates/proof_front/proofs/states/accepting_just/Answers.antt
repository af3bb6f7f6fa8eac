use Rattle.std.proofs.lemmas.Result.{IfOk-weaker}
use Rattle.auto_core.specs.Build.{IsBuilt}
use Rattle.proof_front.specs.Front.{AcceptsJustIn}
use Rattle.proof_front.proofs.StateLemmas.{parts_of_just, just_built}
use Rattle.proof_front.proofs.states.accepting_just.Goals as goal

pub of_parts-requires : goal.of_parts-requires
of_parts-requires c =
    rw (c.states.ensures.count, c.labels.ensures.count, c.initial.ensures.state, c.transitions.ensures.list)
    (parts_of_just c.args.automaton.now c.args.states.now c.states.ensures.valid c.requires.states c.requires.ascending)

pub returns : goal.returns
returns c =
    let A = c.args.automaton.now in
    let states = c.args.states.now in
    IfOk-weaker c.of_parts.result (IsBuilt A.states A.labels A.initial A.transitions states) (AcceptsJustIn A states)
    (λ B b. just_built A B states b)
    (rw (c.states.ensures.count, c.labels.ensures.count, c.initial.ensures.state, c.transitions.ensures.list) at c.of_parts.ensures)
