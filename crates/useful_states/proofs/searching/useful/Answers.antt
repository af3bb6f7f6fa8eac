use Rattle.std.proofs.Common.{◌↔◌, ◌<◌, ℕ, Contains, subst}
use Rattle.std.proofs.lemmas.Result.{IfOk-weaker}
use Rattle.auto_core.specs.Members.{Members}
use Rattle.auto_core.specs.Useful.{AreUseful}
use Rattle.useful_states.proofs.UsefulLemmas.{useful_in_both}
use Rattle.useful_states.proofs.searching.useful.Goals as goal

pub returns-clause-members : goal.returns-clause-members
returns-clause-members c =
    let A = c.args.automaton.now in
    let reached = c.in_ok-reached.reached in
    let goals = c.in_ok-goals.goals in
    let P : ℕ → Members → Type 0 = λ n s. (q : ℕ) → Contains s.members q ↔ ((q < n) × Contains reached.set.members q × Contains goals.set.members q) in
    IfOk-weaker c.in_both.result (P c.states.result) (λ s. AreUseful A c.args.mode s.members)
    (λ s both. let Q : ℕ → Type 0 = λ n. P n s in useful_in_both A c.args.mode reached goals A.states s.members c.in_ok-reached.ensures c.in_ok-goals.ensures (subst Q c.states.ensures.count both))
    c.in_both.ensures.members
