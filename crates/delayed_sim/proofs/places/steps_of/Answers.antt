use Rattle.std.proofs.Common.{◌≡◌, ℕ, ◌/◌, ◌%◌, get_or, ap, ◌∙◌}
use Rattle.auto_core.specs.Automaton.{trans}
use Rattle.delayed_sim.specs.Steps.{step_announcing, step_at}
use Rattle.delayed_sim.proofs.StepLemmas.{steps_more}
use Rattle.delayed_sim.proofs.places.steps_of.Goals as goal

pub loop-number-preserved : goal.loop-number-preserved
loop-number-preserved c =
    let A = c.args.automaton.now in
    let w : ℕ = c.args.words in
    let k = c.loop-number.number in
    let made : c.step_of.result ≡ step_at A w k =
    c.step_of.ensures
    ∙ ap (λ l. step_announcing l w (get_or c.transitions-in-loop-number.result.now (k / w) (trans 0 0 0)) (k % w)) c.labels-labels.ensures.count
    ∙ ap (λ ts. step_announcing A.labels w (get_or ts (k / w) (trans 0 0 0)) (k % w)) c.transitions-in-loop-number.ensures.list in
    steps_more A w c.loop-number.steps.items c.push.new.self.items k c.step_of.result c.loop-number.invariant c.in_ok-push.ensures.items made
