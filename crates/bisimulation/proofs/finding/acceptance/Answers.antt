use Rattle.std.proofs.Common.{◌≡◌, ℕ, ◌+◌, ◌∷◌, ◌++◌, [], List, length, ap, ◌∙◌, arith, length-append, if◌then◌else◌}
use Rattle.auto_core.specs.Automaton.{is_accepting}
use Rattle.auto_core.specs.Quotient.{class_of}
use Rattle.bisimulation.proofs.PutLemmas.{each_push}
use Rattle.bisimulation.proofs.finding.acceptance.Goals as goal

pub loop-state-preserved : goal.loop-state-preserved
loop-state-preserved c =
    let A = c.args.automaton.now in
    let made : List ℕ = c.loop-state.made.items in
    let x : ℕ = c.one_if.result in
    let n : ℕ = c.loop-state.state in
    let items : c.push.new.self.items ≡ made ++ x ∷ [] = c.in_ok-push.ensures.items in
    let len : length made ≡ n = c.loop-state.invariant.0 in
    let grown : length (made ++ x ∷ []) ≡ n + 1 = omega (arith, length-append made (x ∷ []), len) in
    let f : ℕ → ℕ = λ p. if is_accepting A p then 1 else 0 in
    let is : x ≡ f n = c.one_if.ensures ∙ ap (λ b. if b then 1 else 0) c.accepting.ensures.test in (
      ap length items ∙ grown,
      λ p lt. ap (λ l. class_of l p) items ∙ each_push f made n x len c.loop-state.invariant.1 is p lt,
    )

pub returns-clause-len : goal.returns-clause-len
returns-clause-len c = omega (arith, c.loop-state.invariant.0, c.loop-state-test.false, c.states-state-end.ensures.count)

pub returns-clause-each : goal.returns-clause-each
returns-clause-each c = λ p p_in. c.loop-state.invariant.1 p (omega (arith, c.loop-state-test.false, c.states-state-end.ensures.count))
