use Rattle.std.proofs.Common.{◌≡◌, ℕ, suc, ◌+◌, ◌-◌, [], ◌∷◌, ◌++◌, sym, subst, arith}
use Rattle.std.proofs.lemmas.Result.{err_from_is_err_and}
use Rattle.cert_line.specs.Lines.{second_head_in}
use Rattle.cert_text.specs.Grammar.{next_line, read_second_rest, read_second_steps}
use Rattle.cert_text.specs.contracts.lines.Lines.second_steps.{C-type}
use Rattle.cert_text.proofs.LinesLeftLemmas.{SoFar, so_next, so_stop}
use Rattle.cert_text.proofs.lines.Lines.second_steps.Goals as goal

pub returns-in_err-step : goal.returns-in_err-step
returns-in_err-step g c =
    let p = err_from_is_err_and c.from_residual.result c.from_residual.ensures.1 in
    let later : ℕ = c.args.count - (c.loop-step._step + 1) in
    let e : c.args.count - c.loop-step._step ≡ suc later = omega (arith, c.loop-step-test.true) in
    let way = subst (λ n. SoFar {C = C-type g.row.C} (read_second_steps c.args.version c.args.mode c.args.count []) (read_second_steps c.args.version c.args.mode n c.loop-step.steps) c.args.self.now c.loop-step.self) e c.loop-step.invariant in
    rw (p.1, p.2) (so_stop (read_second_steps c.args.version c.args.mode c.args.count []) (λ next. next_line (second_head_in c.args.version c.args.mode) (λ head. read_second_rest c.args.version head next)) (λ next step. read_second_steps c.args.version c.args.mode later (c.loop-step.steps ++ step ∷ []) next) c.args.self.now c.loop-step.self c.second_step.new.self c.second_step.new.self c.in_err-step.field-0.0 way c.in_err-step.ensures)

pub loop-step-preserved : goal.loop-step-preserved
loop-step-preserved g c =
    let later : ℕ = c.args.count - (c.loop-step._step + 1) in
    let e : c.args.count - c.loop-step._step ≡ suc later = omega (arith, c.loop-step-test.true) in
    let way = subst (λ n. SoFar {C = C-type g.row.C} (read_second_steps c.args.version c.args.mode c.args.count []) (read_second_steps c.args.version c.args.mode n c.loop-step.steps) c.args.self.now c.loop-step.self) e c.loop-step.invariant in
    subst (λ items. SoFar {C = C-type g.row.C} (read_second_steps c.args.version c.args.mode c.args.count []) (read_second_steps c.args.version c.args.mode later items) c.args.self.now c.second_step.new.self) (sym c.in_ok-push.ensures.ok)
    (so_next (read_second_steps c.args.version c.args.mode c.args.count []) (λ next. next_line (second_head_in c.args.version c.args.mode) (λ head. read_second_rest c.args.version head next)) (λ next step. read_second_steps c.args.version c.args.mode later (c.loop-step.steps ++ step ∷ []) next) c.args.self.now c.loop-step.self c.second_step.new.self c.in_ok-step.step way c.in_ok-step.ensures)

pub returns : goal.returns
returns g c =
    let done : c.args.count - c.loop-step._step ≡ 0 = omega (arith, c.loop-step-test.false) in
    subst (λ n. SoFar {C = C-type g.row.C} (read_second_steps c.args.version c.args.mode c.args.count []) (read_second_steps c.args.version c.args.mode n c.loop-step.steps) c.args.self.now c.loop-step.self) done c.loop-step.invariant
