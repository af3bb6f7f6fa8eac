use Rattle.std.proofs.Common.{◌≡◌, ◌∷◌, [], ◌++◌, ◌+◌, ◌∙◌, ℕ, List, drop, slice_index_or, sym, subst}
use Rattle.std.proofs.lemmas.List.{drop_more}
use Rattle.std.proofs.lemmas.Result.{err_from_is_err_and}
use Rattle.auto_core.specs.declared.parts.Origin.TheVariants.{Start}
use Rattle.cert_value.specs.declared.types.Element.{Element}
use Rattle.cert_value.specs.declared.types.Mark.TheVariants.{Live}
use Rattle.cert_line.specs.Lines.{step_in}
use Rattle.cert_text.specs.Grammar.{next_line, read_steps}
use Rattle.cert_text.specs.contracts.lines.Lines.steps.{C-type}
use Rattle.cert_text.proofs.LinesLeftLemmas.{SoFar, so_next, so_stop, so_live, so_dead}
use Rattle.cert_text.proofs.lines.Lines.steps.Goals as goal
use Rattle.cert_text.proofs.lines.Lines.steps.Goals.{then-is_live+in_ok-step+in_ok-push, else-is_live}

abbrev element_at : List Element → ℕ → Element
element_at es at = slice_index_or es at (record { mark = Live; origin = Start })

pub returns-in_err-step : goal.returns-in_err-step
returns-in_err-step g c =
    let p = err_from_is_err_and c.from_residual.result c.from_residual.ensures.1 in
    let es = c.args.elements.now in
    let at = c.loop-at.at in
    let rest : List Element = drop (at + 1) es in
    let is : drop at es ≡ element_at es at ∷ rest = drop_more es at _ c.loop-at-test.true in
    rw (p.1, p.2)
    (so_stop (read_steps 0 es []) (next_line (step_in at)) (λ next step. read_steps (at + 1) rest (c.loop-at.steps ++ step ∷ []) next) c.args.self.now c.loop-at.self c.step.new.self c.step.new.self c.in_err-step.field-0.0
    (so_live (read_steps 0 es []) at (drop at es) (element_at es at) rest c.loop-at.steps c.args.self.now c.loop-at.self is (sym c.is_live.ensures ∙ c.if-is_live.true) c.loop-at.invariant)
    c.in_err-step.ensures)

pub loop-at-preserved : goal.loop-at-preserved
loop-at-preserved g c =
    let es = c.args.elements.now in
    let at = c.loop-at.at in
    let rest : List Element = drop (at + 1) es in
    let is : drop at es ≡ element_at es at ∷ rest = drop_more es at _ c.loop-at-test.true in
    elim c.if-is_live.branch [
      | then-is_live+in_ok-step+in_ok-push w ↦
          subst (λ now. SoFar {C = C-type g.row.C} (read_steps 0 es []) (read_steps (at + 1) rest c.if-is_live.steps) c.args.self.now now) (sym w.self-is)
          (subst (λ steps. SoFar {C = C-type g.row.C} (read_steps 0 es []) (read_steps (at + 1) rest steps) c.args.self.now w.step.new.self) (sym (w.steps-is ∙ w.in_ok-push.ensures.ok))
          (so_next (read_steps 0 es []) (next_line (step_in at)) (λ next step. read_steps (at + 1) rest (c.loop-at.steps ++ step ∷ []) next) c.args.self.now c.loop-at.self w.step.new.self w.in_ok-step.step
          (so_live (read_steps 0 es []) at (drop at es) (element_at es at) rest c.loop-at.steps c.args.self.now c.loop-at.self is (sym c.is_live.ensures ∙ w.if-is_live.true) c.loop-at.invariant)
          w.in_ok-step.ensures))
      | else-is_live w ↦
          subst (λ now. SoFar {C = C-type g.row.C} (read_steps 0 es []) (read_steps (at + 1) rest c.if-is_live.steps) c.args.self.now now) (sym w.self-is)
          (subst (λ steps. SoFar {C = C-type g.row.C} (read_steps 0 es []) (read_steps (at + 1) rest steps) c.args.self.now c.loop-at.self) (sym w.steps-is)
          (so_dead (read_steps 0 es []) at (drop at es) (element_at es at) rest c.loop-at.steps c.args.self.now c.loop-at.self is (sym c.is_live.ensures ∙ w.if-is_live.false) c.loop-at.invariant))
    ]
