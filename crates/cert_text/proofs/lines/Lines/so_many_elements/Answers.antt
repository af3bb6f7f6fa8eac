use Rattle.std.proofs.Common.{◌≡◌, ℕ, suc, ◌+◌, ◌-◌, [], ◌∷◌, ◌++◌, sym, subst, arith}
use Rattle.std.proofs.lemmas.Result.{err_from_is_err_and}
use Rattle.cert_line.specs.Lines.{element_in}
use Rattle.cert_text.specs.Grammar.{next_line, read_elements}
use Rattle.cert_text.specs.contracts.lines.Lines.so_many_elements.{C-type}
use Rattle.cert_text.proofs.LinesLeftLemmas.{SoFar, so_next, so_stop}
use Rattle.cert_text.proofs.lines.Lines.so_many_elements.Goals as goal

pub returns-in_err-element : goal.returns-in_err-element
returns-in_err-element g c =
    let p = err_from_is_err_and c.from_residual.result c.from_residual.ensures.1 in
    let later : ℕ = c.args.count - (c.loop-element._element + 1) in
    let e : c.args.count - c.loop-element._element ≡ suc later = omega (arith, c.loop-element-test.true) in
    let way = subst (λ n. SoFar {C = C-type g.row.C} (read_elements c.args.mode c.args.count []) (read_elements c.args.mode n c.loop-element.elements) c.args.self.now c.loop-element.self) e c.loop-element.invariant in
    rw (p.1, p.2) (so_stop (read_elements c.args.mode c.args.count []) (next_line (element_in c.args.mode)) (λ next element. read_elements c.args.mode later (c.loop-element.elements ++ element ∷ []) next) c.args.self.now c.loop-element.self c.element.new.self c.element.new.self c.in_err-element.field-0.0 way c.in_err-element.ensures)

pub loop-element-preserved : goal.loop-element-preserved
loop-element-preserved g c =
    let later : ℕ = c.args.count - (c.loop-element._element + 1) in
    let e : c.args.count - c.loop-element._element ≡ suc later = omega (arith, c.loop-element-test.true) in
    let way = subst (λ n. SoFar {C = C-type g.row.C} (read_elements c.args.mode c.args.count []) (read_elements c.args.mode n c.loop-element.elements) c.args.self.now c.loop-element.self) e c.loop-element.invariant in
    subst (λ items. SoFar {C = C-type g.row.C} (read_elements c.args.mode c.args.count []) (read_elements c.args.mode later items) c.args.self.now c.element.new.self) (sym c.in_ok-push.ensures.ok)
    (so_next (read_elements c.args.mode c.args.count []) (next_line (element_in c.args.mode)) (λ next element. read_elements c.args.mode later (c.loop-element.elements ++ element ∷ []) next) c.args.self.now c.loop-element.self c.element.new.self c.in_ok-element.element way c.in_ok-element.ensures)

pub returns : goal.returns
returns g c =
    let done : c.args.count - c.loop-element._element ≡ 0 = omega (arith, c.loop-element-test.false) in
    subst (λ n. SoFar {C = C-type g.row.C} (read_elements c.args.mode c.args.count []) (read_elements c.args.mode n c.loop-element.elements) c.args.self.now c.loop-element.self) done c.loop-element.invariant
