use Rattle.std.proofs.Common.{◌≡◌, ℕ, ◌+◌, ◌*◌, ◌<◌, List, true, length, get_or, sym, subst, arith}
use Rattle.auto_core.specs.Automaton.{trans}
use Rattle.auto_core.specs.declared.parts.Trans.{Trans}
use Rattle.auto_core.specs.Rows.{cell_of}
use Rattle.lasso_accept.proofs.GuideLemmas.{HasMarked, marked_none, marked_passed, marked_more, marked_all}
use Rattle.lasso_accept.proofs.guide.mark_sources.Goals as goal
use Rattle.lasso_accept.proofs.guide.mark_sources.Goals.{then-transition-label, else-transition-label}

pub loop-number-init : goal.loop-number-init
loop-number-init c = marked_none c.args.automaton.now c.args.label c.args.width c.args.at c.predecessors-number-items.result.now c.args.table.now

pub loop-number-preserved : goal.loop-number-preserved
loop-number-preserved c =
    let A = c.args.automaton.now in
    let numbers : List ℕ = c.predecessors-number-items.result.now in
    let k : ℕ = c.loop-number.number-index in
    let t : ℕ = get_or numbers k 0 in
    let width : ℕ = c.args.width in
    let at : ℕ = c.args.at in
    let label : ℕ = c.args.label in
    let P : List ℕ → Type 0 = λ table. HasMarked A label width at (k + 1) numbers c.args.table.now table in
    elim c.if-transition-label.branch [
      | then-transition-label w ↦
          let L : List Trans → Type 0 = λ ts. (get_or ts t (trans 0 0 0)).label ≡ label in
          let H : List Trans → Type 0 = λ ts. cell_of w.set_cell.new.table width at (get_or ts t (trans 0 0 0)).source ≡ true in
          let O : List Trans → Type 0 = λ ts. (r s : ℕ) → s < width * 64 → ¬ ((r ≡ at) × (s ≡ (get_or ts t (trans 0 0 0)).source)) → cell_of w.set_cell.new.table width r s ≡ cell_of c.loop-number.table width r s in
          subst P (sym w.table-is)
          (marked_more A label width at k numbers c.args.table.now c.loop-number.table w.set_cell.new.table c.loop-number.invariant
          (subst L c.transitions-transitions.ensures.list w.if-transition-label.true)
          (subst H c.transitions-transitions.ensures.list w.set_cell.ensures.here)
          (subst O c.transitions-transitions.ensures.list w.set_cell.ensures.others))
      | else-transition-label w ↦
          let L : List Trans → Type 0 = λ ts. ¬ ((get_or ts t (trans 0 0 0)).label ≡ label) in
          subst P (sym w.table-is)
          (marked_passed A label width at k numbers c.args.table.now c.loop-number.table c.loop-number.invariant
          (subst L c.transitions-transitions.ensures.list w.if-transition-label.false))
    ]

pub returns-clause-here : goal.returns-clause-here
returns-clause-here c =
    let A = c.args.automaton.now in
    let numbers : List ℕ = c.predecessors-number-items.result.now in
    let over : c.loop-number.number-index ≡ length numbers = omega arith in
    let P : ℕ → Type 0 = λ k. HasMarked A c.args.label c.args.width c.args.at k numbers c.args.table.now c.loop-number.table in
    marked_all A c.args.label c.args.state c.args.width c.args.at numbers c.args.table.now c.loop-number.table c.predecessors-number-items.ensures.list
    (subst P over c.loop-number.invariant)

pub returns-clause-others : goal.returns-clause-others
returns-clause-others c = c.loop-number.invariant.others
