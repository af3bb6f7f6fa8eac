use Rattle.std.proofs.Common.{◌≡◌, ℕ, ◌*◌, ◌<◌, arith, rules, subst, List, get_or}
use Rattle.auto_core.specs.Rows.{bit_of, cell_of}
use Rattle.auto_core.specs.Automaton.{trans, trans_at}
use Rattle.auto_core.specs.declared.parts.Trans.{Trans}
use Rattle.lasso_accept.specs.Plane.{chosen}
use Rattle.lasso_accept.proofs.GatherLemmas.{HasGathered, gathered_none, gathered_more, gathered_all}
use Rattle.lasso_accept.proofs.planes.gather.Goals as goal

pub loop-t-init : goal.loop-t-init
loop-t-init c = (gathered_none _ _ _ _ _ _ _, gathered_none _ _ _ _ _ _ _)

pub loop-t-preserved : goal.loop-t-preserved
loop-t-preserved c =
    let A = c.args.automaton.now in
    let target : ℕ = (trans_at A c.loop-t.t).target in
    let any = c.args.any.now in
    let flagged = c.args.flagged.now in
    let width = c.args.width in
    let plain : c.pick-plain.result.now ≡ chosen A any any target = search rules in
    let marked : c.pick-marked.result.now ≡ chosen A any flagged target = search rules in
    let T : List Trans → Type 0 = λ ts. (q : ℕ) → q < width * 64 → bit_of c.row_at.result.now q ≡ cell_of c.pick-plain.result.now width (get_or ts c.loop-t.t (trans 0 0 0)).target q in
    let P : List ℕ → Type 0 = λ t. (q : ℕ) → q < width * 64 → bit_of c.row_at.result.now q ≡ cell_of t width target q in
    let U : List Trans → Type 0 = λ ts. (q : ℕ) → q < width * 64 → bit_of c.row_at-in-loop-t.result.now q ≡ cell_of c.pick-marked.result.now width (get_or ts c.loop-t.t (trans 0 0 0)).target q in
    let Q : List ℕ → Type 0 = λ t. (q : ℕ) → q < width * 64 → bit_of c.row_at-in-loop-t.result.now q ≡ cell_of t width target q in (
      gathered_more A c.args.state width c.successors-span.result.begin c.loop-t.t any any c.args.new_any.now c.loop-t.new_any
          c.or_row.new.table c.row_at.result.now (search rules) c.loop-t.invariant.0
          (subst P plain (subst T c.transitions-transitions.ensures.list c.row_at.ensures.bits)) c.or_row.ensures.here c.or_row.ensures.others,
      gathered_more A c.args.state width c.successors-span.result.begin c.loop-t.t any flagged c.args.new_flagged.now c.loop-t.new_flagged
          c.or_row-in-loop-t.new.table c.row_at-in-loop-t.result.now (search rules) c.loop-t.invariant.1
          (subst Q marked (subst U c.transitions-transitions.ensures.list c.row_at-in-loop-t.ensures.bits)) c.or_row-in-loop-t.ensures.here c.or_row-in-loop-t.ensures.others,
    )

pub returns-clause-any_here : goal.returns-clause-any_here
returns-clause-any_here c =
    let s = c.successors-span.ensures.range in
    let ordered = s.is_range in
    let over : c.loop-t.t ≡ c.successors-span.result.end = omega arith in
    let P : ℕ → Type 0 = λ k. HasGathered c.args.automaton.now c.args.state c.args.width c.successors-span.result.begin k c.args.any.now c.args.any.now c.args.new_any.now c.loop-t.new_any in
    gathered_all c.args.automaton.now c.args.state c.args.label c.args.width c.successors-span.result.begin c.successors-span.result.end c.args.any.now c.args.any.now c.args.new_any.now c.loop-t.new_any s
    (subst P over c.loop-t.invariant.0)

pub returns-clause-flagged_here : goal.returns-clause-flagged_here
returns-clause-flagged_here c =
    let s = c.successors-span.ensures.range in
    let ordered = s.is_range in
    let over : c.loop-t.t ≡ c.successors-span.result.end = omega arith in
    let P : ℕ → Type 0 = λ k. HasGathered c.args.automaton.now c.args.state c.args.width c.successors-span.result.begin k c.args.any.now c.args.flagged.now c.args.new_flagged.now c.loop-t.new_flagged in
    gathered_all c.args.automaton.now c.args.state c.args.label c.args.width c.successors-span.result.begin c.successors-span.result.end c.args.any.now c.args.flagged.now c.args.new_flagged.now c.loop-t.new_flagged s
    (subst P over c.loop-t.invariant.1)

pub returns-clause-any_others : goal.returns-clause-any_others
returns-clause-any_others c = c.loop-t.invariant.0.others

pub returns-clause-flagged_others : goal.returns-clause-flagged_others
returns-clause-flagged_others c = c.loop-t.invariant.1.others
