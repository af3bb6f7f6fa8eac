use Rattle.std.proofs.Common.{◌≡◌, ℕ, ◌+◌, ◌<◌, List, length, get_or, sym, ap, subst, arith}
use Rattle.auto_core.specs.Automaton.{trans, trans_at}
use Rattle.auto_core.specs.declared.parts.Trans.{Trans}
use Rattle.auto_core.proofs.MoveLemmas.{move_at, move_in_range}
use Rattle.delayed_game.proofs.BlockLemmas.{AreColumnsFound, columns_none, columns_passed, columns_more, columns_all}
use Rattle.delayed_game.proofs.blocks.find_columns.Goals as goal
use Rattle.delayed_game.proofs.blocks.find_columns.Goals.{then-step-label, else-step-label}

pub loop-number-init : goal.loop-number-init
loop-number-init c = columns_none c.args.automaton.now c.args.words.now c.clear_row.new.row c.args.label c.clear_row.ensures

pub loop-number-preserved : goal.loop-number-preserved
loop-number-preserved c =
    let A = c.args.automaton.now in
    let words = c.args.words.now in
    let a : ℕ = c.args.label in
    let n : ℕ = c.loop-number.number in
    let m : Trans = get_or c.transitions-steps.result.now n (trans 0 0 0) in
    let is : m ≡ trans_at A n = ap (λ ts. get_or ts n (trans 0 0 0)) c.transitions-steps.ensures.list in
    let n_in : n < length A.transitions = omega (arith, c.loop-number-test.true, ap length c.transitions-steps.ensures.list) in
    let source : m.source < A.states =
    subst (λ (x : Trans). x.source < A.states) (sym is) (move_in_range A c.requires.valid (trans_at A n).source (trans_at A n).label (trans_at A n).target (move_at A n n_in)).0 in
    let P : List ℕ → Type 0 = λ found. AreColumnsFound A words found a (n + 1) in
    elim c.if-step-label.branch [
      | then-step-label b ↦
          subst P (sym b.found-is)
          (columns_more A words c.loop-number.found a n m is b.if-step-label.true (omega (arith, source, c.loop-number.auto.found, c.clear_row.auto.row, c.requires.found)) c.loop-number.invariant)
      | else-step-label b ↦ subst P (sym b.found-is) (columns_passed A words c.loop-number.found a n m is b.if-step-label.false c.loop-number.invariant)
    ]

pub returns : goal.returns
returns c =
    let A = c.args.automaton.now in
    let list = ap length c.transitions-steps.ensures.list in
    columns_all A c.args.words.now c.loop-number.found c.args.label c.loop-number.number (omega (arith, c.loop-number-test.false, list)) (omega (arith, c.loop-number.auto.number-end, list)) c.loop-number.invariant
