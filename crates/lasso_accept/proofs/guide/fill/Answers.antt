use Rattle.std.proofs.Common.{◌≡◌, ℕ, ◌-◌, ◌+◌, ◌*◌, ◌<◌, List, length, sym, subst, arith, rules}
use Rattle.auto_core.specs.Rows.{bit_of, cell_of}
use Rattle.lasso_accept.proofs.GuideLemmas.{IsFilled, filled_none, filled_more, filled_all}
use Rattle.lasso_accept.proofs.guide.fill.Goals as goal

pub loop-at-init : goal.loop-at-init
loop-at-init c = filled_none c.args.automaton.now c.args.word.now c.args.width c.args.any.now c.args.flagged.now c.requires.any_clear c.requires.flagged_clear

pub loop-at-preserved : goal.loop-at-preserved
loop-at-preserved c =
    let A = c.args.automaton.now in
    let w : List ℕ = c.args.word.now in
    let width : ℕ = c.args.width in
    let at : ℕ = c.loop-at.at - 1 in
    let next : at + 1 ≡ c.loop-at.at = search rules in
    let at_in : at < length w = search rules in
    let marked : List ℕ = c.copy_from_slice.new.self in
    let plain : List ℕ = c.copy_from_slice-in-loop-at.new.self in
    let P : ℕ → Type 0 = λ k. IsFilled A w width k c.args.any.now c.args.flagged.now c.loop-at.any c.loop-at.flagged in
    let B : List ℕ → Type 0 = λ xs. (q : ℕ) → q < width * 64 → bit_of xs q ≡ cell_of c.loop-at.any width (at + 1) q in
    let D : List ℕ → Type 0 = λ xs. (q : ℕ) → q < width * 64 → bit_of xs q ≡ cell_of c.loop-at.flagged width (at + 1) q in
    filled_more A c.requires.valid w width at c.args.any.now c.args.flagged.now c.loop-at.any c.loop-at.flagged c.write_row.new.table c.write_row-in-loop-at.new.table marked plain
    c.requires.room at_in (subst P (sym next) c.loop-at.invariant)
    (subst B (sym c.copy_from_slice.ensures.after) c.row_at.ensures.bits)
    (subst D (sym c.copy_from_slice-in-loop-at.ensures.after) c.row_at-in-loop-at.ensures.bits)
    c.write_row.ensures.here c.write_row.ensures.others c.write_row-in-loop-at.ensures.here c.write_row-in-loop-at.ensures.others

pub returns : goal.returns
returns c = λ target ends.
    let over : c.loop-at.at ≡ 0 = omega arith in
    let P : ℕ → Type 0 = λ k. IsFilled c.args.automaton.now c.args.word.now c.args.width k c.args.any.now c.args.flagged.now c.loop-at.any c.loop-at.flagged in
    filled_all c.args.automaton.now c.args.word.now target c.args.width c.args.any.now c.args.flagged.now c.loop-at.any c.loop-at.flagged c.requires.room
    (search rules) (search rules) (subst P over c.loop-at.invariant) c.requires.none ends
