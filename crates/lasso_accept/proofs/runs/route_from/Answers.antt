use Rattle.std.proofs.Common.{◌≡◌, ℕ, ◌<◌, List, sym, ◌∙◌, subst, arith}
use Rattle.auto_core.specs.Rows.{HasBit, HasCell}
use Rattle.auto_core.specs.Reach.{HasArc, HasFlaggedCycle}
use Rattle.lasso_accept.proofs.RunLemmas.{some_row_meets, row_cell, cell_row}
use Rattle.lasso_accept.proofs.runs.route_from.Goals as goal

pub returns-in-None : goal.returns-in-None
returns-in-None c = λ cycle.
    let same : c.deref_mut.result.now ≡ c.args.entered.now = c.deref_mut.ensures.value ∙ c.in_ok-marks.ensures.items in
    let P : List ℕ → Type 0 = λ ms. HasFlaggedCycle (HasArc c.args.any.now c.args.states c.args.width) (HasArc c.args.flagged.now c.args.states c.args.width) ms in
    c.in-None.ensures.none (subst P (sym same) cycle)

pub returns-in-None-first_meeting : goal.returns-in-None-first_meeting
returns-in-None-first_meeting c = λ cycle.
    let same : c.deref_mut.result.now ≡ c.args.entered.now = c.deref_mut.ensures.value ∙ c.in_ok-marks.ensures.items in
    let (at_in, (start, was, way), back) = c.in-Some.ensures.found in
    let M : List ℕ → Type 0 = λ ms. HasBit ms start in
    let marked : HasBit c.args.entered.now start = subst M same was in
    let N : List ℕ → Type 0 = λ t. (k p : ℕ) → k < c.args.states → p < c.args.states → HasBit c.args.entered.now p → HasCell t c.args.width k p → ⊥ in
    some_row_meets c.args.any.now c.args.states c.args.width c.in-Some.at c.in_ok-table.table.items c.args.entered.now c.in_ok-table.ensures
    (subst N c.deref.ensures.value c.in-None-first_meeting.ensures.none) start (c.requires.entered_below start marked) marked way

pub returns-in-None-first_meeting-2 : goal.returns-in-None-first_meeting-2
returns-in-None-first_meeting-2 c = λ cycle.
    let any = c.requires.any in
    let room = any.room in
    let (at_in, _, (next, arc, way)) = c.in-Some.ensures.found in
    let left : List ℕ = c.row_at-left.result.now in
    let marked : HasBit left next = cell_row c.args.flagged.now left c.args.width c.in-Some.at next c.row_at-left.ensures.bits (omega (arith, arc.1)) arc.2 in
    let N : List ℕ → Type 0 = λ t. (k p : ℕ) → k < c.args.states → p < c.args.states → HasBit left p → HasCell t c.args.width k p → ⊥ in
    some_row_meets c.args.any.now c.args.states c.args.width c.in-Some.at c.in_ok-table.table.items left c.in_ok-table.ensures
    (subst N c.deref-2.ensures.value c.in-None-first_meeting-2.ensures.none) next arc.1 marked way

pub returns : goal.returns
returns c =
    let left : List ℕ = c.row_at-left.result.now in
    let found = c.in-Some.ensures.found in
    let (before_in, (p, p_in, p_marked, p_cell)) = c.in-Some-first_meeting.ensures.found in
    let (back_in, (q, q_in, q_marked, q_cell)) = c.in-Some-first_meeting-2.ensures.found in
    let P : List ℕ → Type 0 = λ t. HasCell t c.args.width c.in-Some-first_meeting.before p in
    let Q : List ℕ → Type 0 = λ t. HasCell t c.args.width c.in-Some-first_meeting-2.back q in
    record {
      at_in = found.0;
      before_in = before_in;
      back_in = back_in;
      counts = c.in_ok-table.ensures;
      enters = (p, p_in, p_marked, subst P c.deref.ensures.value p_cell);
      returns = (q, q_in, row_cell c.args.flagged.now left c.args.width c.in-Some.at q c.row_at-left.ensures.bits c.row_at-left.ensures.outside q_marked, subst Q c.deref-2.ensures.value q_cell);
    }
