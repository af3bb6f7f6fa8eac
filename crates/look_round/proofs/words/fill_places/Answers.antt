use Rattle.std.proofs.Common.{ℕ, List, sym, subst, arith}
use Rattle.look_round.proofs.PlaceLemmas.{IsFilledUpto, filled_none, filled_more}
use Rattle.look_round.proofs.words.fill_places.Goals as goal
use Rattle.look_round.proofs.words.fill_places.Goals.{then-has_turn, else-has_turn}

pub loop-at-init : goal.loop-at-init
loop-at-init c = filled_none c.args.states c.clear_row.new.row c.args.columns.now c.args.width c.args.count c.clear_row.ensures

pub loop-at-preserved : goal.loop-at-preserved
loop-at-preserved c =
    let n = c.args.states in
    let h = c.loop-at.invariant in
    let width = c.requires.width in
    let full = c.if-used-eq-PLACES.false in
    let few = h.few in
    let P : List ℕ → ℕ → Type 0 = λ t u. IsFilledUpto n t u c.args.columns.now c.args.width c.args.count in
    elim c.if-has_turn.branch [
      | then-has_turn w ↦
          subst (λ t. P t c.if-has_turn.used) (sym w.places-is)
          (subst (λ u. P w.mark_down.new.table u) (sym w.used-is)
          (filled_more n c.loop-at.places w.mark_down.new.table c.args.columns.now c.row_at-column.result.now c.args.width c.args.count c.loop-at.used c.loop-at.at (omega arith) h c.loop-at-test.true (omega arith) c.row_at-column.ensures.bits
          w.mark_down.ensures.here w.mark_down.ensures.others))
      | else-has_turn w ↦ subst (λ t. P t c.if-has_turn.used) (sym w.places-is) (subst (λ u. P c.loop-at.places u) (sym w.used-is) h)
    ]

pub returns-clause-places : goal.returns-clause-places
returns-clause-places c = c.loop-at.invariant.filled

pub returns-clause-used : goal.returns-clause-used
returns-clause-used c = c.loop-at.invariant.few
