use Rattle.std.proofs.Common.{◌≡◌, ℕ, ◌+◌, ◌<◌, List, sym, ◌∙◌, subst, arith, inl, inr}
use Rattle.std.proofs.lemmas.Bool.{false≢true}
use Rattle.std.proofs.lemmas.Nat.{row_fits}
use Rattle.auto_core.specs.Reach.{HasArc}
use Rattle.auto_core.specs.Rows.{cell_of}
use Rattle.lasso_accept.proofs.CountdownLemmas.{HasNext, next_none, next_passed, next_more}
use Rattle.lasso_accept.proofs.countdown.write_next.Goals as goal
use Rattle.lasso_accept.proofs.countdown.write_next.Goals.{then-leads_into, else-leads_into}

pub loop-place-init : goal.loop-place-init
loop-place-init c = next_none (HasArc c.args.any.now c.args.count c.args.width) c.args.count c.args.width c.args.at c.args.table.now

pub set_cell-requires-clause-row : goal.set_cell-requires-clause-row
set_cell-requires-clause-row c =
    let len = c.loop-place.auto.table in
    omega (arith, row_fits (c.args.at + 1) c.args.width c.args.count c.args.width c.requires.at_in (omega arith), c.requires.len, len)

pub loop-place-preserved : goal.loop-place-preserved
loop-place-preserved c =
    let R = HasArc c.args.any.now c.args.count c.args.width in
    let width : ℕ = c.args.width in
    let at : ℕ = c.args.at in
    let place : ℕ = c.loop-place.place in
    let old : List ℕ = c.args.table.now in
    let now : List ℕ = c.loop-place.table in
    let table = c.requires.any in
    let room = table.room in
    let P : List ℕ → Type 0 = λ t. HasNext R c.args.count width at (place + 1) old t in
    let same : (q : ℕ) → q < c.args.count → cell_of now width at q ≡ cell_of old width at q = λ q q_in. c.loop-place.invariant.others at q (omega arith) (λ e. omega arith) in
    elim c.if-leads_into.branch [
      | then-leads_into w ↦
          let (q, arc, cell) = c.leads_into.ensures.0 w.if-leads_into.true in
          subst P (sym w.table-is)
          (next_more R c.args.count width at place old now w.set_cell.new.table room c.loop-place.invariant (q, arc, sym (same q arc.1) ∙ cell) w.set_cell.ensures.here w.set_cell.ensures.others)
      | else-leads_into w ↦
          subst P (sym w.table-is)
          (next_passed R c.args.count width at place old now c.loop-place.invariant
          (λ (q, arc, cell). false≢true (sym w.if-leads_into.false ∙ c.leads_into.ensures.1 (q, arc, same q arc.1 ∙ cell))))
    ]

pub returns-clause-here : goal.returns-clause-here
returns-clause-here c = λ p p_in.
    let here = c.loop-place.invariant.here p p_in in (
      λ h. elim (here.0 h) [ inl was ↦ inl was | inr (below, found) ↦ inr found ],
      λ h. here.1 (elim h [ inl was ↦ inl was | inr found ↦ inr (omega arith, found) ]),
    )

pub returns-clause-others : goal.returns-clause-others
returns-clause-others c = c.loop-place.invariant.others
