use Rattle.std.proofs.Common.{ℕ, ◌+◌, ◌<◌, ◌↔◌, List, sym, subst, ◌∙◌, arith}
use Rattle.std.proofs.lemmas.Bool.{false≢true}
use Rattle.auto_core.specs.Game.{Holds}
use Rattle.auto_core.specs.Rows.{HasBit}
use Rattle.set_rows.specs.Sets.{IsBelow}
use Rattle.set_rows.proofs.BitLemmas.{bit_set}
use Rattle.set_rows.proofs.SetLemmas.{tested_more, tested_over, inside_below}
use Rattle.set_rows.proofs.comparing.write_below.Goals as goal
use Rattle.set_rows.proofs.comparing.write_below.Goals.{then-meets, else-meets}

pub loop-state-preserved : goal.loop-state-preserved
loop-state-preserved c =
    let at : ℕ = c.loop-state.state in
    let old : List ℕ = c.loop-state.out in
    let P : ℕ → Type 0 = IsBelow (Holds c.args.order.now.pairs) c.args.row.now in
    let Now : List ℕ → Type 0 = λ l. (q : ℕ) → HasBit l q ↔ ((q < at + 1) × P q) in
    elim c.if-meets.branch [
      | then-meets w ↦
          let (r, related, member) = c.meets.ensures.0 w.if-meets.true in
          subst Now (sym w.out-is) (tested_more P old w.set_bit.new.row at (r, member, (c.row.ensures.bits r).0 related) c.loop-state.invariant
          (bit_set old w.set_bit.new.row at w.set_bit.ensures.here w.set_bit.ensures.others))
      | else-meets w ↦
          subst Now (sym w.out-is) (tested_over P old at
          (λ (r, member, holds). false≢true (sym w.if-meets.false ∙ c.meets.ensures.1 (r, (c.row.ensures.bits r).1 holds, member))) c.loop-state.invariant)
    ]

pub returns-clause-members : goal.returns-clause-members
returns-clause-members c = λ q. (
  λ has. ((c.loop-state.invariant q).0 has).1,
  λ (r, member, holds).
      let range = c.size-state-end.ensures.valid.in_range q r holds in
      (c.loop-state.invariant q).1 (omega arith, (r, member, holds)),
)

pub returns-clause-covering : goal.returns-clause-covering
returns-clause-covering c = λ other. inside_below (Holds c.args.order.now.pairs) c.args.row.now c.loop-state.out other (returns-clause-members c)
