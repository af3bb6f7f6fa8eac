use Rattle.std.proofs.Common.{◌≤◌, ◌+◌, sym, subst, arith}
use Rattle.std.proofs.lemmas.Bool.{iff_false}
use Rattle.bit_rel.specs.Relation.{Relation}
use Rattle.bit_rel.proofs.StrictLemmas.{HasStrictUpto, strict_added, strict_passed, strict_row}
use Rattle.bit_rel.proofs.relation.Rel.add_strict.Goals as goal
use Rattle.bit_rel.proofs.relation.Rel.add_strict.Goals.{then-strictly, else-strictly}

pub loop-q-preserved : goal.loop-q-preserved
loop-q-preserved c =
    let whole = c.args.self.now in
    let old = c.args.part.now in
    let now = c.loop-q.part in
    let P : Relation → Type 0 = λ R. HasStrictUpto whole old R c.args.p (c.loop-q.q + 1) in
    elim c.if-strictly.branch [
      | then-strictly w ↦ subst P (sym w.part-is) (strict_added whole old now w.set.new.self c.args.p c.loop-q.q c.loop-q.invariant (c.strictly.ensures.0 w.if-strictly.true) w.set.ensures.pairs)
      | else-strictly w ↦ subst P (sym w.part-is) (strict_passed whole old now c.args.p c.loop-q.q c.loop-q.invariant (iff_false c.strictly.ensures w.if-strictly.false))
    ]

pub returns-clause-pairs : goal.returns-clause-pairs
returns-clause-pairs c =
    let all : c.args.self.now.size ≤ c.loop-q.q = omega (arith, c.size-q-end.ensures.count) in
    strict_row c.args.self.now c.args.part.now c.loop-q.part c.args.p c.loop-q.q c.size-q-end.ensures.valid all c.loop-q.invariant
