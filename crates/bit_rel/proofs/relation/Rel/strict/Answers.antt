use Rattle.std.proofs.Common.{◌≤◌, arith}
use Rattle.bit_rel.proofs.StrictLemmas.{strict_more}
use Rattle.bit_rel.proofs.relation.Rel.strict.Goals as goal

pub loop-p-preserved : goal.loop-p-preserved
loop-p-preserved c =
    strict_more c.args.self.now c.loop-p.part c.add_strict.new.part c.loop-p.p c.loop-p.invariant c.add_strict.ensures.size c.add_strict.ensures.pairs

pub returns : goal.returns
returns c =
    let all : c.args.self.now.size ≤ c.loop-p.p = omega (arith, c.size-p-end.ensures.count) in
    record {
      size = c.loop-p.invariant.0;
      pairs = λ p q. (
        λ h. ((c.loop-p.invariant.1 p q).0 h).1,
        λ is.
            let below = c.size-p-end.ensures.valid.in_range p q is.0 in
            let lt = below.0 in
            (c.loop-p.invariant.1 p q).1 (omega arith, is),
      );
    }
