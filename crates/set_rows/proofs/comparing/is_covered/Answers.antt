use Rattle.std.proofs.Common.{rules}
use Rattle.auto_core.specs.Rows.{HasBit}
use Rattle.set_rows.proofs.comparing.is_covered.Goals as goal

pub returns-else-not-has_bit : goal.returns-else-not-has_bit
returns-else-not-has_bit c =
    let has : HasBit c.args.row.now c.args.state = search rules in (
      λ told. λ has_it. let (r, related, member) = c.meets.ensures.0 told in (r, member, (c.row.ensures.bits r).0 related),
      λ covered. let (r, member, related) = covered has in c.meets.ensures.1 (r, (c.row.ensures.bits r).1 related, member),
    )
