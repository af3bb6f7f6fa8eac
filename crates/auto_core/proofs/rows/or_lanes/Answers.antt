use Rattle.std.proofs.Common.{rules}
use Rattle.auto_core.proofs.LaneLemmas.{lanes_ored, lanes_left}
use Rattle.auto_core.proofs.rows.or_lanes.Goals as goal

pub lanes-preserved : goal.lanes-preserved
lanes-preserved c = record {
  most = search rules;
  first = lanes_ored c.lanes.at c.lanes.into c.args.from.now (search rules) (search rules) c.args.into.now c.lanes.invariant.first c.lanes.invariant.rest;
  rest = lanes_left c.lanes.at c.lanes.into c.args.from.now (search rules) (search rules) c.args.into.now c.lanes.invariant.rest;
}
