use Rattle.std.proofs.Common.{◌+◌}
use Rattle.cert_check.specs.Inclusion.{element_checks}
use Rattle.log_check.proofs.CheckLemmas.{more_of, broken_of}
use Rattle.cert_check.proofs.elements.fill.Goals as goal

pub returns-in-Some-clause-tells : goal.returns-in-Some-clause-tells
returns-in-Some-clause-tells c =
    broken_of (element_checks c.args.first.now c.args.elements.now c.args.item) c.loop-e.e c.args.elements.now c.as_slice-items.result.now _
    (record { rule = c.in-Some.rule; item = c.args.item + c.loop-e.e }) c.as_slice-items.ensures c.loop-e-test.true c.loop-e.invariant.0 (c.in-Some.ensures c.args.item)

pub loop-e-preserved : goal.loop-e-preserved
loop-e-preserved c = (
  more_of (element_checks c.args.first.now c.args.elements.now c.args.item) c.loop-e.e c.args.elements.now c.as_slice-items.result.now _
      c.as_slice-items.ensures c.loop-e-test.true c.loop-e.invariant.0 (c.in-None.ensures c.args.item),
  c.in_ok-add_element.ensures,
)

pub add_element-requires-clause-names : goal.add_element-requires-clause-names
add_element-requires-clause-names c = (c.in-None.ensures 0).0.0

pub add_element-requires-clause-earlier : goal.add_element-requires-clause-earlier
add_element-requires-clause-earlier c = (c.in-None.ensures 0).1.0

pub add_element-requires-clause-leaves : goal.add_element-requires-clause-leaves
add_element-requires-clause-leaves c = (c.in-None.ensures 0).1.1.0
