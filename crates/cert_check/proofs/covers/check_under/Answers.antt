use Rattle.std.proofs.Common.{◌≡◌, ◌+◌, true, false, inl, refl, sym, ◌∙◌, rules}
use Rattle.std.proofs.lemmas.Bool.{false≢true}
use Rattle.cert_check.specs.Inclusion.{under_checks}
use Rattle.log_check.proofs.CheckLemmas.{more_of, broken_of}
use Rattle.cert_check.proofs.covers.check_under.Goals as goal

pub returns-then-not-is_under-clause-tells : goal.returns-then-not-is_under-clause-tells
returns-then-not-is_under-clause-tells c =
    let is : c.is_under.result ≡ false = search rules in
    broken_of (under_checks c.args.mode c.args.first.now c.args.second.now c.args.evidence.now c.args.item) c.loop-e.e c.args.evidence.now.elements c.as_slice-elements.result.now _
    (record { rule = 12; item = c.args.item + c.loop-e.e }) c.as_slice-elements.ensures c.loop-e-test.true c.loop-e.invariant.hold
    (inl (λ under. false≢true (sym is ∙ c.is_under.ensures.told.1 under), refl))

pub loop-e-preserved : goal.loop-e-preserved
loop-e-preserved c =
    let is : c.is_under.result ≡ true = search rules in
    record {
      hold = more_of (under_checks c.args.mode c.args.first.now c.args.second.now c.args.evidence.now c.args.item) c.loop-e.e c.args.evidence.now.elements c.as_slice-elements.result.now _
          c.as_slice-elements.ensures c.loop-e-test.true c.loop-e.invariant.hold (c.is_under.ensures.told.0 is, tt);
      order = c.is_under.ensures.order;
    }
