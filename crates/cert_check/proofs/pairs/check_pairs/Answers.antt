use Rattle.std.proofs.Common.{◌≡◌, ◌<◌, ◌+◌, List, length, true, false, inl, refl, sym, ◌∙◌, subst, rules}
use Rattle.std.proofs.lemmas.Bool.{false≢true}
use Rattle.auto_core.specs.declared.parts.Mode.TheVariants.{Buchi}
use Rattle.cert_value.specs.declared.types.Element.{Element}
use Rattle.cert_check.specs.Inclusion.{no_element, pair_checks}
use Rattle.cert_check.specs.Turns.{AreTests}
use Rattle.log_check.proofs.CheckLemmas.{more_of, broken_of}
use Rattle.cert_check.proofs.pairs.check_pairs.Goals as goal

pub returns-then-not-branch : goal.returns-then-not-branch
returns-then-not-branch c =
    let is : c.in_ok-passes_with_all.field-0 ≡ false = search rules in
    let lt : c.loop-e.e < length c.args.evidence.now.elements = subst (λ (l : List Element). c.loop-e.e < length l) c.as_slice-e-end.ensures c.loop-e-test.true in
    broken_of (pair_checks Buchi c.args.first.now c.args.second.now c.args.evidence.now c.args.item) c.loop-e.e c.args.evidence.now.elements c.args.evidence.now.elements no_element
    (record { rule = 15; item = c.args.item + c.loop-e.e }) refl lt c.loop-e.invariant.hold (inl (λ passes. false≢true (sym is ∙ c.in_ok-passes_with_all.ensures.told.1 passes), refl))

pub loop-e-preserved : goal.loop-e-preserved
loop-e-preserved c =
    let is : c.in_ok-passes_with_all.field-0 ≡ true = search rules in
    let lt : c.loop-e.e < length c.args.evidence.now.elements = subst (λ (l : List Element). c.loop-e.e < length l) c.as_slice-e-end.ensures c.loop-e-test.true in
    record {
      hold = more_of (pair_checks Buchi c.args.first.now c.args.second.now c.args.evidence.now c.args.item) c.loop-e.e c.args.evidence.now.elements c.args.evidence.now.elements no_element
          refl lt c.loop-e.invariant.hold (c.in_ok-passes_with_all.ensures.told.0 is, tt);
      tests = subst (λ l. AreTests c.args.second.now c.args.supers.now.graphs.graphs.items l c.passes_with_all.new.tests) c.deref.ensures.value (c.in_ok-passes_with_all.ensures.tests is);
    }
