use Rattle.std.proofs.Common.{◌≡◌, ◌<◌, ◌+◌, List, length, true, false, inl, refl, sym, ◌∙◌, subst, rules}
use Rattle.std.proofs.lemmas.Bool.{false≢true}
use Rattle.auto_core.specs.declared.parts.Mode.TheVariants.{Finite}
use Rattle.cert_value.specs.declared.types.Element.{Element}
use Rattle.cert_check.specs.Inclusion.{no_element, pair_checks}
use Rattle.log_check.proofs.CheckLemmas.{more_of, broken_of}
use Rattle.cert_check.proofs.passing.check_alone.Goals as goal

pub returns-then-not-passes_alone : goal.returns-then-not-passes_alone
returns-then-not-passes_alone c =
    let is : c.passes_alone.result ≡ false = search rules in
    let lt : c.loop-e.e < length c.args.evidence.now.elements = subst (λ (l : List Element). c.loop-e.e < length l) c.as_slice-e-end.ensures c.loop-e-test.true in
    broken_of (pair_checks Finite c.args.first.now c.args.second.now c.args.evidence.now c.args.item) c.loop-e.e c.args.evidence.now.elements c.args.evidence.now.elements no_element
    (record { rule = 15; item = c.args.item + c.loop-e.e }) refl lt c.loop-e.invariant (inl (λ passes. false≢true (sym is ∙ c.passes_alone.ensures.1 passes), refl))

pub loop-e-preserved : goal.loop-e-preserved
loop-e-preserved c =
    let is : c.passes_alone.result ≡ true = search rules in
    let lt : c.loop-e.e < length c.args.evidence.now.elements = subst (λ (l : List Element). c.loop-e.e < length l) c.as_slice-e-end.ensures c.loop-e-test.true in
    more_of (pair_checks Finite c.args.first.now c.args.second.now c.args.evidence.now c.args.item) c.loop-e.e c.args.evidence.now.elements c.args.evidence.now.elements no_element
    refl lt c.loop-e.invariant (c.passes_alone.ensures.0 is, tt)
