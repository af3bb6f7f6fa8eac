use Rattle.std.proofs.Common.{◌≡◌, length, sym, ap, ◌∙◌}
use Rattle.std.proofs.lemmas.Result.{err_from_is_err_and}
use Rattle.cert_check.specs.Listing.{as_elements}
use Rattle.cert_check.specs.declared.elements.Supers.{Supers}
use Rattle.cert_check.proofs.ListingLemmas.{live_fit, live_count, fault_in_elements, count_broken, new_last}
use Rattle.cert_check.proofs.listing.check_listing.Goals as goal

pub checked_elements-requires-clause-begun : goal.checked_elements-requires-clause-begun
checked_elements-requires-clause-begun c =
    live_fit c.args.mode c.args.list.now.elements c.in_ok-elements.elements (c.in_ok-elements.ensures ∙ ap as_elements c.as_slice.ensures) c.requires.begun

pub returns-in_err-supers : goal.returns-in_err-supers
returns-in_err-supers c =
    let is : c.in_ok-elements.elements ≡ as_elements c.args.list.now.elements = c.in_ok-elements.ensures ∙ ap as_elements c.as_slice.ensures in
    let p = err_from_is_err_and c.from_residual-in_err-supers.result c.from_residual-in_err-supers.ensures.1 in
    let told = fault_in_elements c.args.mode c.args.item c.args.first.now c.args.second.now c.args.list.now c.in_ok-elements.elements is Supers c.in_err-supers.field-0.0 c.in_err-supers.ensures.tells in
    rw (p.1, p.2) told

pub returns-then-as_slice-list : goal.returns-then-as_slice-list
returns-then-as_slice-list c =
    let is : c.in_ok-elements.elements ≡ as_elements c.args.list.now.elements = c.in_ok-elements.ensures ∙ ap as_elements c.as_slice.ensures in
    let size : length c.as_slice-2.result.now ≡ length c.args.list.now.elements = ap length c.as_slice-2.ensures ∙ ap length is ∙ live_count c.args.list.now.elements in
    count_broken c.args.mode c.args.item c.args.first.now c.args.second.now c.args.list.now c.in_ok-elements.elements is c.in_ok-supers.ensures.tells
    (λ count. c.if-as_slice-list.true (size ∙ count))

pub returns : goal.returns
returns c =
    let is : c.in_ok-elements.elements ≡ as_elements c.args.list.now.elements = c.in_ok-elements.ensures ∙ ap as_elements c.as_slice.ensures in
    let size : length c.as_slice-2.result.now ≡ length c.args.list.now.elements = ap length c.as_slice-2.ensures ∙ ap length is ∙ live_count c.args.list.now.elements in
    new_last c.args.mode c.args.item c.args.first.now c.args.second.now c.args.list.now c.in_ok-elements.elements is c.check_differences.result c.in_ok-supers.ensures.tells
    (sym size ∙ c.if-as_slice-list.false) c.check_differences.ensures
