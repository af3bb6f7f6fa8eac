use Rattle.std.proofs.Common.{sym, subst, rules}
use Rattle.cert_value.specs.declared.types.Body.{Body}
use Rattle.cert_check.specs.Rules.{HasSizes, BodyHolds}
use Rattle.cert_check.proofs.ClosedLemmas.{yes_formed, list_formed, valid_yes_includes}
use Rattle.cert_check.proofs.ListingLemmas.{kept_list_shows}
use Rattle.cert_check.proofs.checking.check.Goals as goal

pub check_yes-requires : goal.check_yes-requires
check_yes-requires c =
    let cert = c.args.cert.now in
    record { formed = (cert.version, yes_formed cert c.in-Yes.evidence c.in-Yes.is c.requires.well_formed) }

pub check_list-requires : goal.check_list-requires
check_list-requires c =
    let cert = c.args.cert.now in
    record { formed = (cert.version, list_formed cert c.in-Listing.list c.in-Listing.is c.requires.well_formed) }

pub returns-in_ok-check_yes-in-Yes-clause-truth : goal.returns-in_ok-check_yes-in-Yes-clause-truth
returns-in_ok-check_yes-in-Yes-clause-truth c =
    let pair = c.args.pair.now in
    let cert = c.args.cert.now in
    let sizes : HasSizes pair cert = c.has_sizes.ensures.told.0 (search rules) in
    let automata = c.has_sizes.ensures.automata (search rules) in
    let hold : BodyHolds cert.mode pair cert.body = subst (λ (b : Body). BodyHolds cert.mode pair b) (sym c.in-Yes.is) c.in_ok-check_yes-in-Yes.ensures in
    valid_yes_includes pair cert c.in-Yes.evidence c.in-Yes.is c.requires.well_formed automata.0 automata.1 (sizes, hold)

pub returns-in_ok-check_list-in-Listing-clause-truth : goal.returns-in_ok-check_list-in-Listing-clause-truth
returns-in_ok-check_list-in-Listing-clause-truth c =
    let pair = c.args.pair.now in
    let cert = c.args.cert.now in
    let sizes : HasSizes pair cert = c.has_sizes.ensures.told.0 (search rules) in
    let hold : BodyHolds cert.mode pair cert.body = subst (λ (b : Body). BodyHolds cert.mode pair b) (sym c.in-Listing.is) c.in_ok-check_list-in-Listing.ensures in
    (c.in-Listing.list, c.in-Listing.is, kept_list_shows pair cert c.in-Listing.list c.in-Listing.is c.requires.well_formed (sizes, hold))
