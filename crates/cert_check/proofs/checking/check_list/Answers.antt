use Rattle.std.proofs.Common.{subst, arith}
use Rattle.log_check.specs.Checks.{Tells}
use Rattle.cert_check.specs.Listing.{listing_checks}
use Rattle.cert_check.proofs.ClosedLemmas.{list_parts, log_parts}
use Rattle.cert_check.proofs.InclusionLemmas.{after_logs}
use Rattle.cert_check.proofs.checking.check_list.Goals as goal

pub ends_of-requires : goal.ends_of-requires
ends_of-requires c = record { formed = (c.requires.formed.0, (list_parts c.requires.formed.0 c.args.mode c.args.list.now c.requires.formed.1).logs) }

pub next_item-item-requires : goal.next_item-item-requires
next_item-item-requires c = record { formed = (c.requires.formed.0, (list_parts c.requires.formed.0 c.args.mode c.args.list.now c.requires.formed.1).logs) }

pub check_listing-requires-clause-few : goal.check_listing-requires-clause-few
check_listing-requires-clause-few c = (list_parts c.requires.formed.0 c.args.mode c.args.list.now c.requires.formed.1).few

pub check_listing-requires-clause-few_items : goal.check_listing-requires-clause-few_items
check_listing-requires-clause-few_items c =
    let L = c.args.list.now in
    let p = list_parts c.requires.formed.0 c.args.mode L c.requires.formed.1 in
    let logs = log_parts c.requires.formed.0 c.args.mode L.first L.second p.logs in
    omega (arith, p.few, logs.few_first, logs.few_second, c.next_item-item.ensures)

pub check_listing-requires-clause-begun : goal.check_listing-requires-clause-begun
check_listing-requires-clause-begun c = (list_parts c.requires.formed.0 c.args.mode c.args.list.now c.requires.formed.1).origins

pub returns : goal.returns
returns c =
    let L = c.args.list.now in
    let ends = c.in_ok-ends.ends in
    after_logs c.args.mode c.args.pair.now L.first L.second (listing_checks c.args.mode L) ends c.check_listing.result c.in_ok-ends.ensures
    (subst (λ n. Tells (listing_checks c.args.mode L n ends.first ends.second) c.check_listing.result) c.next_item-item.ensures c.check_listing.ensures)
