use Rattle.std.proofs.Common.{◌≡◌, Some, None, rules}
use Rattle.std.proofs.lemmas.Map.Text.{btree_map_updates_str}
use Rattle.cert_check.specs.Firsts.{known_by}
use Rattle.cert_check.proofs.FirstLemmas.{known_now}
use Rattle.cert_check.proofs.firsts.known_number.Goals as goal

pub returns-in-Ok : goal.returns-in-Ok
returns-in-Ok c =
    let none : known_by c.args.known.now c.args.block.now ≡ None = search rules in
    known_now c.args.known.now c.insert.new.self c.args.block.now c.args.number none
    (btree_map_updates_str c.args.block.now c.args.known.now c.insert.new.self (Some c.args.number) c.in-Ok.ensures.updates)
