use Rattle.std.proofs.Common.{◌≡◌, rules, arith, length, ap}
use Rattle.std.proofs.lemmas.List.{length-map}
use Rattle.auto_core.specs.Build.{sources_of, targets_at, target_of, AreArrivals}
use Rattle.auto_core.proofs.TableLemmas.{sources_rise, targets_rise}
use Rattle.auto_core.proofs.automaton.Auto.stored.Goals as goal

pub starts_of-requires-clause-rising : goal.starts_of-requires-clause-rising
starts_of-requires-clause-rising c =
    let is : c.deref-3.result.now ≡ sources_of c.args.transitions.items = search rules in
    rw is (sources_rise c.args.transitions.items c.requires.in_order)

pub starts_of-requires-2-clause-rising : goal.starts_of-requires-2-clause-rising
starts_of-requires-2-clause-rising c =
    let ns = c.in_ok-incoming.incoming.items in
    let is : c.deref-7.result.now ≡ targets_at c.args.transitions.items ns = search rules in
    let a : AreArrivals c.args.transitions.items ns = search rules in
    rw is (targets_rise c.args.transitions.items ns a)

pub starts_of-requires-2-clause-few : goal.starts_of-requires-2-clause-few
starts_of-requires-2-clause-few c =
    let ns = c.in_ok-incoming.incoming.items in
    let is : c.deref-7.result.now ≡ targets_at c.args.transitions.items ns = search rules in
    let a : AreArrivals c.args.transitions.items ns = search rules in
    omega (arith, ap length is, length-map ns (target_of c.args.transitions.items), a.len, c.requires.few)
