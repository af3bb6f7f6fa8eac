use Rattle.std.proofs.Common.{◌∷◌, rules}
use Rattle.log_check.specs.Checks.{rule_at}
use Rattle.log_check.specs.Parts.{IsLook}
use Rattle.cross_sim.specs.Rules.{HasCrossSizes, AreRowsInRange, cross_pair_checks}
use Rattle.cross_sim.proofs.CheckLemmas.{later_tells, included_of}
use Rattle.cross_sim.proofs.check.check_cross.Goals as goal

pub returns-clause-included : goal.returns-clause-included
returns-clause-included c =
    let pair = c.args.pair.now in
    let cross = c.args.cross.now in
    let r = c.check_pairs.result in
    let sizes : HasCrossSizes pair cross = c.has_sizes.ensures.told.0 (search rules) in
    let automata = c.has_sizes.ensures.automata (search rules) in
    let look : IsLook cross.look = c.is_look.ensures.0 (search rules) in
    let below : AreRowsInRange pair.first.states pair.second.states cross.rows = search rules in
    let pairs = cross_pair_checks pair cross in
    let third = rule_at 1 2 (AreRowsInRange pair.first.states pair.second.states cross.rows) ∷ pairs in
    included_of pair cross r automata.1
    (later_tells (HasCrossSizes pair cross) 1 0 (rule_at 1 1 (IsLook cross.look) ∷ third) r sizes
    (later_tells (IsLook cross.look) 1 1 third r look
    (later_tells (AreRowsInRange pair.first.states pair.second.states cross.rows) 1 2 pairs r below c.check_pairs.ensures)))
