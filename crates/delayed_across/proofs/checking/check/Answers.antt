use Rattle.std.proofs.Common.{rules}
use Rattle.delayed_game.specs.Across.{HoldsPlacePair}
use Rattle.delayed_laws.specs.Listed.{place_pairs}
use Rattle.delayed_laws.proofs.FollowLemmas.{delayed_includes}
use Rattle.delayed_across.proofs.checking.check.Goals as goal

pub returns-in-None-unanswered-clause-included : goal.returns-in-None-unanswered-clause-included
returns-in-None-unanswered-clause-included c =
    let A = c.args.first.now in
    let B = c.args.second.now in
    let X = place_pairs c.args.pairs.now in
    let starts : HoldsPlacePair X A.initial B.initial = search rules in
    delayed_includes A B X c.initial-2.ensures.valid (record { starts = starts; right = c.in-None-unanswered.ensures.none })
