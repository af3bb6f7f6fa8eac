use Rattle.std.proofs.lemmas.Option.{IfSome_then}
use Rattle.auto_core.specs.Game.{Holds}
use Rattle.prune_pairs.proofs.FindLemmas.{letter_read, least_out_of, none_out_of, if_none_then}
use Rattle.prune_pairs.proofs.finding.first_successor.Goals as goal

pub returns-clause-some : goal.returns-clause-some
returns-clause-some c =
    let A = c.args.automaton.now in
    let letter = letter_read A c.transitions.result.now c.args.t c.transitions.ensures.list in
    IfSome_then c.first_within.result c.first_within.ensures.some
    (λ u h. least_out_of A c.args.pair (Holds c.args.back.now.pairs) (Holds c.args.ahead.now.pairs) c.args.t c.args.source _ _ _ u letter c.successors-span.ensures.range h)

pub returns-clause-none : goal.returns-clause-none
returns-clause-none c =
    let A = c.args.automaton.now in
    let letter = letter_read A c.transitions.result.now c.args.t c.transitions.ensures.list in
    if_none_then c.first_within.result c.first_within.ensures.none
    (λ h. none_out_of A c.args.pair (Holds c.args.back.now.pairs) (Holds c.args.ahead.now.pairs) c.args.t c.args.source _ _ _ letter c.successors-span.ensures.range h)
