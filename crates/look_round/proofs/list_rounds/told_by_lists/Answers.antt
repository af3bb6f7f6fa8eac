use Rattle.std.proofs.Common.{set}
use Rattle.auto_core.specs.Game.{Holds}
use Rattle.look_round.specs.Listed.{IsListedWithin}
use Rattle.look_round.proofs.RoundLemmas.{round_from_one}
use Rattle.look_round.proofs.ListedLemmas.{first_listed}
use Rattle.look_round.proofs.list_rounds.told_by_lists.Goals as goal

pub returns-clause-holds : goal.returns-clause-holds
returns-clause-holds g c = λ e.
    let M = g.S.Side.goes c.args.side.now c.args.automaton.now in
    let ok = g.S.Side.matches c.args.side.now c.args.automaton.now in
    let listed = c.args.listed.now in
    let q = c.args.q in
    (round_from_one M ok (Holds c.args.rel.now.pairs) c.args.look c.args.p q (IsListedWithin (set listed 0 q) 0 1) (first_listed listed q c.requires.listed)).0 (c.told_from.ensures.holds e)

pub returns-clause-fails : goal.returns-clause-fails
returns-clause-fails g c = λ e h.
    let M = g.S.Side.goes c.args.side.now c.args.automaton.now in
    let ok = g.S.Side.matches c.args.side.now c.args.automaton.now in
    let listed = c.args.listed.now in
    let q = c.args.q in
    c.told_from.ensures.fails e ((round_from_one M ok (Holds c.args.rel.now.pairs) c.args.look c.args.p q (IsListedWithin (set listed 0 q) 0 1) (first_listed listed q c.requires.listed)).1 h)
