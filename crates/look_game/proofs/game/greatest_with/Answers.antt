use Rattle.std.proofs.Common.{sym, ◌∙◌, rules}
use Rattle.std.proofs.lemmas.Bool.{false≢true}
use Rattle.auto_core.specs.Game.{Holds, IsGreatest}
use Rattle.look_game.proofs.RowLemmas.{bound_has_stable}
use Rattle.look_game.proofs.AskedLemmas.{has_stable_after}
use Rattle.look_game.proofs.game.greatest_with.Goals as goal

pub greatest_within-requires-clause-stable : goal.greatest_within-requires-clause-stable
greatest_within-requires-clause-stable g c =
    let M = g.S.Side.goes c.args.side.now c.args.automaton.now in
    let ok = g.S.Side.matches c.args.side.now c.args.automaton.now in
    let n = c.args.automaton.now.states in
    has_stable_after M ok c.args.look n c.in_ok-all.all c.in_ok-first.first (bound_has_stable M ok c.args.look n c.in_ok-all.all c.requires.look_from c.in_ok-all.ensures) c.in_ok-first.ensures

pub returns-else-get-clause-lacks : goal.returns-else-get-clause-lacks
returns-else-get-clause-lacks g c = λ _ T below stable held.
    let M = g.S.Side.goes c.args.side.now c.args.automaton.now in
    let ok = g.S.Side.matches c.args.side.now c.args.automaton.now in
    let n = c.args.automaton.now.states in
    let is : IsGreatest M M ok c.args.look n n c.in-Some.rel.pairs = search rules in
    let there : Holds c.in-Some.rel.pairs c.args.left c.args.right = is.has_each T below stable c.args.left c.args.right held in
    false≢true (sym c.if-get.false ∙ c.get.ensures.told.1 there)

pub returns-in-None-clause-lacks : goal.returns-in-None-clause-lacks
returns-in-None-clause-lacks g c = λ _. c.in_ok-rel.ensures.none c.in-None.is
