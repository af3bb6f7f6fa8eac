use Rattle.std.proofs.Common.{◌≡◌, sym, ◌∙◌, subst}
use Rattle.auto_core.specs.Delayed.{IsGreatestDelayed}
use Rattle.delayed_sim.specs.Rankings.{Ranking}
use Rattle.delayed_sim.specs.Rounds.{HasEachTriple, AreAcceptingRanked}
use Rattle.delayed_sim.proofs.LevelLemmas.{each_same, answered_same, greatest_of}
use Rattle.delayed_sim.proofs.rounds.settle_and_rank.Goals as goal

pub drop_unranked-requires-clause-each : goal.drop_unranked-requires-clause-each
drop_unranked-requires-clause-each c =
    let A = c.args.automaton.now in
    let settled = c.settle.new.delayed in
    let ranked = c.rank_all.new.delayed in
    let same = c.rank_all.ensures.triples in
    subst (λ n. HasEachTriple A n ranked.triples) (sym same.letters) (each_same A settled.letters settled ranked same c.settle.ensures.each)

pub returns-clause-greatest : goal.returns-clause-greatest
returns-clause-greatest c = λ no.
    let A = c.args.automaton.now in
    let settled = c.settle.new.delayed in
    let ranked = c.rank_all.new.delayed in
    let same = c.rank_all.ensures.triples in
    let still : c.drop_unranked.new.delayed ≡ ranked = c.drop_unranked.ensures.thins.same no in
    subst (λ (R : Ranking). IsGreatestDelayed A R.letters R.triples) (sym still) (greatest_of A ranked same.valid
    (same.states ∙ c.settle.ensures.shortened.states ∙ c.requires.equal)
    (same.labels ∙ c.settle.ensures.shortened.labels ∙ c.requires.same)
    (answered_same A settled ranked same c.settle.ensures.answered)
    c.rank_all.ensures.right
    (subst (λ (R : Ranking). AreAcceptingRanked A R.triples) still (c.drop_unranked.ensures.ranked no))
    (subst (λ n. HasEachTriple A n ranked.triples) (sym same.letters) (each_same A settled.letters settled ranked same c.settle.ensures.each))
    c.rank_all.ensures.least)
