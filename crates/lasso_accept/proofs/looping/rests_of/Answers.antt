use Rattle.std.proofs.Common.{List, ℕ, rules}
use Rattle.auto_core.specs.Automaton.{Automaton, IsAutomaton}
use Rattle.lasso_accept.specs.Guide.{IsGuide}
use Rattle.lasso_accept.specs.Looping.{AreRests}
use Rattle.lasso_accept.proofs.LoopingLemmas.{guide_as_rests}
use Rattle.lasso_accept.proofs.looping.rests_of.Goals as goal

pub returns : goal.returns
returns c =
    let A : Automaton = c.args.automaton.now in
    let u : List ℕ = c.args.lasso.now.prefix in
    let v : List ℕ = c.args.lasso.now.turn in
    let width : ℕ = c.words_for-width.result in
    let valid : IsAutomaton A = c.states.ensures.valid in
    let any : List ℕ = c.in_ok-guide.guide.any.items in
    let flagged : List ℕ = c.in_ok-guide.guide.flagged.items in
    let g : IsGuide A u c.args.looping.now width any flagged = search rules in
    let all : AreRests A u v width any = guide_as_rests A valid u v c.args.looping.now width any flagged g c.requires.loops in
    search rules
