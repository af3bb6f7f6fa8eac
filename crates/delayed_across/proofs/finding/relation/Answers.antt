use Rattle.std.proofs.Common.{ℕ, List, subst}
use Rattle.std.proofs.lemmas.Result.{IfOk-weaker}
use Rattle.delayed_laws.specs.Greatest.{IsGreatestDelayedAcross}
use Rattle.delayed_laws.specs.Listed.{place_pairs, AreDelayedAscending}
use Rattle.delayed_across.specs.Listed.{ListsBefore}
use Rattle.delayed_across.proofs.GreatestLemmas.{IsFull, full_board, listed_greatest}
use Rattle.delayed_across.proofs.finding.relation.Goals as goal

pub returns-clause-greatest : goal.returns-clause-greatest
returns-clause-greatest c =
    let A = c.args.first.now in
    let B = c.args.second.now in
    let full : IsFull A B c.in_ok-board.board = full_board A B c.in_ok-board.board c.states.result c.states-2.result c.states.ensures.count c.states-2.ensures.count c.in_ok-board.ensures.places c.in_ok-board.ensures.states c.in_ok-board.ensures.pairs in
    let ranks : List ℕ = c.in_ok-ranks.ranks.items in
    let S = c.play.new.board in
    IfOk-weaker c.pairs_of.result (λ v. ListsBefore S c.deref.result.now S.places 0 v.items) (λ v. IsGreatestDelayedAcross A B (place_pairs v.items)) (λ v listed.
    listed_greatest A B c.states.ensures.valid c.states-2.ensures.valid c.in_ok-board.board S ranks full c.in_ok-ranks.ensures v.items
    (subst (λ (l : List ℕ). ListsBefore S l S.places 0 v.items) c.deref.ensures.value listed)) c.pairs_of.ensures

pub returns-clause-in_order : goal.returns-clause-in_order
returns-clause-in_order c =
    let S = c.play.new.board in
    IfOk-weaker c.pairs_of.result (λ v. ListsBefore S c.deref.result.now S.places 0 v.items) (λ v. AreDelayedAscending v.items) (λ v listed. listed.in_order) c.pairs_of.ensures
