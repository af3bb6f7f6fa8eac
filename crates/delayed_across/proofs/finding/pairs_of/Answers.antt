use Rattle.std.proofs.Common.{◌≡◌, [], sym, subst, arith}
use Rattle.delayed_across.specs.Listed.{ListsBefore}
use Rattle.delayed_across.proofs.ListLemmas.{listed_none}
use Rattle.delayed_across.proofs.finding.pairs_of.Goals as goal

pub loop-left-init : goal.loop-left-init
loop-left-init c =
    let none : c.in_ok-pairs.pairs.items ≡ [] = c.in_ok-pairs.ensures.items in
    subst (λ l. ListsBefore c.args.board.now c.args.ranks.now 0 0 l) (sym none) (listed_none c.args.board.now c.args.ranks.now)

pub loop-left-preserved : goal.loop-left-preserved
loop-left-preserved c = c.in_ok-push_row.ensures

pub returns : goal.returns
returns c =
    let all : c.loop-left.left ≡ c.args.board.now.places = omega (arith, c.loop-left-test.false, c.loop-left.auto.left-end, c.places-left-end.ensures.count) in
    subst (λ i. ListsBefore c.args.board.now c.args.ranks.now i 0 c.loop-left.pairs.items) all c.loop-left.invariant
