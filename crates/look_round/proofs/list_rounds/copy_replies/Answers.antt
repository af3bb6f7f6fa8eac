use Rattle.std.proofs.Common.{ℕ, ◌<◌, List, All, Contains, sym, subst, arith}
use Rattle.look_round.specs.Replies.{IsReply}
use Rattle.look_round.specs.Listed.{Lists}
use Rattle.look_round.proofs.ListedLemmas.{lists_same}
use Rattle.look_round.proofs.list_rounds.copy_replies.Goals as goal

pub list-requires-clause-there : goal.list-requires-clause-there
list-requires-clause-there g c =
    let has = c.has.ensures c.if-has.true in
    c.requires.lists.there c.args.step.label c.args.step.to c.args.q has.0 c.requires.step c.requires.state has.1

pub write_list-requires-clause-below : goal.write_list-requires-clause-below
write_list-requires-clause-below g c =
    let has = c.has.ensures c.if-has.true in
    let each = c.requires.lists.each c.args.step.label c.args.step.to c.args.q has.0 c.requires.step c.requires.state has.1 in
    let below = subst (λ (l : List ℕ). All (λ r. r < c.args.automaton.now.states) l) (sym c.list.ensures) each.0 in
    λ k d k_in. let lt = below k d k_in in omega (arith, c.states.ensures.count)

pub returns-then-has : goal.returns-then-has
returns-then-has g c =
    let M = g.S.Side.goes c.args.side.now c.args.automaton.now in
    let ok = g.S.Side.matches c.args.side.now c.args.automaton.now in
    let has = c.has.ensures c.if-has.true in
    let each = c.requires.lists.each c.args.step.label c.args.step.to c.args.q has.0 c.requires.step c.requires.state has.1 in
    let wrote = subst (λ n. Lists c.args.listed.now c.write_list.new.listed c.args.from c.write_list.result n (Contains c.list.result.now)) c.states.ensures.count c.write_list.ensures in
    lists_same c.args.listed.now c.write_list.new.listed c.args.from c.write_list.result c.args.automaton.now.states (Contains c.list.result.now) (IsReply M ok c.args.step.label c.args.step.to c.args.q) wrote
    (λ room r. (
      λ there. (each.1 r).0 (subst (λ (l : List ℕ). Contains l r) c.list.ensures there),
      λ reply. subst (λ (l : List ℕ). Contains l r) (sym c.list.ensures) ((each.1 r).1 reply),
    ))
