use Rattle.std.proofs.Common.{◌≡◌, ◌+◌, ◌*◌, [], ◌∷◌, ◌++◌, length, sym, ap, ◌∙◌, subst, arith}
use Rattle.look_round.specs.ReplyLists.{AreListedUpto}
use Rattle.look_round.proofs.ReplyListLemmas.{one_more_list}
use Rattle.look_round.proofs.listing.add_lists.Goals as goal

pub loop-i-preserved : goal.loop-i-preserved
loop-i-preserved g c =
    let M = g.S.Side.goes c.args.side.now c.args.automaton.now in
    let ok = g.S.Side.matches c.args.side.now c.args.automaton.now in
    let n = c.args.automaton.now.states in
    let kinds = c.args.kinds.now in
    let starts = c.loop-i.starts.items in
    let new = c.add_list.new.items.items in
    let i = c.loop-i.i in
    let pushed : c.push.new.self.items ≡ starts ++ length new ∷ [] = c.in_ok-push.ensures.items ∙ ap (λ x. starts ++ x ∷ []) (c.len.ensures ∙ c.add_list.new.items.ok.0) in
    subst (λ l. AreListedUpto M ok n c.args.labels kinds l new (i + 1)) (sym pushed)
    (one_more_list M ok n c.args.labels kinds starts c.loop-i.items.items new i c.loop-i.invariant c.in_ok-add_list.ensures)

pub returns : goal.returns
returns g c =
    let M = g.S.Side.goes c.args.side.now c.args.automaton.now in
    let ok = g.S.Side.matches c.args.side.now c.args.automaton.now in
    let n = c.args.automaton.now.states in
    let kinds = c.args.kinds.now in
    let all : c.loop-i.i ≡ c.states.result * c.args.labels * length kinds = omega (arith, c.loop-i-test.false, c.loop-i.auto.i-end) in
    let over : c.loop-i.i ≡ n * c.args.labels * length kinds = all ∙ ap (λ x. x * c.args.labels * length kinds) c.states.ensures.count in
    subst (λ i. AreListedUpto M ok n c.args.labels kinds c.loop-i.starts.items c.loop-i.items.items i) over c.loop-i.invariant
