use Rattle.std.proofs.Common.{◌≡◌, ℕ, ◌+◌, ◌<◌, ◌≤◌, List, [], ◌∷◌, ◌++◌, length, take, sym, ap, ◌∙◌, subst, arith, take_all}
use Rattle.std.proofs.lemmas.Bool.{iff_false}
use Rattle.std.proofs.lemmas.List.{take_more}
use Rattle.look_round.specs.Sides.{move}
use Rattle.look_round.proofs.ReplyListLemmas.{AddsUpto, adds_none, adds_one, adds_other, adds_all}
use Rattle.look_round.proofs.listing.add_list.Goals as goal
use Rattle.look_round.proofs.listing.add_list.Goals.{then-is_reply+in_ok-push, else-is_reply}

pub loop-at-init : goal.loop-at-init
loop-at-init g c = adds_none (g.S.Side.matches c.args.side.now c.args.automaton.now) c.args.automaton.now.states c.args.label c.args.p c.args.items.now.items

pub loop-at-preserved : goal.loop-at-preserved
loop-at-preserved g c =
    let moves = g.S.Side.list c.args.side.now c.args.automaton.now c.args.q in
    let ok = g.S.Side.matches c.args.side.now c.args.automaton.now in
    let states = c.args.automaton.now.states in
    let a = c.args.label in
    let p = c.args.p in
    let old = c.args.items.now.items in
    let now = c.loop-at.items.items in
    let n = c.loop-at.at in
    let m = c.nth-reply.result in
    let at_in : n < length moves = omega (arith, c.loop-at-test.true, c.moves-at-end.ensures) in
    let more : take (n + 1) moves ≡ take n moves ++ m ∷ [] = take_more moves n (move 0 0) at_in ∙ ap (λ x. take n moves ++ x ∷ []) (sym c.nth-reply.ensures.item) in
    let T = take (n + 1) moves in
    let P : List ℕ → Type 0 = λ l. AddsUpto T ok states a p old l in
    elim c.if-is_reply.branch [
      | then-is_reply+in_ok-push w ↦
          let is = c.is_reply.ensures.0 w.if-is_reply.true in
          let added : P (now ++ m.to ∷ []) =
          subst (λ l. AddsUpto l ok states a p old (now ++ m.to ∷ [])) (sym more) (adds_one (take n moves) ok states a p old now m c.loop-at.invariant is.0 is.1 c.nth-reply.ensures.in_range) in
          subst (λ v. P v.items) (sym w.items-is) (subst P (sym w.in_ok-push.ensures.items) added)
      | else-is_reply w ↦
          let none = iff_false c.is_reply.ensures w.if-is_reply.false in
          let same : P now = subst (λ l. AddsUpto l ok states a p old now) (sym more) (adds_other (take n moves) ok states a p old now m c.loop-at.invariant none) in
          subst (λ v. P v.items) (sym w.items-is) same
    ]

pub returns : goal.returns
returns g c =
    let A = c.args.automaton.now in
    let s = c.args.side.now in
    let moves = g.S.Side.list s A c.args.q in
    let M = g.S.Side.goes s A in
    let ok = g.S.Side.matches s A in
    let over : length moves ≤ c.loop-at.at = omega (arith, c.loop-at-test.false, c.moves-at-end.ensures) in
    adds_all M moves ok A.states c.args.label c.args.p c.args.q c.args.items.now.items c.loop-at.items.items (g.met.S.Side.lists s A c.args.q)
    (subst (λ l. AddsUpto l ok A.states c.args.label c.args.p c.args.items.now.items c.loop-at.items.items) (take_all c.loop-at.at moves over) c.loop-at.invariant)
