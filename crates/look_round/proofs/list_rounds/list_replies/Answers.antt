use Rattle.std.proofs.Common.{◌≡◌, ℕ, ◌+◌, ◌<◌, ◌⊎◌, slice_index, refl, sym, subst, arith}
use Rattle.look_round.specs.Replies.{IsReply, HasReplyFrom}
use Rattle.look_round.specs.Listed.{IsListedWithin, Lists}
use Rattle.look_round.proofs.ListedLemmas.{lists_same, lists_then, reply_from_more}
use Rattle.look_round.proofs.list_rounds.list_replies.Goals as goal

pub copy_replies-to-requires-clause-state : goal.copy_replies-to-requires-clause-state
copy_replies-to-requires-clause-state g c =
    let i = c.loop-i.i in
    let before = c.loop-i-test.true in
    let old : ℕ = slice_index c.args.listed.now i in
    let below : old < c.args.automaton.now.states = c.requires.states old (i, c.loop-i.auto.i, before, refl) in
    subst (λ x. x < c.args.automaton.now.states) (sym (c.loop-i.invariant.kept.1 i before)) below

pub loop-i-preserved : goal.loop-i-preserved
loop-i-preserved g c =
    let M = g.S.Side.goes c.args.side.now c.args.automaton.now in
    let ok = g.S.Side.matches c.args.side.now c.args.automaton.now in
    let n = c.args.automaton.now.states in
    let a = c.args.step.label in
    let p = c.args.step.to in
    let old = c.args.listed.now in
    let mid = c.loop-i.listed in
    let new = c.copy_replies-to.new.listed in
    let i = c.loop-i.i in
    let end = c.args.end in
    let to = c.copy_replies-to.result in
    let same : slice_index mid i ≡ slice_index old i = c.loop-i.invariant.kept.1 i c.loop-i-test.true in
    let D : ℕ → Type 0 = HasReplyFrom M ok a p (IsListedWithin old c.args.at i) in
    let E : ℕ → Type 0 = IsReply M ok a p (slice_index old i) in
    let added = subst (λ x. Lists mid new c.loop-i.to to n (IsReply M ok a p x)) same c.copy_replies-to.ensures in
    let wrote = lists_then old mid new end c.loop-i.to to n D E c.loop-i.invariant added in
    lists_same old new end to n (λ r. D r ⊎ E r) (HasReplyFrom M ok a p (IsListedWithin old c.args.at (i + 1))) wrote (λ room r. reply_from_more M ok a p old c.args.at i r c.loop-i.auto.i)

pub returns : goal.returns
returns g c =
    let M = g.S.Side.goes c.args.side.now c.args.automaton.now in
    let ok = g.S.Side.matches c.args.side.now c.args.automaton.now in
    let over : c.loop-i.i ≡ c.args.end = omega (arith, c.loop-i-test.false, c.loop-i.auto.i-end, c.requires.order) in
    subst (λ x. Lists c.args.listed.now c.loop-i.listed c.args.end c.loop-i.to c.args.automaton.now.states (HasReplyFrom M ok c.args.step.label c.args.step.to (IsListedWithin c.args.listed.now c.args.at x))) over c.loop-i.invariant
