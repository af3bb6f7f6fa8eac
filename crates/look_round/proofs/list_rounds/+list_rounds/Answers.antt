use Rattle.std.proofs.Common.{rules, arith, ◌≡◌, ℕ, ◌+◌, ◌-◌, ◌<◌, ◌≤◌, ◌↔◌, [], ◌∷◌, ◌++◌, length, take, drop, Contains, inl, inr, sym, ap, ◌∙◌, subst, take_all, le_refl}
use Rattle.std.proofs.lemmas.Bool.{iff_false}
use Rattle.std.proofs.lemmas.List.{take_more, get_or_default}
use Rattle.auto_core.specs.Game.{Holds, IsDead}
use Rattle.look_round.specs.Sides.{move}
use Rattle.look_round.specs.Replies.{HasReplyFrom}
use Rattle.look_round.specs.Listed.{IsListedWithin}
use Rattle.look_round.proofs.RoundLemmas.{after_same, from_moves, to_move, met, ended, goes_on}
use Rattle.look_round.proofs.RoundLoop.{dead_from, alive_from}
use Rattle.look_round.proofs.ListedLemmas.{AllAnswered, one_more_answered, listed_slice, slice_below, listed_kept, reply_same}
use Rattle.look_round.proofs.list_rounds.+list_rounds.Goals as goal

pub told_from-loop-number-preserved : goal.told_from-loop-number-preserved
told_from-loop-number-preserved g t c =
    let A = c.args.automaton.now in
    let s = c.args.side.now in
    let M = g.S.Side.goes s A in
    let ok = g.S.Side.matches s A in
    let W = Holds c.args.rel.now.pairs in
    let moves = g.S.Side.list s A c.args.p in
    let old = c.args.listed.now in
    let now = c.loop-number.listed in
    let D : ℕ → Type 0 = IsListedWithin old c.args.at c.args.end in
    let n = c.loop-number.number in
    let m = c.nth-step.result in
    let h = c.loop-number.invariant in
    let at_in : n < length moves = omega (arith, c.loop-number-test.true, c.moves-number-end.ensures) in
    let more : take (n + 1) moves ≡ take n moves ++ m ∷ [] = take_more moves n (move 0 0) at_in ∙ ap (λ x. take n moves ++ x ∷ []) (sym c.nth-step.ensures.item) in
    let answered = after_same M ok W (IsListedWithin now c.args.at c.args.end) D (λ q. (listed_kept old now c.args.at c.args.end c.args.end q (le_refl c.args.end) h.2).0) c.args.left m.label m.to (c.told_after.ensures.holds c.in-Holds.is) in
    let kept = c.told_after.ensures.kept in
    let size = h.0 in (
      omega (arith, kept.0),
      λ q there. h.1 q ((listed_kept now c.told_after.new.listed c.args.at c.args.end c.args.end q (le_refl c.args.end) kept).0 there),
      (kept.0 ∙ h.2.0, λ i before. kept.1 i before ∙ h.2.1 i before),
      subst (λ l. AllAnswered M ok W c.args.left D l) (sym more) (one_more_answered M ok W c.args.left D (take n moves) m h.3 answered),
    )

pub told_from-returns-in-Fails-clause-fails : goal.told_from-returns-in-Fails-clause-fails
told_from-returns-in-Fails-clause-fails g t c = λ e h.
    let A = c.args.automaton.now in
    let s = c.args.side.now in
    let M = g.S.Side.goes s A in
    let ok = g.S.Side.matches s A in
    let W = Holds c.args.rel.now.pairs in
    let moves = g.S.Side.list s A c.args.p in
    let old = c.args.listed.now in
    let now = c.loop-number.listed in
    let D : ℕ → Type 0 = IsListedWithin old c.args.at c.args.end in
    let m = c.nth-step.result in
    let n = c.loop-number.number in
    let at_in : n < length moves = omega (arith, c.loop-number-test.true, c.moves-number-end.ensures) in
    let go : M c.args.p m.label m.to =
    (g.met.S.Side.lists s A c.args.p m.label m.to).0 (n, at_in, get_or_default moves n (move m.label m.to) (move 0 0) at_in ∙ sym c.nth-step.ensures.item) in
    let back : (q : ℕ) → D q → IsListedWithin now c.args.at c.args.end q = λ q. (listed_kept old now c.args.at c.args.end c.args.end q (le_refl c.args.end) c.loop-number.invariant.2).1 in
    c.told_after.ensures.fails c.in-Fails.is (after_same M ok W D (IsListedWithin now c.args.at c.args.end) back c.args.left m.label m.to (to_move M ok W c.args.left c.args.p D h m.label m.to go))

pub told_from-returns-clause-holds : goal.told_from-returns-clause-holds
told_from-returns-clause-holds g t c = λ e.
    let A = c.args.automaton.now in
    let s = c.args.side.now in
    let M = g.S.Side.goes s A in
    let ok = g.S.Side.matches s A in
    let W = Holds c.args.rel.now.pairs in
    let moves = g.S.Side.list s A c.args.p in
    let D : ℕ → Type 0 = IsListedWithin c.args.listed.now c.args.at c.args.end in
    let over : length moves ≤ c.loop-number.number = omega (arith, c.loop-number-test.false, c.moves-number-end.ensures) in
    let all : AllAnswered M ok W c.args.left D moves = subst (λ l. AllAnswered M ok W c.args.left D l) (take_all c.loop-number.number moves over) c.loop-number.invariant.3 in
    from_moves M ok W c.args.left c.args.p D c.requires.left (λ a r go. all (move a r) ((g.met.S.Side.lists s A c.args.p a r).1 go))

pub told_after-returns-then-one_meets-clause-holds : goal.told_after-returns-then-one_meets-clause-holds
told_after-returns-then-one_meets-clause-holds g t c = λ e.
    let M = g.S.Side.goes c.args.side.now c.args.automaton.now in
    let ok = g.S.Side.matches c.args.side.now c.args.automaton.now in
    let W = Holds c.args.rel.now.pairs in
    let a = c.args.step.label in
    let p = c.args.step.to in
    let D : ℕ → Type 0 = IsListedWithin c.args.listed.now c.args.at c.args.end in
    let found = c.one_meets.ensures.0 c.if-one_meets.true in
    let reply = reply_same M ok a p _ D found.0 (λ q. (listed_slice c.args.listed.now c.args.at c.args.end q c.requires.order c.requires.end).0) found.1 in
    met M ok W c.args.left a p D (HasReplyFrom M ok a p D) (λ r. (λ x. x, λ x. x)) found.0 reply found.2

pub told_after-returns-then-left-eq1-clause-fails : goal.told_after-returns-then-left-eq1-clause-fails
told_after-returns-then-left-eq1-clause-fails g t c = λ e h.
    let M = g.S.Side.goes c.args.side.now c.args.automaton.now in
    let ok = g.S.Side.matches c.args.side.now c.args.automaton.now in
    let W = Holds c.args.rel.now.pairs in
    let a = c.args.step.label in
    let p = c.args.step.to in
    let D : ℕ → Type 0 = IsListedWithin c.args.listed.now c.args.at c.args.end in
    let E : ℕ → Type 0 = HasReplyFrom M ok a p D in
    let apart = iff_false c.one_meets.ensures c.if-one_meets.false in
    let S : ℕ → Type 0 = Contains (take (c.args.end - c.args.at) (drop c.args.at c.args.listed.now)) in
    let slice : (q : ℕ) → D q → S q = λ q. (listed_slice c.args.listed.now c.args.at c.args.end q c.requires.order c.requires.end).1 in
    let none : (r : ℕ) → E r → W p r → ⊥ = λ r is related. apart (r, reply_same M ok a p D S r slice is, related) in
    ended M ok W c.args.left a p D E (λ r. (λ x. x, λ x. x)) none (inl c.if-left-eq1.true) h

pub told_after-returns-then-moves-eq0-clause-fails : goal.told_after-returns-then-moves-eq0-clause-fails
told_after-returns-then-moves-eq0-clause-fails g t c = λ e h.
    let A = c.args.automaton.now in
    let s = c.args.side.now in
    let M = g.S.Side.goes s A in
    let ok = g.S.Side.matches s A in
    let W = Holds c.args.rel.now.pairs in
    let a = c.args.step.label in
    let p = c.args.step.to in
    let D : ℕ → Type 0 = IsListedWithin c.args.listed.now c.args.at c.args.end in
    let E : ℕ → Type 0 = HasReplyFrom M ok a p D in
    let apart = iff_false c.one_meets.ensures c.if-one_meets.false in
    let S : ℕ → Type 0 = Contains (take (c.args.end - c.args.at) (drop c.args.at c.args.listed.now)) in
    let slice : (q : ℕ) → D q → S q = λ q. (listed_slice c.args.listed.now c.args.at c.args.end q c.requires.order c.requires.end).1 in
    let none : (r : ℕ) → E r → W p r → ⊥ = λ r is related. apart (r, reply_same M ok a p D S r slice is, related) in
    let dead : IsDead M p = dead_from M (g.S.Side.list s A p) p (g.met.S.Side.lists s A p) (sym c.moves.ensures ∙ c.if-moves-eq0.true) in
    let some = c.requires.left in
    let more : 1 < c.args.left = omega (arith, c.if-left-eq1.false) in
    ended M ok W c.args.left a p D E (λ r. (λ x. x, λ x. x)) none (inr (more, dead)) h

pub told_after-returns : goal.told_after-returns
told_after-returns g t c =
    let A = c.args.automaton.now in
    let s = c.args.side.now in
    let M = g.S.Side.goes s A in
    let ok = g.S.Side.matches s A in
    let W = Holds c.args.rel.now.pairs in
    let a = c.args.step.label in
    let p = c.args.step.to in
    let D : ℕ → Type 0 = IsListedWithin c.args.listed.now c.args.at c.args.end in
    let E : ℕ → Type 0 = IsListedWithin c.list_replies-to.new.listed c.args.end c.list_replies-to.result in
    let inside = c.list_replies-to.ensures.inside in
    let few : c.list_replies-to.result < length c.list_replies-to.new.listed = omega (arith, c.if-to-listed.false) in
    let replies : (r : ℕ) → E r ↔ HasReplyFrom M ok a p D r = c.list_replies-to.ensures.just few in
    let apart = iff_false c.one_meets.ensures c.if-one_meets.false in
    let S : ℕ → Type 0 = Contains (take (c.args.end - c.args.at) (drop c.args.at c.args.listed.now)) in
    let slice : (q : ℕ) → D q → S q = λ q. (listed_slice c.args.listed.now c.args.at c.args.end q c.requires.order c.requires.end).1 in
    let none : (r : ℕ) → E r → W p r → ⊥ = λ r is related. apart (r, reply_same M ok a p D S r slice ((replies r).0 is), related) in
    let alive : IsDead M p → ⊥ = alive_from M (g.S.Side.list s A p) p (g.met.S.Side.lists s A p) (λ f. c.if-moves-eq0.false (c.moves.ensures ∙ f)) in
    let some = c.requires.left in
    let both = goes_on M ok W c.args.left a p D E replies (c.args.left - 1) (omega (arith, c.if-left-eq1.false)) (omega (arith, c.if-left-eq1.false)) none alive in
    record { kept = search rules; holds = λ e. both.1 (c.told_from.ensures.holds e); fails = λ e h. c.told_from.ensures.fails e (both.0 h) }

pub told_after-one_meets-requires-clause-from : goal.told_after-one_meets-requires-clause-from
told_after-one_meets-requires-clause-from g t c =
    slice_below c.args.listed.now c.args.at c.args.end c.args.automaton.now.states c.requires.order c.requires.end c.requires.states
