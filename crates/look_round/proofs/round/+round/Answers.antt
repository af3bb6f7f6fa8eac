use Rattle.std.proofs.Common.{rules, Bool, false, arith, ◌≡◌, ◌+◌, ◌-◌, ◌*◌, ◌<◌, ◌≤◌, ◌↔◌, ℕ, length, IsTrue, true, false, [], ◌∷◌, refl, sym, ap, ◌∙◌, subst, inl, inr, length-append}
use Rattle.std.proofs.lemmas.Bool.{iff_false, false≢true}
use Rattle.auto_core.specs.Rows.{cell_of, HasBit}
use Rattle.auto_core.specs.Game.{Holds, IsDead}
use Rattle.look_round.specs.Replies.{HasReply, HasReplyFrom, RoundFrom, RoundAfter, KeepsRows}
use Rattle.look_round.proofs.RoundLemmas.{after_same, met, ended, goes_on}
use Rattle.look_round.proofs.StepLemmas.{reply_same}
use Rattle.look_round.proofs.KnownLemmas.{in_row, known_answered, known_more}
use Rattle.look_round.proofs.RoundLoop.{told_first, one_answered, all_answered, one_unanswered, dead_from, alive_from}
use Rattle.look_round.proofs.round.+round.Given.{Over}
use Rattle.look_round.proofs.round.+round.Goals as goal
use Rattle.look_round.proofs.round.+round.Goals.{round_from-After-step_answered, step_answered-After-round_from-answered}

-- a test is true that cannot be false
true_if : {b : Bool} {P : Type 0} → b ≡ true ↔ P → ((P → ⊥) → ⊥) → b ≡ true
true_if {b = true} both some = refl
true_if {b = false} both some = absurd (some (iff_false both refl))

-- The step tells of the move whether it is answered.
move_told :
    (g : Over) (t : ℕ) (c : round_from-After-step_answered g t)
    → IsTrue c.step_answered.result
    ↔ RoundAfter (g.S.Side.goes c.args.side.now c.args.automaton.now) (g.S.Side.matches c.args.side.now c.args.automaton.now) (Holds c.args.rel.now.pairs) c.args.left c.nth-step.result.label c.nth-step.result.to
    (HasReply c.args.sets.now c.args.automaton.now.states c.args.width (length c.args.path.now.items))
move_told g t c =
    let A = c.args.automaton.now in
    let s = c.args.side.now in
    let M = g.S.Side.goes s A in
    let ok = g.S.Side.matches s A in
    let W = Holds c.args.rel.now.pairs in
    let n = A.states in
    let w = c.args.width in
    let m = c.nth-step.result in
    let room : n ≤ w * 64 = omega (arith, c.requires.width) in
    let P : ℕ → Type 0 = λ x. IsTrue c.step_answered.result ↔ RoundAfter M ok W c.args.left m.label m.to (HasReply c.loop-at.sets n w x) in
    told_first M ok W (g.S.Side.list s A c.args.p) c.args.left n w (length c.args.path.now.items) room c.args.sets.now c.loop-at.sets m.label m.to (IsTrue c.step_answered.result) c.loop-at.invariant.2.kept
    (subst P (ap length c.loop-at.invariant.0) c.step_answered.ensures.told)

pub round_from-returns-then-not-step_answered-clause-told : goal.round_from-returns-then-not-step_answered-clause-told
round_from-returns-then-not-step_answered-clause-told g t c =
    let A = c.args.automaton.now in
    let s = c.args.side.now in
    let moves = g.S.Side.list s A c.args.p in
    let width = c.requires.width in
    let room : A.states ≤ c.args.width * 64 = omega arith in
    let failed : c.step_answered.result ≡ false = search rules in
    let count : c.moves-at-end.result ≡ length moves = c.moves-at-end.ensures in
    let j_in : c.loop-at.at < length moves = omega (arith, c.loop-at-test.true) in
    let told = move_told g t (goal.at.round_from-returns-then-not-step_answered-clause-told g t c).After-step_answered in (
      λ h. absurd (false≢true h),
      λ h.
          absurd
          (one_unanswered (g.S.Side.goes s A) (g.S.Side.matches s A) (Holds c.args.rel.now.pairs) moves c.args.left A.states c.args.width (length c.args.path.now.items) room c.args.sets.now c.args.p c.loop-at.at c.nth-step.result
          (g.met.S.Side.lists s A c.args.p) j_in c.nth-step.ensures.item (iff_false told failed) h),
    )

pub round_from-loop-at-preserved : goal.round_from-loop-at-preserved
round_from-loop-at-preserved g t c =
    let A = c.args.automaton.now in
    let s = c.args.side.now in
    let w = c.args.width in
    let L = length c.args.path.now.items in
    let room : A.states ≤ w * 64 = omega (arith, c.requires.width) in
    let same : length c.loop-at.path.items ≡ L = ap length c.loop-at.invariant.0 in
    let held : c.step_answered.result ≡ true = search rules in
    let told = move_told g t (goal.at.round_from-loop-at-preserved g t c).After-step_answered in
    let Q : ℕ → Type 0 = λ x. KeepsRows c.loop-at.sets c.step_answered.new.sets w x in (
      c.step_answered.ensures.path ∙ c.loop-at.invariant.0,
      c.step_answered.ensures.capacity ∙ c.loop-at.invariant.1,
      one_answered (g.S.Side.goes s A) (g.S.Side.matches s A) (Holds c.args.rel.now.pairs) (g.S.Side.list s A c.args.p) c.args.left A.states w L room c.args.sets.now c.loop-at.sets c.step_answered.new.sets c.loop-at.at
          c.nth-step.result c.loop-at.invariant.2 c.nth-step.ensures.item (told.0 held) (subst Q same c.step_answered.ensures.kept),
      c.step_answered.ensures.known,
    )

pub round_from-returns-clause-told : goal.round_from-returns-clause-told
round_from-returns-clause-told g t c =
    let A = c.args.automaton.now in
    let s = c.args.side.now in
    let M = g.S.Side.goes s A in
    let ok = g.S.Side.matches s A in
    let W = Holds c.args.rel.now.pairs in
    let moves = g.S.Side.list s A c.args.p in
    let left = c.args.left in
    let n = A.states in
    let w = c.args.width in
    let width = c.requires.width in
    let room : n ≤ w * 64 = omega arith in
    let count : c.moves-at-end.result ≡ length moves = c.moves-at-end.ensures in
    let all : c.loop-at.at ≡ length moves = omega (arith, c.loop-at-test.false) in (
      λ h.
          all_answered M ok W moves left n w (length c.args.path.now.items) room c.args.sets.now c.loop-at.sets c.loop-at.at c.args.p
          (g.met.S.Side.lists s A c.args.p) c.requires.left all c.loop-at.invariant.2,
      λ h. refl,
    )

pub step_answered-returns-then-step_into-clause-told : goal.step_answered-returns-then-step_into-clause-told
step_answered-returns-then-step_into-clause-told g t c =
    let A = c.args.automaton.now in
    let s = c.args.side.now in
    let M = g.S.Side.goes s A in
    let ok = g.S.Side.matches s A in
    let W = Holds c.args.rel.now.pairs in
    let n = A.states in
    let w = c.args.width in
    let a = c.args.step.label in
    let p = c.args.step.to in
    let D : ℕ → Type 0 = HasReply c.args.sets.now n w (length c.args.path.now.items) in
    let E : ℕ → Type 0 = HasReplyFrom M ok a p D in
    let P : ℕ → Type 0 = λ x. IsTrue c.step_into.result ↔ ((r : ℕ) × HasReplyFrom M ok a p (HasReply c.args.sets.now n w x) r × W p r) in
    let one = subst P c.len-number.ensures.value c.step_into.ensures.told in
    let found = one.0 c.if-step_into.true in (
      λ h. met M ok W c.args.left a p D E (λ r. (λ x. x, λ x. x)) found.0 found.1 found.2,
      λ h. refl,
    )

pub step_answered-returns-then-is_met-clause-told : goal.step_answered-returns-then-is_met-clause-told
step_answered-returns-then-is_met-clause-told g t c =
    let A = c.args.automaton.now in
    let s = c.args.side.now in
    let M = g.S.Side.goes s A in
    let ok = g.S.Side.matches s A in
    let W = Holds c.args.rel.now.pairs in
    let n = A.states in
    let w = c.args.width in
    let a = c.args.step.label in
    let p = c.args.step.to in
    let D : ℕ → Type 0 = HasReply c.args.sets.now n w (length c.args.path.now.items) in
    let E : ℕ → Type 0 = HasReplyFrom M ok a p D in
    let P : ℕ → Type 0 = λ x. (r : ℕ) × HasReplyFrom M ok a p (HasReply c.args.sets.now n w x) r × W p r in
    let found = subst P c.len-number.ensures.value (c.is_met.ensures c.if-is_met.true) in (
      λ h. met M ok W c.args.left a p D E (λ r. (λ x. x, λ x. x)) found.0 found.1 found.2,
      λ h. refl,
    )

pub step_answered-returns-then-left-eq1-clause-told : goal.step_answered-returns-then-left-eq1-clause-told
step_answered-returns-then-left-eq1-clause-told g t c =
    let A = c.args.automaton.now in
    let s = c.args.side.now in
    let M = g.S.Side.goes s A in
    let ok = g.S.Side.matches s A in
    let W = Holds c.args.rel.now.pairs in
    let n = A.states in
    let w = c.args.width in
    let a = c.args.step.label in
    let p = c.args.step.to in
    let D : ℕ → Type 0 = HasReply c.args.sets.now n w (length c.args.path.now.items) in
    let E : ℕ → Type 0 = HasReplyFrom M ok a p D in
    let P : ℕ → Type 0 = λ x. IsTrue c.step_into.result ↔ ((r : ℕ) × HasReplyFrom M ok a p (HasReply c.args.sets.now n w x) r × W p r) in
    let one = subst P c.len-number.ensures.value c.step_into.ensures.told in
    let apart = iff_false one c.if-step_into.false in
    let none : (r : ℕ) → E r → W p r → ⊥ = λ r is related. apart (r, is, related) in (
      λ h. absurd (false≢true h),
      λ h. absurd (ended M ok W c.args.left a p D E (λ r. (λ x. x, λ x. x)) none (inl c.if-left-eq1.true) h),
    )

pub step_answered-returns-then-moves-eq0-clause-told : goal.step_answered-returns-then-moves-eq0-clause-told
step_answered-returns-then-moves-eq0-clause-told g t c =
    let A = c.args.automaton.now in
    let s = c.args.side.now in
    let M = g.S.Side.goes s A in
    let ok = g.S.Side.matches s A in
    let W = Holds c.args.rel.now.pairs in
    let n = A.states in
    let w = c.args.width in
    let a = c.args.step.label in
    let p = c.args.step.to in
    let D : ℕ → Type 0 = HasReply c.args.sets.now n w (length c.args.path.now.items) in
    let E : ℕ → Type 0 = HasReplyFrom M ok a p D in
    let P : ℕ → Type 0 = λ x. IsTrue c.step_into.result ↔ ((r : ℕ) × HasReplyFrom M ok a p (HasReply c.args.sets.now n w x) r × W p r) in
    let one = subst P c.len-number.ensures.value c.step_into.ensures.told in
    let apart = iff_false one c.if-step_into.false in
    let none : (r : ℕ) → E r → W p r → ⊥ = λ r is related. apart (r, is, related) in
    let dead : IsDead M p = dead_from M (g.S.Side.list s A p) p (g.met.S.Side.lists s A p) (sym c.moves.ensures ∙ c.if-moves-eq0.true) in
    let some = c.requires.left in
    let more : 1 < c.args.left = omega (arith, c.if-left-eq1.false) in (
      λ h. absurd (false≢true h),
      λ h. absurd (ended M ok W c.args.left a p D E (λ r. (λ x. x, λ x. x)) none (inr (more, dead)) h),
    )

pub step_answered-returns-then-is_answered-clause-told : goal.step_answered-returns-then-is_answered-clause-told
step_answered-returns-then-is_answered-clause-told g t c =
    let A = c.args.automaton.now in
    let s = c.args.side.now in
    let M = g.S.Side.goes s A in
    let ok = g.S.Side.matches s A in
    let W = Holds c.args.rel.now.pairs in
    let n = A.states in
    let w = c.args.width in
    let number = c.len-number.result in
    let width = c.requires.width in
    let room : n ≤ w * 64 = omega arith in
    let (l, bit, cell, is) = c.is_answered.ensures c.if-is_answered.true in
    let rows = in_row c.step_into.new.sets c.row_at.result.now n w number room (λ q near. sym (c.row_at.ensures.bits q near)) in
    let same = reply_same c.args.sets.now c.step_into.new.sets n w number room (λ q near. c.step_into.ensures.others number q near (λ e. omega arith)) in
    let P : ℕ → Type 0 = λ x. RoundAfter M ok W c.args.left c.args.step.label c.args.step.to (HasReply c.args.sets.now n w x) in
    let answered : P number =
    known_answered M ok W n c.step_into.new.known l c.args.left c.args.step.label c.args.step.to c.row_at.result.now (HasReply c.args.sets.now n w number) c.step_into.ensures.known c.requires.step bit cell is
    (λ q h. (same q).0 ((rows q).1 h)) in
    (λ h. subst P c.len-number.ensures.value answered, λ h. refl)

pub step_answered-returns-then-is_answered-clause-kept : goal.step_answered-returns-then-is_answered-clause-kept
step_answered-returns-then-is_answered-clause-kept g t c =
    let value : c.len-number.result ≡ length c.args.path.now.items = c.len-number.ensures.value in
    λ i q i_in near. c.step_into.ensures.others i q near (λ e. omega (arith, value))

pub step_answered-returns-then-left-eq1-clause-kept : goal.step_answered-returns-then-left-eq1-clause-kept
step_answered-returns-then-left-eq1-clause-kept g t c =
    let value : c.len-number.result ≡ length c.args.path.now.items = c.len-number.ensures.value in
    λ i q i_in near. c.step_into.ensures.others i q near (λ e. omega (arith, value))

-- How long the path is, which the round from the move's end begins with.
longer : (g : Over) (t : ℕ) (c : step_answered-After-round_from-answered g t) → length c.push_reserved.new.self.items ≡ c.len-number.result + 1
longer g t c = ap length c.push_reserved.ensures.items ∙ length-append c.args.path.now.items (c.args.step ∷ []) ∙ ap (λ x. x + 1) (sym c.len-number.ensures.value)

-- That round tells whether the move is answered, where the move's end has further moves and is not lost at once.
rest_told :
    (g : Over) (t : ℕ) (c : step_answered-After-round_from-answered g t)
    → IsTrue c.round_from-answered.result
    ↔ RoundAfter (g.S.Side.goes c.args.side.now c.args.automaton.now) (g.S.Side.matches c.args.side.now c.args.automaton.now) (Holds c.args.rel.now.pairs) c.args.left c.args.step.label c.args.step.to
    (HasReply c.args.sets.now c.args.automaton.now.states c.args.width (length c.args.path.now.items))
rest_told g t c =
    let A = c.args.automaton.now in
    let s = c.args.side.now in
    let M = g.S.Side.goes s A in
    let ok = g.S.Side.matches s A in
    let W = Holds c.args.rel.now.pairs in
    let n = A.states in
    let w = c.args.width in
    let a = c.args.step.label in
    let p = c.args.step.to in
    let old = c.args.sets.now in
    let new = c.step_into.new.sets in
    let number = c.len-number.result in
    let P : ℕ → Type 0 = λ x. (r : ℕ) → HasReply new n w (number + 1) r ↔ HasReplyFrom M ok a p (HasReply old n w x) r in
    let replies = subst P c.len-number.ensures.value c.step_into.ensures.next in
    let Q1 : ℕ → Type 0 = λ x. IsTrue c.step_into.result ↔ ((r : ℕ) × HasReplyFrom M ok a p (HasReply old n w x) r × W p r) in
    let one = subst Q1 c.len-number.ensures.value c.step_into.ensures.told in
    let apart = iff_false one c.if-step_into.false in
    let none : (r : ℕ) → HasReply new n w (number + 1) r → W p r → ⊥ = λ r is related. apart (r, (replies r).0 is, related) in
    let alive : IsDead M p → ⊥ = alive_from M (g.S.Side.list s A p) p (g.met.S.Side.lists s A p) (λ e. c.if-moves-eq0.false (c.moves.ensures ∙ e)) in
    let some = c.requires.left in
    let more : 1 < c.args.left = omega (arith, c.if-left-eq1.false) in
    let both = goes_on M ok W c.args.left a p (HasReply old n w (length c.args.path.now.items)) (HasReply new n w (number + 1)) replies (c.args.left - 1) (omega arith) (omega arith) none alive in
    let Q : ℕ → Type 0 = λ x. IsTrue c.round_from-answered.result ↔ RoundFrom M ok W (c.args.left - 1) p (HasReply new n w x) in
    let told = subst Q (longer g t c) c.round_from-answered.ensures.told in
    (λ h. both.1 (told.0 h), λ h. told.1 (both.0 h))

-- Earlier rows are kept.
rows_kept :
    (g : Over) (t : ℕ) (c : step_answered-After-round_from-answered g t) (i q : ℕ)
    → i ≤ length c.args.path.now.items
    → q < c.args.width * 64
    → cell_of c.round_from-answered.new.sets c.args.width i q ≡ cell_of c.args.sets.now c.args.width i q
rows_kept g t c i q i_in near =
    let value : c.len-number.result ≡ length c.args.path.now.items = c.len-number.ensures.value in
    let size = longer g t c in
    c.round_from-answered.ensures.kept i q (omega (arith, size, value)) near ∙ c.step_into.ensures.others i q near (λ e. omega (arith, value))

pub step_answered-returns-then-not-answered-clause-told : goal.step_answered-returns-then-not-answered-clause-told
step_answered-returns-then-not-answered-clause-told g t c =
    let told = rest_told g t (goal.at.step_answered-returns-then-not-answered-clause-told g t c).After-round_from-answered in
    let failed : c.round_from-answered.result ≡ false = search rules in
    (λ h. absurd (false≢true h), λ h. absurd (false≢true (sym failed ∙ told.1 h)))

pub step_answered-returns-clause-told : goal.step_answered-returns-clause-told
step_answered-returns-clause-told g t c =
    let told = rest_told g t (goal.at.step_answered-returns-clause-told g t c).After-round_from-answered in
    let holds : c.round_from-answered.result ≡ true = search rules in
    (λ h. told.0 holds, λ h. refl)

pub step_answered-returns-clause-known : goal.step_answered-returns-clause-known
step_answered-returns-clause-known g t c =
    let path = (goal.at.step_answered-returns-clause-known g t c).After-round_from-answered in
    let told = rest_told g t path in
    let M = g.S.Side.goes c.args.side.now c.args.automaton.now in
    let ok = g.S.Side.matches c.args.side.now c.args.automaton.now in
    let W = Holds c.args.rel.now.pairs in
    let n = c.args.automaton.now.states in
    let w = c.args.width in
    let a = c.args.step.label in
    let p = c.args.step.to in
    let old = c.args.sets.now in
    let number = c.len-number.result in
    let holds : c.round_from-answered.result ≡ true = search rules in
    let value : number ≡ length c.args.path.now.items = c.len-number.ensures.value in
    let room : n ≤ w * 64 = omega (arith, c.requires.width) in
    let sets = c.round_from-answered.new.sets in
    let same = reply_same old sets n w number room (λ q near. rows_kept g t path number q (omega (arith, value)) near) in
    let P2 : ℕ → Type 0 = λ x. RoundAfter M ok W c.args.left a p (HasReply old n w x) in
    let here : P2 number = subst P2 (sym value) (told.0 holds) in
    let rows = in_row sets c.row_at-2.result.now n w number room (λ q near. sym (c.row_at-2.ensures.bits q near)) in
    known_more M ok W n c.round_from-answered.new.known c.note.new.self c.args.left a p c.row_at-2.result.now (HasReply old n w number) c.note.ensures.notes c.note.ensures.replies c.round_from-answered.ensures.known
    (λ q h. (rows q).0 ((same q).1 h)) here

pub step_answered-returns-then-not-answered-clause-kept : goal.step_answered-returns-then-not-answered-clause-kept
step_answered-returns-then-not-answered-clause-kept g t c = rows_kept g t (goal.at.step_answered-returns-then-not-answered-clause-kept g t c).After-round_from-answered

pub step_answered-returns-clause-kept : goal.step_answered-returns-clause-kept
step_answered-returns-clause-kept g t c = rows_kept g t (goal.at.step_answered-returns-clause-kept g t c).After-round_from-answered

pub step_answered-returns-then-step_into-clause-kept : goal.step_answered-returns-then-step_into-clause-kept
step_answered-returns-then-step_into-clause-kept g t c =
    let value : c.len-number.result ≡ length c.args.path.now.items = c.len-number.ensures.value in
    λ i q i_in near. c.step_into.ensures.others i q near (λ e. omega (arith, value))

pub step_answered-returns-then-moves-eq0-clause-kept : goal.step_answered-returns-then-moves-eq0-clause-kept
step_answered-returns-then-moves-eq0-clause-kept g t c =
    let value : c.len-number.result ≡ length c.args.path.now.items = c.len-number.ensures.value in
    λ i q i_in near. c.step_into.ensures.others i q near (λ e. omega (arith, value))
