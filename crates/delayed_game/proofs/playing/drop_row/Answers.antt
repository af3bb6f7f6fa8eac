use Rattle.std.proofs.Common.{rules, ◌≡◌, ◌+◌, ◌*◌, ℕ, zero, suc, Bool, Some, get_or, refl, sym, ap, ◌∙◌, subst, arith}
use Rattle.delayed_game.specs.Pairings.{Pairing}
use Rattle.auto_core.specs.Delayed.{rank_in_code}
use Rattle.delayed_game.specs.Settling.{HasSomeRank}
use Rattle.delayed_game.proofs.CanLemmas.{none_is_some}
use Rattle.delayed_game.proofs.SettleLemmas.{HasTried, pair_below, tried_none, tried_passed, tried_taken, tried_all}
use Rattle.delayed_game.proofs.playing.drop_row.Goals as goal
use Rattle.delayed_game.proofs.playing.drop_row.Goals.{then-ranks-pair_number-eq0, else-ranks-pair_number-eq0}

some_from_not : (held : ℕ) → (held ≡ 0 → ⊥) → (r : ℕ) × (rank_in_code held ≡ Some r)
some_from_not zero apart = absurd (apart refl)
some_from_not (suc r) apart = (r, refl)

none_from_is : (held r : ℕ) → held ≡ 0 → rank_in_code held ≡ Some r → ⊥
none_from_is held r is e = none_is_some (rank_in_code held) r (ap (λ h. rank_in_code h) is) e

pub loop-q-init : goal.loop-q-init
loop-q-init c = (tried_none c.args.board.now c.args.p (λ q. HasSomeRank c.args.ranks.now c.args.board.now.states c.args.p q) c.requires.valid, omega arith)

pub overflow_cast-q : goal.overflow_cast-q
overflow_cast-q c =
    let h = c.loop-q.invariant.0 in
    let below = pair_below c.loop-q.board c.row.result.now c.args.board.now.states c.args.p c.in-Some.q h.states h.valid c.in-Some.ensures.found.here (c.row.ensures.bits c.in-Some.q) in
    search rules

pub pair_number-requires-clause-column : goal.pair_number-requires-clause-column
pair_number-requires-clause-column c =
    let h = c.loop-q.invariant.0 in
    let below = pair_below c.loop-q.board c.row.result.now c.loop-q.board.states c.args.p c.in-Some.q refl h.valid c.in-Some.ensures.found.here (c.row.ensures.bits c.in-Some.q) in
    omega (arith, c.states.ensures.count)

pub clear-requires-clause-right : goal.clear-requires-clause-right
clear-requires-clause-right c =
    let h = c.loop-q.invariant.0 in
    pair_below c.loop-q.board c.row.result.now c.loop-q.board.states c.args.p c.in-Some.q refl h.valid c.in-Some.ensures.found.here (c.row.ensures.bits c.in-Some.q)

pub loop-q-smaller : goal.loop-q-smaller
loop-q-smaller c =
    let h = c.loop-q.invariant.0 in
    let below = pair_below c.loop-q.board c.row.result.now c.args.board.now.states c.args.p c.in-Some.q h.states h.valid c.in-Some.ensures.found.here (c.row.ensures.bits c.in-Some.q) in
    let behind = c.in-Some.ensures.found.behind in
    omega arith

pub loop-q-preserved : goal.loop-q-preserved
loop-q-preserved c =
    let ranks = c.args.ranks.now in
    let old = c.args.board.now in
    let p = c.args.p in
    let P : ℕ → Type 0 = λ q. HasSomeRank ranks old.states p q in
    let q = c.in-Some.q in
    let now = c.loop-q.board in
    let h = c.loop-q.invariant.0 in
    let next = c.in-Some.ensures.found in
    let below = pair_below now c.row.result.now old.states p q h.states h.valid next.here (c.row.ensures.bits q) in
    let at : c.pair_number.result ≡ p * old.states + q = c.pair_number.ensures.number ∙ ap (λ m. p * m + q) (c.states.ensures.count ∙ h.states) in
    let T : Pairing → Bool → Type 0 = λ R changed. HasTried old R p P changed (q + 1) in (
      elim c.if-ranks-pair_number-eq0.branch [
        | then-ranks-pair_number-eq0 w ↦
            let is : get_or ranks (p * old.states + q) 0 ≡ 0 = subst (λ i. get_or ranks i 0 ≡ 0) at w.if-ranks-pair_number-eq0.true in
            subst (λ R. T R c.if-ranks-pair_number-eq0.changed) (sym w.board-is)
            (subst (λ b. T w.clear.new.self b) (sym w.changed-is)
            (tried_taken old p P now w.clear.new.self c.loop-q.changed c.row.result.now c.loop-q.at q h c.row.ensures.bits next (λ has. none_from_is (get_or ranks (p * old.states + q) 0) has.0 is has.1) w.clear.ensures.pairs w.clear.ensures.valid))
        | else-ranks-pair_number-eq0 w ↦
            let is : ¬ (get_or ranks (p * old.states + q) 0 ≡ 0) = subst (λ i. ¬ (get_or ranks i 0 ≡ 0)) at w.if-ranks-pair_number-eq0.false in
            subst (λ R. T R c.if-ranks-pair_number-eq0.changed) (sym w.board-is)
            (subst (λ b. T now b) (sym w.changed-is)
            (tried_passed old p P now c.loop-q.changed c.row.result.now c.loop-q.at q h c.row.ensures.bits next (some_from_not (get_or ranks (p * old.states + q) 0) is)))
      ],
      omega arith,
    )

pub returns : goal.returns
returns c = tried_all c.args.board.now c.args.p (λ q. HasSomeRank c.args.ranks.now c.args.board.now.states c.args.p q) c.loop-q.board c.loop-q.changed c.row.result.now c.loop-q.at c.loop-q.invariant.0 c.row.ensures.bits c.in_default.ensures.none
