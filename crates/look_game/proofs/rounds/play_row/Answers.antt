use Rattle.std.proofs.Common.{◌+◌, Bool, refl, sym, ◌∙◌, subst, arith}
use Rattle.std.proofs.lemmas.Bool.{iff_false}
use Rattle.bit_rel.specs.Relation.{Relation}
use Rattle.look_game.proofs.RowLemmas.{IsVisiting, visiting_begins, pair_taken, pair_stays}
use Rattle.look_game.proofs.rounds.play_row.Goals as goal
use Rattle.look_game.proofs.rounds.play_row.Goals.{then-get+then-not-round_holds, then-get+else-not-round_holds, else-get}

pub loop-q-init : goal.loop-q-init
loop-q-init g c =
    (refl, visiting_begins (g.S.Side.goes c.args.side.now c.args.automaton.now) (g.S.Side.matches c.args.side.now c.args.automaton.now) c.args.look c.args.p c.args.rel.now c.size-q-end.ensures.valid)

pub loop-q-preserved : goal.loop-q-preserved
loop-q-preserved g c =
    let M = g.S.Side.goes c.args.side.now c.args.automaton.now in
    let ok = g.S.Side.matches c.args.side.now c.args.automaton.now in
    let k = c.args.look in
    let q = c.loop-q.q in
    let p = c.args.p in
    let old = c.args.rel.now in
    let now = c.loop-q.rel in
    let h = c.loop-q.invariant.1 in
    let P : Relation → Bool → Type 0 = λ R changed. IsVisiting M ok k p old R changed (q + 1) in
    elim c.if-get.branch [
      | then-get+then-not-round_holds w ↦ (
        w.scratch-is ∙ w.round_holds.ensures.scratch ∙ c.loop-q.invariant.0,
        subst (λ R. P R c.if-get.changed) (sym w.rel-is)
            (subst (λ b. P w.clear.new.self b) (sym w.changed-is)
            (pair_taken M ok k p q old now w.clear.new.self c.loop-q.changed h c.size-q-end.ensures.valid c.get.ensures.valid (c.get.ensures.told.0 w.if-get.true)
            (iff_false w.round_holds.ensures.told w.if-not-round_holds.true) w.clear.ensures.pairs w.clear.ensures.valid)),
      )
      | then-get+else-not-round_holds w ↦ (
        w.scratch-is ∙ w.round_holds.ensures.scratch ∙ c.loop-q.invariant.0,
        subst (λ R. P R c.if-get.changed) (sym w.rel-is)
            (subst (λ b. P now b) (sym w.changed-is)
            (pair_stays M ok k p q old now c.loop-q.changed h (λ held. w.round_holds.ensures.told.0 w.if-not-round_holds.false))),
      )
      | else-get w ↦ (
        w.scratch-is ∙ c.loop-q.invariant.0,
        subst (λ R. P R c.if-get.changed) (sym w.rel-is)
            (subst (λ b. P now b) (sym w.changed-is)
            (pair_stays M ok k p q old now c.loop-q.changed h (λ held. absurd (iff_false c.get.ensures.told w.if-get.false held)))),
      )
    ]

pub returns-clause-rounds : goal.returns-clause-rounds
returns-clause-rounds g c = λ e q held.
    let h = c.loop-q.invariant.1 in
    let below = h.takes.valid.in_range c.args.p q held in
    let lt = below.1 in
    h.rounds e q (omega (arith, lt, h.takes.size, c.loop-q-test.false, c.size-q-end.ensures.count)) held
