use Rattle.std.proofs.Common.{ℕ, ◌≡◌, ◌+◌, sym, subst, arith}
use Rattle.std.proofs.lemmas.Bool.{iff_false}
use Rattle.bit_rel.specs.Relation.{Relation}
use Rattle.look_game.specs.Taking.{AddsMatching}
use Rattle.look_game.proofs.RowLemmas.{add_none, add_match, add_passed}
use Rattle.look_game.proofs.rounds.match_row.Goals as goal
use Rattle.look_game.proofs.rounds.match_row.Goals.{then-matched, else-matched}

pub loop-q-init : goal.loop-q-init
loop-q-init g c = add_none (g.S.Side.matches c.args.side.now c.args.automaton.now) c.args.p c.args.rel.now c.size-q-end.ensures.valid

pub loop-q-preserved : goal.loop-q-preserved
loop-q-preserved g c =
    let ok = g.S.Side.matches c.args.side.now c.args.automaton.now in
    let q = c.loop-q.q in
    let p = c.args.p in
    let old = c.args.rel.now in
    let now = c.loop-q.rel in
    let P : Relation → Type 0 = λ R. AddsMatching ok (q + 1) p old R in
    elim c.if-matched.branch [
      | then-matched w ↦
          subst P (sym w.rel-is) (add_match ok q p old now w.set.new.self c.loop-q.invariant (c.matched.ensures.0 w.if-matched.true) w.set.ensures.pairs w.set.ensures.valid)
      | else-matched w ↦ subst P (sym w.rel-is) (add_passed ok q p old now c.loop-q.invariant (iff_false c.matched.ensures w.if-matched.false))
    ]

pub returns : goal.returns
returns g c =
    let ok = g.S.Side.matches c.args.side.now c.args.automaton.now in
    let all : c.loop-q.q ≡ c.args.automaton.now.states = omega (arith, c.loop-q-test.false, c.loop-q.auto.q-end, c.size-q-end.ensures.count, c.requires.equal) in
    let P : ℕ → Type 0 = λ n. AddsMatching ok n c.args.p c.args.rel.now c.loop-q.rel in
    subst P all c.loop-q.invariant
