use Rattle.std.proofs.Common.{◌+◌, ℕ, inl, inr, List, refl, sym, ◌∙◌, subst, arith}
use Rattle.std.proofs.lemmas.Bool.{cases_lt, iff_false, false≢true}
use Rattle.auto_core.specs.Game.{Round, Holds}
use Rattle.look_game.proofs.VisitLemmas.{AreTried, none_tried, tried_holds, tried_fails}
use Rattle.look_game.proofs.visiting.find_lost.Goals as goal
use Rattle.look_game.proofs.visiting.find_lost.Goals.{then-not-round_holds_by, else-not-round_holds_by}

pub loop-q-init : goal.loop-q-init
loop-q-init g c =
    let P : ℕ → Type 0 = λ q. Round (g.S.Side.goes c.args.side.now c.args.automaton.now) (g.S.Side.goes c.args.side.now c.args.automaton.now) (g.S.Side.matches c.args.side.now c.args.automaton.now) c.args.look (Holds c.args.rel.now.pairs) c.args.p q in
    (refl, omega (arith, c.requires.lost, c.clear_row.auto.row), none_tried c.args.rest.now c.clear_row.new.row P c.clear_row.ensures, omega arith)

pub round_holds_by-requires-clause-right : goal.round_holds_by-requires-clause-right
round_holds_by-requires-clause-right g c = c.requires.rest c.in-Some.q c.in-Some.ensures.found.here

pub loop-q-smaller : goal.loop-q-smaller
loop-q-smaller g c =
    let below = c.requires.rest c.in-Some.q c.in-Some.ensures.found.here in
    let behind = c.in-Some.ensures.found.behind in
    omega arith

pub loop-q-preserved : goal.loop-q-preserved
loop-q-preserved g c =
    let P : ℕ → Type 0 = λ q. Round (g.S.Side.goes c.args.side.now c.args.automaton.now) (g.S.Side.goes c.args.side.now c.args.automaton.now) (g.S.Side.matches c.args.side.now c.args.automaton.now) c.args.look (Holds c.args.rel.now.pairs) c.args.p q in
    let q = c.in-Some.q in
    let next = c.in-Some.ensures.found in
    let below = c.requires.rest q next.here in
    let h = c.loop-q.invariant in
    let T : List ℕ → Type 0 = λ row. AreTried c.args.rest.now row P (q + 1) in (
      c.round_holds_by.ensures.scratch ∙ h.0,
      omega (arith, h.1, c.if-not-round_holds_by.auto.lost),
      elim c.if-not-round_holds_by.branch [
        | then-not-round_holds_by w ↦
            subst T (sym w.lost-is)
            (tried_fails c.args.rest.now c.loop-q.lost w.set_bit.new.row P c.loop-q.at q h.2 next (iff_false c.round_holds_by.ensures.told w.if-not-round_holds_by.true) w.set_bit.ensures.here w.set_bit.ensures.others)
        | else-not-round_holds_by w ↦
            subst T (sym w.lost-is)
            (tried_holds c.args.rest.now c.loop-q.lost P c.loop-q.at q h.2 next (c.round_holds_by.ensures.told.0 w.if-not-round_holds_by.false))
      ],
      omega arith,
    )

pub returns-clause-lost : goal.returns-clause-lost
returns-clause-lost g c = λ q bit. let was = c.loop-q.invariant.2.fail q bit in (was.1, was.2)

pub returns-clause-rounds : goal.returns-clause-rounds
returns-clause-rounds g c = λ q bit none.
    elim (cases_lt q c.loop-q.at) [
      | inl before ↦ c.loop-q.invariant.2.rounds q before bit none
      | inr from ↦ absurd (false≢true (sym (c.in_default.ensures.none q from) ∙ bit))
    ]
