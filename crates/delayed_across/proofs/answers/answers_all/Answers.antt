use Rattle.std.proofs.Common.{inl, inr, List, get_or, refl, sym, subst, arith}
use Rattle.std.proofs.lemmas.Bool.{cases_eq, iff_false, false≢true}
use Rattle.auto_core.proofs.MoveLemmas.{outgoing_moves, moves_in_outgoing}
use Rattle.auto_core.specs.Automaton.{trans, trans_at}
use Rattle.auto_core.specs.declared.parts.Trans.{Trans}
use Rattle.delayed_game.specs.Settling.{IsAnsweredIn}
use Rattle.delayed_laws.specs.Listed.{place_pairs}
use Rattle.delayed_across.specs.Answered.{HoldsBelow}
use Rattle.delayed_across.proofs.answers.answers_all.Goals as goal

pub loop-t-preserved : goal.loop-t-preserved
loop-t-preserved c = λ v from lt.
    let A = c.args.first.now in
    let Here : Trans → Type 0 = λ u. IsAnsweredIn c.args.second.now (HoldsBelow (place_pairs c.args.pairs.now) c.args.bound) c.args.pair.right u.label u.target in
    elim (cases_eq v c.loop-t.t) [
      | inl e ↦
          let Q : List Trans → Type 0 = λ ts. Here (get_or ts c.loop-t.t (trans 0 0 0)) in
          let here : Here (trans_at A c.loop-t.t) = subst Q c.transitions.ensures.list (c.is_answered.ensures.0 c.if-not-is_answered.false) in
          subst (λ x. Here (trans_at A x)) (sym e) here
      | inr apart ↦ c.loop-t.invariant v from (omega arith)
    ]

pub returns : goal.returns
returns c =
    let A = c.args.first.now in
    let Here : Trans → Type 0 = λ u. IsAnsweredIn c.args.second.now (HoldsBelow (place_pairs c.args.pairs.now) c.args.bound) c.args.pair.right u.label u.target in (
      (λ yes a p' move.
          let (t, from, below, is) = moves_in_outgoing A c.args.pair.left c.outgoing-span.result.begin c.outgoing-span.result.end c.outgoing-span.ensures.range a p' move in
          subst Here is (c.loop-t.invariant t from (omega (arith, below, c.loop-t-test.false)))),
      λ h. refl,
    )

pub returns-then-not-is_answered : goal.returns-then-not-is_answered
returns-then-not-is_answered c =
    let A = c.args.first.now in
    let Here : Trans → Type 0 = λ u. IsAnsweredIn c.args.second.now (HoldsBelow (place_pairs c.args.pairs.now) c.args.bound) c.args.pair.right u.label u.target in
    let Q : List Trans → Type 0 = λ ts. Here (get_or ts c.loop-t.t (trans 0 0 0)) in
    let move = outgoing_moves A c.args.pair.left c.outgoing-span.result.begin c.outgoing-span.result.end c.outgoing-span.ensures.range c.loop-t.t c.loop-t.auto.t c.loop-t-test.true in (
      (λ yes. absurd (false≢true yes)),
      λ all. absurd (iff_false c.is_answered.ensures c.if-not-is_answered.true (subst Q (sym c.transitions.ensures.list) (all (trans_at A c.loop-t.t).label (trans_at A c.loop-t.t).target move))),
    )
