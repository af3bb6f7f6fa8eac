use Rattle.std.proofs.Common.{◌≡◌, ◌+◌, ◌<◌, ℕ, inl, inr, refl, sym, ◌∙◌, subst, arith}
use Rattle.std.proofs.lemmas.Bool.{cases_eq}
use Rattle.look_round.specs.Arrivals.{IsRowOfArrivals}
use Rattle.look_round.proofs.AnsweringLemmas.{arrivals_kept, arrivals_written}
use Rattle.look_round.proofs.arrivals.Arrivals.new.Goals as goal

pub loop-r-init : goal.loop-r-init
loop-r-init g c =
    let e = c.in_ok-made.ensures in
    (e.labels, e.width, refl, e.kept, λ r r_in. absurd (omega arith))

pub write-requires-clause-row : goal.write-requires-clause-row
write-requires-clause-row g c =
    let same = c.loop-r.invariant.2 in
    omega (arith, same)

pub write-requires-clause-state : goal.write-requires-clause-state
write-requires-clause-state g c =
    let h = c.loop-r.invariant in
    let same = h.2 in
    let kept = h.3 in
    let below = c.requires.kept in
    omega (arith, same)

pub write-requires-clause-width : goal.write-requires-clause-width
write-requires-clause-width g c = c.loop-r.invariant.1 ∙ c.requires.width

pub loop-r-preserved : goal.loop-r-preserved
loop-r-preserved g c =
    let M = g.S.Side.goes c.args.side.now c.args.automaton.now in
    let e = c.write.ensures in
    let h = c.loop-r.invariant in
    let kept = h.3 in (
      e.labels ∙ h.0,
      e.width ∙ h.1,
      e.kept ∙ h.2,
      omega (arith, e.kept),
      λ r r_in. elim (cases_eq r c.loop-r.r) [
        | inl same ↦ subst (IsRowOfArrivals M c.write.new.self) (sym same) (arrivals_written M c.loop-r.made c.write.new.self c.loop-r.r e.labels e.width e.here)
        | inr apart ↦ arrivals_kept M c.loop-r.made c.write.new.self r e.labels e.width (λ x x_in. e.others r x x_in apart) (h.4 r (omega arith))
      ],
    )

pub returns-clause-arrivals : goal.returns-clause-arrivals
returns-clause-arrivals g c =
    let h = c.loop-r.invariant in
    let same = h.2 in
    λ r r_in. h.4 r (omega (arith, same, c.loop-r-test.false, c.loop-r.auto.r-end))
