use Rattle.std.proofs.Common.{◌≡◌, ℕ, ◌<◌, ◌⊎◌, ◌↔◌, inl, inr, refl, ◌∙◌, subst, arith}
use Rattle.auto_core.specs.Game.{Holds}
use Rattle.delayed_sim.proofs.RelateLemmas.{row_filled}
use Rattle.delayed_sim.proofs.game.fill_row.Goals as goal

pub loop-q-init : goal.loop-q-init
loop-q-init c = (
  refl,
  c.requires.valid,
  λ r s. (λ h. inl h, λ either. elim either [ inl h ↦ h | inr row ↦ let lt = row.1 in absurd (omega arith) ]),
)

pub loop-q-preserved : goal.loop-q-preserved
loop-q-preserved c = (
  c.set.ensures.pairs.size ∙ c.loop-q.invariant.0,
  c.set.ensures.valid,
  row_filled c.args.rel.now c.loop-q.rel c.set.new.self c.args.p c.loop-q.q c.loop-q.invariant.2 c.set.ensures.pairs,
)

pub returns-clause-pairs : goal.returns-clause-pairs
returns-clause-pairs c =
    let all : c.loop-q.q ≡ c.args.rel.now.size = omega (arith, c.loop-q-test.false, c.loop-q.auto.q-end, c.size-q-end.ensures.count) in
    subst (λ n. (r q : ℕ) → Holds c.loop-q.rel.pairs r q ↔ (Holds c.args.rel.now.pairs r q ⊎ ((r ≡ c.args.p) × (q < n)))) all c.loop-q.invariant.2
