use Rattle.std.proofs.Common.{ℕ, ◌≤◌, inl, inr, subst, arith}
use Rattle.std.specs.Prelude.{None}
use Rattle.delayed_sim.specs.Rankings.{IsTripleFrom}
use Rattle.delayed_sim.proofs.RightLemmas.{triple_range}
use Rattle.delayed_sim.proofs.RelateLemmas.{placed_held, held_placed, placed_more}
use Rattle.delayed_sim.proofs.relating.mark_row.Goals as goal

pub loop-at-init : goal.loop-at-init
loop-at-init c = λ s. (λ bit. inl bit, λ either. elim either [ inl bit ↦ bit | inr (i, from, lt, done, is) ↦ absurd (omega arith) ])

pub right-requires : goal.right-requires
right-requires c =
    let upto = c.first_from-end.ensures.upto in
    omega (arith, c.loop-at-test.true)

pub set_bit-requires : goal.set_bit-requires
set_bit-requires c =
    let upto = c.first_from-end.ensures.upto in
    let range = triple_range c.args.delayed.now c.requires.valid c.loop-at.at (omega (arith, c.loop-at-test.true)) in
    let right = range.2 in
    omega (arith, c.right.ensures.state, c.loop-at.auto.row, c.requires.len)

pub loop-at-preserved : goal.loop-at-preserved
loop-at-preserved c =
    placed_more c.args.delayed.now.triples c.first_from-begin.result c.first_from-end.result c.loop-at.at c.right.result c.args.row.now c.loop-at.row c.set_bit.new.row
    c.loop-at.auto.at (omega (arith, c.loop-at-test.true)) c.right.ensures.state c.loop-at.invariant c.set_bit.ensures.here c.set_bit.ensures.others

pub returns : goal.returns
returns c = λ q.
    let X = c.args.delayed.now.triples in
    let p = c.args.p in
    let b = c.args.ahead.now in
    let size = c.args.delayed.now.states in
    let begin : ℕ = c.first_from-begin.result in
    let end : ℕ = c.first_from-end.result in
    let first : IsTripleFrom X (p, b, 0, None) begin = c.first_from-begin.ensures in
    let last : IsTripleFrom X (p, b, size, None) end = subst (λ (n : ℕ). IsTripleFrom X (p, b, n, None) end) c.states.ensures.count c.first_from-end.ensures in
    let h = c.loop-at.invariant q in
    let all : end ≤ c.loop-at.at = omega (arith, c.loop-at-test.false) in (
      λ bit. elim (h.0 bit) [
        | inl was ↦ inl was
        | inr placed ↦ inr (placed_held X p b size begin end first last q c.loop-at.at placed)
      ],
      λ either. h.1 (elim either [
        | inl was ↦ inl was
        | inr held ↦ inr (held_placed X p b size begin end first last q c.loop-at.at (c.requires.valid.in_range b p q held).2 all held)
      ]),
    )
