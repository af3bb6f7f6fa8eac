use Rattle.std.proofs.Common.{rules, ◌≡◌, ℕ, ◌+◌, ◌-◌, inl, inr, false, sym, ap, ◌∙◌, subst, arith}
use Rattle.std.proofs.lemmas.Bool.{cases_eq, false≢true}
use Rattle.auto_core.specs.Rows.{bit_of}
use Rattle.delayed_game.proofs.BoardLemmas.{no_more_pairs}
use Rattle.delayed_game.proofs.SettleLemmas.{takes_none, takes_then}
use Rattle.delayed_game.proofs.settling.pass.Goals as goal

pub loop-to-init : goal.loop-to-init
loop-to-init c = (
  takes_none c.args.places.now c.args.automaton.now c.args.board.now c.requires.valid,
  omega arith,
  λ yes. absurd (false≢true yes),
  λ no x from x_in. absurd (omega (arith, c.states-to.ensures.count)),
  c.requires.besides,
  c.requires.kept,
)

pub try_into-requires-clause-others : goal.try_into-requires-clause-others
try_into-requires-clause-others c = λ x x_in apart clear. c.loop-to.invariant.4 x x_in (sym (c.clear_bit.ensures.others x apart) ∙ clear)

pub loop-to-preserved-then-try_into : goal.loop-to-preserved-then-try_into
loop-to-preserved-then-try_into c =
    let R = c.loop-to.board in
    let h = c.loop-to.invariant in
    let upto = h.1 in
    let fell = c.try_into.ensures.tries.some c.if-try_into.true in (
      takes_then c.args.places.now c.args.automaton.now c.args.board.now R c.try_into.new.board h.0 c.try_into.ensures.tries.takes,
      omega arith,
      λ yes. omega arith,
      λ no. absurd (false≢true (sym no)),
      c.try_into.ensures.answered,
      c.try_into.ensures.kept,
    )

pub loop-to-preserved-else-try_into : goal.loop-to-preserved-else-try_into
loop-to-preserved-else-try_into c =
    let n = c.loop-to.to in
    let to : ℕ = n - 1 in
    let next : to + 1 ≡ n = search rules in
    let R = c.loop-to.board in
    let S = c.try_into.new.board in
    let h = c.loop-to.invariant in
    let upto = h.1 in
    let takes = c.try_into.ensures.tries.takes in
    let less = no_more_pairs R S h.0.valid takes.valid takes.within in (
      takes_then c.args.places.now c.args.automaton.now c.args.board.now R S h.0 takes,
      omega arith,
      λ yes. let fell = h.2 yes in omega arith,
      λ no x from x_in. ap (λ m. bit_of m x) (c.try_into.ensures.tries.same c.if-try_into.false) ∙ elim (cases_eq x to) [
        | inl e ↦ subst (λ y. bit_of c.clear_bit.new.row y ≡ false) (sym e) c.clear_bit.ensures.here
        | inr apart ↦ c.clear_bit.ensures.others x apart ∙ h.3 no x (omega arith) x_in
      ],
      c.try_into.ensures.answered,
      c.try_into.ensures.kept,
    )

pub loop-to-preserved : goal.loop-to-preserved
loop-to-preserved c =
    let n = c.loop-to.to in
    let to : ℕ = n - 1 in
    let next : to + 1 ≡ n = search rules in
    let h = c.loop-to.invariant in (
      h.0,
      h.1,
      h.2,
      λ no x from x_in. elim (cases_eq x to) [
        | inl e ↦ subst (λ y. bit_of c.loop-to.marks y ≡ false) (sym e) (sym c.has_bit.ensures ∙ c.if-has_bit.false)
        | inr apart ↦ h.3 no x (omega arith) x_in
      ],
      h.4,
      h.5,
    )
