use Rattle.std.proofs.Common.{◌≡◌, ℕ, ◌+◌, ◌-◌, ◌/◌, ◌^◌, ◌<◌, ◌++◌, length, take, refl, sym, ap, ◌∙◌, subst, arith}
use Rattle.std.proofs.lemmas.List.{append-nil, length-set}
use Rattle.delayed_sim.specs.Words.{digits}
use Rattle.delayed_sim.proofs.WordLemmas.{letter_more, rest_below}
use Rattle.delayed_sim.proofs.words.letters_of.Goals as goal

pub loop-at-init : goal.loop-at-init
loop-at-init c =
    let e : c.args.letters ≡ c.args.letters - 0 = omega arith in (
      ap (λ i. digits c.args.labels i c.args.number) (sym e),
      subst (λ i. c.args.number < c.args.labels ^ i) e c.requires.below,
      refl,
    )

pub loop-at-preserved : goal.loop-at-preserved
loop-at-preserved c =
    let at : ℕ = c.loop-at.at in
    let letters : ℕ = c.args.letters in
    let m : ℕ = letters - 1 - at in
    let lt : at < letters = omega (arith, c.loop-at-test.true) in
    let inside : at < length c.loop-at.word = omega (arith, c.loop-at.invariant.2, c.requires.few) in (
      letter_more c.args.labels at m c.args.number c.loop-at.rest c.word_count-unit.result c.loop-at.word (digits c.args.labels letters c.args.number) (letters - at) (letters - (at + 1)) (omega arith) (omega arith) c.word_count-unit.ensures inside c.loop-at.invariant.0,
      rest_below c.args.labels (letters - at) m (letters - (at + 1)) c.loop-at.rest c.word_count-unit.result (omega arith) (omega arith) c.word_count-unit.ensures c.loop-at.invariant.1,
      length-set c.loop-at.word at (c.loop-at.rest / c.word_count-unit.result) ∙ c.loop-at.invariant.2,
    )

pub returns : goal.returns
returns c =
    let letters : ℕ = c.args.letters in
    let at : ℕ = c.loop-at.at in
    let end : at ≡ letters = omega (arith, c.loop-at-test.false, c.loop-at.auto.at-end) in
    let none : letters - at ≡ 0 = omega arith in
    ap (λ i. take i c.loop-at.word) (sym end)
    ∙ sym (append-nil (take at c.loop-at.word))
    ∙ ap (λ i. take at c.loop-at.word ++ digits c.args.labels i c.loop-at.rest) (sym none)
    ∙ c.loop-at.invariant.0
