use Rattle.std.proofs.Common.{◌≡◌, ◌+◌, ◌*◌, sym, ap, ◌∙◌, arith}
use Rattle.delayed_sim.proofs.LetterLemmas.{many_stay, power_next}
use Rattle.delayed_sim.proofs.letters.are_few_triples_with_a_letter.Goals as goal

pub returns-then-count-gt-MOST_TRIPLES_WITH_A_LETTER : goal.returns-then-count-gt-MOST_TRIPLES_WITH_A_LETTER
returns-then-count-gt-MOST_TRIPLES_WITH_A_LETTER c =
    sym (many_stay c.args.automaton.now c.loop.count c.loop.counter c.args.letters c.requires (omega (arith, c.loop-test.true)) c.loop.invariant (omega (arith, c.if-count-gt-MOST_TRIPLES_WITH_A_LETTER.true)))

pub loop-preserved : goal.loop-preserved
loop-preserved c =
    let A = c.args.automaton.now in
    let labels : c.from-labels.result ≡ A.labels = c.from-labels.ensures ∙ c.labels.ensures.count in
    ap (λ l. c.loop.count * l) labels ∙ power_next c.loop.count (A.states * A.states) A.labels c.loop.counter (c.loop.counter + 1) (omega arith) c.loop.invariant
