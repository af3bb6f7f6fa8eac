use Rattle.std.proofs.Common.{◌≡◌, ℕ, ◌-◌, ◌<◌, true, false, sym, ◌∙◌, arith}
use Rattle.auto_core.specs.Delayed.{are_few_triples_with_a_letter}
use Rattle.delayed_sim.proofs.LetterLemmas.{most_is, most_less, with_labels}
use Rattle.delayed_sim.proofs.letters.letters_for.Goals as goal

pub returns-then-are_few_triples_with_a_letter-clause-letters : goal.returns-then-are_few_triples_with_a_letter-clause-letters
returns-then-are_few_triples_with_a_letter-clause-letters c =
    let A = c.args.automaton.now in
    let few : are_few_triples_with_a_letter A c.fewer.letters ≡ true = sym c.are_few_triples_with_a_letter.ensures ∙ c.if-are_few_triples_with_a_letter.true in
    sym (with_labels A c.args.asked (λ none. c.if-labels-eq0.false (c.labels.ensures.count ∙ none)) ∙ c.fewer.invariant.0 ∙ most_is A c.fewer.letters c.fewer.invariant.1 few)

pub fewer-preserved : goal.fewer-preserved
fewer-preserved c =
    let A = c.args.automaton.now in
    let l : ℕ = c.fewer.letters in
    let more : 1 < l = c.fewer-test.true in
    let few : are_few_triples_with_a_letter A l ≡ false = sym c.are_few_triples_with_a_letter.ensures ∙ c.if-are_few_triples_with_a_letter.false in
    let upto = c.fewer.invariant.2 in
    (c.fewer.invariant.0 ∙ most_less A l (l - 1) (omega arith) few, omega arith, omega arith)
