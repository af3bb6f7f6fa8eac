use Rattle.std.proofs.Common.{length, sym, ap, subst, arith}
use Rattle.auto_core.specs.Delayed.{IsTripleWord}
use Rattle.delayed_sim.specs.Rankings.{triple_at}
use Rattle.delayed_sim.proofs.RightLemmas.{triple_range, answers_at}
use Rattle.delayed_sim.proofs.right.is_answered_at.Goals as goal

pub has_answers-requires-clause-left : goal.has_answers-requires-clause-left
has_answers-requires-clause-left c =
    let range = triple_range c.args.delayed.now c.left.ensures.valid c.args.at c.requires.inside in
    omega (arith, range.1, c.left.ensures.state, c.requires.equal)

pub has_answers-requires-clause-right : goal.has_answers-requires-clause-right
has_answers-requires-clause-right c =
    let range = triple_range c.args.delayed.now c.left.ensures.valid c.args.at c.requires.inside in
    omega (arith, range.2, c.right.ensures.state, c.requires.equal)

pub has_answers-requires-clause-letters : goal.has_answers-requires-clause-letters
has_answers-requires-clause-letters c =
    let range = triple_range c.args.delayed.now c.left.ensures.valid c.args.at c.requires.inside in
    subst (λ b. IsTripleWord c.args.delayed.now.labels c.args.delayed.now.letters b) (sym c.ahead.ensures.letters) range.0

pub has_answers-requires-clause-short : goal.has_answers-requires-clause-short
has_answers-requires-clause-short c =
    let range = triple_range c.args.delayed.now c.left.ensures.valid c.args.at c.requires.inside in
    omega (arith, range.0.0, c.left.ensures.valid.letters_upto, ap length c.ahead.ensures.letters)

pub returns : goal.returns
returns c =
    let X = c.args.delayed.now.triples in
    answers_at c.args.automaton.now X c.args.below (triple_at X c.args.at) c.left.result c.ahead.result.now c.right.result c.has_answers.result c.left.ensures.state c.ahead.ensures.letters c.right.ensures.state c.has_answers.ensures
