use Rattle.std.proofs.Common.{sym, ◌∙◌, subst}
use Rattle.product_laws.specs.Reached.{IsBadCycle}
use Rattle.product_search.specs.Found.{pair_at}
use Rattle.product_search.specs.Words.{IsWordTo}
use Rattle.product_search.proofs.WordLemmas.{ways_have, first_stays, word_makes_cycle}
use Rattle.product_search.proofs.cycles.cycle_of.Goals as goal

pub number_of-at-requires-clause-there : goal.number_of-at-requires-clause-there
number_of-at-requires-clause-there c =
    ways_have c.args.first.now c.args.second.now c.args.pairs.now.keys c.args.bad.to c.args.bad.from c.requires.back c.pair_of.result c.pair_of-2.result c.pair_of.ensures c.pair_of-2.ensures
    4294967294 c.in_ok-ways.ways.pairs.keys c.expand_all.new.self.pairs.keys c.expand_all.new.self.steps.items c.in_ok-expand_all.field-0 c.in_ok-ways.ensures.pairs c.if-not-branch.false c.in_ok-expand_all.ensures

pub returns : goal.returns
returns c =
    let A = c.args.first.now in
    let B = c.args.second.now in
    let pairs = c.args.pairs.now.keys in
    let bad = c.args.bad in
    let (found, grows, ends) = c.in_ok-expand_all.ensures in
    subst (λ w. IsBadCycle A B (pair_at pairs bad.to).0 (pair_at pairs bad.to).1 w) (sym c.in_ok-push.ensures.ok)
    (word_makes_cycle A B c.expand_all.new.self.pairs.keys c.expand_all.new.self.steps.items found c.number_of-at.result c.number_of-at.ensures.within c.in_ok-word.word (subst (λ l. IsWordTo l c.number_of-at.result c.in_ok-word.word) c.deref.ensures.value c.in_ok-word.ensures)
    (pair_at pairs bad.from) (pair_at pairs bad.to) (c.number_of-at.ensures.pair ∙ c.pair_of-2.ensures)
    (first_stays c.pair_of.result c.in_ok-ways.ways.pairs.keys c.expand_all.new.self.pairs.keys c.in_ok-ways.ensures.pairs grows ∙ c.pair_of.ensures) bad.letter c.requires.step c.requires.accepts)
