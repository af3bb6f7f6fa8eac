use Rattle.std.proofs.Common.{ℕ, subst}
use Rattle.auto_core.specs.Delayed.{IsTripleWord}
use Rattle.delayed_sim.proofs.FewLemmas.{listable}
use Rattle.delayed_sim.proofs.rounds.greatest_by_rounds.Goals as goal

pub all_triples-requires-clause-words : goal.all_triples-requires-clause-words
all_triples-requires-clause-words c = (listable c.args.automaton.now c.args.letters c.states-states.ensures.valid c.requires.from c.requires.fitting c.requires.few).words

pub all_triples-requires-clause-word_count : goal.all_triples-requires-clause-word_count
all_triples-requires-clause-word_count c = (listable c.args.automaton.now c.args.letters c.states-states.ensures.valid c.requires.from c.requires.fitting c.requires.few).word_count

pub all_triples-requires-clause-places : goal.all_triples-requires-clause-places
all_triples-requires-clause-places c = (listable c.args.automaton.now c.args.letters c.states-states.ensures.valid c.requires.from c.requires.fitting c.requires.few).places

pub all_triples-requires-clause-few : goal.all_triples-requires-clause-few
all_triples-requires-clause-few c = (listable c.args.automaton.now c.args.letters c.states-states.ensures.valid c.requires.from c.requires.fitting c.requires.few).pairs

pub passes-init : goal.passes-init
passes-init c = (
  c.in_ok-left.ensures.states,
  c.in_ok-left.ensures.labels,
  c.in_ok-left.ensures.letters,
  c.in_ok-left.ensures.valid,
  c.in_ok-left.ensures.few,
  λ Y range right b p q h.
      let (is_word, left, inside) = range b p q h in
      c.in_ok-left.ensures.all b p q (subst (λ (n : ℕ). IsTripleWord c.args.automaton.now.labels n b) c.in_ok-left.ensures.letters is_word) left inside,
)
