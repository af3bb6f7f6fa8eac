use Rattle.std.proofs.Common.{rules, ◌≡◌, [], ℕ, ◌+◌, ◌-◌, ◌*◌, ◌/◌, ◌%◌, ◌^◌, ◌<◌, None, refl, sym, ap, ◌∙◌, subst, arith}
use Rattle.auto_core.specs.Delayed.{IsTripleWord}
use Rattle.delayed_sim.specs.declared.entries.Entry.{Entry}
use Rattle.delayed_sim.specs.Stored.{entry_triples}
use Rattle.delayed_sim.proofs.EntryLemmas.{valid_stored}
use Rattle.delayed_sim.proofs.FullLemmas.{IsFull, full_none, full_push, full_order, full_range, full_all}
use Rattle.delayed_sim.proofs.rounds.all_triples.Goals as goal

pub loop-number-init : goal.loop-number-init
loop-number-init c =
    let none : c.new-entries.result.items ≡ [] = search rules in
    subst (λ l. IsFull c.labels-labels.result c.args.letters c.states-states.result 0 (entry_triples c.args.letters l)) (sym none) (full_none c.labels-labels.result c.args.letters c.states-states.result)

pub loop-number-preserved : goal.loop-number-preserved
loop-number-preserved c =
    let n : ℕ = c.args.letters in
    let labels : ℕ = c.labels-labels.result in
    let states : ℕ = c.states-states.result in
    let i : ℕ = c.loop-number.number in
    let words : ℕ = c.word_count-words.result in
    let e : Entry = record { left = i / states / words; ahead = c.letters_of.result; right = i % states; rank = None } in
    subst (λ l. IsFull labels n states (i + 1) (entry_triples n l)) (sym c.in_ok-push.ensures.items)
    (full_push labels n states i words c.loop-number.entries.items e c.loop-number.invariant c.word_count-words.ensures refl c.letters_of.ensures refl refl)

-- There are as many entries as triples.
all_listed : (c : goal.After-loop-number) → c.loop-number.number ≡ c.states-states.result * c.labels-labels.result ^ (c.args.letters - 1) * c.states-states.result
all_listed c =
    let end : c.loop-number.number ≡ c.states-states.result * c.word_count-words.result * c.states-states.result = omega (arith, c.loop-number-test.false, c.loop-number.auto.number-end) in
    end ∙ ap (λ w. c.states-states.result * w * c.states-states.result) c.word_count-words.ensures

some : (c : goal.After-loop-number) → 0 < c.states-states.result
some c = omega (arith, c.states-states.ensures.valid.initial_is_state, c.states-states.ensures.count)

pub invariant_of-result : goal.invariant_of-result
invariant_of-result c =
    let T = entry_triples c.args.letters c.loop-number.entries.items in
    record {
      letters_from = c.requires.from;
      letters_upto = c.requires.upto;
      in_range = full_range c.labels-labels.result c.args.letters c.states-states.result c.loop-number.number T c.requires.from (some c) (all_listed c) c.loop-number.invariant;
      in_order = full_order c.labels-labels.result c.args.letters c.states-states.result c.loop-number.number T c.requires.from (some c) (all_listed c) c.loop-number.invariant;
    }

pub returns-clause-valid : goal.returns-clause-valid
returns-clause-valid c = valid_stored (record { states = c.states-states.result; labels = c.labels-labels.result; letters = c.args.letters; entries = c.loop-number.entries }) (invariant_of-result c)

pub returns-clause-all : goal.returns-clause-all
returns-clause-all c = λ b p q is_word p_in q_in.
    full_all c.labels-labels.result c.args.letters c.states-states.result c.loop-number.number (entry_triples c.args.letters c.loop-number.entries.items) c.requires.from (some c) (all_listed c) c.loop-number.invariant
    b p q (subst (λ l. IsTripleWord l c.args.letters b) (sym c.labels-labels.ensures.count) is_word) (omega (arith, p_in, c.states-states.ensures.count)) (omega (arith, q_in, c.states-states.ensures.count))
