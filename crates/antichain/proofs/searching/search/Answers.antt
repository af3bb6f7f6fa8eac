use Rattle.std.proofs.Common.{◌≡◌, ℕ, List, map, ap, ◌∙◌, subst}
use Rattle.auto_core.specs.Automaton.{Automaton}
use Rattle.auto_core.specs.declared.parts.Origin.{Origin}
use Rattle.antichain.specs.declared.parts.Held.{Held}
use Rattle.antichain.specs.declared.parts.Fate.TheVariants as fates
use Rattle.antichain.specs.declared.parts.WordOutcome.TheVariants as end
use Rattle.antichain.specs.declared.family.Family.{Family}
use Rattle.antichain.specs.Kept.{HasEnded, entries_held}
use Rattle.antichain.specs.Ends.{IsWordOutcomeOf}
use Rattle.antichain.proofs.WholeLemmas.{held_names, word_is, inside, origins_are}
use Rattle.antichain.proofs.AnswerLemmas.{answer_is_true}
use Rattle.antichain.proofs.searching.search.Goals as goal
use Rattle.antichain.proofs.searching.search.Goals.{After-as_slice}

-- How the search ended where it told an element apart, and the origins.
ended : (c : goal.After-as_slice) → HasEnded c.args.first.now c.args.second.now c.args.order.now.pairs c.args.limit (fates.Apart c.in-Apart.number) (entries_held c.args.first.now c.run.new.family)
ended c = subst (λ k. HasEnded c.args.first.now c.args.second.now c.args.order.now.pairs c.args.limit k (entries_held c.args.first.now c.run.new.family)) c.in-Apart.is c.in_ok-fate.ensures.ended

origins_held : (c : goal.After-as_slice) → c.as_slice.result.now ≡ map (λ (h : Held). h.origin) c.run.new.family.held.items
origins_held c = c.as_slice.ensures ∙ c.in_ok-origins-in-Apart.ensures ∙ ap (map (λ (h : Held). h.origin)) c.deref.ensures.value

pub returns-in-GoesOn-clause-truth : goal.returns-in-GoesOn-clause-truth
returns-in-GoesOn-clause-truth c =
    let A : Automaton = c.args.first.now in
    let B : Automaton = c.args.second.now in
    let S : List (ℕ × ℕ) = c.args.order.now.pairs in
    let limit : ℕ = c.args.limit in
    let f : Family = c.run.new.family in
    let ended : HasEnded A B S limit fates.GoesOn (entries_held A f) = subst (λ k. HasEnded A B S limit k (entries_held A f)) c.in-GoesOn.is c.in_ok-fate.ensures.ended in
    let closure = c.in_ok-closure-in-GoesOn.field-0 in
    let answer : IsWordOutcomeOf A B S limit (end.Closed closure) = (entries_held A f, ended, c.in_ok-closure-in-GoesOn.ensures) in
    answer_is_true A B S limit c.states-2.ensures.valid c.requires.greatest (end.Closed closure) answer

pub word_of-requires : goal.word_of-requires
word_of-requires c =
    let path = (goal.at.word_of-requires c).After-as_slice in
    record {
      is_there = inside c.args.first.now c.args.second.now c.args.order.now.pairs c.run.new.family c.in_ok-fate.ensures.whole c.as_slice.result.now (origins_held path) c.in-Apart.number (ended path).0 (ended path).1;
      names = held_names c.args.first.now c.args.second.now c.args.order.now.pairs c.run.new.family c.in_ok-fate.ensures.whole c.as_slice.result.now (origins_held path);
    }

pub returns-in-Apart : goal.returns-in-Apart
returns-in-Apart c =
    let path = (goal.at.returns-in-Apart c).After-as_slice in
    let how = ended path in
    let word : List ℕ = c.in_ok-word_of-in-Apart.field-0 in
    let answer : IsWordOutcomeOf c.args.first.now c.args.second.now c.args.order.now.pairs c.args.limit (end.Apart word) = (
      how.0,
      how.2,
      c.in_ok-word_of-in-Apart.ensures ∙ word_is c.args.first.now c.args.second.now c.args.order.now.pairs c.run.new.family c.in_ok-fate.ensures.whole c.as_slice.result.now (origins_held path) c.in-Apart.number how.0 how.1,
    ) in
    record {
      answer = answer;
      truth = answer_is_true c.args.first.now c.args.second.now c.args.order.now.pairs c.args.limit c.states-2.ensures.valid c.requires.greatest (end.Apart word) answer;
    }

pub returns : goal.returns
returns c =
    let A : Automaton = c.args.first.now in
    let B : Automaton = c.args.second.now in
    let S : List (ℕ × ℕ) = c.args.order.now.pairs in
    let limit : ℕ = c.args.limit in
    let f : Family = c.run.new.family in
    let ended : HasEnded A B S limit fates.Limit (entries_held A f) = subst (λ k. HasEnded A B S limit k (entries_held A f)) c.in-Limit.is c.in_ok-fate.ensures.ended in
    let origins : List Origin = c.in_ok-origins_of-in-Limit.field-0 in
    let is : origins ≡ map (λ (h : Held). h.origin) f.held.items = c.in_ok-origins_of-in-Limit.ensures ∙ ap (map (λ (h : Held). h.origin)) c.deref-in-Limit.ensures.value in
    let answer : IsWordOutcomeOf A B S limit (end.Limit origins) = (entries_held A f, ended, origins_are A f origins is) in
    record {
      answer = answer;
      truth = answer_is_true A B S limit c.states-2.ensures.valid c.requires.greatest (end.Limit origins) answer;
    }
