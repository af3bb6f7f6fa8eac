use Rattle.std.proofs.Common.{List, refl, sym, subst, ◌∙◌, arith}
use Rattle.reduce_loop.specs.declared.steps.Reduced.{Reduced}
use Rattle.reduce_loop.specs.declared.steps.Step.{Step}
use Rattle.reduce_loop.proofs.PassLemmas.{reduced_no_larger}
use Rattle.cert_value.specs.declared.types.Cert.{Cert}
use Rattle.decide.specs.Answer.{IsOrder, IsAnswer}
use Rattle.decide.specs.Terms.{sight_of}
use Rattle.decide.specs.Laws.{CanDecide}
use Rattle.decide.specs.Logs.{AreStepsOnFew, AreLogsOf}
use Rattle.decide.proofs.EndLemmas.{log_few}
use Rattle.decide.proofs.MadeLemmas.{answer_made}
use Rattle.decide.proofs.AnswerLemmas.{answers_are_formed, answers_are_valid, yes_includes, yes_stands_apart, no_separates, word_tells_apart, list_is_new, no_list_at_bound}
use Rattle.decide.proofs.deciding.answer.Goals as goal

pub body_of-requires-clause-labels : goal.body_of-requires-clause-labels
body_of-requires-clause-labels c =
    let first = reduced_no_larger c.args.pair.now.first c.in_ok-first.first.auto c.args.terms.mode (sight_of c.args.terms) c.states-first_states.ensures.valid c.requires.bounded.look_from c.in_ok-first.ensures.reduced in
    let second = reduced_no_larger c.args.pair.now.second c.in_ok-second.second.auto c.args.terms.mode (sight_of c.args.terms) c.states-second_states.ensures.valid c.requires.bounded.look_from c.in_ok-second.ensures.reduced in
    first.labels ∙ c.requires.first_labels ∙ sym c.requires.second_labels ∙ sym second.labels

pub logs_of-requires-clause-first : goal.logs_of-requires-clause-first
logs_of-requires-clause-first c =
    let reduced = c.in_ok-first.first in
    subst (λ (l : List Step). AreStepsOnFew l) (sym c.as_slice.ensures)
    (log_few c.args.pair.now.first reduced.auto c.args.terms.mode (sight_of c.args.terms) reduced.log c.states-first_states.ensures.valid c.requires.first_parts.states (omega (arith, c.requires.few_labels, c.requires.first_labels)) c.in_ok-first.ensures.log)

pub logs_of-requires-clause-second : goal.logs_of-requires-clause-second
logs_of-requires-clause-second c =
    let reduced = c.in_ok-second.second in
    subst (λ (l : List Step). AreStepsOnFew l) (sym c.as_slice-2.ensures)
    (log_few c.args.pair.now.second reduced.auto c.args.terms.mode (sight_of c.args.terms) reduced.log c.states-second_states.ensures.valid (omega (arith, c.requires.second_parts.states)) (omega (arith, c.requires.few_labels, c.requires.second_labels)) c.in_ok-second.ensures.log)

pub body_of-requires-clause-few : goal.body_of-requires-clause-few
body_of-requires-clause-few c =
    let less = reduced_no_larger c.args.pair.now.second c.in_ok-second.second.auto c.args.terms.mode (sight_of c.args.terms) c.states-second_states.ensures.valid c.requires.bounded.look_from c.in_ok-second.ensures.reduced in
    let fewer = less.states in
    omega (arith, c.in_ok-second.ensures.order.on_states, c.requires.second_parts.states)

pub returns : goal.returns
returns c =
    let pair = c.args.pair.now in
    let first = c.in_ok-first.first in
    let second : Reduced = record { auto = c.in_ok-second.second.auto; log = c.in_ok-second.second.log } in
    let logs = c.in_ok-logs.logs in
    let R = c.in_ok-second.second.order in
    let order : IsOrder second.auto R.pairs = record { greatest = c.in_ok-second.ensures.order.greatest; ascending = c.in_ok-second.ensures.order.valid.in_order } in
    let written : AreLogsOf first.log second.log logs =
    subst (λ (l : List Step). AreLogsOf l second.log logs) c.as_slice.ensures (subst (λ (l : List Step). AreLogsOf c.as_slice.result.now l logs) c.as_slice-2.ensures c.in_ok-logs.ensures) in
    let cert : Cert = record { version = c.args.terms.version; mode = c.args.terms.mode; first_states = c.states-first_states.result; second_states = c.states-second_states.result; labels = c.count.result; body = c.in_ok-body_of.field-0 } in
    let answer : IsAnswer pair c.args.terms cert =
    answer_made pair c.args.terms first second logs R.pairs c.in_ok-first.ensures.log c.in_ok-second.ensures.log written order cert refl refl
    (c.states-first_states.ensures.count, c.states-second_states.ensures.count, c.count.ensures.count) c.in_ok-body_of.ensures in
    let can : CanDecide pair = record {
      first = c.states-first_states.ensures.valid;
      second = c.states-second_states.ensures.valid;
      first_labels = c.requires.first_labels;
      second_labels = c.requires.second_labels;
      few_labels = c.requires.few_labels;
      first_parts = c.requires.first_parts;
      second_parts = c.requires.second_parts;
    } in
    record {
      answer = answer;
      formed = answers_are_formed pair c.args.terms cert can c.requires.bounded answer;
      valid = answers_are_valid pair c.args.terms cert can c.requires.bounded answer;
      included = yes_includes pair c.args.terms cert can c.requires.bounded answer;
      apart_live = yes_stands_apart pair c.args.terms cert can c.requires.bounded answer;
      apart = no_separates pair c.args.terms cert can c.requires.bounded answer;
      apart_word = word_tells_apart pair c.args.terms cert can c.requires.bounded answer;
      listed = list_is_new pair c.args.terms cert can c.requires.bounded answer;
      no_list = λ high. no_list_at_bound pair c.args.terms cert can c.requires.bounded answer high;
    }
