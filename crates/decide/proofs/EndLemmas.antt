-- What is so of the reduced automata and their logs.
use Rattle.std.specs.Prelude.{IfSome}
use Rattle.std.proofs.Common.{◌≡◌, ℕ, zero, suc, Option, None, Some, ◌+◌, ◌≤◌, true, List, length, sym, ◌∙◌, subst, arith, ◌&&◌}
use Rattle.std.specs.List.{list_all}
use Rattle.std.proofs.lemmas.Bool.{and_from}
use Rattle.auto_core.specs.Automaton.{Automaton, IsAutomaton}
use Rattle.auto_core.specs.Accept.{Same}
use Rattle.auto_core.specs.Game.{IsGreatestForward, IsGreatestBackward}
use Rattle.auto_core.specs.Pruning.{look_backward, look_forward}
use Rattle.auto_core.specs.declared.parts.Mode.{Mode}
use Rattle.bit_rel.specs.Relation.{Relation}
use Rattle.ba_format.specs.declared.parts.Joined.{Joined}
use Rattle.cert_value.specs.declared.types.FirstStep.{FirstStep}
use Rattle.cert_value.specs.declared.types.SecondStep.{SecondStep}
use Rattle.cert_value.specs.WellFormed.{is_short, is_first_step, is_second_step, are_logs}
use Rattle.log_check.specs.declared.ends.Ends.{Ends}
use Rattle.reduce_loop.specs.declared.steps.Foresight.{Foresight}
use Rattle.reduce_loop.specs.declared.steps.Step.{Step}
use Rattle.reduce_loop.specs.declared.steps.Kind.{Kind}
use Rattle.reduce_loop.specs.declared.steps.Kind.TheVariants.{Trim, Forward, Backward, Delayed, Prune}
use Rattle.reduce_loop.specs.Kinds.{kinds_of}
use Rattle.reduce_loop.specs.Logs.{IsLog, LogPasses, IsRelationOf, IsGivenWhere, IsStepEntry}
use Rattle.reduce_loop.proofs.PassLemmas.{through_valid, log_through, log_of_reduced, reduced_same, reduced_settled, reduced_no_larger}
use Rattle.decide.specs.declared.terms.Terms.{Terms}
use Rattle.decide.specs.Terms.{AreBounded, sight_of}
use Rattle.decide.specs.Answer.{Reductions, AreReductions}
use Rattle.decide.specs.Laws.{CanDecide, AreSettledEnds, WrittenLogsLead}
use Rattle.decide.specs.Written.{IsFirstWritten, IsSecondWritten}
use Rattle.decide.specs.Logs.{IsOnFew, IsStepOnFew, AreStepsOnFew}
use Rattle.decide.proofs.FollowLemmas.{all_of_members}
use Rattle.decide.proofs.FollowFirstLemmas.{log_follows_first}
use Rattle.decide.proofs.FollowSecondLemmas.{log_follows_second}
use Rattle.decide.proofs.RankLemmas.{ranks_are_few}
use Rattle.decide.proofs.ShortLemmas.{AreLettersFor, entry_of_log, log_length_is_short, log_is_formed_first, log_is_formed_second}

-- The two automata of the log ends.
abbrev pub ends_in : Reductions → Ends
ends_in at = record { first = at.first; second = at.second }

-- The automata of the log ends are valid, over the labels of the read ones, small, and accept what the read ones accept; the logs have a
-- text, and lead to them.
pub record AreGoodEnds (pair : Joined) (terms : Terms) (at : Reductions) : Type 0 where
  pub first : IsAutomaton at.first
  pub second : IsAutomaton at.second
  pub first_labels : at.first.labels ≡ length pair.labels
  pub first_fewer : at.first.states ≤ pair.first.states
  pub second_fewer : at.second.states ≤ pair.second.states
  pub few_transitions : length at.first.transitions ≤ 65536
  pub first_same : Same pair.first at.first terms.mode
  pub second_same : Same pair.second at.second terms.mode
  pub formed : are_logs terms.version terms.mode at.first_log at.second_log ≡ true
  pub settled : AreSettledEnds pair terms at.first_log at.second_log (ends_in at)

-- The automaton that a log leads to is valid.
log_end_valid : (A B : Automaton) (m : Mode) (sight : Foresight) (log : List Step) → IsAutomaton A → IsLog A m sight B log → IsAutomaton B
log_end_valid A B m sight log valid (n, passes) = go n A log valid passes
  where
    go : (n : ℕ) (A : Automaton) (log : List Step) → IsAutomaton A → LogPasses A m sight n B log → IsAutomaton B
    go zero A log valid (same, last) = subst IsAutomaton (sym same) valid
    go (suc n) A log valid (C, now, later, through, changed, rest, is) =
        go n C later (through_valid m sight (kinds_of m) A C valid (log_through m sight (kinds_of m) A C now through)) rest

-- Each step that is taken on a small automaton goes by relations that can be listed.
relation_few : (A : Automaton) (Greatest : List (ℕ × ℕ) → Type 0) (rel : Relation) → A.states ≤ 2048 → IsRelationOf A Greatest rel → IsOnFew rel
relation_few A Greatest rel few is = let size = is.on_states in omega arith

given_few : (A : Automaton) (Greatest : List (ℕ × ℕ) → Type 0) (wanted : Type 0) (rel : Option Relation) → A.states ≤ 2048 → IsGivenWhere wanted (IsRelationOf A Greatest) rel → IfSome rel IsOnFew
given_few A Greatest wanted None few is = _
given_few A Greatest wanted (Some rel) few is = relation_few A Greatest rel few is.1

entry_few : (A : Automaton) (m : Mode) (sight : Foresight) (kind : Kind) (entry : Step) → A.states ≤ 2048 → A.labels ≤ 512 → IsStepEntry A m sight kind entry → IsStepOnFew entry
entry_few A m sight Trim entry few labels (kept, e, is) = subst IsStepOnFew (sym e) tt
entry_few A m sight Forward entry few labels (rel, classes, e, is) = subst IsStepOnFew (sym e) (relation_few A (IsGreatestForward A sight.look) rel few is.relation)
entry_few A m sight Backward entry few labels (rel, classes, e, is) = subst IsStepOnFew (sym e) (relation_few A (IsGreatestBackward A sight.look) rel few is.relation)
entry_few A m sight Delayed entry few labels (ranks, classes, e, is) = subst IsStepOnFew (sym e)
    (ranks_are_few A sight.letters ranks few labels is.valid is.on_states is.on_labels is.announced is.greatest)
entry_few A m sight (Prune n) entry few labels (gone, back, ahead, e, is) = subst IsStepOnFew (sym e) (
  given_few A (IsGreatestBackward A (look_backward n sight.look)) (¬ (n ≡ 1)) back few is.is_back,
  given_few A (IsGreatestForward A (look_forward n sight.look)) (¬ (n ≡ 2)) ahead few is.is_ahead,
)

-- So does each step of its log.
pub log_few : (A B : Automaton) (m : Mode) (sight : Foresight) (log : List Step) → IsAutomaton A → A.states ≤ 2048 → A.labels ≤ 512 → IsLog A m sight B log → AreStepsOnFew log
log_few A B m sight log valid few labels is = all_of_members IsStepOnFew log (λ entry has.
    let e = entry_of_log A B m sight log valid is entry has in
    let states = e.no_larger.states in
    let same = e.no_larger.labels in
    entry_few e.at m sight e.kind entry (omega arith) (omega arith) e.is)

-- The written logs lead to the reduced automata.
pub written_logs_lead : WrittenLogsLead
written_logs_lead pair terms at one two some low ends = record {
  first = log_follows_first pair.first at.first terms.mode (sight_of terms) ends.first_steps at.first_log 1 one some low ends.first_reduced ends.first_written;
  second = log_follows_second pair.second at.second terms.mode (sight_of terms) ends.second_steps at.second_log (1 + length at.first_log) two some low ends.second_reduced ends.second_written;
}

-- The letters asked for fit the version.
announced : (terms : Terms) → AreBounded terms → AreLettersFor terms.version terms.letters
announced terms bounds = (bounds.letters_from, bounds.letters_upto, bounds.versioned)

pub good_ends : (pair : Joined) (terms : Terms) (at : Reductions) → CanDecide pair → AreBounded terms → AreReductions pair terms at → AreGoodEnds pair terms at
good_ends pair terms at can bounds ends =
    let A = pair.first in
    let B = pair.second in
    let some = bounds.look_from in
    let low = bounds.look_upto in
    let least = can.second_parts.states in
    let second_few : B.states ≤ 2048 = omega arith in
    let first_is = log_of_reduced A at.first terms.mode (sight_of terms) ends.first_steps ends.first_reduced in
    let second_is = log_of_reduced B at.second terms.mode (sight_of terms) ends.second_steps ends.second_reduced in
    let less = reduced_no_larger A at.first terms.mode (sight_of terms) can.first some first_is in
    let transitions = less.transitions in
    let few = can.first_parts.transitions in
    let first_count = log_length_is_short FirstStep IsFirstWritten A at.first terms.mode (sight_of terms) ends.first_steps at.first_log can.first can.first_parts.states can.first_parts.transitions ends.first_reduced ends.first_written in
    let second_count = log_length_is_short SecondStep IsSecondWritten B at.second terms.mode (sight_of terms) ends.second_steps at.second_log can.second second_few can.second_parts.transitions ends.second_reduced ends.second_written in
    record {
      first = log_end_valid A at.first terms.mode (sight_of terms) ends.first_steps can.first ends.first_reduced;
      second = log_end_valid B at.second terms.mode (sight_of terms) ends.second_steps can.second ends.second_reduced;
      first_labels = less.labels ∙ can.first_labels;
      first_fewer = less.states;
      second_fewer = (reduced_no_larger B at.second terms.mode (sight_of terms) can.second some second_is).states;
      few_transitions = omega arith;
      first_same = reduced_same A at.first terms.mode (sight_of terms) can.first some first_is;
      second_same = reduced_same B at.second terms.mode (sight_of terms) can.second some second_is;
      formed =
          and_from (is_short (length at.first_log)) (list_all is_first_step at.first_log && (is_short (length at.second_log) && list_all (is_second_step terms.version terms.mode) at.second_log)) first_count
          (and_from (list_all is_first_step at.first_log) (is_short (length at.second_log) && list_all (is_second_step terms.version terms.mode) at.second_log)
          (log_is_formed_first A at.first terms.mode (sight_of terms) ends.first_steps at.first_log can.first can.first_parts.states can.first_parts.transitions low ends.first_reduced ends.first_written)
          (and_from (is_short (length at.second_log)) (list_all (is_second_step terms.version terms.mode) at.second_log) second_count
          (log_is_formed_second terms.version B at.second terms.mode (sight_of terms) ends.second_steps at.second_log can.second second_few can.second_parts.transitions low (announced terms bounds) ends.second_reduced ends.second_written)));
      settled = record {
        lead = written_logs_lead pair terms at can.first can.second some low ends;
        first_settled = reduced_settled A at.first terms.mode (sight_of terms) can.first some first_is;
        second_settled = reduced_settled B at.second terms.mode (sight_of terms) can.second some second_is;
      };
    }
