-- There is one pair of reduced automata, each with its log.
use Rattle.std.proofs.Common.{◌≡◌, ◌≤◌, List, [], ◌∷◌, map, refl, sym, ap, ◌∙◌, subst}
use Rattle.auto_core.specs.Automaton.{Automaton, IsAutomaton}
use Rattle.auto_core.specs.declared.parts.Mode.{Mode}
use Rattle.bit_rel.specs.Relation.{Relation}
use Rattle.cert_value.specs.declared.types.FirstStep.{FirstStep}
use Rattle.cert_value.specs.declared.types.FirstStep.TheVariants as first
use Rattle.cert_value.specs.declared.types.SecondStep.{SecondStep}
use Rattle.cert_value.specs.declared.types.SecondStep.TheVariants as second
use Rattle.cert_value.specs.declared.types.Grounds.{Grounds}
use Rattle.cert_value.specs.declared.types.Grounds.TheVariants as grounds
use Rattle.cert_value.specs.declared.types.RelBlock.{RelBlock}
use Rattle.reduce_loop.specs.declared.steps.Foresight.{Foresight}
use Rattle.reduce_loop.specs.declared.steps.Step.{Step}
use Rattle.reduce_loop.specs.declared.steps.Step.TheVariants as step
use Rattle.reduce_loop.specs.declared.steps.MergeBy.{MergeBy}
use Rattle.reduce_loop.specs.declared.steps.MergeBy.TheVariants as by
use Rattle.reduce_loop.specs.Logs.{IsLog}
use Rattle.reduce_loop.proofs.LogLemmas.{log_one}
use Rattle.reduce_loop.proofs.PassLemmas.{reduced_one, log_of_reduced}
use Rattle.decide.specs.Terms.{sight_of}
use Rattle.decide.specs.Laws.{ReductionsAreOne}
use Rattle.decide.specs.Written.{IsBlockOfPairs, AreWritten, AreBlocksOf, AreGroundsOf, IsFirstWritten, IsSecondWritten, AreFirstWritten, AreSecondWritten, given, gone_and_better}
use Rattle.decide.proofs.BlockUniqueLemmas.{one_block, one_rank_block}

-- Where each thing is written in one way, so is the list.
one_written : (S T : Type 0) (W : S → T → Type 0) → ((s : S) (t u : T) → W s t → W s u → t ≡ u) → (ss : List S) (ts us : List T) → AreWritten S T W ss ts → AreWritten S T W ss us → ts ≡ us
one_written S T W one [] [] [] a b = refl
one_written S T W one [] [] (u ∷ us) a b = absurd b
one_written S T W one [] (t ∷ ts) us a b = absurd a
one_written S T W one (s ∷ ss) [] us a b = absurd a
one_written S T W one (s ∷ ss) (t ∷ ts) [] a b = absurd b
one_written S T W one (s ∷ ss) (t ∷ ts) (u ∷ us) a b =
    let first = one s t u a.0 b.0 in
    let rest = one_written S T W one ss ts us a.1 b.1 in
    λ i. first i ∷ rest i

one_blocks : (relations : List Relation) (blocks others : List RelBlock) → AreBlocksOf relations blocks → AreBlocksOf relations others → blocks ≡ others
one_blocks relations blocks others a b = one_written Relation RelBlock (λ R block. IsBlockOfPairs R.pairs block) (λ R block other p q. one_block R.pairs block other p q) relations blocks others a b

one_first_step : (s : Step) (a b : FirstStep) → IsFirstWritten s a → IsFirstWritten s b → a ≡ b
one_first_step (step.Trim kept) a b p q = p ∙ sym q
one_first_step (step.Merge by classes) a b p q = p ∙ sym q
one_first_step (step.Cut pair look gone back ahead) a b (blocks, are, p) (others, too, q) =
    p ∙ ap (first.Cut pair look (map gone_and_better gone)) (one_blocks (given back ahead) blocks others are too) ∙ sym q

one_grounds : (m : MergeBy) (a b : Grounds) → AreGroundsOf m a → AreGroundsOf m b → a ≡ b
one_grounds (by.Forward look rel) a b (block, is, p) (other, also, q) = p ∙ ap (grounds.Forward look) (one_block rel.pairs block other is also) ∙ sym q
one_grounds (by.Backward look rel) a b (block, is, p) (other, also, q) = p ∙ ap (grounds.Backward look) (one_block rel.pairs block other is also) ∙ sym q
one_grounds (by.Delayed ranks) a b (block, is, p) (other, also, q) = p ∙ ap (grounds.Delayed ranks.letters) (one_rank_block ranks.letters ranks.triples block other is also) ∙ sym q

one_second_step : (s : Step) (a b : SecondStep) → IsSecondWritten s a → IsSecondWritten s b → a ≡ b
one_second_step (step.Trim kept) a b p q = p ∙ sym q
one_second_step (step.Merge by classes) a b (these, are, p) (those, too, q) = p ∙ ap (λ g. second.Merge g classes) (one_grounds by these those are too) ∙ sym q
one_second_step (step.Cut pair look gone back ahead) a b p q = p ∙ sym q

-- There is one end of a reduction, and one log.
module _ (A B C : Automaton) (m : Mode) (sight : Foresight) (log other : List Step) (valid : IsAutomaton A) (some : 1 ≤ sight.look) (is : IsLog A m sight B log) (also : IsLog A m sight C other) where
  same_log : log ≡ other
  same_log = log_one A B C m sight log other valid some is also

  same_end : B ≡ C
  same_end = reduced_one A B C m sight valid some (log_of_reduced A B m sight log is) (log_of_reduced A C m sight other also)

  same_first : (firsts others : List FirstStep) → AreFirstWritten log firsts → AreFirstWritten other others → firsts ≡ others
  same_first firsts others a b = one_written Step FirstStep IsFirstWritten one_first_step log firsts others a (subst (λ l. AreFirstWritten l others) (sym same_log) b)

  same_second : (seconds others : List SecondStep) → AreSecondWritten log seconds → AreSecondWritten other others → seconds ≡ others
  same_second seconds others a b = one_written Step SecondStep IsSecondWritten one_second_step log seconds others a (subst (λ l. AreSecondWritten l others) (sym same_log) b)

pub reductions_are_one : ReductionsAreOne
reductions_are_one pair terms at other one two some p q =
    let first = same_end pair.first at.first other.first terms.mode (sight_of terms) p.first_steps q.first_steps one some p.first_reduced q.first_reduced in
    let second = same_end pair.second at.second other.second terms.mode (sight_of terms) p.second_steps q.second_steps two some p.second_reduced q.second_reduced in
    let firsts = same_first pair.first at.first other.first terms.mode (sight_of terms) p.first_steps q.first_steps one some p.first_reduced q.first_reduced at.first_log other.first_log p.first_written q.first_written in
    let seconds = same_second pair.second at.second other.second terms.mode (sight_of terms) p.second_steps q.second_steps two some p.second_reduced q.second_reduced at.second_log other.second_log p.second_written q.second_written in
    λ i. record { first = first i; second = second i; first_log = firsts i; second_log = seconds i }
