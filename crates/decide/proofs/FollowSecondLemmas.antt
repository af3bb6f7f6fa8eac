-- What a reduction logs, written as the second log of a certificate, keeps its rules.
use Rattle.std.proofs.Common.{◌≡◌, ℕ, ◌<◌, ◌≤◌, List, length, Contains, sym, subst}
use Rattle.auto_core.specs.Automaton.{Automaton, IsAutomaton}
use Rattle.auto_core.specs.Delayed.{RankedTriples, IsRight, AreTriplesOf, AreStateRelated, letters_for}
use Rattle.auto_core.specs.Game.{Close, Holds, IsGreatestForward, IsGreatestBackward, StableForward, StableBackward}
use Rattle.auto_core.specs.Pruning.{IsCut}
use Rattle.auto_core.specs.Quotient.{AreClassesOf, IsQuotient, RelatesMembers, RelatesMembersBy}
use Rattle.auto_core.specs.declared.parts.Mode.{Mode}
use Rattle.bit_rel.specs.Relation.{Relation}
use Rattle.delayed_sim.specs.Rankings.{Ranking}
use Rattle.prune_pairs.specs.Least.{AreLeastBetter, numbers_of_gone}
use Rattle.prune_pairs.specs.declared.removing.Gone.{Gone}
use Rattle.reduce_loop.specs.declared.steps.Foresight.{Foresight}
use Rattle.reduce_loop.specs.declared.steps.Kind.{Kind}
use Rattle.reduce_loop.specs.declared.steps.Kind.TheVariants.{Trim, Forward, Backward, Delayed, Prune}
use Rattle.reduce_loop.specs.declared.steps.Step.{Step}
use Rattle.reduce_loop.specs.Kinds.{kinds_of, After}
use Rattle.reduce_loop.specs.Logs.{IsMergeOf, IsDelayedMergeOf, IsStepEntry, IsLog, pairs_given as relation_pairs}
use Rattle.reduce_loop.proofs.MakingLemmas.{useful_below}
use Rattle.cert_value.specs.declared.types.SecondStep.{SecondStep}
use Rattle.cert_value.specs.declared.types.SecondStep.TheVariants as second
use Rattle.cert_value.specs.declared.types.Grounds.TheVariants as grounds
use Rattle.cert_value.specs.declared.types.RelBlock.{RelBlock}
use Rattle.cert_value.specs.declared.types.RankBlock.{RankBlock}
use Rattle.log_check.specs.Blocks.{pairs_of, IsBlockBelow, triples_of, IsRankBlockBelow}
use Rattle.log_check.specs.Follows.{StepFollows}
use Rattle.log_check.specs.Parts.{IsLook, AreTransitions}
use Rattle.log_check.specs.SecondLog.{second_rules, SecondLogFollows}
use Rattle.decide.specs.Written.{IsBlockOfPairs, IsRankBlockOf, IsSecondWritten, AreSecondWritten}
use Rattle.decide.proofs.FollowLemmas.{all_of_members, log_follows, block_below, rank_block_below, trim_leads, greatest_same, merge_leads, delayed_leads, listed_better, cut_leads}

-- ---- the members of a class are related

members_related : (A : Automaton) (R : ℕ → ℕ → Type 0) (classes : List ℕ) → AreClassesOf A.states (Close R) classes → RelatesMembersBy A classes R
members_related A R classes are p q p_in q_in same = ((are.joins p q p_in q_in).0 same).0

-- ---- the steps of the second log

module _ (A B : Automaton) (item : ℕ) where
  abbrev KeepsAs : SecondStep → Type 0
  KeepsAs t = StepFollows SecondStep second_rules A item t B

  forward_keeps : (k : ℕ) (rel : Relation) (classes : List ℕ) (block : RelBlock) → IsLook k → IsMergeOf A (IsGreatestForward A k) rel classes → IsBlockOfPairs rel.pairs block → IsQuotient A classes B → KeepsAs (second.Merge (grounds.Forward k block) classes)
  forward_keeps k rel classes block look merge is leads =
      let below : IsBlockBelow A.states block = block_below A.states rel.pairs block is merge.relation.greatest.in_range in
      let stable : StableForward A k (pairs_of block) = subst (StableForward A k) (sym is.pairs) merge.relation.greatest.stable in
      let related : RelatesMembers A classes (pairs_of block) = subst (RelatesMembers A classes) (sym is.pairs) (members_related A (Holds rel.pairs) classes merge.joined) in
      record { holds = ((look, below), ((merge.joined.len, merge.joined.valid), (stable, (related, tt)))); leads = leads }

  backward_keeps : (k : ℕ) (rel : Relation) (classes : List ℕ) (block : RelBlock) → IsLook k → IsMergeOf A (IsGreatestBackward A k) rel classes → IsBlockOfPairs rel.pairs block → IsQuotient A classes B → KeepsAs (second.Merge (grounds.Backward k block) classes)
  backward_keeps k rel classes block look merge is leads =
      let below : IsBlockBelow A.states block = block_below A.states rel.pairs block is merge.relation.greatest.in_range in
      let stable : StableBackward A k (pairs_of block) = subst (StableBackward A k) (sym is.pairs) merge.relation.greatest.stable in
      let related : RelatesMembers A classes (pairs_of block) = subst (RelatesMembers A classes) (sym is.pairs) (members_related A (Holds rel.pairs) classes merge.joined) in
      record { holds = ((look, below), ((merge.joined.len, merge.joined.valid), (stable, (related, tt)))); leads = leads }

  delayed_keeps :
      (n : ℕ) (ranks : Ranking) (classes : List ℕ) (block : RankBlock)
      → IsDelayedMergeOf A n ranks classes
      → IsRankBlockOf ranks.letters ranks.triples block
      → IsQuotient A classes B
      → KeepsAs (second.Merge (grounds.Delayed ranks.letters block) classes)
  delayed_keeps n ranks classes block merge is leads =
      let below : IsRankBlockBelow A.states A.labels block = rank_block_below A.states A.labels ranks.letters ranks.triples block is (subst (λ m. AreTriplesOf A.states A.labels m ranks.triples) (sym merge.announced) merge.greatest.in_range) in
      let right : IsRight A (triples_of block) = subst (IsRight A) (sym is.triples) merge.greatest.right in
      let P : ℕ → RankedTriples → Type 0 = λ m X. RelatesMembersBy A classes (AreStateRelated A.labels m X) in
      let related : P ranks.letters (triples_of block) = subst (P ranks.letters) (sym is.triples)
      (subst (λ m. P m ranks.triples) (sym merge.announced) (members_related A (AreStateRelated A.labels n ranks.triples) classes merge.joined)) in
      record { holds = (below, ((merge.joined.len, merge.joined.valid), (right, (related, tt)))); leads = leads }

  cut_keeps : (n k : ℕ) (gone : List Gone) (back ahead : ℕ → ℕ → Type 0) → AreLeastBetter A n back ahead gone → IsCut A (numbers_of_gone gone) B → KeepsAs (second.Cut (numbers_of_gone gone))
  cut_keeps n k gone back ahead are leads =
      let numbers : AreTransitions A (numbers_of_gone gone) = all_of_members (λ t. t < length A.transitions) (numbers_of_gone gone) (λ t h. (listed_better A n back ahead gone are t h).1.is) in
      record { holds = (numbers, tt); leads = leads }

second_keeps :
    (mode : Mode) (sight : Foresight)
    → IsLook sight.look
    → (A B : Automaton) (item : ℕ) (kind : Kind) (entry : Step) (t : SecondStep)
    → IsAutomaton A
    → Contains (kinds_of mode) kind
    → After A mode sight kind B
    → IsStepEntry A mode sight kind entry
    → IsSecondWritten entry t
    → StepFollows SecondStep second_rules A item t B
second_keeps mode sight look A B item Trim entry t valid listed after (kept, e, list) written =
    let is : t ≡ second.Trim kept = subst (λ s. IsSecondWritten s t) e written in
    subst (KeepsAs A B item) (sym is) (record {
      holds = (all_of_members (λ q. q < A.states) kept (useful_below A mode kept valid list.useful), tt);
      leads = trim_leads A B mode kept after list;
    })
second_keeps mode sight look A B item Forward entry t valid listed after (rel, classes, e, merge) written =
    let (reason, (block, is_block, same), is) = subst (λ s. IsSecondWritten s t) e written in
    subst (KeepsAs A B item) (sym is) (subst (λ g. KeepsAs A B item (second.Merge g classes)) (sym same)
    (forward_keeps A B item sight.look rel classes block look merge is_block (merge_leads A B (IsGreatestForward A sight.look) rel classes (greatest_same _ _ sight.look A.states) after merge)))
second_keeps mode sight look A B item Backward entry t valid listed after (rel, classes, e, merge) written =
    let (reason, (block, is_block, same), is) = subst (λ s. IsSecondWritten s t) e written in
    subst (KeepsAs A B item) (sym is) (subst (λ g. KeepsAs A B item (second.Merge g classes)) (sym same)
    (backward_keeps A B item sight.look rel classes block look merge is_block (merge_leads A B (IsGreatestBackward A sight.look) rel classes (greatest_same _ _ sight.look A.states) after merge)))
second_keeps mode sight look A B item Delayed entry t valid listed after (ranks, classes, e, merge) written =
    let (reason, (block, is_block, same), is) = subst (λ s. IsSecondWritten s t) e written in
    subst (KeepsAs A B item) (sym is) (subst (λ g. KeepsAs A B item (second.Merge g classes)) (sym same)
    (delayed_keeps A B item (letters_for A sight.letters) ranks classes block merge is_block (delayed_leads A B (letters_for A sight.letters) ranks classes after merge)))
second_keeps mode sight look A B item (Prune n) entry t valid listed after (gone, back, ahead, e, cut) written =
    let is : t ≡ second.Cut (numbers_of_gone gone) = subst (λ s. IsSecondWritten s t) e written in
    subst (KeepsAs A B item) (sym is)
    (cut_keeps A B item n sight.look gone (Close (Holds (relation_pairs back))) (Close (Holds (relation_pairs ahead))) cut.least (cut_leads A B n sight.look gone back ahead after cut))

-- Where a log leads from A to B, its steps as the second log of a certificate keep their rules, and lead there.
pub log_follows_second :
    (A B : Automaton) (mode : Mode) (sight : Foresight) (log : List Step) (steps : List SecondStep) (item : ℕ)
    → IsAutomaton A
    → 1 ≤ sight.look
    → sight.look ≤ 6
    → IsLog A mode sight B log
    → AreSecondWritten log steps
    → SecondLogFollows A item steps B
log_follows_second A B mode sight log steps item valid some few is written =
    log_follows SecondStep second_rules IsSecondWritten mode sight (second_keeps mode sight (some, few)) A B log steps item valid is written
