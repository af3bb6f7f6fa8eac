-- How the log of a reduction stands in a certificate.
use Rattle.std.specs.Prelude.{◌≡◌, ℕ, Option, None, Some, true, List, [], ◌∷◌, map}
use Rattle.auto_core.specs.Delayed.{RankedTriples}
use Rattle.bit_rel.specs.Relation.{Relation}
use Rattle.prune_pairs.specs.declared.removing.Gone.{Gone}
use Rattle.prune_pairs.specs.Least.{numbers_of_gone}
use Rattle.reduce_loop.specs.declared.steps.Step.{Step}
use Rattle.reduce_loop.specs.declared.steps.Step.TheVariants as step
use Rattle.reduce_loop.specs.declared.steps.MergeBy.{MergeBy}
use Rattle.reduce_loop.specs.declared.steps.MergeBy.TheVariants as by
use Rattle.cert_value.specs.declared.types.FirstStep.{FirstStep}
use Rattle.cert_value.specs.declared.types.FirstStep.TheVariants as first
use Rattle.cert_value.specs.declared.types.SecondStep.{SecondStep}
use Rattle.cert_value.specs.declared.types.SecondStep.TheVariants as second
use Rattle.cert_value.specs.declared.types.Grounds.{Grounds}
use Rattle.cert_value.specs.declared.types.Grounds.TheVariants as grounds
use Rattle.cert_value.specs.declared.types.GoneBy.{GoneBy}
use Rattle.cert_value.specs.declared.types.RelBlock.{RelBlock}
use Rattle.cert_value.specs.declared.types.RankBlock.{RankBlock}
use Rattle.cert_value.specs.WellFormed.{is_block, is_rank_block}
use Rattle.log_check.specs.Blocks.{pairs_of, triples_of}

-- The block lists just these pairs: its rows are not empty, left and right numbers ascend, and
-- right numbers that follow one another make one run.
pub record IsBlockOfPairs (S : List (ℕ × ℕ)) (block : RelBlock) : Type 0 where
  pub formed : is_block block ≡ true
  pub pairs : pairs_of block ≡ S

-- The same of the triples of a game with so many announced letters, each with a rank or without
-- one.
pub record IsRankBlockOf (letters : ℕ) (X : RankedTriples) (block : RankBlock) : Type 0 where
  pub formed : is_rank_block letters block ≡ true
  pub triples : triples_of block ≡ X

-- The things of the first list stand, one by one and in their order, for those of the second.
abbrev pub AreWritten : (S T : Type 0) → (S → T → Type 0) → List S → List T → Type 0
AreWritten S T IsWritten [] [] = Unit {0}
AreWritten S T IsWritten [] (t ∷ ts) = ⊥
AreWritten S T IsWritten (s ∷ ss) [] = ⊥
AreWritten S T IsWritten (s ∷ ss) (t ∷ ts) = IsWritten s t × AreWritten S T IsWritten ss ts

-- The relations of a cut that are given, the backward one first.
abbrev pub given : Option Relation → Option Relation → List Relation
given None None = []
given None (Some ahead) = ahead ∷ []
given (Some back) None = back ∷ []
given (Some back) (Some ahead) = back ∷ ahead ∷ []

-- A block for each of them.
abbrev pub AreBlocksOf : List Relation → List RelBlock → Type 0
AreBlocksOf relations blocks =
    AreWritten Relation RelBlock (λ R block. IsBlockOfPairs R.pairs block) relations blocks

-- A transition that goes, and the better one.
abbrev pub gone_and_better : Gone → GoneBy
gone_and_better gone = record { trans = gone.trans; by = gone.by }

-- How a step stands in the first log: a merge with its classes alone, and a cut with the relations
-- that it goes by.
abbrev pub IsFirstWritten : Step → FirstStep → Type 0
IsFirstWritten (step.Trim kept) written = written ≡ first.Trim kept
IsFirstWritten (step.Merge by classes) written = written ≡ first.Merge classes
IsFirstWritten (step.Cut pair look gone back ahead) written =
    (blocks : List RelBlock) × AreBlocksOf (given back ahead) blocks
    × (written ≡ first.Cut pair look (map gone_and_better gone) blocks)

-- The grounds of a merge.
abbrev pub AreGroundsOf : MergeBy → Grounds → Type 0
AreGroundsOf (by.Forward look rel) written =
    (block : RelBlock) × IsBlockOfPairs rel.pairs block × (written ≡ grounds.Forward look block)
AreGroundsOf (by.Backward look rel) written =
    (block : RelBlock) × IsBlockOfPairs rel.pairs block × (written ≡ grounds.Backward look block)
AreGroundsOf (by.Delayed ranks) written =
    (block : RankBlock) × IsRankBlockOf ranks.letters ranks.triples block
    × (written ≡ grounds.Delayed ranks.letters block)

-- How a step stands in the second log: a merge with its grounds, and a cut with the transitions
-- that go alone.
abbrev pub IsSecondWritten : Step → SecondStep → Type 0
IsSecondWritten (step.Trim kept) written = written ≡ second.Trim kept
IsSecondWritten (step.Merge by classes) written =
    (grounds : Grounds) × AreGroundsOf by grounds × (written ≡ second.Merge grounds classes)
IsSecondWritten (step.Cut pair look gone back ahead) written =
    written ≡ second.Cut (numbers_of_gone gone)

-- The log stands so in a certificate, as the first one.
abbrev pub AreFirstWritten : List Step → List FirstStep → Type 0
AreFirstWritten log steps = AreWritten Step FirstStep IsFirstWritten log steps

-- As the second one.
abbrev pub AreSecondWritten : List Step → List SecondStep → Type 0
AreSecondWritten log steps = AreWritten Step SecondStep IsSecondWritten log steps
