-- What the steps of a log have to be like for them to have a text, and what is made of both logs.
use Rattle.std.specs.Prelude.{◌≤◌, Option, None, Some, List, [], ◌∷◌, All, IfSome}
use Rattle.bit_rel.specs.Relation.{Relation}
use Rattle.reduce_loop.specs.declared.steps.Step.{Step}
use Rattle.reduce_loop.specs.declared.steps.Step.TheVariants as step
use Rattle.reduce_loop.specs.declared.steps.MergeBy.{MergeBy}
use Rattle.reduce_loop.specs.declared.steps.MergeBy.TheVariants as by
use Rattle.decide.specs.declared.logs.Logs.{Logs}
use Rattle.decide.specs.Rows.{HasFewTriples}
use Rattle.decide.specs.Written.{AreFirstWritten, AreSecondWritten}

-- The relation is on at most 2,048 states.
abbrev pub IsOnFew : Relation → Type 0
IsOnFew rel = rel.size ≤ 2048

-- So is the one that a merge goes by; one with ranks has few triples.
abbrev pub IsMergeOnFew : MergeBy → Type 0
IsMergeOnFew (by.Forward look rel) = IsOnFew rel
IsMergeOnFew (by.Backward look rel) = IsOnFew rel
IsMergeOnFew (by.Delayed ranks) = HasFewTriples ranks

-- So are those that a step goes by.
abbrev pub IsStepOnFew : Step → Type 0
IsStepOnFew (step.Trim kept) = Unit {0}
IsStepOnFew (step.Merge by classes) = IsMergeOnFew by
IsStepOnFew (step.Cut pair look gone back ahead) = IfSome back IsOnFew × IfSome ahead IsOnFew

-- So are those of each step.
abbrev pub AreStepsOnFew : List Step → Type 0
AreStepsOnFew steps = All IsStepOnFew steps

-- The relation, if there is one.
abbrev pub one_given : Option Relation → List Relation
one_given None = []
one_given (Some rel) = rel ∷ []

-- These are the two logs as a certificate has them.
pub record AreLogsOf (firsts seconds : List Step) (logs : Logs) : Type 0 where
  pub first : AreFirstWritten firsts logs.first
  pub second : AreSecondWritten seconds logs.second
