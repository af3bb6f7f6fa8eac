-- How a question is answered whose automata read.
use Rattle.std.specs.Prelude.{◌≡◌, ℕ, ◌≤◌, ◌⊎◌, List, [], Option, Some, None, IfSome}
use Rattle.shelf_io.specs.Counts.{Rose}
use Rattle.shelf_io.specs.Shelf.{FileMap}
use Rattle.shelf_io.specs.Seen.{Call}
use Rattle.rabit_frame.specs.declared.parts.Value.{Value}
use Rattle.rabit_frame.specs.Files.{Input}
use Rattle.rabit_frame.specs.Reading.{ReadInTurn}
use Rattle.rabit_words.specs.Question.{Question, Include, Check, Reduce, Drill, Upgrade, Cross, CrossCheck, Equal, Batch, Union, Intersect, Shrink, Empty, Universal}
use Rattle.rabit_frame.specs.FileKinds.{pair_inputs}
use Rattle.rabit_cli.specs.Reduce.{reduce_inputs}
use Rattle.rabit_cli.specs.Upgrade.{IsUpgradeStatus}
use Rattle.rabit_cli.specs.Cross.{IsCrossStatus, IsCrossCheckStatus}
use Rattle.rabit_cli.specs.Equal.{equal_inputs}
use Rattle.rabit_cli.specs.Union.{IsUnionStatus}
use Rattle.rabit_cli.specs.Intersect.{IsIntersectionStatus}
use Rattle.rabit_cli.specs.Shrink.{IsShrinkStatus}
use Rattle.rabit_cli.specs.Property.{property_inputs}
use Rattle.rabit_cli.specs.Empty.{emptiness}
use Rattle.rabit_cli.specs.Universal.{universality}

-- The files of automata that the question reads.
abbrev pub automata_of : Question → List Input
automata_of (Check a b c) = pair_inputs a b
automata_of (Include a b c mode look limit letters) = pair_inputs a b
automata_of (Reduce a mode look letters) = reduce_inputs a
automata_of (Drill seed states labels) = []
automata_of (Upgrade c out) = []
automata_of (Cross a b out look) = pair_inputs a b
automata_of (CrossCheck a b f) = pair_inputs a b
automata_of (Equal a b c d) = equal_inputs a b
automata_of (Batch list) = []
automata_of (Union a b mode) = pair_inputs a b
automata_of (Intersect a b mode) = pair_inputs a b
automata_of (Shrink a b c out) = pair_inputs a b
automata_of (Empty a e c mode) = property_inputs emptiness a
automata_of (Universal a u c mode) = property_inputs universality a

-- The statuses of the command's results for these files, and that of want of memory. A check may
-- also refuse the certificate; of an upgrade, a cross relation and its check, a union, an
-- intersection and a shrinking the files tell which status it is. A batch is no single question:
-- what it answers is told by `EndsBatch`.
abbrev pub MayAnswer : Question → FileMap → ℕ → Type 0
MayAnswer (Check a b c) files status = (status ≤ 2) ⊎ (status ≡ 5) ⊎ (status ≡ 8)
MayAnswer (Include a b c mode look limit letters) files status = (status ≤ 2) ⊎ (status ≡ 8)
MayAnswer (Reduce a mode look letters) files status = (status ≡ 0) ⊎ (status ≡ 8)
MayAnswer (Drill seed states labels) files status = (status ≡ 0) ⊎ (status ≡ 8)
MayAnswer (Upgrade c out) files status = IsUpgradeStatus files c status ⊎ (status ≡ 8)
MayAnswer (Cross a b out look) files status = IsCrossStatus files a b look status ⊎ (status ≡ 8)
MayAnswer (CrossCheck a b f) files status = IsCrossCheckStatus files a b f status ⊎ (status ≡ 8)
MayAnswer (Equal a b c d) files status = (status ≤ 2) ⊎ (status ≡ 8)
MayAnswer (Batch list) files status = ⊥
MayAnswer (Union a b mode) files status = IsUnionStatus files a b status ⊎ (status ≡ 8)
MayAnswer (Intersect a b mode) files status =
    IsIntersectionStatus mode files a b status ⊎ (status ≡ 8)
MayAnswer (Shrink a b c out) files status = IsShrinkStatus files a b c status ⊎ (status ≡ 8)
MayAnswer (Empty a e c mode) files status = (status ≤ 2) ⊎ (status ≡ 8)
MayAnswer (Universal a u c mode) files status = (status ≤ 2) ⊎ (status ≡ 8)

-- A count of the outside rose.
abbrev pub AnyRose : Call → Type 0
AnyRose call =
    Rose call.before.shelf.read_faults call.after.shelf.read_faults
    ⊎ Rose call.before.sink.give_faults call.after.sink.give_faults
    ⊎ Rose call.before.shelf.put_faults call.after.shelf.put_faults

-- If all its automata read, the question is answered so, unless a count of the outside rose.
abbrev pub AnswersWhatReads : Option Question → Call → Type 0
AnswersWhatReads None call = Unit {0}
AnswersWhatReads (Some (Batch list)) call = Unit {0}
AnswersWhatReads (Some q) call =
    IfSome call.before.shelf.files (λ files.
    (values : List Value) → ReadInTurn files (automata_of q) values
    → MayAnswer q files call.status ⊎ AnyRose call)
