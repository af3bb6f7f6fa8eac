-- Each question's files, what its reply means, and what its results show: one row a command.
use Rattle.std.specs.Prelude.{◌≡◌, ℕ, List, [], ◌∷◌, map, Option, Some, None, String, string_bytes}
use Rattle.shelf_io.specs.Shelf.{FileMap}
use Rattle.shelf_io.specs.Seen.{Call}
use Rattle.drawing.specs.declared.parts.Drill.{Drill as Drawing}
use Rattle.rabit_frame.specs.declared.parts.Value.{Value}
use Rattle.rabit_frame.specs.declared.parts.Reply.{Reply}
use Rattle.rabit_frame.specs.Files.{Input}
use Rattle.rabit_frame.specs.Request.{Request}
use Rattle.rabit_frame.specs.Ending.{BeforeAndAfter}
use Rattle.rabit_frame.specs.Carrying.{IfResult, StaysUnwritten}
use Rattle.rabit_words.specs.Question.{Question, Include, Check, Reduce, Drill, Upgrade, Cross, CrossCheck, Equal, Batch, Union, Intersect, Shrink, Empty, Universal, question_of}
use Rattle.rabit_frame.specs.Replies.{usage_reply}
use Rattle.rabit_cli.specs.Check.{check_inputs, MeansCheck, ShowsCheck}
use Rattle.rabit_frame.specs.FileKinds.{pair_inputs}
use Rattle.rabit_cli.specs.Include.{terms_by, MeansInclude, ShowsInclude, LeavesDecided}
use Rattle.rabit_cli.specs.Reduce.{reduce_inputs, sight_by, MeansReduce, ShowsReduce}
use Rattle.rabit_cli.specs.Drill.{MeansDrill, SaysDrill}
use Rattle.rabit_cli.specs.Upgrade.{upgrade_inputs, MeansUpgrade, ShowsUpgrade, LeavesUpgraded}
use Rattle.rabit_cli.specs.Equal.{equal_inputs, MeansEqual, ShowsEqual, LeavesEqual}
use Rattle.rabit_cli.specs.Cross.{MeansCross, ShowsCross, LeavesCross, cross_check_inputs, MeansCrossCheck, ShowsCrossCheck}
use Rattle.rabit_cli.specs.Batch.{batch_inputs}
use Rattle.rabit_cli.specs.Union.{MeansUnion, ShowsUnion}
use Rattle.rabit_cli.specs.Intersect.{MeansIntersect, ShowsIntersect}
use Rattle.rabit_cli.specs.Shrink.{MeansShrink, ShowsShrink, LeavesShrunk}
use Rattle.rabit_cli.specs.Property.{property_inputs, MeansProperty, ShowsProperty, LeavesProperty}
use Rattle.rabit_cli.specs.Empty.{emptiness}
use Rattle.rabit_cli.specs.Universal.{universality}

-- What the words after the program's name ask, if anything.
abbrev pub asked_by : {Z : Type 0} → List (String Z) → Option Question
asked_by words = question_of (map string_bytes words)

-- Every question is answered by a reply of its own but a batch, which asks further ones.
abbrev pub IsSingle : Option Question → Type 0
IsSingle (Some (Batch list)) = ⊥
IsSingle question = Unit {0}

-- The files that are read, in order; those of a batch's questions are read after these and are not
-- among them.
abbrev pub inputs_of : Option Question → List Input
inputs_of None = []
inputs_of (Some (Check a b c)) = check_inputs a b c
inputs_of (Some (Include a b c mode look limit letters)) = pair_inputs a b
inputs_of (Some (Reduce a mode look letters)) = reduce_inputs a
inputs_of (Some (Drill seed states labels)) = []
inputs_of (Some (Upgrade c out)) = upgrade_inputs c
inputs_of (Some (Cross a b out look)) = pair_inputs a b
inputs_of (Some (CrossCheck a b f)) = cross_check_inputs a b f
inputs_of (Some (Equal a b c d)) = equal_inputs a b
inputs_of (Some (Batch list)) = batch_inputs list
inputs_of (Some (Union a b mode)) = pair_inputs a b
inputs_of (Some (Intersect a b mode)) = pair_inputs a b
inputs_of (Some (Shrink a b c out)) = check_inputs a b c
inputs_of (Some (Empty a e c mode)) = property_inputs emptiness a
inputs_of (Some (Universal a u c mode)) = property_inputs universality a

-- The names of the files that may be written.
abbrev pub outputs_of : Option Question → List (List ℕ)
outputs_of (Some (Include a b c mode look limit letters)) = c ∷ []
outputs_of (Some (Upgrade c out)) = out ∷ []
outputs_of (Some (Cross a b out look)) = out ∷ []
outputs_of (Some (Equal a b c d)) = c ∷ d ∷ []
outputs_of (Some (Shrink a b c out)) = out ∷ []
outputs_of (Some (Empty a e c mode)) = e ∷ c ∷ []
outputs_of (Some (Universal a u c mode)) = u ∷ c ∷ []
outputs_of question = []

-- The drill of a question.
abbrev pub drill_of : ℕ → ℕ → ℕ → Drawing
drill_of seed states labels = record { seed = seed; states = states; labels = labels }

-- Which reply is right for what the files read as. After a batch's list none is, since it goes on
-- by itself.
abbrev pub Means : Option Question → List Value → Reply → Type 0
Means None values r = r ≡ usage_reply
Means (Some (Check a b c)) values r = MeansCheck values r
Means (Some (Include a b c mode look limit letters)) values r =
    MeansInclude c (terms_by mode look limit letters) values r
Means (Some (Reduce a mode look letters)) values r =
    MeansReduce mode (sight_by look letters) values r
Means (Some (Drill seed states labels)) values r = MeansDrill (drill_of seed states labels) values r
Means (Some (Upgrade c out)) values r = MeansUpgrade out values r
Means (Some (Cross a b out look)) values r = MeansCross out look values r
Means (Some (CrossCheck a b f)) values r = MeansCrossCheck values r
Means (Some (Equal a b c d)) values r = MeansEqual c d values r
Means (Some (Batch list)) values r = ⊥
Means (Some (Union a b mode)) values r = MeansUnion mode values r
Means (Some (Intersect a b mode)) values r = MeansIntersect mode values r
Means (Some (Shrink a b c out)) values r = MeansShrink out values r
Means (Some (Empty a e c mode)) values r = MeansProperty emptiness e c mode values r
Means (Some (Universal a u c mode)) values r = MeansProperty universality u c mode values r

-- The request that a question is.
abbrev pub request_of : Option Question → Request
request_of question = record { inputs = inputs_of question; means = Means question }

-- What holds of the request of every question but a batch.
abbrev pub IfSingle : Option Question → (Request → Type 0) → Type 0
IfSingle (Some (Batch list)) P = Unit {0}
IfSingle question P = P (request_of question)

-- What holds of a batch's list.
abbrev pub IfBatch : Option Question → (List ℕ → Type 0) → Type 0
IfBatch (Some (Batch list)) P = P list
IfBatch question P = Unit {0}

-- What a status up to 2 shows of the files before and after, and of what was sent; and what a drill
-- says at each. Words that are no question have no status up to 2.
abbrev pub Shows : Option Question → Call → Type 0
Shows None call = IfResult call (λ files files'. ⊥)
Shows (Some (Check a b c)) call = IfResult call (λ files files'. ShowsCheck a b c call files)
Shows (Some (Include a b c mode look limit letters)) call =
    IfResult call (ShowsInclude a b c (terms_by mode look limit letters) call)
Shows (Some (Reduce a mode look letters)) call =
    IfResult call (λ files files'. ShowsReduce a mode (sight_by look letters) call files)
Shows (Some (Drill seed states labels)) call = SaysDrill (drill_of seed states labels) call
Shows (Some (Upgrade c out)) call = IfResult call (ShowsUpgrade c out call)
Shows (Some (Cross a b out look)) call = IfResult call (ShowsCross a b out look call)
Shows (Some (CrossCheck a b f)) call =
    IfResult call (λ files files'. ShowsCrossCheck a b f call files)
Shows (Some (Equal a b c d)) call = IfResult call (ShowsEqual a b c d call)
Shows (Some (Batch list)) call = Unit {0}
Shows (Some (Union a b mode)) call = IfResult call (λ files files'. ShowsUnion a b mode call files)
Shows (Some (Intersect a b mode)) call =
    IfResult call (λ files files'. ShowsIntersect a b mode call files)
Shows (Some (Shrink a b c out)) call = IfResult call (ShowsShrink a b c out call)
Shows (Some (Empty a e c mode)) call = IfResult call (ShowsProperty emptiness a e c mode call)
Shows (Some (Universal a u c mode)) call =
    IfResult call (ShowsProperty universality a u c mode call)

-- Where the shelf tells its files: this holds of those before and those after.
abbrev pub OfFiles : Call → (FileMap → FileMap → Type 0) → Type 0
OfFiles call P = BeforeAndAfter call.before.shelf.files call.after.shelf.files P

-- What the files are afterwards: only a decision, an upgrade, a cross relation's search, a
-- comparison and a shrinking write, and only the files of certificates or of the relation, and
-- `empty` and `universal` the made automaton's too. What the questions of a batch write is told
-- with them.
abbrev pub LeavesFiles : Option Question → Call → Type 0
LeavesFiles (Some (Include a b c mode look limit letters)) call =
    OfFiles call (LeavesDecided a b c (terms_by mode look limit letters) call)
LeavesFiles (Some (Upgrade c out)) call = OfFiles call (LeavesUpgraded c out call)
LeavesFiles (Some (Cross a b out look)) call = OfFiles call (LeavesCross a b out look call)
LeavesFiles (Some (Equal a b c d)) call = OfFiles call (LeavesEqual a b c d call)
LeavesFiles (Some (Shrink a b c out)) call = OfFiles call (LeavesShrunk a b c out call)
LeavesFiles (Some (Empty a e c mode)) call = OfFiles call (LeavesProperty emptiness a e c mode call)
LeavesFiles (Some (Universal a u c mode)) call =
    OfFiles call (LeavesProperty universality a u c mode call)
LeavesFiles (Some (Batch list)) call = Unit {0}
LeavesFiles question call = StaysUnwritten call
