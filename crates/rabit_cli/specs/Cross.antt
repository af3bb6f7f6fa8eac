-- `cross A B OUT [--look K]` and `cross-check A B FILE`
use Rattle.std.specs.Prelude.{◌≡◌, ℕ, ◌⊎◌, List, [], ◌∷◌}
use Rattle.std.specs.FinMap as map
use Rattle.shelf_io.specs.Shelf.{FileMap}
use Rattle.shelf_io.specs.Seen.{Call}
use Rattle.auto_core.specs.Accept.{Includes}
use Rattle.auto_core.specs.Game.{Holds}
use Rattle.auto_core.specs.declared.parts.Mode.{Mode}
use Rattle.ba_format.specs.declared.parts.Named.{Named}
use Rattle.ba_format.specs.declared.parts.Joined.{Joined}
use Rattle.ba_format.specs.Joining.{IsJoined}
use Rattle.cert_text.specs.declared.cross.Cross.{Cross}
use Rattle.cert_text.specs.CrossText.{cross_text}
use Rattle.cross_sim.specs.declared.faults.CrossRefusal.{CrossRefusal}
use Rattle.cross_sim.specs.Rules.{pairs_across, KeepsCrossRules, BreaksCrossRule}
use Rattle.cross_sim.specs.Written.{IsCrossOfGreatest}
use Rattle.rabit_frame.specs.declared.parts.FileKind.TheVariants as kind
use Rattle.rabit_frame.specs.declared.parts.Value.{Value}
use Rattle.rabit_frame.specs.declared.parts.Value.TheVariants as value
use Rattle.rabit_frame.specs.declared.parts.Status.TheVariants as status
use Rattle.rabit_frame.specs.declared.parts.Reply.{Reply}
use Rattle.rabit_frame.specs.Files.{Input, Output}
use Rattle.rabit_frame.specs.Reading.{FileReads, reply_with, only_said}
use Rattle.rabit_frame.specs.Ending.{IsCutShort, Sends}
use Rattle.rabit_frame.specs.Carrying.{LeavesByStatus}
use Rattle.rabit_frame.specs.Printed.{by_simulation_text, no_relation_text, refused_text}
use Rattle.rabit_frame.specs.declared.files.TheConstants.{FIRST_LIMITS, SECOND_LIMITS}
use Rattle.rabit_frame.specs.FileKinds.{automaton_file, ReadsPair}

-- ---- `cross`

-- The file that it writes: the cross relation's text, under its name.
abbrev pub cross_put : List ℕ → Cross → Output
cross_put name cross = record { name = name; bytes = cross_text cross }

-- The cross relation has the pair of the initial states.
abbrev pub HasInitialPair : Joined → Cross → Type 0
HasInitialPair pair cross = Holds (pairs_across cross) pair.first.initial pair.second.initial

-- The reply to two joined automata: the greatest cross relation is written if it has the pair of
-- the initial states.
abbrev pub IsCrossReply : List ℕ → ℕ → Joined → Reply → Type 0
IsCrossReply name look pair r =
    (cross : Cross)
    × IsCrossOfGreatest pair look cross
    × ((HasInitialPair pair cross
    × (r ≡ reply_with status.Done by_simulation_text (cross_put name cross ∷ [])))
    ⊎ ((HasInitialPair pair cross → ⊥) × (r ≡ only_said status.NoRelation no_relation_text)))

-- The reply to what was read.
abbrev pub MeansCross : List ℕ → ℕ → List Value → Reply → Type 0
MeansCross name look values r =
    (one two : Named)
    × (values ≡ value.Automaton one ∷ value.Automaton two ∷ [])
    × ((pair : Joined) × IsJoined one two pair × IsCrossReply name look pair r)

-- The two files read as this pair of automata, and this is their greatest cross relation, which has
-- the pair of the initial states.
abbrev pub IsCrossOfFiles : FileMap → List ℕ → List ℕ → ℕ → Joined → Cross → Type 0
IsCrossOfFiles files a b look pair cross =
    ReadsPair files a b pair × IsCrossOfGreatest pair look cross × HasInitialPair pair cross

-- The name holds the whole text of it, and all other files are as before.
abbrev pub HoldsCross : FileMap → List ℕ → List ℕ → List ℕ → ℕ → FileMap → Type 0
HoldsCross files a b out look files' =
    (pair : Joined) × (cross : Cross) × IsCrossOfFiles files a b look pair cross
    × (files' ≡ map.insert files out (cross_text cross))

-- The name holds a front of that text, or what it held before, and all other files are as before.
abbrev pub HoldsCrossFront : FileMap → List ℕ → List ℕ → List ℕ → ℕ → FileMap → Type 0
HoldsCrossFront files a b out look files' =
    (pair : Joined) × (cross : Cross) × IsCrossOfFiles files a b look pair cross
    × IsCutShort files (cross_put out cross ∷ []) files'

-- What it leaves, by its status.
abbrev pub LeavesCross : List ℕ → List ℕ → List ℕ → ℕ → Call → FileMap → FileMap → Type 0
LeavesCross a b out look =
    LeavesByStatus (λ before. HoldsCross before a b out look) (λ before.
    HoldsCrossFront before a b out look)

-- It said that the inclusion holds by simulation: the named files read as two automata, their
-- greatest cross relation has the pair of the initial states, so the second accepts all that the
-- first does, in both modes, and the name holds its text; all other files are as before.
pub record IsCrossShown (files : FileMap) (a b out : List ℕ) (look : ℕ) (files' : FileMap)
    (call : Call) : Type 0 where
  pub pair : Joined
  pub cross : Cross
  pub for : IsCrossOfFiles files a b look pair cross
  pub includes : (mode : Mode) → Includes pair.first pair.second mode
  pub held : files' ≡ map.insert files out (cross_text cross)
  pub printed : Sends by_simulation_text call.before.sink call.after.sink

-- What a status up to 2 shows: 0 a cross relation, and 1 and 2 do not come.
pub record ShowsCross (a b out : List ℕ) (look : ℕ) (call : Call)
    (files files' : FileMap) : Type 0 where
  pub related : call.status ≡ 0 → IsCrossShown files a b out look files' call
  pub no_other : ¬ (call.status ≡ 1) × ¬ (call.status ≡ 2)

-- The status of a result for these files: 0 if the greatest cross relation has the pair of the
-- initial states, 10 if it has not.
abbrev pub IsCrossStatus : FileMap → List ℕ → List ℕ → ℕ → ℕ → Type 0
IsCrossStatus files a b look status =
    (pair : Joined)
    × (cross : Cross)
    × ReadsPair files a b pair
    × IsCrossOfGreatest pair look cross
    × ((HasInitialPair pair cross × (status ≡ 0))
    ⊎ ((HasInitialPair pair cross → ⊥) × (status ≡ 10)))

-- ---- `cross-check`

-- A file that is read as a cross relation.
abbrev pub cross_file : List ℕ → Input
cross_file name = record { name = name; kind = kind.Cross }

-- The file reads as this cross relation: it has a text, and the file holds that.
abbrev pub ReadsCross : FileMap → List ℕ → Cross → Type 0
ReadsCross files name cross = FileReads files (cross_file name) (value.Cross cross)

-- The files that it reads: the two automata, and then the cross relation.
abbrev pub cross_check_inputs : List ℕ → List ℕ → List ℕ → List Input
cross_check_inputs a b f =
    automaton_file 1 FIRST_LIMITS a ∷ automaton_file 2 SECOND_LIMITS b ∷ cross_file f ∷ []

-- A rule is broken, the first being this one.
abbrev pub IsCrossRefused : Joined → Cross → Reply → Type 0
IsCrossRefused pair cross r =
    (refusal : CrossRefusal)
    × BreaksCrossRule pair cross refusal
    × (r ≡ only_said status.BadCertificate
    (refused_text (record { rule = refusal.rule; item = refusal.item })))

-- The reply to two joined automata and a cross relation.
abbrev pub ConcludesCross : Joined → Cross → Reply → Type 0
ConcludesCross pair cross r =
    IsCrossRefused pair cross r
    ⊎ (KeepsCrossRules pair cross × (r ≡ only_said status.Done by_simulation_text))

-- The reply to what was read.
abbrev pub MeansCrossCheck : List Value → Reply → Type 0
MeansCrossCheck values r =
    (one two : Named)
    × (cross : Cross)
    × (values ≡ value.Automaton one ∷ value.Automaton two ∷ value.Cross cross ∷ [])
    × ((pair : Joined) × IsJoined one two pair × ConcludesCross pair cross r)

-- The named files read as two automata and a cross relation that keeps all rules, so the second
-- automaton accepts all that the first does, in both modes, and that was printed.
pub record IsCrossChecked (files : FileMap) (a b f : List ℕ) (call : Call) : Type 0 where
  pub pair : Joined
  pub cross : Cross
  pub read : ReadsPair files a b pair
  pub relation : ReadsCross files f cross
  pub keeps : KeepsCrossRules pair cross
  pub includes : (mode : Mode) → Includes pair.first pair.second mode
  pub printed : Sends by_simulation_text call.before.sink call.after.sink

-- What a status up to 2 shows: 0 a cross relation that keeps all rules, and 1 and 2 do not come.
pub record ShowsCrossCheck (a b f : List ℕ) (call : Call) (files : FileMap) : Type 0 where
  pub related : call.status ≡ 0 → IsCrossChecked files a b f call
  pub no_other : ¬ (call.status ≡ 1) × ¬ (call.status ≡ 2)

-- The file reads as a cross relation that keeps all rules for the two automata.
abbrev pub IsKeptCross : FileMap → List ℕ → List ℕ → List ℕ → Type 0
IsKeptCross files a b f =
    (pair : Joined) × (cross : Cross) × ReadsPair files a b pair × ReadsCross files f cross
    × KeepsCrossRules pair cross

-- The status of a result for these files: 0 if it does, 5 if it does not.
abbrev pub IsCrossCheckStatus : FileMap → List ℕ → List ℕ → List ℕ → ℕ → Type 0
IsCrossCheckStatus files a b f status =
    (IsKeptCross files a b f × (status ≡ 0)) ⊎ ((IsKeptCross files a b f → ⊥) × (status ≡ 5))
