-- `reduce A`, with `--finite`, `--look K` and `--letters M`
use Rattle.std.specs.Prelude.{◌≡◌, ◌+◌, ℕ, List, [], ◌∷◌}
use Rattle.shelf_io.specs.Shelf.{FileMap}
use Rattle.shelf_io.specs.Seen.{Call}
use Rattle.auto_core.specs.Automaton.{Automaton}
use Rattle.auto_core.specs.declared.parts.Mode.{Mode}
use Rattle.auto_core.specs.Accept.{Same}
use Rattle.ba_format.specs.declared.parts.Limits.{Limits}
use Rattle.ba_format.specs.declared.parts.Named.{Named}
use Rattle.ba_format.specs.declared.parts.Joined.{Joined}
use Rattle.ba_format.specs.Joining.{IsJoined}
use Rattle.ba_format.specs.Reading.{Reads}
use Rattle.ba_format.specs.Writing.{written}
use Rattle.reduce_loop.specs.declared.steps.Foresight.{Foresight}
use Rattle.reduce_loop.specs.Passes.{IsReduced}
use Rattle.reduce_loop.specs.Settled.{IsSettled}
use Rattle.rabit_frame.specs.declared.parts.Value.{Value}
use Rattle.rabit_frame.specs.declared.parts.Value.TheVariants as value
use Rattle.rabit_frame.specs.declared.parts.Status.TheVariants as status
use Rattle.rabit_frame.specs.declared.parts.Reply.{Reply}
use Rattle.rabit_frame.specs.Files.{Input}
use Rattle.rabit_frame.specs.Reading.{only_said, FileReads}
use Rattle.rabit_frame.specs.Ending.{Sends}
use Rattle.rabit_frame.specs.declared.files.TheConstants.{FIRST_LIMITS}
use Rattle.rabit_frame.specs.FileKinds.{automaton_file}

-- The file that it reads: the automaton.
abbrev pub reduce_inputs : List ℕ → List Input
reduce_inputs name = automaton_file 1 FIRST_LIMITS name ∷ []

-- How far the games of the reduction look.
abbrev pub sight_by : ℕ → ℕ → Foresight
sight_by look letters = record { look = look; letters = letters }

-- The text is that of the reduced automaton of the read one, with its labels.
abbrev pub IsReducedText : Named → Mode → Foresight → List ℕ → Type 0
IsReducedText named mode sight text =
    (B : Automaton) × IsReduced named.auto mode sight B × (text ≡ written B named.labels)

-- The reply to what was read.
abbrev pub MeansReduce : Mode → Foresight → List Value → Reply → Type 0
MeansReduce mode sight values r =
    (named : Named) × (values ≡ value.Automaton named ∷ [])
    × ((text : List ℕ) × IsReducedText named mode sight text × (r ≡ only_said status.Done text))

-- The most states, labels and transitions of a printed automaton: one state more than the file may
-- have, for the line that keeps an automaton without accepting states from reading as one whose
-- states all are.
abbrev pub printed_limits : Limits
printed_limits =
    record {
      states = FIRST_LIMITS.states + 1;
      labels = FIRST_LIMITS.labels;
      transitions = FIRST_LIMITS.transitions;
    }

-- The text reads as an automaton within these limits, and whatever it reads as and the read
-- automaton, joined by their labels' texts, accept the same lassos, in finite mode the same words.
pub record ReadsBackSame (named : Named) (mode : Mode) (text : List ℕ) : Type 0 where
  pub reads : (again : Named) × Reads text printed_limits again
  pub same : (limits : Limits) (again : Named) (joined : Joined) → Reads text limits again
      → IsJoined named again joined → Same joined.first joined.second mode

-- The named file reads as an automaton, and what was sent is the text of its reduced automaton, in
-- which no step of the reduction has anything left to do. The reduced automaton accepts the same
-- lassos, in finite mode the same words, and so does what its text reads as.
pub record IsReducedShown (files : FileMap) (name : List ℕ) (mode : Mode) (sight : Foresight)
    (call : Call) : Type 0 where
  pub named : Named
  pub reduced : Automaton
  pub read : FileReads files (automaton_file 1 FIRST_LIMITS name) (value.Automaton named)
  pub is_reduced : IsReduced named.auto mode sight reduced
  pub same : Same named.auto reduced mode
  pub reads_back : ReadsBackSame named mode (written reduced named.labels)
  pub settled : IsSettled reduced mode sight
  pub printed : Sends (written reduced named.labels) call.before.sink call.after.sink

-- What a status up to 2 shows: 0 a reduced automaton, and 1 and 2 do not come.
pub record ShowsReduce (name : List ℕ) (mode : Mode) (sight : Foresight) (call : Call)
    (files : FileMap) : Type 0 where
  pub reduced : call.status ≡ 0 → IsReducedShown files name mode sight call
  pub no_other : ¬ (call.status ≡ 1) × ¬ (call.status ≡ 2)
