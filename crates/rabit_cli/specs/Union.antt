-- `union A B`, with `--finite`
use Rattle.std.specs.Prelude.{ℕ, ◌⊎◌, ◌↔◌, List}
use Rattle.shelf_io.specs.Shelf.{FileMap}
use Rattle.shelf_io.specs.Seen.{Call}
use Rattle.auto_core.specs.Automaton.{Automaton}
use Rattle.auto_core.specs.Accept.{AcceptsLasso, AcceptsWord}
use Rattle.auto_core.specs.declared.parts.Mode.{Mode}
use Rattle.auto_core.specs.declared.parts.Mode.TheVariants.{Buchi, Finite}
use Rattle.auto_ops.specs.Union.{IsUnion, IsUnionTooLarge}
use Rattle.ba_format.specs.declared.parts.Joined.{Joined}
use Rattle.rabit_frame.specs.declared.parts.Value.{Value}
use Rattle.rabit_frame.specs.declared.parts.Reply.{Reply}
use Rattle.rabit_cli.specs.Combine.{IsCombinedReply, MeansCombined, IsCombinedStatus, ShowsCombined}

-- The union of the two joined automata.
abbrev pub IsUnionOf : Mode → Joined → Automaton → Type 0
IsUnionOf mode pair = IsUnion mode pair.first pair.second

-- The reply to two joined automata.
abbrev pub IsUnionReply : Mode → Joined → Reply → Type 0
IsUnionReply mode pair r =
    IsCombinedReply (IsUnionOf mode pair) (IsUnionTooLarge pair.first pair.second) pair.labels r

-- The status of a result for these files: 12 if the union is too large, and otherwise 0.
abbrev pub IsUnionStatus : FileMap → List ℕ → List ℕ → ℕ → Type 0
IsUnionStatus = IsCombinedStatus (λ pair. IsUnionTooLarge pair.first pair.second)

-- The reply to what was read.
abbrev pub MeansUnion : Mode → List Value → Reply → Type 0
MeansUnion mode = MeansCombined (IsUnionReply mode)

-- C accepts just the lassos, in finite mode the words, that one of A and B accepts.
abbrev pub AcceptsWhatEitherDoes : Mode → Automaton → Automaton → Automaton → Type 0
AcceptsWhatEitherDoes Buchi A B C =
    (u v : List ℕ) → AcceptsLasso C u v ↔ (AcceptsLasso A u v ⊎ AcceptsLasso B u v)
AcceptsWhatEitherDoes Finite A B C =
    (w : List ℕ) → AcceptsWord C w ↔ (AcceptsWord A w ⊎ AcceptsWord B w)

-- What a status up to 2 shows: 0 the union, and 1 and 2 do not come.
abbrev pub ShowsUnion : List ℕ → List ℕ → Mode → Call → FileMap → Type 0
ShowsUnion a b mode =
    ShowsCombined a b (IsUnionOf mode) (λ pair. AcceptsWhatEitherDoes mode pair.first pair.second)
