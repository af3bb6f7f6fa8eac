-- `intersect A B`, with `--finite`
use Rattle.std.specs.Prelude.{ℕ, ◌↔◌, List}
use Rattle.shelf_io.specs.Shelf.{FileMap}
use Rattle.shelf_io.specs.Seen.{Call}
use Rattle.auto_core.specs.Automaton.{Automaton}
use Rattle.auto_core.specs.Accept.{AcceptsLasso, AcceptsWord}
use Rattle.auto_core.specs.declared.parts.Mode.{Mode}
use Rattle.auto_core.specs.declared.parts.Mode.TheVariants.{Buchi, Finite}
use Rattle.auto_ops.specs.Intersection.{IsIntersection, IsIntersectionTooLarge}
use Rattle.ba_format.specs.declared.parts.Joined.{Joined}
use Rattle.rabit_frame.specs.declared.parts.Value.{Value}
use Rattle.rabit_frame.specs.declared.parts.Reply.{Reply}
use Rattle.rabit_cli.specs.Combine.{IsCombinedReply, MeansCombined, IsCombinedStatus, ShowsCombined}

-- The intersection of the two joined automata.
abbrev pub IsIntersectionOf : Mode → Joined → Automaton → Type 0
IsIntersectionOf mode pair = IsIntersection mode pair.first pair.second

-- The reply to two joined automata.
abbrev pub IsIntersectionReply : Mode → Joined → Reply → Type 0
IsIntersectionReply mode pair r =
    IsCombinedReply (IsIntersectionOf mode pair)
    (IsIntersectionTooLarge mode pair.first pair.second) pair.labels r

-- The status of a result for these files: 12 if the intersection is too large, and otherwise 0.
abbrev pub IsIntersectionStatus : Mode → FileMap → List ℕ → List ℕ → ℕ → Type 0
IsIntersectionStatus mode =
    IsCombinedStatus (λ pair. IsIntersectionTooLarge mode pair.first pair.second)

-- The reply to what was read.
abbrev pub MeansIntersect : Mode → List Value → Reply → Type 0
MeansIntersect mode = MeansCombined (IsIntersectionReply mode)

-- C accepts just the lassos, in finite mode the words, that both A and B accept.
abbrev pub AcceptsWhatBothDo : Mode → Automaton → Automaton → Automaton → Type 0
AcceptsWhatBothDo Buchi A B C =
    (u v : List ℕ) → AcceptsLasso C u v ↔ (AcceptsLasso A u v × AcceptsLasso B u v)
AcceptsWhatBothDo Finite A B C =
    (w : List ℕ) → AcceptsWord C w ↔ (AcceptsWord A w × AcceptsWord B w)

-- What a status up to 2 shows: 0 the intersection, and 1 and 2 do not come.
abbrev pub ShowsIntersect : List ℕ → List ℕ → Mode → Call → FileMap → Type 0
ShowsIntersect a b mode =
    ShowsCombined a b
    (IsIntersectionOf mode) (λ pair. AcceptsWhatBothDo mode pair.first pair.second)
