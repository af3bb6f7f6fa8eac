-- A text that comes in pieces: what a reader holds after those so far, whatever follows.
use Rattle.std.specs.Prelude.{◌≡◌, ℕ, ◌+◌, ◌≤◌, List, [], ◌++◌, length, map, Some}
use Rattle.std.specs.List.{slice_split}
use Rattle.ba_format.specs.declared.parts.BaFault.{BaFault}
use Rattle.ba_format.specs.declared.parts.Limits.{Limits}
use Rattle.ba_format.specs.declared.parts.ReadFault.{ReadFault}
use Rattle.ba_format.specs.declared.parts.ReadFault.TheVariants.{Ba, Memory as OutOfMemory}
use Rattle.ba_format.specs.declared.pieces.Lines.{Lines}
use Rattle.ba_format.specs.declared.pieces.Progress.{Progress}
use Rattle.ba_format.specs.declared.pieces.Progress.TheVariants.{Faultless, Faulty, Refused}
use Rattle.ba_format.specs.declared.pieces.Reader.{Reader}
use Rattle.ba_format.specs.Cut.{is_newline, IsUnfinished}
use Rattle.ba_format.specs.Grammar.{LineContent, lines_from, lines_in, content_of}
use Rattle.ba_format.specs.Faults.{first_fault, fault_of, contents_of}
use Rattle.ba_format.specs.Draft.{Stands, Fits}

-- The lines that were taken are those of the text before this rest: none has a fault, and the draft
-- stands for what they say. What follows the rest has no part in that.
pub record AreTaken (lines : Lines) (text rest : List ℕ) : Type 0 where
  pub entries : List LineContent
  pub stands : Stands lines.draft entries
  pub fits : Fits lines.limits entries
  pub faults :
      (more : List ℕ)
      → first_fault lines.limits entries
      (lines_from (lines.count + 1) (slice_split is_newline (rest ++ more)))
      ≡ first_fault lines.limits [] (lines_in (text ++ more))
  pub says :
      (more : List ℕ)
      → entries
      ++ map (λ l. content_of l.text)
      (lines_from (lines.count + 1) (slice_split is_newline (rest ++ more)))
      ≡ contents_of (text ++ more)
  pub short : lines.count + length rest ≤ length text
  pub few : length entries ≤ lines.count

-- Whatever follows, this is the first fault of the text.
abbrev pub HasFirstFault : List ℕ → Limits → BaFault → Type 0
HasFirstFault text limits fault = (more : List ℕ) → fault_of (text ++ more) limits ≡ Some fault

-- The first fault is told, or want of memory.
abbrev pub TellsFirstFault : List ℕ → Limits → ReadFault → Type 0
TellsFirstFault text limits (Ba fault) = HasFirstFault text limits fault
TellsFirstFault text limits OutOfMemory = Unit {0}

-- How far the reading of the bytes has come: their lines were taken but for the unfinished one;
-- they have a first fault; or memory was refused.
abbrev pub HasComeTo : Progress → Lines → List ℕ → Limits → List ℕ → Type 0
HasComeTo Faultless lines line limits bytes =
    (lines.limits ≡ limits) × AreTaken lines bytes line × IsUnfinished line
HasComeTo (Faulty fault) lines line limits bytes = HasFirstFault bytes limits fault
HasComeTo Refused lines line limits bytes = Unit {0}

-- The reader holds what is to be known of these bytes, fed in any pieces, to read them and what
-- follows within these limits. Of one that was refused memory nothing is to be known.
abbrev pub HasRead : Reader → Limits → List ℕ → Type 0
HasRead reader limits bytes = HasComeTo reader.progress reader.lines reader.line.items limits bytes

-- The machine refused memory.
abbrev pub ReaderLacksMemory : Reader → Type 0
ReaderLacksMemory reader = reader.progress ≡ Refused
