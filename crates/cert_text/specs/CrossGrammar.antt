-- How the lines of a cross relation are read, in the way of certificates: no line is refused for
-- what could not follow it.
use Rattle.std.specs.Prelude.{◌≡◌, ℕ, List, [], ◌∷◌, Result, Ok, Err, is_none, if◌then◌else◌}
use Rattle.cert_value.specs.declared.keywords.Keyword.TheVariants as keyword
use Rattle.cert_value.specs.declared.types.RelBlock.{RelBlock}
use Rattle.cert_value.specs.Text.{Line}
use Rattle.cert_line.specs.declared.shapes.Place.{Place}
use Rattle.cert_line.specs.declared.shapes.Place.TheVariants.{Word}
use Rattle.cert_line.specs.declared.shapes.Tail.TheVariants as tail
use Rattle.cert_line.specs.declared.faults.TextKind.TheVariants as kind
use Rattle.cert_text.specs.declared.faults.TextFault.{TextFault}
use Rattle.cert_line.specs.declared.lines.Sizes.{Sizes}
use Rattle.cert_line.specs.Shapes.{line_fault}
use Rattle.cert_line.specs.Lines.{Said, number_in, sizes_in}
use Rattle.cert_text.specs.Grammar.{LinesOutcome, next_line, read_block, read_end, reading_by}
use Rattle.cert_text.specs.declared.cross.Cross.{Cross}

-- The places of the first line.
abbrev pub cross_heading_places : List Place
cross_heading_places = Word keyword.RabitCross ∷ Word keyword.One ∷ []

-- The first line; any other is no heading.
abbrev pub cross_heading_in : Line → Said (Unit {0})
cross_heading_in tokens =
    if is_none (line_fault cross_heading_places tail.Nothing tokens) then Ok tt else Err kind.Header

-- The cross relation of these parts.
abbrev pub cross_of_parts : Sizes → ℕ → RelBlock → Cross
cross_of_parts sizes look block = record {
  first_states = sizes.first_states;
  second_states = sizes.second_states;
  labels = sizes.labels;
  look = look;
  rows = block.rows;
}

-- What follows the line of the lookahead: the rows, and the last line.
abbrev pub read_relation : Sizes → ℕ → List Line → LinesOutcome Cross
read_relation sizes look = read_block 1 (λ block. read_end (cross_of_parts sizes look block))

-- What follows the line of sizes.
abbrev pub read_look : Sizes → List Line → LinesOutcome Cross
read_look sizes = next_line (number_in keyword.Look) (read_relation sizes)

-- What follows the first line.
abbrev pub read_cross_sizes : List Line → LinesOutcome Cross
read_cross_sizes = next_line sizes_in read_look

-- A whole text.
abbrev pub read_cross : List Line → LinesOutcome Cross
read_cross = next_line cross_heading_in (λ u. read_cross_sizes)

-- What the bytes are: a cross relation's text, or where they first begin none, and why.
abbrev pub cross_reading : List ℕ → Result Cross TextFault
cross_reading bytes = reading_by read_cross bytes

-- The bytes are no cross relation's text, and this is their first fault.
abbrev pub FirstCrossFault : List ℕ → TextFault → Type 0
FirstCrossFault bytes fault = cross_reading bytes ≡ Err fault
