-- Which cross relations have a text, and the text.
use Rattle.std.specs.Prelude.{ℕ, List, [], ◌∷◌, ◌++◌, Bool, ◌&&◌, IsTrue, decimal}
use Rattle.cert_value.specs.declared.keywords.Keyword.TheVariants as keyword
use Rattle.cert_value.specs.declared.types.RelBlock.{RelBlock}
use Rattle.cert_value.specs.Text.{Line, spelled, sizes_line, block_lines, end_line, text_of}
use Rattle.cert_value.specs.WellFormed.{is_short, is_block}
use Rattle.cert_text.specs.declared.cross.Cross.{Cross}

-- Its rows as the block of a relation.
abbrev pub block_of : Cross → RelBlock
block_of c = record { rows = c.rows }

-- Whether it has a text: every number and the count of its rows have at most nine digits, left
-- numbers ascend, and each row has runs that ascend, none of them right after the one before.
abbrev pub has_cross_text : Cross → Bool
has_cross_text c =
    is_short c.first_states
    && (is_short c.second_states
    && (is_short c.labels && (is_short c.look && is_block (block_of c))))

-- It has a text.
abbrev pub CrossFormed : Cross → Type 0
CrossFormed c = IsTrue (has_cross_text c)

-- The first line.
abbrev pub heading_line : Line
heading_line = spelled keyword.RabitCross ∷ spelled keyword.One ∷ []

-- The line of the lookahead.
abbrev pub look_line : ℕ → Line
look_line look = spelled keyword.Look ∷ decimal look ∷ []

-- All lines: the rows are written as those of certificates of version 1, number by number.
abbrev pub cross_lines : Cross → List Line
cross_lines c =
    heading_line
    ∷ sizes_line c.first_states c.second_states c.labels
    ∷ look_line c.look
    ∷ (block_lines 1 (block_of c) ++ end_line ∷ [])

-- The text of a cross relation.
abbrev pub cross_text : Cross → List ℕ
cross_text c = text_of (cross_lines c)
