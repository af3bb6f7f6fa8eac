-- Lists of questions: their texts, and the first bad line of a text.
use Rattle.std.specs.Prelude.{◌≡◌, ◌≤◌, ◌+◌, ◌==◌, ◌⊎◌, ◌++◌, ◌∷◌, ℕ, Bool, true, ◌&&◌, List, [], length, map, nat_lt, nat_le, if◌then◌else◌, Option, Some, None}
use Rattle.std.specs.List.{list_all}
use Rattle.cert_value.specs.Text.{Line, text_of}
use Rattle.cert_value.specs.WellFormed.{has_some}
use Rattle.cert_text.specs.Grammar.{lines_of, is_bare}
use Rattle.equal_batch.specs.declared.fault.ListFault.{ListFault}
use Rattle.equal_batch.specs.declared.fault.ListFault.TheVariants as fault
use Rattle.equal_batch.specs.declared.questions.Question.{Question}
use Rattle.equal_batch.specs.declared.questions.TheConstants.{MOST_LINES}

-- A byte of a word: printed, and no space.
abbrev pub is_character : ℕ → Bool
is_character b = nat_lt 32 b && nat_lt b 127

-- A word.
abbrev pub is_word : List ℕ → Bool
is_word token = has_some token && list_all is_character token

-- A line of just three words.
abbrev pub is_question : Line → Bool
is_question line = (length line == 3) && list_all is_word line

-- The line that asks the question.
abbrev pub line_of : Question → Line
line_of question = question.first ∷ question.second ∷ question.cert ∷ []

-- The bytes are the text of this list, whose last LF may be missing.
pub record IsList (questions : List Question) (bytes : List ℕ) : Type 0 where
  pub words : list_all is_question (map line_of questions) ≡ true
  pub few : length questions ≤ MOST_LINES
  pub text : (text_of (map line_of questions) ≡ bytes)
      ⊎ (text_of (map line_of questions) ≡ bytes ++ 10 ∷ [])

-- The lines among these pieces: the last piece is one unless it is empty.
abbrev pub lines_among : List Line → List Line
lines_among [] = []
lines_among (line ∷ []) = if is_bare line then [] else line ∷ []
lines_among (line ∷ next ∷ lines) = line ∷ lines_among (next ∷ lines)

-- The lines of the bytes, each cut at its spaces.
abbrev pub cut_lines : List ℕ → List Line
cut_lines bytes = lines_among (lines_of bytes)

-- The number of the first line that is no question or stands after the last that a list may have,
-- where the first line has this number.
abbrev pub bad_from : ℕ → List Line → Option ℕ
bad_from number [] = None
bad_from number (line ∷ lines) =
    if is_question line && nat_le number MOST_LINES then bad_from (number + 1) lines
    else Some number

-- The first bad line of the bytes, numbered from 1.
abbrev pub first_bad : List ℕ → Option ℕ
first_bad bytes = bad_from 1 (cut_lines bytes)

-- The fault tells this line, or want of memory.
abbrev pub TellsLine : Option ℕ → ListFault → Type 0
TellsLine bad (fault.Line line) = bad ≡ Some line
TellsLine bad (fault.Memory) = Unit {0}
