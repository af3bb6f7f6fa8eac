-- The grammar of `.ba` texts: lines, what a line says, and what is wrong with a line by itself.
use Rattle.std.specs.Prelude.{ℕ, ◌+◌, Bool, not, ◌&&◌, ◌||◌, List, [], ◌∷◌, reverse, length, count_by, if◌then◌else◌, ◌==◌, nat_lt, Option, None, Some}
use Rattle.std.specs.List.{list_any, slice_split, before_first, after_first}
use Rattle.ba_format.specs.Cut.{is_newline}
use Rattle.ba_format.specs.declared.lines.TheConstants.{TOKEN_LIMIT}
use Rattle.ba_format.specs.declared.parts.BaKind.{BaKind}
use Rattle.ba_format.specs.declared.parts.BaKind.TheVariants.{BadByte, Shape, EmptyToken, TokenLong}

-- Space, tab and CR are dropped at the two ends of a line.
abbrev pub is_blank : ℕ → Bool
is_blank b = (b == 32) || (b == 9) || (b == 13)

-- The text without the blanks in front.
abbrev pub without_leading : List ℕ → List ℕ
without_leading [] = []
without_leading (b ∷ bs) = if is_blank b then without_leading bs else b ∷ bs

-- The text without the blanks at its two ends.
abbrev pub trimmed : List ℕ → List ℕ
trimmed bs = reverse (without_leading (reverse (without_leading bs)))

-- A line that isn't blank, trimmed, and its number.
pub record NumberedLine : Type 0 where
  pub number : ℕ
  pub text : List ℕ

-- The line with this number and text stands before the others, unless it is blank.
abbrev pub onto_lines : ℕ → List ℕ → List NumberedLine → List NumberedLine
onto_lines number [] lines = lines
onto_lines number (b ∷ bs) lines = record { number = number; text = b ∷ bs } ∷ lines

-- The lines that aren't blank among these pieces, the first piece having this number.
abbrev pub lines_from : ℕ → List (List ℕ) → List NumberedLine
lines_from number [] = []
lines_from number (piece ∷ pieces) =
    onto_lines number (trimmed piece) (lines_from (number + 1) pieces)

-- The lines of a text that aren't blank. Lines are numbered from 1, blank ones too.
-- (Where the text ends in LF, the piece after it is blank.)
abbrev pub lines_in : List ℕ → List NumberedLine
lines_in text = lines_from 1 (slice_split is_newline text)

-- How often `->` stands in a text.
abbrev pub arrows : List ℕ → ℕ
arrows [] = 0
arrows (a ∷ []) = 0
arrows (a ∷ b ∷ bs) = if (a == 45) && (b == 62) then arrows (b ∷ bs) + 1 else arrows (b ∷ bs)

-- What stands before the first `->`; the whole text if there is none.
abbrev pub before_arrow : List ℕ → List ℕ
before_arrow [] = []
before_arrow (a ∷ []) = a ∷ []
before_arrow (a ∷ b ∷ bs) = if (a == 45) && (b == 62) then [] else a ∷ before_arrow (b ∷ bs)

-- What stands after the first `->`; nothing if there is none.
abbrev pub after_arrow : List ℕ → List ℕ
after_arrow [] = []
after_arrow (a ∷ []) = []
after_arrow (a ∷ b ∷ bs) = if (a == 45) && (b == 62) then bs else after_arrow (b ∷ bs)

abbrev pub is_comma : ℕ → Bool
is_comma b = b == 44

-- What a line says.
pub data LineContent : Type 0 where
  StateLine : (name : List ℕ) → LineContent
  TransitionLine : (label source target : List ℕ) → LineContent

-- What a trimmed line says: with a comma it is a transition line `label,source->target`, without
-- one it is a state line, whose token is the whole line. Blanks at the ends of a token are dropped
-- (CR can't be among them: it is a bad byte).
abbrev pub content_of : List ℕ → LineContent
content_of line =
    if list_any is_comma line then
    TransitionLine (trimmed (before_first is_comma line))
    (trimmed (before_arrow (after_first is_comma line)))
    (trimmed (after_arrow (after_first is_comma line)))
    else
    StateLine line

-- The tokens of a line.
abbrev pub content_tokens : LineContent → List (List ℕ)
content_tokens (StateLine name) = name ∷ []
content_tokens (TransitionLine label source target) = label ∷ source ∷ target ∷ []

-- A byte that no line may have: 0x7F, and those below 0x20 but the tab.
abbrev pub is_bad : ℕ → Bool
is_bad b = (b == 127) || (nat_lt b 32 && not (b == 9))

-- A line with a comma has exactly one comma and exactly one `->`, which stands after the comma;
-- a line without a comma has no `->`.
abbrev pub is_shaped : List ℕ → Bool
is_shaped line =
    if list_any is_comma line then
    (count_by is_comma line == 1) && (arrows line == 1) && (arrows (after_first is_comma line) == 1)
    else
    arrows line == 0

abbrev pub is_empty : List ℕ → Bool
is_empty token = length token == 0

-- A token has at most 255 bytes.
abbrev pub is_long : List ℕ → Bool
is_long token = nat_lt TOKEN_LIMIT (length token)

-- What is wrong with the tokens of a line: the least kind.
abbrev pub token_fault : LineContent → Option BaKind
token_fault entry =
    if list_any is_empty (content_tokens entry) then Some EmptyToken
    else if list_any is_long (content_tokens entry) then Some TokenLong
    else None

-- What is wrong with a trimmed line by itself: the least kind.
abbrev pub own_fault : List ℕ → Option BaKind
own_fault line =
    if list_any is_bad line then Some BadByte
    else if not (is_shaped line) then Some Shape
    else token_fault (content_of line)
