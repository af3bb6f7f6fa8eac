-- What the words after the program's name ask.
use Rattle.std.specs.Prelude.{ℕ, ◌≢◌, ◌≤◌, ◌<◌, ◌^◌, ◌||◌, ◌&&◌, not, Bool, false, List, [], ◌∷◌, codes, Option, Some, None, IfSome, option_map, option_and_then, if◌then◌else◌}
use Rattle.std.specs.List.{list_any}
use Rattle.std.specs.Str.{bytes_eq}
use Rattle.std.specs.String.{string_bytes}
use Rattle.auto_core.specs.declared.parts.Mode.{Mode}
use Rattle.auto_core.specs.declared.parts.Mode.TheVariants.{Buchi, Finite}
use Rattle.clap.specs.Words.{Row, first_of, fault_of, subcommand_of, Kinds}
use Rattle.rabit_words.specs.declared.parts.Question.{Question as Held}
use Rattle.rabit_words.specs.declared.parts.Question.TheVariants as held
use Rattle.rabit_words.specs.declared.parts.TheConstants.{USUAL_LOOK, USUAL_LIMIT, USUAL_LETTERS}
use Rattle.rabit_words.specs.Number.{number_between, number_or, number_if_named}
use Rattle.rabit_words.specs.Command.{rabit_app}

-- A command with its files' names and its numbers.
pub data Question : Type 0 where
  Include : (first second certificate : List ℕ) (mode : Mode) (look limit : ℕ) (letters : Option ℕ)
      → Question
  Check : (first second certificate : List ℕ) → Question
  Reduce : (name : List ℕ) (mode : Mode) (look letters : ℕ) → Question
  Drill : (seed states labels : ℕ) → Question
  Upgrade : (certificate upgraded : List ℕ) → Question
  Cross : (first second relation : List ℕ) (look : ℕ) → Question
  CrossCheck : (first second relation : List ℕ) → Question
  Equal : (first second certificate converse : List ℕ) → Question
  Batch : (list : List ℕ) → Question
  Union : (first second : List ℕ) (mode : Mode) → Question
  Intersect : (first second : List ℕ) (mode : Mode) → Question
  Shrink : (first second certificate shorter : List ℕ) → Question
  Empty : (automaton made certificate : List ℕ) (mode : Mode) → Question
  Universal : (automaton made certificate : List ℕ) (mode : Mode) → Question

-- The question with its names as bytes.
abbrev pub told : Held → Question
told (held.Include a b c mode look limit letters) =
    Include (string_bytes a) (string_bytes b) (string_bytes c) mode look limit letters
told (held.Check a b c) = Check (string_bytes a) (string_bytes b) (string_bytes c)
told (held.Reduce a mode look letters) = Reduce (string_bytes a) mode look letters
told (held.Drill seed states labels) = Drill seed states labels
told (held.Upgrade c d) = Upgrade (string_bytes c) (string_bytes d)
told (held.Cross a b d look) = Cross (string_bytes a) (string_bytes b) (string_bytes d) look
told (held.CrossCheck a b f) = CrossCheck (string_bytes a) (string_bytes b) (string_bytes f)
told (held.Equal a b c d) =
    Equal (string_bytes a) (string_bytes b) (string_bytes c) (string_bytes d)
told (held.Batch l) = Batch (string_bytes l)
told (held.Union a b mode) = Union (string_bytes a) (string_bytes b) mode
told (held.Intersect a b mode) = Intersect (string_bytes a) (string_bytes b) mode
told (held.Shrink a b c d) =
    Shrink (string_bytes a) (string_bytes b) (string_bytes c) (string_bytes d)
told (held.Empty a e c mode) = Empty (string_bytes a) (string_bytes e) (string_bytes c) mode
told (held.Universal a u c mode) = Universal (string_bytes a) (string_bytes u) (string_bytes c) mode

-- The mode, by what stands for `--finite`.
abbrev pub mode_by : Option (List ℕ) → Mode
mode_by None = Buchi
mode_by (Some text) = if bytes_eq text (codes "true") then Finite else Buchi

-- The lookahead, from 1 to 6, and the usual one where none is named.
abbrev pub look_in : List Row → Option ℕ
look_in rows = number_or USUAL_LOOK 1 6 (first_of (codes "look") rows)

-- The limit of a search, from 1 to 100,000, and the usual one where none is named.
abbrev pub limit_in : List Row → Option ℕ
limit_in rows = number_or USUAL_LIMIT 1 100000 (first_of (codes "limit") rows)

-- How many letters are asked for in a reduction, from 1 to 4, and the usual number where none is
-- named.
abbrev pub letters_in : List Row → Option ℕ
letters_in rows = number_or USUAL_LETTERS 1 4 (first_of (codes "letters") rows)

-- How many letters are asked for in an inclusion, from 1 to 4, if they are named.
abbrev pub letters_named_in : List Row → Option (Option ℕ)
letters_named_in rows = number_if_named 1 4 (first_of (codes "letters") rows)

-- The number in this place, from `low` to `high`.
abbrev pub number_at : List ℕ → ℕ → ℕ → List Row → Option ℕ
number_at id low high rows = option_and_then (number_between low high) (first_of id rows)

-- What is asked where these stand in the places of `include`.
abbrev pub asks_include : List Row → Option Question
asks_include rows =
    option_and_then
    (λ a. option_and_then
    (λ b. option_and_then
    (λ c. option_and_then
    (λ look. option_and_then
    (λ limit.
    option_map (λ letters.
    Include a b c (mode_by (first_of (codes "finite") rows)) look limit letters)
    (letters_named_in rows))
    (limit_in rows)) (look_in rows)) (first_of (codes "CERT") rows)) (first_of (codes "B") rows))
    (first_of (codes "A") rows)

-- The same of `check`.
abbrev pub asks_check : List Row → Option Question
asks_check rows =
    option_and_then
    (λ a. option_and_then
    (λ b. option_map (λ c. Check a b c) (first_of (codes "CERT") rows)) (first_of (codes "B") rows))
    (first_of (codes "A") rows)

-- The same of `reduce`.
abbrev pub asks_reduce : List Row → Option Question
asks_reduce rows =
    option_and_then
    (λ a. option_and_then
    (λ look.
    option_map (λ letters. Reduce a (mode_by (first_of (codes "finite") rows)) look letters)
    (letters_in rows))
    (look_in rows)) (first_of (codes "A") rows)

-- The same of `drill`: a seed below 2^32, 2 to 512 states, 1 to 26 labels.
abbrev pub asks_drill : List Row → Option Question
asks_drill rows =
    option_and_then
    (λ seed. option_and_then
    (λ states.
    option_map (λ labels. Drill seed states labels) (number_at (codes "LABELS") 1 26 rows))
    (number_at (codes "STATES") 2 512 rows)) (number_at (codes "SEED") 0 4294967295 rows)

-- The same of `upgrade`.
abbrev pub asks_upgrade : List Row → Option Question
asks_upgrade rows =
    option_and_then (λ c. option_map (λ d. Upgrade c d) (first_of (codes "OUT") rows))
    (first_of (codes "CERT") rows)

-- The same of `cross`.
abbrev pub asks_cross : List Row → Option Question
asks_cross rows =
    option_and_then
    (λ a. option_and_then
    (λ b. option_and_then
    (λ d. option_map (λ look. Cross a b d look) (look_in rows))
    (first_of (codes "OUT") rows)) (first_of (codes "B") rows)) (first_of (codes "A") rows)

-- The same of `cross-check`.
abbrev pub asks_cross_check : List Row → Option Question
asks_cross_check rows =
    option_and_then
    (λ a. option_and_then
    (λ b. option_map (λ f. CrossCheck a b f) (first_of (codes "FILE") rows))
    (first_of (codes "B") rows)) (first_of (codes "A") rows)

-- The same of `equal`, where the names of the two certificates differ.
abbrev pub asks_equal : List Row → Option Question
asks_equal rows =
    option_and_then
    (λ a. option_and_then
    (λ b. option_and_then
    (λ c. option_and_then (λ d. if not (bytes_eq c d) then Some (Equal a b c d) else None)
    (first_of (codes "C2") rows))
    (first_of (codes "C1") rows)) (first_of (codes "B") rows)) (first_of (codes "A") rows)

-- The same of `batch`.
abbrev pub asks_batch : List Row → Option Question
asks_batch rows = option_map (λ l. Batch l) (first_of (codes "LIST") rows)

-- The same of `union`.
abbrev pub asks_union : List Row → Option Question
asks_union rows =
    option_and_then
    (λ a. option_map (λ b. Union a b (mode_by (first_of (codes "finite") rows)))
    (first_of (codes "B") rows)) (first_of (codes "A") rows)

-- The same of `intersect`.
abbrev pub asks_intersect : List Row → Option Question
asks_intersect rows =
    option_and_then
    (λ a. option_map (λ b. Intersect a b (mode_by (first_of (codes "finite") rows)))
    (first_of (codes "B") rows)) (first_of (codes "A") rows)

-- The same of `shrink`.
abbrev pub asks_shrink : List Row → Option Question
asks_shrink rows =
    option_and_then
    (λ a. option_and_then
    (λ b. option_and_then
    (λ c. option_map (λ d. Shrink a b c d) (first_of (codes "OUT") rows))
    (first_of (codes "CERT") rows)) (first_of (codes "B") rows)) (first_of (codes "A") rows)

-- The three names differ.
abbrev pub names_differ : List ℕ → List ℕ → List ℕ → Bool
names_differ a b c = not (bytes_eq a b) && (not (bytes_eq a c) && not (bytes_eq b c))

-- The question about these three files, where their names differ.
abbrev pub asks_if_names_differ : (List ℕ → List ℕ → List ℕ → Question) → List ℕ → List ℕ → List ℕ
    → Option Question
asks_if_names_differ ask a b c = if names_differ a b c then Some (ask a b c) else None

-- The same of `empty`.
abbrev pub asks_empty : List Row → Option Question
asks_empty rows =
    option_and_then
    (λ a. option_and_then
    (λ e. option_and_then
    (λ c. asks_if_names_differ (λ a e c. Empty a e c (mode_by (first_of (codes "finite") rows))) a e
    c)
    (first_of (codes "CERT") rows)) (first_of (codes "E") rows)) (first_of (codes "A") rows)

-- The same of `universal`.
abbrev pub asks_universal : List Row → Option Question
asks_universal rows =
    option_and_then
    (λ a. option_and_then
    (λ u. option_and_then
    (λ c. asks_if_names_differ (λ a u c. Universal a u c (mode_by (first_of (codes "finite") rows)))
    a u c)
    (first_of (codes "CERT") rows)) (first_of (codes "U") rows)) (first_of (codes "A") rows)

-- What is asked by the subcommand of this name, if it is one of the last seven.
abbrev pub asks_by_later : List ℕ → List Row → Option Question
asks_by_later name rows =
    if bytes_eq name (codes "equal") then asks_equal rows
    else (if bytes_eq name (codes "batch") then asks_batch rows
    else (if bytes_eq name (codes "union") then asks_union rows
    else (if bytes_eq name (codes "intersect") then asks_intersect rows
    else (if bytes_eq name (codes "shrink") then asks_shrink rows
    else (if bytes_eq name (codes "empty") then asks_empty rows
    else (if bytes_eq name (codes "universal") then asks_universal rows else None))))))

-- What is asked by the subcommand of this name.
abbrev pub asks_by : List ℕ → List Row → Option Question
asks_by name rows =
    if bytes_eq name (codes "include") then asks_include rows
    else (if bytes_eq name (codes "check") then asks_check rows
    else (if bytes_eq name (codes "reduce") then asks_reduce rows
    else (if bytes_eq name (codes "drill") then asks_drill rows
    else (if bytes_eq name (codes "upgrade") then asks_upgrade rows
    else (if bytes_eq name (codes "cross") then asks_cross rows
    else (if bytes_eq name (codes "cross-check") then asks_cross_check rows
    else asks_by_later name rows))))))

-- The same of the subcommand that was found, if one was.
abbrev pub asks_found : Option (List ℕ × List Row) → Option Question
asks_found None = None
asks_found (Some found) = asks_by found.0 found.1

-- The same, where the words have no fault.
abbrev pub asks_unless : Kinds → Option (List ℕ × List Row) → Option Question
asks_unless [] found = asks_found found
asks_unless (kind ∷ kinds) found = None

-- What the whole command line asks, by the matches of the program's command.
abbrev pub asks_on_line : List (List ℕ) → Option Question
asks_on_line line = asks_unless (fault_of rabit_app line) (subcommand_of rabit_app line)

-- `-h` or `--help`.
abbrev pub is_help_option : List ℕ → Bool
is_help_option word = bytes_eq word (codes "-h") || bytes_eq word (codes "--help")

-- The first word is `help`.
abbrev pub starts_with_help : List (List ℕ) → Bool
starts_with_help [] = false
starts_with_help (word ∷ words) = bytes_eq word (codes "help")

-- The first word is `help`, or any is a help option.
abbrev pub has_help_word : List (List ℕ) → Bool
has_help_word words = starts_with_help words || list_any is_help_option words

-- The question of the words: there is none where they hold a help word, have a fault by the
-- command, spell a number otherwise or out of its range, or give one name twice to a command that
-- writes two files.
abbrev pub question_of : List (List ℕ) → Option Question
question_of words = if has_help_word words then None else asks_on_line (codes "rabit" ∷ words)

-- No two of the three names are one.
abbrev pub NamesDiffer : List ℕ → List ℕ → List ℕ → Type 0
NamesDiffer a b c = (a ≢ b) × (a ≢ c) × (b ≢ c)

-- The numbers of the question are in their ranges, and the names of a command that writes two files
-- differ.
abbrev pub IsProper : Question → Type 0
IsProper (Include a b c mode look limit letters) =
    (1 ≤ look) × (look ≤ 6) × (1 ≤ limit) × (limit ≤ 100000)
    × IfSome letters (λ m. (1 ≤ m) × (m ≤ 4))
IsProper (Check a b c) = Unit {0}
IsProper (Reduce a mode look letters) = (1 ≤ look) × (look ≤ 6) × (1 ≤ letters) × (letters ≤ 4)
IsProper (Drill seed states labels) =
    (seed < 2 ^ 32) × (2 ≤ states) × (states ≤ 512) × (1 ≤ labels) × (labels ≤ 26)
IsProper (Upgrade c d) = Unit {0}
IsProper (Cross a b d look) = (1 ≤ look) × (look ≤ 6)
IsProper (CrossCheck a b f) = Unit {0}
IsProper (Equal a b c d) = c ≢ d
IsProper (Batch l) = Unit {0}
IsProper (Union a b mode) = Unit {0}
IsProper (Intersect a b mode) = Unit {0}
IsProper (Shrink a b c d) = Unit {0}
IsProper (Empty a e c mode) = NamesDiffer a e c
IsProper (Universal a u c mode) = NamesDiffer a u c
