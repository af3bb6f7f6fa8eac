-- What each kind of line says, and what is wrong where it says nothing.
use Rattle.std.specs.Prelude.{ℕ, ◌+◌, ◌-◌, List, [], ◌∷◌, Bool, ◌&&◌, ◌==◌, nat_lt, nat_le, take, Option, Some, None, Result, Ok, Err, is_none, if◌then◌else◌}
use Rattle.auto_core.specs.declared.parts.Mode.{Mode}
use Rattle.auto_core.specs.declared.parts.Mode.TheVariants as mode
use Rattle.auto_core.specs.declared.parts.Origin.{Origin}
use Rattle.auto_core.specs.declared.parts.Origin.TheVariants as origin
use Rattle.cert_value.specs.declared.keywords.Keyword.{Keyword}
use Rattle.cert_value.specs.declared.keywords.Keyword.TheVariants as keyword
use Rattle.cert_line.specs.declared.shapes.Place.{Place}
use Rattle.cert_line.specs.declared.shapes.Place.TheVariants.{Word, Number}
use Rattle.cert_line.specs.declared.shapes.Tail.{Tail}
use Rattle.cert_line.specs.declared.shapes.Tail.TheVariants as tail
use Rattle.cert_line.specs.declared.faults.TextKind.{TextKind}
use Rattle.cert_line.specs.declared.faults.TextKind.TheVariants as kind
use Rattle.cert_value.specs.declared.types.Form.{Form}
use Rattle.cert_value.specs.declared.types.Form.TheVariants as form
use Rattle.cert_value.specs.declared.types.GoneBy.{GoneBy}
use Rattle.cert_value.specs.declared.types.Row.{Row}
use Rattle.cert_value.specs.declared.types.Run.{Run}
use Rattle.cert_value.specs.declared.types.RankRow.{RankRow}
use Rattle.cert_value.specs.declared.types.Ranked.{Ranked}
use Rattle.cert_value.specs.declared.types.Element.{Element}
use Rattle.cert_value.specs.declared.types.Mark.TheVariants as mark
use Rattle.cert_value.specs.declared.types.StepLine.{StepLine}
use Rattle.cert_line.specs.declared.lines.Sizes.{Sizes}
use Rattle.cert_line.specs.declared.lines.Heading.{Heading}
use Rattle.cert_line.specs.declared.heads.FirstHead.{FirstHead}
use Rattle.cert_line.specs.declared.heads.FirstHead.TheVariants as first
use Rattle.cert_line.specs.declared.heads.SecondHead.{SecondHead}
use Rattle.cert_line.specs.declared.heads.SecondHead.TheVariants as second
use Rattle.cert_line.specs.declared.heads.Way.TheVariants as way
use Rattle.cert_value.specs.Text.{Line, version_word, mode_word, form_word}
use Rattle.cert_value.specs.WellFormed.{ascend, runs_ascend, rights_of, gone_of, blocks_due, are_letters, rank_key, is_less}
use Rattle.cert_line.specs.Shapes.{fits, line_fault, value_at, values_from}

-- What a line says, or what is wrong with it.
abbrev pub Said : Type 0 → Type 0
Said A = Result A TextKind

-- What is told, unless there is a fault.
abbrev pub unless : {A : Type 0} → Option TextKind → Said A → Said A
unless (Some fault) said = Err fault
unless None said = said

-- What the line tells, where a line of this shape is due: these places and this tail.
abbrev pub as_shape : {A : Type 0} → List Place → Tail → (Line → Said A) → Line → Said A
as_shape places tail told tokens = unless (line_fault places tail tokens) (told tokens)

-- What is told, where the order is right.
abbrev pub in_order : {A : Type 0} → Bool → A → Said A
in_order right a = if right then Ok a else Err kind.Order

-- The first reading where its words fit, and the other one elsewhere.
abbrev pub either : {A : Type 0} → List Place → (Line → Said A) → (Line → Said A) → Line → Said A
either places told other tokens = if fits places tokens then told tokens else other tokens

-- A line of one word.
abbrev pub word_in : Keyword → Line → Said (Unit {0})
word_in keyword = as_shape (Word keyword ∷ []) tail.Nothing (λ tokens. Ok tt)

-- A line of a word and a number.
abbrev pub number_in : Keyword → Line → Said ℕ
number_in keyword =
    as_shape (Word keyword ∷ Number ∷ []) tail.Nothing (λ tokens. Ok (value_at tokens 1))

-- A line of a word and numbers.
abbrev pub numbers_in : Keyword → Tail → Line → Said (List ℕ)
numbers_in keyword tail = as_shape (Word keyword ∷ []) tail (λ tokens. Ok (values_from 1 tokens))

-- A line of a word and numbers that ascend.
abbrev pub ascending_in : Keyword → Tail → Line → Said (List ℕ)
ascending_in keyword tail =
    as_shape (Word keyword ∷ [])
    tail (λ tokens. in_order (ascend (values_from 1 tokens)) (values_from 1 tokens))

-- The line of sizes.
abbrev pub sizes_in : Line → Said Sizes
sizes_in =
    as_shape (Word keyword.Sizes ∷ Number ∷ Number ∷ Number ∷ []) tail.Nothing
    (λ tokens.
    Ok (record {
      first_states = value_at tokens 1;
      second_states = value_at tokens 2;
      labels = value_at tokens 3;
    }))

-- Numbers taken two by two; one that is left over is none of them.
abbrev pub by_two : {A : Type 0} → (ℕ → ℕ → A) → List ℕ → List A
by_two pair [] = []
by_two pair (n ∷ []) = []
by_two pair (n ∷ m ∷ ns) = pair n m ∷ by_two pair ns

-- Numbers as the ends of runs.
abbrev pub run : ℕ → ℕ → Run
run n m = record { first = n; last = m }

abbrev pub runs_of_ends : List ℕ → List Run
runs_of_ends ns = by_two run ns

-- A run before others, joined with the first of them where that one begins right after it.
abbrev pub onto_runs : Run → List Run → List Run
onto_runs r [] = r ∷ []
onto_runs r (next ∷ runs) =
    if r.last + 1 == next.first then run r.first next.last ∷ runs else r ∷ next ∷ runs

-- Numbers as runs, those that follow one another joined.
abbrev pub joined_runs : List ℕ → List Run
joined_runs [] = []
joined_runs (n ∷ ns) = onto_runs (run n n) (joined_runs ns)

-- The runs of a row, from its numbers as the version has them.
abbrev pub runs_of : ℕ → List ℕ → List Run
runs_of v ns = if v == 2 then runs_of_ends ns else joined_runs ns

-- What may follow the left number of a row: in version 1 numbers, in version 2 the ends of runs.
abbrev pub row_tail : ℕ → Tail
row_tail v = if v == 2 then tail.Pairs 0 else tail.SomeNumbers

-- The numbers of a row are in order: in version 1 they ascend, in version 2 they are the ends of
-- runs that ascend.
abbrev pub row_ascends : ℕ → List ℕ → Bool
row_ascends v ns = if v == 2 then runs_ascend (runs_of_ends ns) else ascend ns

-- A row of a relation, its left number not below the bound.
abbrev pub row_of : ℕ → Line → Row
row_of v tokens = record { left = value_at tokens 1; runs = runs_of v (values_from 2 tokens) }

abbrev pub row_in : ℕ → ℕ → Line → Said Row
row_in v bound =
    as_shape (Word keyword.Row ∷ Number ∷ []) (row_tail v)
    (λ tokens.
    in_order (row_ascends v (values_from 2 tokens) && nat_le bound (row_of v tokens).left)
    (row_of v tokens))

-- Numbers as right numbers with their codes.
abbrev pub ranked : ℕ → ℕ → Ranked
ranked n m = record { right = n; code = m }

abbrev pub ranked_of : List ℕ → List Ranked
ranked_of ns = by_two ranked ns

-- A row of a relation with ranks, with a word of so many labels.
abbrev pub rank_row_of : ℕ → Line → RankRow
rank_row_of count tokens = record {
  left = value_at tokens 1;
  ahead = take count (values_from 2 tokens);
  rights = ranked_of (values_from (count + 2) tokens);
}

-- A row of a relation with ranks for so many announced letters, its left number and word behind the
-- key.
abbrev pub rank_row_in : ℕ → List ℕ → Line → Said RankRow
rank_row_in letters key =
    as_shape (Word keyword.Row ∷ Number ∷ []) (tail.Pairs (letters - 1))
    (λ tokens. in_order
    (ascend (rights_of (rank_row_of (letters - 1) tokens).rights)
    && is_less key (rank_key (rank_row_of (letters - 1) tokens)))
    (rank_row_of (letters - 1) tokens))

-- Numbers as what goes and by what.
abbrev pub gone_by : ℕ → ℕ → GoneBy
gone_by n m = record { trans = n; by = m }

abbrev pub gone_by_of : List ℕ → List GoneBy
gone_by_of ns = by_two gone_by ns

-- What goes and by what.
abbrev pub gone_by_in : Line → Said (List GoneBy)
gone_by_in =
    as_shape (Word keyword.Gone ∷ []) (tail.Pairs 0)
    (λ tokens.
    in_order (ascend (gone_of (gone_by_of (values_from 1 tokens))))
    (gone_by_of (values_from 1 tokens)))

-- The head of a trim.
abbrev pub trim_in : {A : Type 0} → (List ℕ → A) → Line → Said A
trim_in head =
    as_shape (Word keyword.Trim ∷ []) tail.Numbers
    (λ tokens. in_order (ascend (values_from 1 tokens)) (head (values_from 1 tokens)))

-- The head of a cut in the first log: by one of the four pairs.
abbrev pub first_cut_in : Line → Said FirstHead
first_cut_in =
    as_shape (Word keyword.Cut ∷ Number ∷ Number ∷ []) tail.Nothing
    (λ tokens. if nat_lt 0 (blocks_due (value_at tokens 1))
    then Ok (first.Cut (value_at tokens 1) (value_at tokens 2))
    else Err kind.Shape)

-- The head of a step of the first log.
abbrev pub first_head_in : Line → Said FirstHead
first_head_in =
    either (Word keyword.Trim ∷ []) (trim_in first.Trim)
    (either (Word keyword.Merge ∷ [])
    (as_shape (Word keyword.Merge ∷ []) tail.Nothing (λ tokens. Ok first.Merge))
    first_cut_in)

-- The head of a cut in the second log.
abbrev pub second_cut_in : Line → Said SecondHead
second_cut_in = as_shape (Word keyword.Cut ∷ []) tail.Nothing (λ tokens. Ok second.Cut)

-- The places of a merge with a number.
abbrev pub merge_places : Keyword → List Place
merge_places direction = Word keyword.Merge ∷ Word direction ∷ Number ∷ []

-- The head of a merge by delayed simulation: in version 1 one letter is announced.
abbrev pub plain_delayed_in : Line → Said SecondHead
plain_delayed_in =
    as_shape (Word keyword.Merge ∷ Word keyword.Delayed ∷ [])
    tail.Nothing (λ tokens. Ok (second.Merge (way.Delayed 1)))

-- In version 2 the head says how many.
abbrev pub announced_delayed_in : Line → Said SecondHead
announced_delayed_in =
    as_shape (merge_places keyword.Delayed) tail.Nothing
    (λ tokens. if are_letters 2 (value_at tokens 2)
    then Ok (second.Merge (way.Delayed (value_at tokens 2)))
    else Err kind.Shape)

abbrev pub delayed_in : ℕ → Line → Said SecondHead
delayed_in v tokens = if v == 2 then announced_delayed_in tokens else plain_delayed_in tokens

-- The head of a merge by delayed simulation or of a cut; in a finite file only a cut may stand
-- there.
abbrev pub delayed_or_cut_in : ℕ → Mode → Line → Said SecondHead
delayed_or_cut_in v (mode.Buchi) =
    either (Word keyword.Merge ∷ Word keyword.Delayed ∷ []) (delayed_in v) second_cut_in
delayed_or_cut_in v (mode.Finite) = second_cut_in

-- The head of a merge or of a cut of the second log.
abbrev pub merge_or_cut_in : ℕ → Mode → Line → Said SecondHead
merge_or_cut_in v m =
    either (merge_places keyword.Forward)
    (as_shape (merge_places keyword.Forward)
    tail.Nothing (λ tokens. Ok (second.Merge (way.Forward (value_at tokens 2)))))
    (either (merge_places keyword.Backward)
    (as_shape (merge_places keyword.Backward)
    tail.Nothing (λ tokens. Ok (second.Merge (way.Backward (value_at tokens 2)))))
    (delayed_or_cut_in v m))

-- The head of a step of the second log.
abbrev pub second_head_in : ℕ → Mode → Line → Said SecondHead
second_head_in v m = either (Word keyword.Trim ∷ []) (trim_in second.Trim) (merge_or_cut_in v m)

-- The places of an origin, after these.
abbrev pub start_places : List Place
start_places = Word keyword.Start ∷ []

abbrev pub base_places : List Place
base_places = Word keyword.Base ∷ Number ∷ []

abbrev pub next_places : List Place
next_places = Word keyword.Next ∷ Number ∷ Number ∷ []

-- Where an element comes from, in a list.
abbrev pub next_origin_in : Line → Said Origin
next_origin_in =
    as_shape next_places
    tail.Nothing (λ tokens. Ok (origin.Next (value_at tokens 1) (value_at tokens 2)))

abbrev pub origin_in : Mode → Line → Said Origin
origin_in (mode.Buchi) =
    either base_places
    (as_shape base_places tail.Nothing (λ tokens. Ok (origin.Base (value_at tokens 1))))
    next_origin_in
origin_in (mode.Finite) =
    either start_places (as_shape start_places tail.Nothing (λ tokens. Ok origin.Start))
    next_origin_in

-- The places of an element's line: its mark and then its origin.
abbrev pub live_base : List Place
live_base = Word keyword.Live ∷ base_places

abbrev pub live_start : List Place
live_start = Word keyword.Live ∷ start_places

abbrev pub live_next : List Place
live_next = Word keyword.Live ∷ next_places

abbrev pub under_base : List Place
under_base = Word keyword.Under ∷ Number ∷ base_places

abbrev pub under_start : List Place
under_start = Word keyword.Under ∷ Number ∷ start_places

abbrev pub under_next : List Place
under_next = Word keyword.Under ∷ Number ∷ next_places

-- A live element, and one under another.
abbrev pub live : Origin → Element
live from = record { mark = mark.Live; origin = from }

abbrev pub under : ℕ → Origin → Element
under j from = record { mark = mark.Under j; origin = from }

-- An element that comes from another.
abbrev pub next_element_in : Line → Said Element
next_element_in =
    either live_next
    (as_shape live_next
    tail.Nothing (λ tokens. Ok (live (origin.Next (value_at tokens 2) (value_at tokens 3)))))
    (as_shape under_next tail.Nothing
    (λ tokens.
    Ok (under (value_at tokens 1) (origin.Next (value_at tokens 3) (value_at tokens 4)))))

-- An element of a Büchi yes.
abbrev pub base_element_in : Line → Said Element
base_element_in =
    either live_base
    (as_shape live_base tail.Nothing (λ tokens. Ok (live (origin.Base (value_at tokens 2)))))
    (either under_base
    (as_shape under_base
    tail.Nothing (λ tokens. Ok (under (value_at tokens 1) (origin.Base (value_at tokens 3)))))
    next_element_in)

-- An element of a finite yes.
abbrev pub start_element_in : Line → Said Element
start_element_in =
    either live_start (as_shape live_start tail.Nothing (λ tokens. Ok (live origin.Start)))
    (either under_start
    (as_shape under_start tail.Nothing (λ tokens. Ok (under (value_at tokens 1) origin.Start)))
    next_element_in)

-- An element of a yes.
abbrev pub element_in : Mode → Line → Said Element
element_in (mode.Buchi) = base_element_in
element_in (mode.Finite) = start_element_in

-- The line of the live element n.
abbrev pub step_of : Line → StepLine
step_of tokens = record { element = value_at tokens 1; by = values_from 2 tokens }

abbrev pub step_in : ℕ → Line → Said StepLine
step_in n =
    as_shape (Word keyword.Step ∷ Number ∷ []) tail.Numbers
    (λ tokens. in_order ((step_of tokens).element == n) (step_of tokens))

-- The places of the first line.
abbrev pub heading_places : Heading → List Place
heading_places h =
    Word keyword.RabitCert ∷ Word (version_word h.version) ∷ Word (mode_word h.mode)
    ∷ Word (form_word h.form) ∷ []

-- Whether the line is the first line of a certificate of this version, mode and form.
abbrev pub is_heading : Heading → Line → Bool
is_heading h tokens = is_none (line_fault (heading_places h) tail.Nothing tokens)

abbrev pub heading : ℕ → Mode → Form → Heading
heading v m f = record { version = v; mode = m; form = f }

-- The first of two, if there is one, and else the second.
abbrev pub or_else : {A : Type 0} → Option A → Option A → Option A
or_else (Some a) other = Some a
or_else None other = other

-- The heading, if the line is the first line with it.
abbrev pub if_heading : Heading → Line → Option Heading
if_heading h tokens = if is_heading h tokens then Some h else None

-- One of the three headings of this version and mode.
abbrev pub mode_heading_in : ℕ → Mode → Line → Option Heading
mode_heading_in v m tokens =
    or_else (if_heading (heading v m form.Yes) tokens)
    (or_else (if_heading (heading v m form.No) tokens) (if_heading (heading v m form.List) tokens))

-- One of the six headings of this version.
abbrev pub version_heading_in : ℕ → Line → Option Heading
version_heading_in v tokens =
    or_else (mode_heading_in v mode.Buchi tokens) (mode_heading_in v mode.Finite tokens)

-- What there is, or else that the heading is wrong.
abbrev pub heading_said : Option Heading → Said Heading
heading_said (Some h) = Ok h
heading_said None = Err kind.Header

-- The first line has one of twelve headings.
abbrev pub heading_in : Line → Said Heading
heading_in tokens =
    heading_said (or_else (version_heading_in 1 tokens) (version_heading_in 2 tokens))
