-- The text of a certificate, as a function of its value.
use Rattle.std.specs.Prelude.{ℕ, ◌+◌, ◌-◌, ◌==◌, List, [], ◌∷◌, ◌++◌, length, map, codes, decimal, if◌then◌else◌}
use Rattle.std.specs.List.{range_with_len}
use Rattle.auto_core.specs.declared.parts.Mode.{Mode}
use Rattle.auto_core.specs.declared.parts.Mode.TheVariants as mode
use Rattle.auto_core.specs.declared.parts.Origin.{Origin}
use Rattle.auto_core.specs.declared.parts.Origin.TheVariants as origin
use Rattle.cert_value.specs.declared.keywords.Keyword.{Keyword}
use Rattle.cert_value.specs.declared.keywords.Keyword.TheVariants as keyword
use Rattle.cert_value.specs.declared.types.Form.{Form}
use Rattle.cert_value.specs.declared.types.Form.TheVariants as form
use Rattle.cert_value.specs.declared.types.Cert.{Cert}
use Rattle.cert_value.specs.declared.types.Body.{Body}
use Rattle.cert_value.specs.declared.types.Body.TheVariants as body
use Rattle.cert_value.specs.declared.types.YesBody.{YesBody}
use Rattle.cert_value.specs.declared.types.ListBody.{ListBody}
use Rattle.cert_value.specs.declared.types.FirstStep.{FirstStep}
use Rattle.cert_value.specs.declared.types.FirstStep.TheVariants as first
use Rattle.cert_value.specs.declared.types.SecondStep.{SecondStep}
use Rattle.cert_value.specs.declared.types.SecondStep.TheVariants as second
use Rattle.cert_value.specs.declared.types.Grounds.{Grounds}
use Rattle.cert_value.specs.declared.types.Grounds.TheVariants as grounds
use Rattle.cert_value.specs.declared.types.GoneBy.{GoneBy}
use Rattle.cert_value.specs.declared.types.RelBlock.{RelBlock}
use Rattle.cert_value.specs.declared.types.Row.{Row}
use Rattle.cert_value.specs.declared.types.Run.{Run}
use Rattle.cert_value.specs.declared.types.RankBlock.{RankBlock}
use Rattle.cert_value.specs.declared.types.RankRow.{RankRow}
use Rattle.cert_value.specs.declared.types.Ranked.{Ranked}
use Rattle.cert_value.specs.declared.types.Element.{Element}
use Rattle.cert_value.specs.declared.types.Mark.{Mark}
use Rattle.cert_value.specs.declared.types.Mark.TheVariants as mark
use Rattle.cert_value.specs.declared.types.StepLine.{StepLine}

-- How a word is written.
unfoldable pub spelled : Keyword → List ℕ
spelled keyword.Backward = codes "backward"
spelled keyword.Base = codes "base"
spelled keyword.Classes = codes "classes"
spelled keyword.Cover = codes "cover"
spelled keyword.Cut = codes "cut"
spelled keyword.Delayed = codes "delayed"
spelled keyword.Elements = codes "elements"
spelled keyword.End = codes "end"
spelled keyword.Forward = codes "forward"
spelled keyword.Gone = codes "gone"
spelled keyword.Limit = codes "limit"
spelled keyword.Live = codes "live"
spelled keyword.Log1 = codes "log1"
spelled keyword.Log2 = codes "log2"
spelled keyword.Look = codes "look"
spelled keyword.Loop = codes "loop"
spelled keyword.Merge = codes "merge"
spelled keyword.Next = codes "next"
spelled keyword.Prefix = codes "prefix"
spelled keyword.Rel = codes "rel"
spelled keyword.Row = codes "row"
spelled keyword.Sizes = codes "sizes"
spelled keyword.Start = codes "start"
spelled keyword.Step = codes "step"
spelled keyword.Trim = codes "trim"
spelled keyword.Under = codes "under"
spelled keyword.Buchi = codes "buchi"
spelled keyword.Finite = codes "finite"
spelled keyword.List = codes "list"
spelled keyword.No = codes "no"
spelled keyword.One = codes "1"
spelled keyword.RabitCert = codes "rabit-cert"
spelled keyword.RabitCross = codes "rabit-cross"
spelled keyword.Two = codes "2"
spelled keyword.Yes = codes "yes"
spelled keyword.Word = codes "word"
spelled keyword.Accepting = codes "accepting"
spelled keyword.Closed = codes "closed"
spelled keyword.Letters = codes "letters"
spelled keyword.Map = codes "map"
spelled keyword.Product = codes "product"
spelled keyword.RabitProof = codes "rabit-proof"

-- A line is a list of tokens.
abbrev pub Line : Type 0
Line = List (List ℕ)

-- The tokens with a space before each, ended by LF.
abbrev pub spaced : Line → List ℕ
spaced [] = 10 ∷ []
spaced (token ∷ tokens) = 32 ∷ (token ++ spaced tokens)

-- The tokens joined by single spaces and ended by LF.
abbrev pub line_text : Line → List ℕ
line_text [] = 10 ∷ []
line_text (token ∷ tokens) = token ++ spaced tokens

-- The lines, one after another.
abbrev pub text_of : List Line → List ℕ
text_of [] = []
text_of (line ∷ lines) = line_text line ++ text_of lines

-- The lines of each item, one after another.
abbrev pub each : {A : Type 0} → (A → List Line) → List A → List Line
each lines_of [] = []
each lines_of (item ∷ items) = lines_of item ++ each lines_of items

-- Numbers as tokens.
abbrev pub numbers : List ℕ → Line
numbers ns = map decimal ns

-- The numbers that a run stands for.
abbrev pub run_numbers : Run → List ℕ
run_numbers run = range_with_len run.first (run.last + 1 - run.first)

-- The numbers that runs stand for.
abbrev pub numbers_of : List Run → List ℕ
numbers_of [] = []
numbers_of (run ∷ runs) = run_numbers run ++ numbers_of runs

-- Both numbers of each item, one after another.
abbrev pub in_pairs : {A : Type 0} → (A → ℕ) → (A → ℕ) → List A → List ℕ
in_pairs first second [] = []
in_pairs first second (item ∷ items) = first item ∷ second item ∷ in_pairs first second items

-- The first and the last number of each run.
abbrev pub ends_of : List Run → List ℕ
ends_of runs = in_pairs (λ run. run.first) (λ run. run.last) runs

-- How runs are written: in version 1 by all their numbers, in version 2 by their ends.
abbrev pub row_numbers : ℕ → List Run → List ℕ
row_numbers v runs = if v == 2 then ends_of runs else numbers_of runs

-- A row of a relation.
abbrev pub row_lines : ℕ → Row → List Line
row_lines v row = (spelled keyword.Row ∷ decimal row.left ∷ numbers (row_numbers v row.runs)) ∷ []

-- A relation.
abbrev pub block_lines : ℕ → RelBlock → List Line
block_lines v block =
    (spelled keyword.Rel ∷ decimal (length block.rows) ∷ []) ∷ each (row_lines v) block.rows

-- The right numbers with their codes.
abbrev pub ranked_numbers : List Ranked → List ℕ
ranked_numbers pairs = in_pairs (λ pair. pair.right) (λ pair. pair.code) pairs

-- A row of a relation with ranks: its left number, its word, and the right numbers with their
-- codes.
abbrev pub rank_row_lines : RankRow → List Line
rank_row_lines row =
    (spelled keyword.Row ∷ decimal row.left ∷ numbers (row.ahead ++ ranked_numbers row.rights)) ∷ []

-- A relation with ranks.
abbrev pub rank_block_lines : RankBlock → List Line
rank_block_lines block =
    (spelled keyword.Rel ∷ decimal (length block.rows) ∷ []) ∷ each rank_row_lines block.rows

-- What goes, each with the better one.
abbrev pub gone_numbers : List GoneBy → List ℕ
gone_numbers pairs = in_pairs (λ pair. pair.trans) (λ pair. pair.by) pairs

-- The class of each state.
abbrev pub classes_line : List ℕ → Line
classes_line classes = spelled keyword.Classes ∷ numbers classes

-- A step of the first log.
abbrev pub first_step_lines : ℕ → FirstStep → List Line
first_step_lines v (first.Trim kept) = (spelled keyword.Trim ∷ numbers kept) ∷ []
first_step_lines v (first.Merge classes) = (spelled keyword.Merge ∷ []) ∷ classes_line classes ∷ []
first_step_lines v (first.Cut pair look gone blocks) =
    (spelled keyword.Cut ∷ decimal pair ∷ decimal look ∷ [])
    ∷ (spelled keyword.Gone ∷ numbers (gone_numbers gone))
    ∷ each (block_lines v) blocks

-- How many letters are announced, as it stands in version 2 alone.
abbrev pub letters_tokens : ℕ → ℕ → Line
letters_tokens v letters = if v == 2 then decimal letters ∷ [] else []

-- A merge of the second log.
abbrev pub merge_lines : ℕ → Grounds → List ℕ → List Line
merge_lines v (grounds.Forward look rel) classes =
    (spelled keyword.Merge ∷ spelled keyword.Forward ∷ decimal look ∷ []) ∷ classes_line classes
    ∷ block_lines v rel
merge_lines v (grounds.Backward look rel) classes =
    (spelled keyword.Merge ∷ spelled keyword.Backward ∷ decimal look ∷ []) ∷ classes_line classes
    ∷ block_lines v rel
merge_lines v (grounds.Delayed letters ranks) classes =
    (spelled keyword.Merge ∷ spelled keyword.Delayed ∷ letters_tokens v letters)
    ∷ classes_line classes
    ∷ rank_block_lines ranks

-- A step of the second log.
abbrev pub second_step_lines : ℕ → SecondStep → List Line
second_step_lines v (second.Trim kept) = (spelled keyword.Trim ∷ numbers kept) ∷ []
second_step_lines v (second.Merge by classes) = merge_lines v by classes
second_step_lines v (second.Cut gone) =
    (spelled keyword.Cut ∷ []) ∷ (spelled keyword.Gone ∷ numbers gone) ∷ []

-- Where an element comes from.
abbrev pub origin_line : Origin → Line
origin_line (origin.Start) = spelled keyword.Start ∷ []
origin_line (origin.Base t) = spelled keyword.Base ∷ decimal t ∷ []
origin_line (origin.Next p t) = spelled keyword.Next ∷ decimal p ∷ decimal t ∷ []

-- Whether it is live.
abbrev pub mark_tokens : Mark → Line
mark_tokens (mark.Live) = spelled keyword.Live ∷ []
mark_tokens (mark.Under j) = spelled keyword.Under ∷ decimal j ∷ []

-- An element with its mark.
abbrev pub element_lines : Element → List Line
element_lines e = (mark_tokens e.mark ++ origin_line e.origin) ∷ []

-- An element of a list.
abbrev pub origin_lines : Origin → List Line
origin_lines from = origin_line from ∷ []

-- The extensions of a live element.
abbrev pub step_lines : StepLine → List Line
step_lines step = (spelled keyword.Step ∷ decimal step.element ∷ numbers step.by) ∷ []

-- The first log.
abbrev pub first_lines : ℕ → List FirstStep → List Line
first_lines v steps =
    (spelled keyword.Log1 ∷ decimal (length steps) ∷ []) ∷ each (first_step_lines v) steps

-- The second log.
abbrev pub second_lines : ℕ → List SecondStep → List Line
second_lines v steps =
    (spelled keyword.Log2 ∷ decimal (length steps) ∷ []) ∷ each (second_step_lines v) steps

-- How many elements there are.
abbrev pub elements_line : ℕ → Line
elements_line n = spelled keyword.Elements ∷ decimal n ∷ []

-- The elements of a yes, their cover and their extensions.
abbrev pub closed_lines : List Element → List ℕ → List StepLine → List Line
closed_lines elements cover steps =
    elements_line (length elements)
    ∷ (each element_lines elements
    ++ ((spelled keyword.Cover ∷ numbers cover) ∷ each step_lines steps))

-- The evidence of inclusion.
abbrev pub yes_lines : ℕ → YesBody → List Line
yes_lines v y =
    first_lines v y.first
    ++ (second_lines v y.second
    ++ (block_lines v y.order ++ closed_lines y.elements y.cover y.steps))

-- The limit, and the elements of a list.
abbrev pub limit_lines : ℕ → List Origin → List Line
limit_lines limit elements =
    (spelled keyword.Limit ∷ decimal limit ∷ []) ∷ elements_line (length elements)
    ∷ each origin_lines elements

-- The evidence that a limit was met.
abbrev pub list_lines : ℕ → ListBody → List Line
list_lines v list =
    first_lines v list.first ++ (second_lines v list.second ++ limit_lines list.limit list.elements)

-- What stands between the line of sizes and the last line.
abbrev pub body_lines : ℕ → Body → List Line
body_lines v (body.Yes y) = yes_lines v y
body_lines v (body.NoLasso lasso) =
    (spelled keyword.Prefix ∷ numbers lasso.prefix) ∷ (spelled keyword.Loop ∷ numbers lasso.turn)
    ∷ []
body_lines v (body.NoWord word) = (spelled keyword.Word ∷ numbers word) ∷ []
body_lines v (body.Listing list) = list_lines v list

-- The mode's word in the first line.
abbrev pub mode_word : Mode → Keyword
mode_word (mode.Buchi) = keyword.Buchi
mode_word (mode.Finite) = keyword.Finite

-- The form's word in the first line.
abbrev pub form_word : Form → Keyword
form_word (form.Yes) = keyword.Yes
form_word (form.No) = keyword.No
form_word (form.List) = keyword.List

-- Which form the body has.
abbrev pub form_of : Body → Form
form_of (body.Yes y) = form.Yes
form_of (body.NoLasso lasso) = form.No
form_of (body.NoWord word) = form.No
form_of (body.Listing list) = form.List

-- The version's word in the first line.
abbrev pub version_word : ℕ → Keyword
version_word v = if v == 2 then keyword.Two else keyword.One

-- The first line.
abbrev pub first_line : ℕ → Mode → Form → Line
first_line v m f =
    spelled keyword.RabitCert ∷ spelled (version_word v) ∷ spelled (mode_word m)
    ∷ spelled (form_word f) ∷ []

-- The line of sizes: the states of the read first automaton, of the read second one, and the joined
-- labels.
abbrev pub sizes_line : ℕ → ℕ → ℕ → Line
sizes_line firsts seconds labels =
    spelled keyword.Sizes ∷ decimal firsts ∷ decimal seconds ∷ decimal labels ∷ []

-- The last line.
abbrev pub end_line : Line
end_line = spelled keyword.End ∷ []

-- All lines of a certificate.
abbrev pub cert_lines : Cert → List Line
cert_lines c =
    first_line c.version c.mode (form_of c.body)
    ∷ sizes_line c.first_states c.second_states c.labels
    ∷ (body_lines c.version c.body ++ end_line ∷ [])

-- The text of a certificate.
abbrev pub text : Cert → List ℕ
text c = text_of (cert_lines c)
