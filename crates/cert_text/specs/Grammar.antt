-- Which line may follow which. Each `read_..` takes what it reads off the lines that are left and
-- goes on with `next`, so that no line is refused for what could not follow it.
use Rattle.std.specs.Prelude.{ℕ, zero, suc, ◌+◌, ◌-◌, List, [], ◌∷◌, ◌++◌, length, map, Bool, true, false, Result, Ok, Err, cond, ◌==◌}
use Rattle.std.specs.List.{slice_split}
use Rattle.auto_core.specs.declared.parts.Mode.{Mode}
use Rattle.auto_core.specs.declared.parts.Mode.TheVariants as mode
use Rattle.auto_core.specs.declared.parts.Lasso.{Lasso}
use Rattle.auto_core.specs.declared.parts.Origin.{Origin}
use Rattle.cert_value.specs.declared.keywords.Keyword.TheVariants as keyword
use Rattle.cert_line.specs.declared.shapes.Tail.TheVariants as tail
use Rattle.cert_line.specs.declared.faults.TextKind.{TextKind}
use Rattle.cert_line.specs.declared.faults.TextKind.TheVariants.{Truncated, Trailing}
use Rattle.cert_text.specs.declared.faults.TextFault.{TextFault}
use Rattle.cert_value.specs.declared.types.Form.{Form}
use Rattle.cert_value.specs.declared.types.Form.TheVariants as form
use Rattle.cert_value.specs.declared.types.Cert.{Cert}
use Rattle.cert_value.specs.declared.types.Body.{Body}
use Rattle.cert_value.specs.declared.types.Body.TheVariants as body
use Rattle.cert_value.specs.declared.types.FirstStep.{FirstStep}
use Rattle.cert_value.specs.declared.types.FirstStep.TheVariants as first
use Rattle.cert_value.specs.declared.types.SecondStep.{SecondStep}
use Rattle.cert_value.specs.declared.types.SecondStep.TheVariants as second
use Rattle.cert_value.specs.declared.types.Grounds.TheVariants as grounds
use Rattle.cert_value.specs.declared.types.RelBlock.{RelBlock}
use Rattle.cert_value.specs.declared.types.RankBlock.{RankBlock}
use Rattle.cert_value.specs.declared.types.Row.{Row}
use Rattle.cert_value.specs.declared.types.RankRow.{RankRow}
use Rattle.cert_value.specs.declared.types.Element.{Element}
use Rattle.cert_value.specs.declared.types.StepLine.{StepLine}
use Rattle.cert_text.specs.declared.parts.Closed.{Closed}
use Rattle.cert_text.specs.declared.parts.ListPart.{ListPart}
use Rattle.cert_line.specs.declared.lines.Sizes.{Sizes}
use Rattle.cert_line.specs.declared.lines.Heading.{Heading}
use Rattle.cert_line.specs.declared.heads.FirstHead.{FirstHead}
use Rattle.cert_line.specs.declared.heads.FirstHead.TheVariants as first_head
use Rattle.cert_line.specs.declared.heads.SecondHead.{SecondHead}
use Rattle.cert_line.specs.declared.heads.SecondHead.TheVariants as second_head
use Rattle.cert_line.specs.declared.heads.Way.{Way}
use Rattle.cert_line.specs.declared.heads.Way.TheVariants as way
use Rattle.cert_value.specs.Text.{Line}
use Rattle.cert_value.specs.Tokens.{tokens_of}
use Rattle.cert_value.specs.WellFormed.{blocks_due, is_live, rank_key}
use Rattle.cert_line.specs.Lines.{Said, word_in, number_in, numbers_in, ascending_in, sizes_in, heading_in, row_in, rank_row_in, gone_by_in, first_head_in, second_head_in, origin_in, element_in, step_in}

-- What comes of reading lines: the value that they are the text of, or a fault at the first of
-- these lines.
pub data LinesOutcome (C : Type 0) : Type 0 where
  Read : C → LinesOutcome C
  Stopped : TextKind → List Line → LinesOutcome C

-- What follows, given what was read and the lines that are left.
abbrev pub On : Type 0 → Type 0 → Type 0
On C A = A → List Line → LinesOutcome C

-- The same where the value is a certificate.
abbrev pub ReadOutcome : Type 0
ReadOutcome = LinesOutcome Cert

abbrev pub Then : Type 0 → Type 0
Then A = On Cert A

-- On with what the line says, or stop at it.
abbrev pub after : {C A : Type 0} → Said A → On C A → List Line → List Line → LinesOutcome C
after (Ok a) next here rest = next a rest
after (Err fault) next here rest = Stopped fault here

-- The next line. The last piece of the bytes is no whole line.
abbrev pub next_line : {C A : Type 0} → (Line → Said A) → On C A → List Line → LinesOutcome C
next_line said next [] = Stopped Truncated []
next_line said next (piece ∷ []) = Stopped Truncated (piece ∷ [])
next_line said next (line ∷ other ∷ rest) =
    after (said line) next (line ∷ other ∷ rest) (other ∷ rest)

-- That many rows, whose left numbers ascend from the bound, after these.
abbrev pub read_rows : {C : Type 0} → ℕ → ℕ → ℕ → List Row → On C (List Row) → List Line
    → LinesOutcome C
read_rows v zero bound rows next lines = next rows lines
read_rows v (suc n) bound rows next lines =
    next_line (row_in v bound) (λ row. read_rows v n (row.left + 1) (rows ++ row ∷ []) next) lines

-- A relation.
abbrev pub read_block : {C : Type 0} → ℕ → On C RelBlock → List Line → LinesOutcome C
read_block v next =
    next_line
    (number_in keyword.Rel) (λ n. read_rows v n 0 [] (λ rows. next (record { rows = rows })))

-- That many rows with ranks, whose left numbers and words ascend past the key, after these.
abbrev pub read_rank_rows : {C : Type 0} → ℕ → ℕ → List ℕ → List RankRow → On C (List RankRow) → List Line
    → LinesOutcome C
read_rank_rows letters zero key rows next lines = next rows lines
read_rank_rows letters (suc n) key rows next lines =
    next_line
    (rank_row_in letters key) (λ row.
    read_rank_rows letters n (rank_key row) (rows ++ row ∷ []) next) lines

-- A relation with ranks.
abbrev pub read_rank_block : {C : Type 0} → ℕ → On C RankBlock → List Line → LinesOutcome C
read_rank_block letters next =
    next_line
    (number_in keyword.Rel) (λ n.
    read_rank_rows letters n [] [] (λ rows. next (record { rows = rows })))

-- That many relations, after these.
abbrev pub read_blocks : {C : Type 0} → ℕ → ℕ → List RelBlock → On C (List RelBlock) → List Line → LinesOutcome C
read_blocks v zero blocks next lines = next blocks lines
read_blocks v (suc n) blocks next lines =
    read_block v (λ block. read_blocks v n (blocks ++ block ∷ []) next) lines

-- The classes of the states.
abbrev pub read_classes : {C : Type 0} → On C (List ℕ) → List Line → LinesOutcome C
read_classes = next_line (numbers_in keyword.Classes tail.SomeNumbers)

-- The rest of a step of the first log.
abbrev pub read_first_rest : {C : Type 0} → ℕ → FirstHead → On C FirstStep → List Line → LinesOutcome C
read_first_rest v (first_head.Trim kept) next = next (first.Trim kept)
read_first_rest v (first_head.Merge) next = read_classes (λ classes. next (first.Merge classes))
read_first_rest v (first_head.Cut pair look) next =
    next_line
    gone_by_in (λ gone.
    read_blocks v (blocks_due pair) [] (λ blocks. next (first.Cut pair look gone blocks)))

-- That many steps of the first log, after these.
abbrev pub read_first_steps : {C : Type 0} → ℕ → ℕ → List FirstStep → On C (List FirstStep) → List Line
    → LinesOutcome C
read_first_steps v zero steps next lines = next steps lines
read_first_steps v (suc n) steps next lines =
    next_line first_head_in
    (λ head. read_first_rest v head (λ step. read_first_steps v n (steps ++ step ∷ []) next)) lines

-- The relation by which states of the second automaton are merged.
abbrev pub read_grounds : {C : Type 0} → ℕ → Way → List ℕ → On C SecondStep → List Line → LinesOutcome C
read_grounds v (way.Forward look) classes next =
    read_block v (λ rel. next (second.Merge (grounds.Forward look rel) classes))
read_grounds v (way.Backward look) classes next =
    read_block v (λ rel. next (second.Merge (grounds.Backward look rel) classes))
read_grounds v (way.Delayed letters) classes next =
    read_rank_block letters (λ ranks. next (second.Merge (grounds.Delayed letters ranks) classes))

-- The rest of a step of the second log.
abbrev pub read_second_rest : {C : Type 0} → ℕ → SecondHead → On C SecondStep → List Line → LinesOutcome C
read_second_rest v (second_head.Trim kept) next = next (second.Trim kept)
read_second_rest v (second_head.Merge way) next =
    read_classes (λ classes. read_grounds v way classes next)
read_second_rest v (second_head.Cut) next =
    next_line (ascending_in keyword.Gone tail.SomeNumbers) (λ gone. next (second.Cut gone))

-- That many steps of the second log, after these.
abbrev pub read_second_steps : {C : Type 0} → ℕ → Mode → ℕ → List SecondStep → On C (List SecondStep) → List Line
    → LinesOutcome C
read_second_steps v m zero steps next lines = next steps lines
read_second_steps v m (suc n) steps next lines =
    next_line (second_head_in v m)
    (λ head. read_second_rest v head (λ step. read_second_steps v m n (steps ++ step ∷ []) next))
    lines

-- That many elements of a yes, after these.
abbrev pub read_elements : {C : Type 0} → Mode → ℕ → List Element → On C (List Element) → List Line → LinesOutcome C
read_elements m zero elements next lines = next elements lines
read_elements m (suc n) elements next lines =
    next_line (element_in m) (λ e. read_elements m n (elements ++ e ∷ []) next) lines

-- One line for each of these elements that is live, the first of them having the number n.
abbrev pub read_steps : {C : Type 0} → ℕ → List Element → List StepLine → On C (List StepLine) → List Line
    → LinesOutcome C
read_steps n [] steps next lines = next steps lines
read_steps n (e ∷ es) steps next lines =
    cond (is_live e.mark)
    (next_line (step_in n) (λ step. read_steps (n + 1) es (steps ++ step ∷ []) next) lines)
    (read_steps (n + 1) es steps next lines)

-- That many elements of a list, after these.
abbrev pub read_origins : Mode → ℕ → List Origin → Then (List Origin) → List Line → ReadOutcome
read_origins m zero origins next lines = next origins lines
read_origins m (suc n) origins next lines =
    next_line (origin_in m) (λ from. read_origins m n (origins ++ from ∷ []) next) lines

-- What a yes has after the order: the elements, their cover and their extensions.
abbrev pub read_cover : {C : Type 0} → RelBlock → List Element → On C Closed → List Line → LinesOutcome C
read_cover order elements next =
    next_line (numbers_in keyword.Cover tail.Numbers) (λ cover. read_steps 0 elements [] (λ steps.
    next (record { order = order; elements = elements; cover = cover; steps = steps })))

abbrev pub read_all_elements : {C : Type 0} → Mode → RelBlock → On C Closed → List Line → LinesOutcome C
read_all_elements m order next =
    next_line
    (number_in keyword.Elements) (λ n.
    read_elements m n [] (λ elements. read_cover order elements next))

-- What a yes has after the logs.
abbrev pub read_closed : {C : Type 0} → ℕ → Mode → On C Closed → List Line → LinesOutcome C
read_closed v m next = read_block v (λ order. read_all_elements m order next)

-- What a list has after the logs.
abbrev pub read_all_origins : Mode → ℕ → Then ListPart → List Line → ReadOutcome
read_all_origins m limit next =
    next_line (number_in keyword.Elements) (λ n.
    read_origins m n [] (λ elements. next (record { limit = limit; elements = elements })))

abbrev pub read_list_part : Mode → Then ListPart → List Line → ReadOutcome
read_list_part m next = next_line (number_in keyword.Limit) (λ limit. read_all_origins m limit next)

-- The first log.
abbrev pub read_first_log : {C : Type 0} → ℕ → On C (List FirstStep) → List Line → LinesOutcome C
read_first_log v next = next_line (number_in keyword.Log1) (λ n. read_first_steps v n [] next)

-- The second log.
abbrev pub read_second_log : {C : Type 0} → ℕ → Mode → On C (List SecondStep) → List Line → LinesOutcome C
read_second_log v m next = next_line (number_in keyword.Log2) (λ n. read_second_steps v m n [] next)

-- A lasso.
abbrev pub read_turn : {C : Type 0} → List ℕ → On C Lasso → List Line → LinesOutcome C
read_turn prefix next =
    next_line
    (numbers_in keyword.Loop tail.SomeNumbers) (λ turn.
    next (record { prefix = prefix; turn = turn }))

abbrev pub read_lasso : {C : Type 0} → On C Lasso → List Line → LinesOutcome C
read_lasso next =
    next_line (numbers_in keyword.Prefix tail.Numbers) (λ prefix. read_turn prefix next)

-- A word.
abbrev pub read_word : Then Body → List Line → ReadOutcome
read_word next = next_line (numbers_in keyword.Word tail.Numbers) (λ word. next (body.NoWord word))

-- What stands after the logs.
abbrev pub yes_of : List FirstStep → List SecondStep → Closed → Body
yes_of firsts seconds closed = body.Yes (record {
  first = firsts;
  second = seconds;
  order = closed.order;
  elements = closed.elements;
  cover = closed.cover;
  steps = closed.steps;
})

abbrev pub list_of : List FirstStep → List SecondStep → ListPart → Body
list_of firsts seconds list_part =
    body.Listing
    (record {
      first = firsts;
      second = seconds;
      limit = list_part.limit;
      elements = list_part.elements;
    })

-- The evidence behind the logs. A no has no logs, and so none comes here.
abbrev pub read_evidence : ℕ → Mode → Form → List FirstStep → List SecondStep → Then Body
    → List Line → ReadOutcome
read_evidence v m (form.Yes) firsts seconds next =
    read_closed v m (λ closed. next (yes_of firsts seconds closed))
read_evidence v m (form.No) firsts seconds next =
    read_closed v m (λ closed. next (yes_of firsts seconds closed))
read_evidence v m (form.List) firsts seconds next =
    read_list_part m (λ list_part. next (list_of firsts seconds list_part))

-- The logs, and what follows them.
abbrev pub read_after_first : ℕ → Mode → Form → List FirstStep → Then Body → List Line → ReadOutcome
read_after_first v m f firsts next =
    read_second_log v m (λ seconds. read_evidence v m f firsts seconds next)

abbrev pub read_logs : ℕ → Mode → Form → Then Body → List Line → ReadOutcome
read_logs v m f next = read_first_log v (λ firsts. read_after_first v m f firsts next)

-- The lines between the line of sizes and the last line.
abbrev pub read_body : ℕ → Mode → Form → Then Body → List Line → ReadOutcome
read_body v m (form.Yes) next = read_logs v m form.Yes next
read_body v (mode.Buchi) (form.No) next = read_lasso (λ lasso. next (body.NoLasso lasso))
read_body v (mode.Finite) (form.No) next = read_word next
read_body v m (form.List) next = read_logs v m form.List next

-- There is no byte.
abbrev pub is_bare : Line → Bool
is_bare [] = false
is_bare ([] ∷ []) = true
is_bare ([] ∷ other ∷ tokens) = false
is_bare ((byte ∷ bytes) ∷ tokens) = false

-- No byte follows the last line.
abbrev pub finish : {C : Type 0} → On C C
finish c [] = Stopped Trailing []
finish c (piece ∷ []) = cond (is_bare piece) (Read c) (Stopped Trailing (piece ∷ []))
finish c (line ∷ other ∷ rest) = Stopped Trailing (line ∷ other ∷ rest)

-- The certificate of these parts.
abbrev pub cert_of : ℕ → Mode → Sizes → Body → Cert
cert_of v m sizes b = record {
  version = v;
  mode = m;
  first_states = sizes.first_states;
  second_states = sizes.second_states;
  labels = sizes.labels;
  body = b;
}

-- The last line, and nothing after it.
abbrev pub read_end : {C : Type 0} → On C C
read_end c = next_line (word_in keyword.End) (λ u. finish c)

-- What follows the line of sizes.
abbrev pub read_rest : Heading → Sizes → List Line → ReadOutcome
read_rest h sizes =
    read_body h.version h.mode h.form (λ b. read_end (cert_of h.version h.mode sizes b))

-- What follows the first line.
abbrev pub read_sizes : Heading → List Line → ReadOutcome
read_sizes h = next_line sizes_in (read_rest h)

-- A whole text.
abbrev pub read_lines : List Line → ReadOutcome
read_lines =
    next_line heading_in read_sizes

-- The bytes cut at each LF, each piece cut at its spaces. The last piece is no whole line.
abbrev pub lines_of : List ℕ → List Line
lines_of bytes = map tokens_of (slice_split (λ b. b == 10) bytes)

-- What comes of the bytes, if a fault stands at the line with this number.
abbrev pub told_at : {C : Type 0} → ℕ → LinesOutcome C → Result C TextFault
told_at line (Read c) = Ok c
told_at line (Stopped fault rest) = Err (record { line = line; kind = fault })

-- The number of the first line that is left where reading stopped, of these lines.
abbrev pub line_left : {C : Type 0} → List Line → LinesOutcome C → ℕ
line_left lines (Read c) = 0
line_left lines (Stopped fault rest) = (length lines + 1) - length rest

-- What the bytes are, as this grammar reads lines: a value's text, or where they first begin none,
-- and why.
abbrev pub reading_by : {C : Type 0} → (List Line → LinesOutcome C) → List ℕ → Result C TextFault
reading_by read bytes =
    told_at (line_left (lines_of bytes) (read (lines_of bytes))) (read (lines_of bytes))

-- What the bytes are: a certificate's text, or where they first begin none, and why.
abbrev pub reading : List ℕ → Result Cert TextFault
reading bytes = reading_by read_lines bytes
