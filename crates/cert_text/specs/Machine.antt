-- The reader's states, and what each line makes of them.
use Rattle.std.specs.Prelude.{ℕ, ◌+◌, ◌-◌, List, [], ◌∷◌, ◌++◌, length, drop, cond, ◌==◌, Option, Some, None, Ok, Err}
use Rattle.std.specs.List.{slice_get}
use Rattle.auto_core.specs.declared.parts.Mode.{Mode}
use Rattle.auto_core.specs.declared.parts.Mode.TheVariants as mode
use Rattle.auto_core.specs.declared.parts.Origin.{Origin}
use Rattle.cert_value.specs.declared.keywords.Keyword.TheVariants as keyword
use Rattle.cert_line.specs.declared.shapes.Tail.TheVariants as tail
use Rattle.cert_line.specs.declared.faults.TextKind.TheVariants as kind
use Rattle.cert_text.specs.declared.parts.PartSoFar.{PartSoFar}
use Rattle.cert_text.specs.declared.parts.PartSoFar.TheVariants.{More, Whole}
use Rattle.cert_text.specs.declared.parts.Closed.{Closed}
use Rattle.cert_text.specs.declared.parts.ListPart.{ListPart}
use Rattle.cert_value.specs.declared.types.Form.TheVariants as form
use Rattle.cert_value.specs.declared.types.Cert.{Cert}
use Rattle.cert_value.specs.declared.types.Body.{Body}
use Rattle.cert_value.specs.declared.types.Body.TheVariants as body
use Rattle.cert_value.specs.declared.types.FirstStep.{FirstStep}
use Rattle.cert_value.specs.declared.types.FirstStep.TheVariants as first
use Rattle.cert_value.specs.declared.types.SecondStep.{SecondStep}
use Rattle.cert_value.specs.declared.types.SecondStep.TheVariants as second
use Rattle.cert_value.specs.declared.types.Grounds.TheVariants as grounds
use Rattle.cert_value.specs.declared.types.GoneBy.{GoneBy}
use Rattle.cert_value.specs.declared.types.RelBlock.{RelBlock}
use Rattle.cert_value.specs.declared.types.RankBlock.{RankBlock}
use Rattle.cert_value.specs.declared.types.Row.{Row}
use Rattle.cert_value.specs.declared.types.RankRow.{RankRow}
use Rattle.cert_value.specs.declared.types.Element.{Element}
use Rattle.cert_value.specs.declared.types.StepLine.{StepLine}
use Rattle.cert_line.specs.declared.lines.Sizes.{Sizes}
use Rattle.cert_line.specs.declared.lines.Heading.{Heading}
use Rattle.cert_line.specs.declared.heads.FirstHead.{FirstHead}
use Rattle.cert_line.specs.declared.heads.FirstHead.TheVariants as first_head
use Rattle.cert_line.specs.declared.heads.SecondHead.{SecondHead}
use Rattle.cert_line.specs.declared.heads.SecondHead.TheVariants as second_head
use Rattle.cert_line.specs.declared.heads.Way.{Way}
use Rattle.cert_line.specs.declared.heads.Way.TheVariants as way
use Rattle.cert_text.specs.declared.blocks.BlockState.{BlockState}
use Rattle.cert_text.specs.declared.blocks.BlockState.TheVariants as block
use Rattle.cert_text.specs.declared.blocks.RankState.{RankState}
use Rattle.cert_text.specs.declared.blocks.RankState.TheVariants as rank
use Rattle.cert_text.specs.declared.first_log.FirstState.{FirstState}
use Rattle.cert_text.specs.declared.first_log.FirstState.TheVariants as first_state
use Rattle.cert_text.specs.declared.first_log.FirstLog.{FirstLog}
use Rattle.cert_text.specs.declared.first_log.FirstLog.TheVariants as first_log
use Rattle.cert_text.specs.declared.second_log.SecondState.{SecondState}
use Rattle.cert_text.specs.declared.second_log.SecondState.TheVariants as second_state
use Rattle.cert_text.specs.declared.second_log.SecondLog.{SecondLog}
use Rattle.cert_text.specs.declared.second_log.SecondLog.TheVariants as second_log
use Rattle.cert_text.specs.declared.evidence.YesState.{YesState}
use Rattle.cert_text.specs.declared.evidence.YesState.TheVariants as yes_state
use Rattle.cert_text.specs.declared.evidence.ListState.{ListState}
use Rattle.cert_text.specs.declared.evidence.ListState.TheVariants as list_state
use Rattle.cert_text.specs.declared.evidence.NoState.{NoState}
use Rattle.cert_text.specs.declared.evidence.NoState.TheVariants as no_state
use Rattle.cert_text.specs.declared.machine.Opening.{Opening}
use Rattle.cert_text.specs.declared.machine.State.{State}
use Rattle.cert_text.specs.declared.machine.State.TheVariants as state
use Rattle.cert_value.specs.Text.{Line}
use Rattle.cert_value.specs.WellFormed.{blocks_due, is_live, key_before}
use Rattle.cert_line.specs.Lines.{Said, word_in, number_in, numbers_in, ascending_in, sizes_in, heading_in, row_in, rank_row_in, gone_by_in, first_head_in, second_head_in, origin_in, element_in, step_in}
use Rattle.cert_text.specs.Grammar.{ReadOutcome, Stopped, finish, yes_of, list_of, cert_of}

-- What comes of what is said.
abbrev pub map_said : {A B : Type 0} → (A → B) → Said A → Said B
map_said f (Ok a) = Ok (f a)
map_said f (Err fault) = Err fault

-- One of n is due, with the others after it, or none is.
abbrev pub on_or : {A : Type 0} → ℕ → A → (ℕ → A) → A
on_or n over more = cond (n == 0) over (more (n - 1))

-- Relations.
unfoldable pub rows_due : List Row → ℕ → ℕ → PartSoFar BlockState RelBlock
rows_due rows bound n =
    on_or n (Whole (record { rows = rows })) (λ later. More (block.Row rows bound later))

unfoldable pub step_block : ℕ → BlockState → Line → Said (PartSoFar BlockState RelBlock)
step_block v (block.Count) line = map_said (λ n. rows_due [] 0 n) (number_in keyword.Rel line)
step_block v (block.Row rows bound later) line =
    map_said (λ row. rows_due (rows ++ row ∷ []) (row.left + 1) later) (row_in v bound line)

-- The left number and the word of the last row, if there is one.
abbrev pub last_key : List RankRow → List ℕ
last_key rows = key_before (slice_get rows (length rows - 1))

unfoldable pub rank_rows_due : List RankRow → ℕ → PartSoFar RankState RankBlock
rank_rows_due rows n =
    on_or n (Whole (record { rows = rows })) (λ later. More (rank.Row rows later))

unfoldable pub step_ranks : ℕ → RankState → Line → Said (PartSoFar RankState RankBlock)
step_ranks letters (rank.Count) line =
    map_said (λ n. rank_rows_due [] n) (number_in keyword.Rel line)
step_ranks letters (rank.Row rows later) line =
    map_said (λ row. rank_rows_due (rows ++ row ∷ []) later)
    (rank_row_in letters (last_key rows) line)

-- Steps of the first log.
unfoldable pub blocks_left : ℕ → ℕ → List GoneBy → List RelBlock → ℕ
    → PartSoFar FirstState FirstStep
blocks_left pair look gone blocks n =
    on_or n (Whole (first.Cut pair look gone blocks))
    (λ later. More (first_state.Blocks pair look gone blocks later block.Count))

unfoldable pub with_rel_block : ℕ → ℕ → List GoneBy → List RelBlock → ℕ
    → PartSoFar BlockState RelBlock → PartSoFar FirstState FirstStep
with_rel_block pair look gone blocks later (More at) =
    More (first_state.Blocks pair look gone blocks later at)
with_rel_block pair look gone blocks later (Whole b) =
    blocks_left pair look gone (blocks ++ b ∷ []) later

unfoldable pub first_started : FirstHead → PartSoFar FirstState FirstStep
first_started (first_head.Trim kept) = Whole (first.Trim kept)
first_started (first_head.Merge) = More first_state.Classes
first_started (first_head.Cut pair look) = More (first_state.Gone pair look)

unfoldable pub step_first : ℕ → FirstState → Line → Said (PartSoFar FirstState FirstStep)
step_first v (first_state.Head) line = map_said first_started (first_head_in line)
step_first v (first_state.Classes) line =
    map_said (λ classes. Whole (first.Merge classes))
    (numbers_in keyword.Classes tail.SomeNumbers line)
step_first v (first_state.Gone pair look) line =
    map_said (λ gone. blocks_left pair look gone [] (blocks_due pair)) (gone_by_in line)
step_first v (first_state.Blocks pair look gone blocks later at) line =
    map_said (with_rel_block pair look gone blocks later) (step_block v at line)

-- The first log.
unfoldable pub first_left : List FirstStep → ℕ → PartSoFar FirstLog (List FirstStep)
first_left steps n =
    on_or n (Whole steps) (λ later. More (first_log.Steps steps later first_state.Head))

unfoldable pub with_first : List FirstStep → ℕ → PartSoFar FirstState FirstStep
    → PartSoFar FirstLog (List FirstStep)
with_first steps later (More at) = More (first_log.Steps steps later at)
with_first steps later (Whole step) = first_left (steps ++ step ∷ []) later

unfoldable pub step_first_log : ℕ → FirstLog → Line → Said (PartSoFar FirstLog (List FirstStep))
step_first_log v (first_log.Count) line =
    map_said (λ n. first_left [] n) (number_in keyword.Log1 line)
step_first_log v (first_log.Steps steps later at) line =
    map_said (with_first steps later) (step_first v at line)

-- Steps of the second log.
unfoldable pub rel_due : Way → List ℕ → SecondState
rel_due (way.Forward look) classes = second_state.Forward look classes block.Count
rel_due (way.Backward look) classes = second_state.Backward look classes block.Count
rel_due (way.Delayed letters) classes = second_state.Delayed letters classes rank.Count

unfoldable pub with_forward : ℕ → List ℕ → PartSoFar BlockState RelBlock
    → PartSoFar SecondState SecondStep
with_forward look classes (More at) = More (second_state.Forward look classes at)
with_forward look classes (Whole rel) = Whole (second.Merge (grounds.Forward look rel) classes)

unfoldable pub with_backward : ℕ → List ℕ → PartSoFar BlockState RelBlock
    → PartSoFar SecondState SecondStep
with_backward look classes (More at) = More (second_state.Backward look classes at)
with_backward look classes (Whole rel) = Whole (second.Merge (grounds.Backward look rel) classes)

unfoldable pub with_delayed : ℕ → List ℕ → PartSoFar RankState RankBlock
    → PartSoFar SecondState SecondStep
with_delayed letters classes (More at) = More (second_state.Delayed letters classes at)
with_delayed letters classes (Whole ranks) =
    Whole (second.Merge (grounds.Delayed letters ranks) classes)

unfoldable pub second_started : SecondHead → PartSoFar SecondState SecondStep
second_started (second_head.Trim kept) = Whole (second.Trim kept)
second_started (second_head.Merge by) = More (second_state.Classes by)
second_started (second_head.Cut) = More second_state.Gone

unfoldable pub step_second : ℕ → Mode → SecondState → Line → Said (PartSoFar SecondState SecondStep)
step_second v m (second_state.Head) line = map_said second_started (second_head_in v m line)
step_second v m (second_state.Classes by) line =
    map_said (λ classes. More (rel_due by classes))
    (numbers_in keyword.Classes tail.SomeNumbers line)
step_second v m (second_state.Forward look classes at) line =
    map_said (with_forward look classes) (step_block v at line)
step_second v m (second_state.Backward look classes at) line =
    map_said (with_backward look classes) (step_block v at line)
step_second v m (second_state.Delayed letters classes at) line =
    map_said (with_delayed letters classes) (step_ranks letters at line)
step_second v m (second_state.Gone) line =
    map_said (λ gone. Whole (second.Cut gone)) (ascending_in keyword.Gone tail.SomeNumbers line)

-- The second log.
unfoldable pub second_left : List SecondStep → ℕ → PartSoFar SecondLog (List SecondStep)
second_left steps n =
    on_or n (Whole steps) (λ later. More (second_log.Steps steps later second_state.Head))

unfoldable pub with_second : List SecondStep → ℕ → PartSoFar SecondState SecondStep
    → PartSoFar SecondLog (List SecondStep)
with_second steps later (More at) = More (second_log.Steps steps later at)
with_second steps later (Whole step) = second_left (steps ++ step ∷ []) later

unfoldable pub step_second_log : ℕ → Mode → SecondLog → Line
    → Said (PartSoFar SecondLog (List SecondStep))
step_second_log v m (second_log.Count) line =
    map_said (λ n. second_left [] n) (number_in keyword.Log2 line)
step_second_log v m (second_log.Steps steps later at) line =
    map_said (with_second steps later) (step_second v m at line)

-- The evidence of a yes.
unfoldable pub elements_left : RelBlock → List Element → ℕ → PartSoFar YesState Closed
elements_left order elements n =
    on_or n
    (More (yes_state.Cover order elements)) (λ later.
    More (yes_state.Element order elements later))

-- The first live element of these, the first of them having the number n.
abbrev pub live_from : ℕ → List Element → Option ℕ
live_from n [] = None
live_from n (e ∷ es) = cond (is_live e.mark) (Some n) (live_from (n + 1) es)

unfoldable pub step_or_whole : RelBlock → List Element → List ℕ → List StepLine → Option ℕ
    → PartSoFar YesState Closed
step_or_whole order elements cover steps None =
    Whole (record { order = order; elements = elements; cover = cover; steps = steps })
step_or_whole order elements cover steps (Some at) =
    More (yes_state.Step order elements cover steps at)

unfoldable pub steps_left : RelBlock → List Element → List ℕ → List StepLine → ℕ
    → PartSoFar YesState Closed
steps_left order elements cover steps n =
    step_or_whole order elements cover steps (live_from n (drop n elements))

unfoldable pub with_order : PartSoFar BlockState RelBlock → PartSoFar YesState Closed
with_order (More at) = More (yes_state.Order at)
with_order (Whole order) = More (yes_state.Elements order)

unfoldable pub step_yes : ℕ → Mode → YesState → Line → Said (PartSoFar YesState Closed)
step_yes v m (yes_state.Order at) line = map_said with_order (step_block v at line)
step_yes v m (yes_state.Elements order) line =
    map_said (λ n. elements_left order [] n) (number_in keyword.Elements line)
step_yes v m (yes_state.Element order elements later) line =
    map_said (λ e. elements_left order (elements ++ e ∷ []) later) (element_in m line)
step_yes v m (yes_state.Cover order elements) line =
    map_said (λ cover. steps_left order elements cover [] 0)
    (numbers_in keyword.Cover tail.Numbers line)
step_yes v m (yes_state.Step order elements cover steps at) line =
    map_said (λ step. steps_left order elements cover (steps ++ step ∷ []) (at + 1))
    (step_in at line)

-- The evidence of a list.
unfoldable pub origins_left : ℕ → List Origin → ℕ → PartSoFar ListState ListPart
origins_left limit elements n =
    on_or n
    (Whole (record { limit = limit; elements = elements })) (λ later.
    More (list_state.Origin limit elements later))

unfoldable pub step_list : Mode → ListState → Line → Said (PartSoFar ListState ListPart)
step_list m (list_state.Limit) line =
    map_said (λ limit. More (list_state.Count limit)) (number_in keyword.Limit line)
step_list m (list_state.Count limit) line =
    map_said (λ n. origins_left limit [] n) (number_in keyword.Elements line)
step_list m (list_state.Origin limit elements later) line =
    map_said (λ from. origins_left limit (elements ++ from ∷ []) later) (origin_in m line)

-- The evidence of a no.
unfoldable pub step_no : NoState → Line → Said (PartSoFar NoState Body)
step_no (no_state.Prefix) line =
    map_said (λ prefix. More (no_state.Turn prefix)) (numbers_in keyword.Prefix tail.Numbers line)
step_no (no_state.Turn prefix) line =
    map_said (λ turn. Whole (body.NoLasso (record { prefix = prefix; turn = turn })))
    (numbers_in keyword.Loop tail.SomeNumbers line)
step_no (no_state.Word) line =
    map_said (λ word. Whole (body.NoWord word)) (numbers_in keyword.Word tail.Numbers line)

-- The whole text.
unfoldable pub whole : Opening → Body → State
whole o b = state.End (cert_of o.version o.mode o.sizes b)

unfoldable pub begun : Heading → Sizes → State
begun h sizes = elim h.form [
  | form.Yes ↦ state.First
      (record { version = h.version; mode = h.mode; form = form.Yes; sizes = sizes })
      first_log.Count
  | form.No ↦ elim h.mode [
    | mode.Buchi ↦ state.No
        (record { version = h.version; mode = mode.Buchi; form = form.No; sizes = sizes })
        no_state.Prefix
    | mode.Finite ↦ state.No
        (record { version = h.version; mode = mode.Finite; form = form.No; sizes = sizes })
        no_state.Word
  ]
  | form.List ↦ state.First
      (record { version = h.version; mode = h.mode; form = form.List; sizes = sizes })
      first_log.Count
]

unfoldable pub with_no : Opening → PartSoFar NoState Body → State
with_no o (More at) = state.No o at
with_no o (Whole b) = whole o b

unfoldable pub with_first_log : Opening → PartSoFar FirstLog (List FirstStep) → State
with_first_log o (More at) = state.First o at
with_first_log o (Whole firsts) = state.Second o firsts second_log.Count

-- The evidence behind the logs. A no has no logs, and so none comes here.
unfoldable pub evidence_due : Opening → List FirstStep → List SecondStep → State
evidence_due o firsts seconds = elim o.form [
  | form.Yes ↦ state.Yes o firsts seconds (yes_state.Order block.Count)
  | form.No ↦ state.Yes o firsts seconds (yes_state.Order block.Count)
  | form.List ↦ state.List o firsts seconds list_state.Limit
]

unfoldable pub with_second_log : Opening → List FirstStep → PartSoFar SecondLog (List SecondStep)
    → State
with_second_log o firsts (More at) = state.Second o firsts at
with_second_log o firsts (Whole seconds) = evidence_due o firsts seconds

unfoldable pub with_yes : Opening → List FirstStep → List SecondStep → PartSoFar YesState Closed
    → State
with_yes o firsts seconds (More at) = state.Yes o firsts seconds at
with_yes o firsts seconds (Whole closed) = whole o (yes_of firsts seconds closed)

unfoldable pub with_list : Opening → List FirstStep → List SecondStep → PartSoFar ListState ListPart
    → State
with_list o firsts seconds (More at) = state.List o firsts seconds at
with_list o firsts seconds (Whole list_part) = whole o (list_of firsts seconds list_part)

-- What the line makes of the state.
unfoldable pub step : State → Line → Said State
step (state.Heading) line = map_said (λ h. state.Sizes h) (heading_in line)
step (state.Sizes h) line = map_said (begun h) (sizes_in line)
step (state.No o at) line = map_said (with_no o) (step_no at line)
step (state.First o at) line = map_said (with_first_log o) (step_first_log o.version at line)
step (state.Second o firsts at) line =
    map_said (with_second_log o firsts) (step_second_log o.version o.mode at line)
step (state.Yes o firsts seconds at) line =
    map_said (with_yes o firsts seconds) (step_yes o.version o.mode at line)
step (state.List o firsts seconds at) line =
    map_said (with_list o firsts seconds) (step_list o.mode at line)
step (state.End c) line = map_said (λ u. state.Done c) (word_in keyword.End line)
step (state.Done c) line = Err kind.Trailing

-- The certificate, where nothing is due any more.
abbrev pub done_cert : State → Option Cert
done_cert (state.Done c) = Some c
done_cert _ = None

abbrev pub ended : Option Cert → Line → ReadOutcome
ended (Some c) piece = finish c (piece ∷ [])
ended None piece = Stopped kind.Truncated (piece ∷ [])

-- What comes of the last piece, which is no whole line.
abbrev pub at_end : State → Line → ReadOutcome
at_end s piece = ended (done_cert s) piece
