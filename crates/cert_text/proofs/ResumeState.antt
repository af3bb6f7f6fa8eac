use Rattle.std.proofs.Common.{◌≡◌, ℕ, zero, suc, ◌+◌, List, [], ◌∷◌, ◌++◌, drop, Bool, cond, Option, Some, refl, sym, ap, ◌∙◌, add-one, true, false}
use Rattle.auto_core.specs.declared.parts.Mode.{Mode}
use Rattle.auto_core.specs.declared.parts.Mode.TheVariants as mode
use Rattle.auto_core.specs.declared.parts.Origin.{Origin}
use Rattle.cert_value.specs.declared.keywords.Keyword.TheVariants as keyword
use Rattle.cert_line.specs.declared.shapes.Tail.TheVariants as tail
use Rattle.cert_line.specs.declared.faults.TextKind.TheVariants.{Truncated}
use Rattle.cert_text.specs.declared.parts.PartSoFar.{PartSoFar}
use Rattle.cert_text.specs.declared.parts.PartSoFar.TheVariants.{More, Whole}
use Rattle.cert_text.specs.declared.parts.Closed.{Closed}
use Rattle.cert_text.specs.declared.parts.ListPart.{ListPart}
use Rattle.cert_value.specs.declared.types.Form.{Form}
use Rattle.cert_value.specs.declared.types.Form.TheVariants as form
use Rattle.cert_value.specs.declared.types.Body.{Body}
use Rattle.cert_value.specs.declared.types.Body.TheVariants as body
use Rattle.cert_value.specs.declared.types.FirstStep.{FirstStep}
use Rattle.cert_value.specs.declared.types.SecondStep.{SecondStep}
use Rattle.cert_value.specs.declared.types.RelBlock.{RelBlock}
use Rattle.cert_value.specs.declared.types.Element.{Element}
use Rattle.cert_value.specs.declared.types.StepLine.{StepLine}
use Rattle.cert_line.specs.declared.lines.Sizes.{Sizes}
use Rattle.cert_text.specs.declared.blocks.BlockState.{BlockState}
use Rattle.cert_text.specs.declared.first_log.FirstLog.{FirstLog}
use Rattle.cert_text.specs.declared.second_log.SecondLog.{SecondLog}
use Rattle.cert_text.specs.declared.evidence.YesState.{YesState}
use Rattle.cert_text.specs.declared.evidence.YesState.TheVariants as yes_state
use Rattle.cert_text.specs.declared.evidence.ListState.{ListState}
use Rattle.cert_text.specs.declared.evidence.ListState.TheVariants as list_state
use Rattle.cert_text.specs.declared.evidence.NoState.{NoState}
use Rattle.cert_text.specs.declared.evidence.NoState.TheVariants as no_state
use Rattle.cert_text.specs.declared.machine.Opening.{Opening}
use Rattle.cert_text.specs.declared.machine.State.{State}
use Rattle.cert_text.specs.declared.machine.State.TheVariants as state
use Rattle.cert_value.specs.Text.{Line}
use Rattle.cert_value.specs.WellFormed.{is_live}
use Rattle.cert_line.specs.Lines.{word_in, number_in, numbers_in, sizes_in, heading_in, origin_in, element_in, step_in}
use Rattle.cert_text.specs.Grammar.{ReadOutcome, Stopped, Then, after, next_line, read_elements, read_steps, read_origins, read_cover, read_all_elements, read_all_origins, read_list_part, read_turn, read_lasso, read_word, yes_of, list_of, read_evidence, read_after_first, finish, cert_of, read_end, read_rest, read_sizes}
use Rattle.cert_text.specs.Machine.{step_block, step_first_log, step_second_log, elements_left, live_from, step_or_whole, steps_left, with_order, step_yes, origins_left, step_list, step_no, whole, begun, with_no, with_first_log, evidence_due, with_second_log, with_yes, with_list, step, at_end}
use Rattle.cert_text.proofs.Resume.{Resume, on_step, arm, on_suc, resume_block, block_law, block_last, resume_first_log, first_log_law, first_log_last, resume_second_log, second_log_law, second_log_last}
use Rattle.cert_value.proofs.SplitLemmas.{drop_one}

-- The evidence of a yes.
abbrev pub closed_next : RelBlock → List Element → List ℕ → Then Closed → Then (List StepLine)
closed_next order elements cover next steps =
    next (record { order = order; elements = elements; cover = cover; steps = steps })

abbrev pub cover_next : RelBlock → Then Closed → Then (List Element)
cover_next order next elements = read_cover order elements next

abbrev pub resume_yes : ℕ → Mode → Resume YesState Closed
resume_yes v m (yes_state.Order at) next = resume_block v at (λ order. read_all_elements m order next)
resume_yes v m (yes_state.Elements order) next = read_all_elements m order next
resume_yes v m (yes_state.Element order elements later) next = read_elements m (suc later) elements (cover_next order next)
resume_yes v m (yes_state.Cover order elements) next = read_cover order elements next
resume_yes v m (yes_state.Step order elements cover steps at) next =
    next_line (step_in at)
    (λ step. read_steps (at + 1) (drop (at + 1) elements) (steps ++ step ∷ []) (closed_next order elements cover next))

order_law : (v : ℕ) (m : Mode) (next : Then Closed) (s : PartSoFar BlockState RelBlock) (lines : List Line)
    → on_step (resume_block v) (λ order. read_all_elements m order next) s lines
    ≡ on_step (resume_yes v m) next (with_order s) lines
unfolding with_order
order_law v m next (More at) lines = refl
order_law v m next (Whole order) lines = refl

elements_law : (v : ℕ) (m : Mode) (order : RelBlock) (elements : List Element) (n : ℕ) (next : Then Closed) (lines : List Line)
    → read_elements m n elements (cover_next order next) lines
    ≡ on_step (resume_yes v m) next (elements_left order elements n) lines
unfolding elements_left
elements_law v m order elements zero next lines = refl
elements_law v m order elements (suc k) next lines =
    sym (ap (λ s. on_step (resume_yes v m) next s lines)
    (on_suc k (More (yes_state.Cover order elements)) (λ later. More (yes_state.Element order elements later))))

by_live : (v : ℕ) (m : Mode) (order : RelBlock) (elements : List Element) (cover : List ℕ) (steps : List StepLine) (next : Then Closed)
    (lines : List Line) (b : Bool) (n : ℕ) (o : Option ℕ) (live dead : ReadOutcome)
    → live ≡ on_step (resume_yes v m) next (step_or_whole order elements cover steps (Some n)) lines
    → dead ≡ on_step (resume_yes v m) next (step_or_whole order elements cover steps o) lines
    → cond b live dead ≡ on_step (resume_yes v m) next (step_or_whole order elements cover steps (cond b (Some n) o)) lines
by_live v m order elements cover steps next lines true n o live dead p q = p
by_live v m order elements cover steps next lines false n o live dead p q = q

live_law : (v : ℕ) (m : Mode) (order : RelBlock) (elements : List Element) (cover : List ℕ) (steps : List StepLine) (next : Then Closed)
    (lines : List Line) (n : ℕ) (es : List Element) → drop n elements ≡ es
    → read_steps n es steps (closed_next order elements cover next) lines
    ≡ on_step (resume_yes v m) next (step_or_whole order elements cover steps (live_from n es)) lines
unfolding step_or_whole
live_law v m order elements cover steps next lines n [] left = refl
live_law v m order elements cover steps next lines n (e ∷ es) left =
    let k = closed_next order elements cover next in
    let rest : drop (n + 1) elements ≡ es =
    ap (λ i. drop i elements) (add-one n) ∙ sym (drop_one n elements) ∙ ap (λ xs. drop 1 xs) left in
    by_live v m order elements cover steps next lines (is_live e.mark) n (live_from (n + 1) es)
    (next_line (step_in n) (λ step. read_steps (n + 1) es (steps ++ step ∷ []) k) lines)
    (read_steps (n + 1) es steps k lines)
    (ap (λ xs. next_line (step_in n) (λ step. read_steps (n + 1) xs (steps ++ step ∷ []) k) lines) (sym rest))
    (live_law v m order elements cover steps next lines (n + 1) es rest)

steps_law : (v : ℕ) (m : Mode) (order : RelBlock) (elements : List Element) (cover : List ℕ) (steps : List StepLine) (n : ℕ)
    (next : Then Closed) (lines : List Line)
    → read_steps n (drop n elements) steps (closed_next order elements cover next) lines
    ≡ on_step (resume_yes v m) next (steps_left order elements cover steps n) lines
unfolding steps_left
steps_law v m order elements cover steps n next lines =
    live_law v m order elements cover steps next lines n (drop n elements) refl

pub yes_law : (v : ℕ) (m : Mode) (s : YesState) (next : Then Closed) (line other : Line) (rest : List Line)
    → resume_yes v m s next (line ∷ other ∷ rest)
    ≡ after (step_yes v m s line) (on_step (resume_yes v m) next) (line ∷ other ∷ rest) (other ∷ rest)
unfolding step_yes
yes_law v m (yes_state.Order at) next line other rest =
    block_law v at (λ order. read_all_elements m order next) line other rest
    ∙ arm with_order (step_block v at line) (on_step (resume_block v) (λ order. read_all_elements m order next))
    (on_step (resume_yes v m) next) (order_law v m next) (line ∷ other ∷ rest) (other ∷ rest)
yes_law v m (yes_state.Elements order) next line other rest =
    arm (λ n. elements_left order [] n) (number_in keyword.Elements line)
    (λ n. read_elements m n [] (cover_next order next)) (on_step (resume_yes v m) next)
    (λ n lines. elements_law v m order [] n next lines) (line ∷ other ∷ rest) (other ∷ rest)
yes_law v m (yes_state.Element order elements later) next line other rest =
    arm (λ e. elements_left order (elements ++ e ∷ []) later) (element_in m line)
    (λ e. read_elements m later (elements ++ e ∷ []) (cover_next order next)) (on_step (resume_yes v m) next)
    (λ e lines. elements_law v m order (elements ++ e ∷ []) later next lines) (line ∷ other ∷ rest) (other ∷ rest)
yes_law v m (yes_state.Cover order elements) next line other rest =
    arm (λ cover. steps_left order elements cover [] 0) (numbers_in keyword.Cover tail.Numbers line)
    (λ cover. read_steps 0 elements [] (closed_next order elements cover next)) (on_step (resume_yes v m) next)
    (λ cover lines. steps_law v m order elements cover [] 0 next lines) (line ∷ other ∷ rest) (other ∷ rest)
yes_law v m (yes_state.Step order elements cover steps at) next line other rest =
    arm (λ step. steps_left order elements cover (steps ++ step ∷ []) (at + 1)) (step_in at line)
    (λ step. read_steps (at + 1) (drop (at + 1) elements) (steps ++ step ∷ []) (closed_next order elements cover next))
    (on_step (resume_yes v m) next)
    (λ step lines. steps_law v m order elements cover (steps ++ step ∷ []) (at + 1) next lines) (line ∷ other ∷ rest) (other ∷ rest)

pub yes_last : (v : ℕ) (m : Mode) (s : YesState) (next : Then Closed) (piece : Line)
    → resume_yes v m s next (piece ∷ []) ≡ Stopped Truncated (piece ∷ [])
yes_last v m (yes_state.Order at) next piece = block_last v at (λ order. read_all_elements m order next) piece
yes_last v m (yes_state.Elements order) next piece = refl
yes_last v m (yes_state.Element order elements later) next piece = refl
yes_last v m (yes_state.Cover order elements) next piece = refl
yes_last v m (yes_state.Step order elements cover steps at) next piece = refl

-- The evidence of a list.
abbrev pub list_part_next : ℕ → Then ListPart → Then (List Origin)
list_part_next limit next elements = next (record { limit = limit; elements = elements })

abbrev pub resume_list : Mode → Resume ListState ListPart
resume_list m (list_state.Limit) next = read_list_part m next
resume_list m (list_state.Count limit) next = read_all_origins m limit next
resume_list m (list_state.Origin limit elements later) next = read_origins m (suc later) elements (list_part_next limit next)

origins_law : (m : Mode) (limit : ℕ) (elements : List Origin) (n : ℕ) (next : Then ListPart) (lines : List Line)
    → read_origins m n elements (list_part_next limit next) lines
    ≡ on_step (resume_list m) next (origins_left limit elements n) lines
unfolding origins_left
origins_law m limit elements zero next lines = refl
origins_law m limit elements (suc k) next lines =
    sym (ap (λ s. on_step (resume_list m) next s lines)
    (on_suc k (Whole (record { limit = limit; elements = elements })) (λ later. More (list_state.Origin limit elements later))))

pub list_law : (m : Mode) (s : ListState) (next : Then ListPart) (line other : Line) (rest : List Line)
    → resume_list m s next (line ∷ other ∷ rest)
    ≡ after (step_list m s line) (on_step (resume_list m) next) (line ∷ other ∷ rest) (other ∷ rest)
unfolding step_list
list_law m (list_state.Limit) next line other rest =
    arm (λ limit. More (list_state.Count limit)) (number_in keyword.Limit line) (λ limit. read_all_origins m limit next)
    (on_step (resume_list m) next) (λ limit lines. refl) (line ∷ other ∷ rest) (other ∷ rest)
list_law m (list_state.Count limit) next line other rest =
    arm (λ n. origins_left limit [] n) (number_in keyword.Elements line) (λ n. read_origins m n [] (list_part_next limit next))
    (on_step (resume_list m) next) (λ n lines. origins_law m limit [] n next lines) (line ∷ other ∷ rest) (other ∷ rest)
list_law m (list_state.Origin limit elements later) next line other rest =
    arm (λ from. origins_left limit (elements ++ from ∷ []) later) (origin_in m line)
    (λ from. read_origins m later (elements ++ from ∷ []) (list_part_next limit next)) (on_step (resume_list m) next)
    (λ from lines. origins_law m limit (elements ++ from ∷ []) later next lines) (line ∷ other ∷ rest) (other ∷ rest)

pub list_last : (m : Mode) (s : ListState) (next : Then ListPart) (piece : Line)
    → resume_list m s next (piece ∷ []) ≡ Stopped Truncated (piece ∷ [])
list_last m (list_state.Limit) next piece = refl
list_last m (list_state.Count limit) next piece = refl
list_last m (list_state.Origin limit elements later) next piece = refl

-- The evidence of a no.
abbrev pub resume_no : Resume NoState Body
resume_no (no_state.Prefix) next = read_lasso (λ lasso. next (body.NoLasso lasso))
resume_no (no_state.Turn prefix) next = read_turn prefix (λ lasso. next (body.NoLasso lasso))
resume_no (no_state.Word) next = read_word next

pub no_law : (s : NoState) (next : Then Body) (line other : Line) (rest : List Line)
    → resume_no s next (line ∷ other ∷ rest)
    ≡ after (step_no s line) (on_step resume_no next) (line ∷ other ∷ rest) (other ∷ rest)
unfolding step_no
no_law (no_state.Prefix) next line other rest =
    arm (λ prefix. More (no_state.Turn prefix)) (numbers_in keyword.Prefix tail.Numbers line) (λ prefix. read_turn prefix (λ lasso. next (body.NoLasso lasso)))
    (on_step resume_no next) (λ prefix lines. refl) (line ∷ other ∷ rest) (other ∷ rest)
no_law (no_state.Turn prefix) next line other rest =
    arm (λ turn. Whole (body.NoLasso (record { prefix = prefix; turn = turn }))) (numbers_in keyword.Loop tail.SomeNumbers line)
    (λ turn. next (body.NoLasso (record { prefix = prefix; turn = turn }))) (on_step resume_no next) (λ turn lines. refl)
    (line ∷ other ∷ rest) (other ∷ rest)
no_law (no_state.Word) next line other rest =
    arm (λ word. Whole (body.NoWord word)) (numbers_in keyword.Word tail.Numbers line)
    (λ word. next (body.NoWord word)) (on_step resume_no next) (λ word lines. refl)
    (line ∷ other ∷ rest) (other ∷ rest)

pub no_last : (s : NoState) (next : Then Body) (piece : Line)
    → resume_no s next (piece ∷ []) ≡ Stopped Truncated (piece ∷ [])
no_last (no_state.Prefix) next piece = refl
no_last (no_state.Turn prefix) next piece = refl
no_last (no_state.Word) next piece = refl

-- The whole text.
abbrev pub closing : Opening → Then Body
closing o b = read_end (cert_of o.version o.mode o.sizes b)

abbrev pub resume : State → List Line → ReadOutcome
resume (state.Heading) = next_line heading_in read_sizes
resume (state.Sizes h) = read_sizes h
resume (state.No o at) = resume_no at (closing o)
resume (state.First o at) = resume_first_log o.version at (λ firsts. read_after_first o.version o.mode o.form firsts (closing o))
resume (state.Second o firsts at) =
    resume_second_log o.version o.mode at (λ seconds. read_evidence o.version o.mode o.form firsts seconds (closing o))
resume (state.Yes o firsts seconds at) = resume_yes o.version o.mode at (λ closed. closing o (yes_of firsts seconds closed))
resume (state.List o firsts seconds at) = resume_list o.mode at (λ list_part. closing o (list_of firsts seconds list_part))
resume (state.End c) = read_end c
resume (state.Done c) = finish c

begun_law : (v : ℕ) (m : Mode) (a : Form) (sizes : Sizes) (lines : List Line)
    → read_rest (record { version = v; mode = m; form = a }) sizes lines
    ≡ resume (begun (record { version = v; mode = m; form = a }) sizes) lines
unfolding begun
begun_law v m (form.Yes) sizes lines = refl
begun_law v (mode.Buchi) (form.No) sizes lines = refl
begun_law v (mode.Finite) (form.No) sizes lines = refl
begun_law v m (form.List) sizes lines = refl

with_no_law : (o : Opening) (s : PartSoFar NoState Body) (lines : List Line)
    → on_step resume_no (closing o) s lines ≡ resume (with_no o s) lines
unfolding with_no whole
with_no_law o (More at) lines = refl
with_no_law o (Whole b) lines = refl

with_first_log_law : (o : Opening) (s : PartSoFar FirstLog (List FirstStep)) (lines : List Line)
    → on_step (resume_first_log o.version) (λ firsts. read_after_first o.version o.mode o.form firsts (closing o)) s lines
    ≡ resume (with_first_log o s) lines
unfolding with_first_log
with_first_log_law o (More at) lines = refl
with_first_log_law o (Whole firsts) lines = refl

evidence_law : (v : ℕ) (m : Mode) (a : Form) (sizes : Sizes) (firsts : List FirstStep) (seconds : List SecondStep) (lines : List Line)
    → read_evidence v m a firsts seconds (closing (record { version = v; mode = m; form = a; sizes = sizes })) lines
    ≡ resume (evidence_due (record { version = v; mode = m; form = a; sizes = sizes }) firsts seconds) lines
unfolding evidence_due
evidence_law v m (form.Yes) sizes firsts seconds lines = refl
evidence_law v m (form.No) sizes firsts seconds lines = refl
evidence_law v m (form.List) sizes firsts seconds lines = refl

with_second_log_law : (o : Opening) (firsts : List FirstStep) (s : PartSoFar SecondLog (List SecondStep)) (lines : List Line)
    → on_step (resume_second_log o.version o.mode) (λ seconds. read_evidence o.version o.mode o.form firsts seconds (closing o)) s lines
    ≡ resume (with_second_log o firsts s) lines
unfolding with_second_log
with_second_log_law o firsts (More at) lines = refl
with_second_log_law o firsts (Whole seconds) lines = evidence_law o.version o.mode o.form o.sizes firsts seconds lines

with_yes_law : (o : Opening) (firsts : List FirstStep) (seconds : List SecondStep) (s : PartSoFar YesState Closed) (lines : List Line)
    → on_step (resume_yes o.version o.mode) (λ closed. closing o (yes_of firsts seconds closed)) s lines
    ≡ resume (with_yes o firsts seconds s) lines
unfolding with_yes whole
with_yes_law o firsts seconds (More at) lines = refl
with_yes_law o firsts seconds (Whole closed) lines = refl

with_list_law : (o : Opening) (firsts : List FirstStep) (seconds : List SecondStep) (s : PartSoFar ListState ListPart) (lines : List Line)
    → on_step (resume_list o.mode) (λ list_part. closing o (list_of firsts seconds list_part)) s lines
    ≡ resume (with_list o firsts seconds s) lines
unfolding with_list whole
with_list_law o firsts seconds (More at) lines = refl
with_list_law o firsts seconds (Whole list_part) lines = refl

-- a line read from a state comes to what is read on from the next state
pub state_law : (s : State) (line other : Line) (rest : List Line)
    → resume s (line ∷ other ∷ rest) ≡ after (step s line) resume (line ∷ other ∷ rest) (other ∷ rest)
unfolding step
state_law (state.Heading) line other rest =
    arm (λ h. state.Sizes h) (heading_in line) read_sizes resume (λ h lines. refl) (line ∷ other ∷ rest) (other ∷ rest)
state_law (state.Sizes h) line other rest =
    arm (begun h) (sizes_in line) (read_rest h) resume (λ sizes lines. begun_law h.version h.mode h.form sizes lines)
    (line ∷ other ∷ rest) (other ∷ rest)
state_law (state.No o at) line other rest =
    no_law at (closing o) line other rest
    ∙ arm (with_no o) (step_no at line) (on_step resume_no (closing o)) resume (with_no_law o)
    (line ∷ other ∷ rest) (other ∷ rest)
state_law (state.First o at) line other rest =
    let k = λ (firsts : List FirstStep). read_after_first o.version o.mode o.form firsts (closing o) in
    first_log_law o.version at k line other rest
    ∙ arm (with_first_log o) (step_first_log o.version at line) (on_step (resume_first_log o.version) k) resume (with_first_log_law o)
    (line ∷ other ∷ rest) (other ∷ rest)
state_law (state.Second o firsts at) line other rest =
    let k = λ (seconds : List SecondStep). read_evidence o.version o.mode o.form firsts seconds (closing o) in
    second_log_law o.version o.mode at k line other rest
    ∙ arm (with_second_log o firsts) (step_second_log o.version o.mode at line) (on_step (resume_second_log o.version o.mode) k) resume
    (with_second_log_law o firsts) (line ∷ other ∷ rest) (other ∷ rest)
state_law (state.Yes o firsts seconds at) line other rest =
    let k = λ (closed : Closed). closing o (yes_of firsts seconds closed) in
    yes_law o.version o.mode at k line other rest
    ∙ arm (with_yes o firsts seconds) (step_yes o.version o.mode at line) (on_step (resume_yes o.version o.mode) k) resume
    (with_yes_law o firsts seconds) (line ∷ other ∷ rest) (other ∷ rest)
state_law (state.List o firsts seconds at) line other rest =
    let k = λ (list_part : ListPart). closing o (list_of firsts seconds list_part) in
    list_law o.mode at k line other rest
    ∙ arm (with_list o firsts seconds) (step_list o.mode at line) (on_step (resume_list o.mode) k) resume
    (with_list_law o firsts seconds) (line ∷ other ∷ rest) (other ∷ rest)
state_law (state.End c) line other rest =
    arm (λ u. state.Done c) (word_in keyword.End line) (λ u. finish c) resume (λ u lines. refl)
    (line ∷ other ∷ rest) (other ∷ rest)
state_law (state.Done c) line other rest = refl

-- the last piece
pub state_last : (s : State) (piece : Line) → resume s (piece ∷ []) ≡ at_end s piece
state_last (state.Heading) piece = refl
state_last (state.Sizes h) piece = refl
state_last (state.No o at) piece = no_last at (closing o) piece
state_last (state.First o at) piece =
    first_log_last o.version at (λ firsts. read_after_first o.version o.mode o.form firsts (closing o)) piece
state_last (state.Second o firsts at) piece =
    second_log_last o.version o.mode at (λ seconds. read_evidence o.version o.mode o.form firsts seconds (closing o)) piece
state_last (state.Yes o firsts seconds at) piece =
    yes_last o.version o.mode at (λ closed. closing o (yes_of firsts seconds closed)) piece
state_last (state.List o firsts seconds at) piece =
    list_last o.mode at (λ list_part. closing o (list_of firsts seconds list_part)) piece
state_last (state.End c) piece = refl
state_last (state.Done c) piece = refl
