use Rattle.std.proofs.Common.{◌≡◌, ℕ, zero, suc, ◌+◌, ◌-◌, List, [], ◌∷◌, ◌++◌, ◌==◌, Some, Ok, Err, refl, sym, ap, ◌∙◌, arith, ne_eqb, false, length, length-append}
use Rattle.std.proofs.lemmas.Bool.{cond-false}
use Rattle.auto_core.specs.declared.parts.Mode.{Mode}
use Rattle.cert_value.specs.declared.keywords.Keyword.TheVariants as keyword
use Rattle.cert_line.specs.declared.shapes.Tail.TheVariants as tail
use Rattle.cert_line.specs.declared.faults.TextKind.TheVariants.{Truncated}
use Rattle.cert_text.specs.declared.parts.PartSoFar.{PartSoFar}
use Rattle.cert_text.specs.declared.parts.PartSoFar.TheVariants.{More, Whole}
use Rattle.cert_value.specs.declared.types.FirstStep.{FirstStep}
use Rattle.cert_value.specs.declared.types.FirstStep.TheVariants as first
use Rattle.cert_value.specs.declared.types.SecondStep.{SecondStep}
use Rattle.cert_value.specs.declared.types.SecondStep.TheVariants as second
use Rattle.cert_value.specs.declared.types.Grounds.TheVariants as grounds
use Rattle.cert_value.specs.declared.types.GoneBy.{GoneBy}
use Rattle.cert_value.specs.declared.types.RelBlock.{RelBlock}
use Rattle.cert_value.specs.declared.types.RankBlock.{RankBlock}
use Rattle.cert_value.specs.declared.types.Row.{Row}
use Rattle.cert_value.specs.declared.types.RankRow.{RankRow}
use Rattle.cert_line.specs.declared.heads.FirstHead.{FirstHead}
use Rattle.cert_line.specs.declared.heads.FirstHead.TheVariants as first_head
use Rattle.cert_line.specs.declared.heads.SecondHead.{SecondHead}
use Rattle.cert_line.specs.declared.heads.SecondHead.TheVariants as second_head
use Rattle.cert_line.specs.declared.heads.Way.{Way}
use Rattle.cert_line.specs.declared.heads.Way.TheVariants as way
use Rattle.cert_text.specs.declared.blocks.BlockState.{BlockState}
use Rattle.cert_text.specs.declared.blocks.BlockState.TheVariants as block
use Rattle.cert_text.specs.declared.blocks.RankState.{RankState}
use Rattle.cert_text.specs.declared.blocks.RankState.TheVariants as rank
use Rattle.cert_text.specs.declared.first_log.FirstState.{FirstState}
use Rattle.cert_text.specs.declared.first_log.FirstState.TheVariants as first_state
use Rattle.cert_text.specs.declared.first_log.FirstLog.{FirstLog}
use Rattle.cert_text.specs.declared.first_log.FirstLog.TheVariants as first_log
use Rattle.cert_text.specs.declared.second_log.SecondState.{SecondState}
use Rattle.cert_text.specs.declared.second_log.SecondState.TheVariants as second_state
use Rattle.cert_text.specs.declared.second_log.SecondLog.{SecondLog}
use Rattle.cert_text.specs.declared.second_log.SecondLog.TheVariants as second_log
use Rattle.cert_value.specs.Text.{Line}
use Rattle.cert_value.specs.WellFormed.{blocks_due, rank_key, key_before}
use Rattle.std.specs.List.{slice_get}
use Rattle.cert_line.specs.Lines.{Said, number_in, numbers_in, ascending_in, row_in, rank_row_in, gone_by_in, first_head_in, second_head_in}
use Rattle.cert_text.specs.Grammar.{ReadOutcome, Stopped, Then, after, next_line, read_rows, read_block, read_rank_rows, read_rank_block, read_blocks, read_classes, read_first_rest, read_first_steps, read_grounds, read_second_rest, read_second_steps, read_first_log, read_second_log}
use Rattle.cert_text.specs.Machine.{map_said, on_or, rows_due, step_block, last_key, rank_rows_due, step_ranks, blocks_left, with_rel_block, first_started, step_first, first_left, with_first, step_first_log, rel_due, with_forward, with_backward, with_delayed, second_started, step_second, second_left, with_second, step_second_log}

-- How a state reads on, and what a step reads on.
abbrev pub Resume : Type 0 → Type 0 → Type 0
Resume S X = S → Then X → List Line → ReadOutcome

abbrev pub on_step : {S X : Type 0} → Resume S X → Then X → Then (PartSoFar S X)
on_step resume next (More s) lines = resume s next lines
on_step resume next (Whole x) lines = next x lines

-- What a line says, taken through a function.
after_map : {A B : Type 0} (f : A → B) (said : Said A) (k : Then B) (here rest : List Line)
    → after (map_said f said) k here rest ≡ after said (λ a. k (f a)) here rest
after_map f (Ok a) k here rest = refl
after_map f (Err fault) k here rest = refl

after_same : {A : Type 0} (said : Said A) (k l : Then A) → ((a : A) (lines : List Line) → k a lines ≡ l a lines)
    → (here rest : List Line) → after said k here rest ≡ after said l here rest
after_same (Ok a) k l same here rest = same a rest
after_same (Err fault) k l same here rest = refl

-- a step whose line is read here
pub arm : {A B : Type 0} (f : A → B) (said : Said A) (k : Then A) (l : Then B)
    → ((a : A) (lines : List Line) → k a lines ≡ l (f a) lines)
    → (here rest : List Line) → after said k here rest ≡ after (map_said f said) l here rest
arm f said k l same here rest =
    after_same said k (λ a. l (f a)) same here rest ∙ sym (after_map f said l here rest)

pub on_suc : {A : Type 0} (k : ℕ) (over : A) (more : ℕ → A) → on_or (suc k) over more ≡ more k
on_suc k over more =
    let ne : (suc k == 0) ≡ false = ne_eqb (suc k) 0 (λ h. omega arith) in
    let e : suc k - 1 ≡ k = omega arith in
    cond-false (suc k == 0) over (more (suc k - 1)) ne ∙ ap more e

-- Relations.
abbrev pub block_next : Then RelBlock → Then (List Row)
block_next next rows = next (record { rows = rows })

abbrev pub resume_block : ℕ → Resume BlockState RelBlock
resume_block v (block.Count) next = read_block v next
resume_block v (block.Row rows bound later) next = read_rows v (suc later) bound rows (block_next next)

rows_law : (v : ℕ) (rows : List Row) (bound n : ℕ) (next : Then RelBlock) (lines : List Line)
    → read_rows v n bound rows (block_next next) lines ≡ on_step (resume_block v) next (rows_due rows bound n) lines
unfolding rows_due
rows_law v rows bound zero next lines = refl
rows_law v rows bound (suc k) next lines =
    sym (ap (λ s. on_step (resume_block v) next s lines)
    (on_suc k (Whole (record { rows = rows })) (λ later. More (block.Row rows bound later))))

pub block_law : (v : ℕ) (s : BlockState) (next : Then RelBlock) (line other : Line) (rest : List Line)
    → resume_block v s next (line ∷ other ∷ rest)
    ≡ after (step_block v s line) (on_step (resume_block v) next) (line ∷ other ∷ rest) (other ∷ rest)
unfolding step_block
block_law v (block.Count) next line other rest =
    arm (λ n. rows_due [] 0 n) (number_in keyword.Rel line) (λ n. read_rows v n 0 [] (block_next next)) (on_step (resume_block v) next)
    (λ n lines. rows_law v [] 0 n next lines) (line ∷ other ∷ rest) (other ∷ rest)
block_law v (block.Row rows bound later) next line other rest =
    arm (λ row. rows_due (rows ++ row ∷ []) (row.left + 1) later) (row_in v bound line)
    (λ row. read_rows v later (row.left + 1) (rows ++ row ∷ []) (block_next next)) (on_step (resume_block v) next)
    (λ row lines. rows_law v (rows ++ row ∷ []) (row.left + 1) later next lines) (line ∷ other ∷ rest) (other ∷ rest)

pub block_last : (v : ℕ) (s : BlockState) (next : Then RelBlock) (piece : Line)
    → resume_block v s next (piece ∷ []) ≡ Stopped Truncated (piece ∷ [])
block_last v (block.Count) next piece = refl
block_last v (block.Row rows bound later) next piece = refl

-- Relations with ranks.
abbrev pub rank_next : Then RankBlock → Then (List RankRow)
rank_next next rows = next (record { rows = rows })

abbrev pub resume_ranks : ℕ → Resume RankState RankBlock
resume_ranks letters (rank.Count) next = read_rank_block letters next
resume_ranks letters (rank.Row rows later) next = read_rank_rows letters (suc later) (last_key rows) rows (rank_next next)

rank_rows_law : (letters : ℕ) (rows : List RankRow) (n : ℕ) (next : Then RankBlock) (lines : List Line)
    → read_rank_rows letters n (last_key rows) rows (rank_next next) lines
    ≡ on_step (resume_ranks letters) next (rank_rows_due rows n) lines
unfolding rank_rows_due
rank_rows_law letters rows zero next lines = refl
rank_rows_law letters rows (suc k) next lines =
    sym (ap (λ s. on_step (resume_ranks letters) next s lines)
    (on_suc k (Whole (record { rows = rows })) (λ later. More (rank.Row rows later))))

-- the last of rows with one more is that one
last_of_more : (rows : List RankRow) (row : RankRow) → slice_get (rows ++ row ∷ []) (length rows) ≡ Some row
last_of_more [] row = refl
last_of_more (r ∷ rows) row = last_of_more rows row

pub key_of_more : (rows : List RankRow) (row : RankRow) → last_key (rows ++ row ∷ []) ≡ rank_key row
key_of_more rows row =
    let count : length (rows ++ row ∷ []) - 1 ≡ length rows = omega (arith, length-append rows (row ∷ [])) in
    ap (λ n. key_before (slice_get (rows ++ row ∷ []) n)) count ∙ ap key_before (last_of_more rows row)

pub ranks_law : (letters : ℕ) (s : RankState) (next : Then RankBlock) (line other : Line) (rest : List Line)
    → resume_ranks letters s next (line ∷ other ∷ rest)
    ≡ after (step_ranks letters s line) (on_step (resume_ranks letters) next) (line ∷ other ∷ rest) (other ∷ rest)
unfolding step_ranks
ranks_law letters (rank.Count) next line other rest =
    arm (λ n. rank_rows_due [] n) (number_in keyword.Rel line) (λ n. read_rank_rows letters n [] [] (rank_next next))
    (on_step (resume_ranks letters) next)
    (λ n lines. rank_rows_law letters [] n next lines) (line ∷ other ∷ rest) (other ∷ rest)
ranks_law letters (rank.Row rows later) next line other rest =
    arm (λ row. rank_rows_due (rows ++ row ∷ []) later) (rank_row_in letters (last_key rows) line)
    (λ row. read_rank_rows letters later (rank_key row) (rows ++ row ∷ []) (rank_next next)) (on_step (resume_ranks letters) next)
    (λ row lines.
    ap (λ key. read_rank_rows letters later key (rows ++ row ∷ []) (rank_next next) lines) (sym (key_of_more rows row))
    ∙ rank_rows_law letters (rows ++ row ∷ []) later next lines) (line ∷ other ∷ rest) (other ∷ rest)

pub ranks_last : (letters : ℕ) (s : RankState) (next : Then RankBlock) (piece : Line)
    → resume_ranks letters s next (piece ∷ []) ≡ Stopped Truncated (piece ∷ [])
ranks_last letters (rank.Count) next piece = refl
ranks_last letters (rank.Row rows later) next piece = refl

-- Steps of the first log.
abbrev pub cut_next : ℕ → ℕ → List GoneBy → Then FirstStep → Then (List RelBlock)
cut_next pair look gone next blocks = next (first.Cut pair look gone blocks)

abbrev pub block_of_cut : ℕ → ℕ → ℕ → List GoneBy → List RelBlock → ℕ → Then FirstStep → Then RelBlock
block_of_cut v pair look gone blocks later next b = read_blocks v later (blocks ++ b ∷ []) (cut_next pair look gone next)

abbrev pub resume_first : ℕ → Resume FirstState FirstStep
resume_first v (first_state.Head) next = next_line first_head_in (λ head. read_first_rest v head next)
resume_first v (first_state.Classes) next = read_classes (λ classes. next (first.Merge classes))
resume_first v (first_state.Gone pair look) next = read_first_rest v (first_head.Cut pair look) next
resume_first v (first_state.Blocks pair look gone blocks later at) next =
    resume_block v at (block_of_cut v pair look gone blocks later next)

blocks_law : (v : ℕ) (pair look : ℕ) (gone : List GoneBy) (blocks : List RelBlock) (n : ℕ) (next : Then FirstStep) (lines : List Line)
    → read_blocks v n blocks (cut_next pair look gone next) lines
    ≡ on_step (resume_first v) next (blocks_left pair look gone blocks n) lines
unfolding blocks_left
blocks_law v pair look gone blocks zero next lines = refl
blocks_law v pair look gone blocks (suc k) next lines =
    sym (ap (λ s. on_step (resume_first v) next s lines)
    (on_suc k (Whole (first.Cut pair look gone blocks)) (λ later. More (first_state.Blocks pair look gone blocks later block.Count))))

with_block_law : (v : ℕ) (pair look : ℕ) (gone : List GoneBy) (blocks : List RelBlock) (later : ℕ) (next : Then FirstStep)
    (s : PartSoFar BlockState RelBlock) (lines : List Line)
    → on_step (resume_block v) (block_of_cut v pair look gone blocks later next) s lines
    ≡ on_step (resume_first v) next (with_rel_block pair look gone blocks later s) lines
unfolding with_rel_block
with_block_law v pair look gone blocks later next (More at) lines = refl
with_block_law v pair look gone blocks later next (Whole b) lines = blocks_law v pair look gone (blocks ++ b ∷ []) later next lines

head_law : (v : ℕ) (head : FirstHead) (next : Then FirstStep) (lines : List Line)
    → read_first_rest v head next lines ≡ on_step (resume_first v) next (first_started head) lines
unfolding first_started
head_law v (first_head.Trim kept) next lines = refl
head_law v (first_head.Merge) next lines = refl
head_law v (first_head.Cut pair look) next lines = refl

pub first_law : (v : ℕ) (s : FirstState) (next : Then FirstStep) (line other : Line) (rest : List Line)
    → resume_first v s next (line ∷ other ∷ rest)
    ≡ after (step_first v s line) (on_step (resume_first v) next) (line ∷ other ∷ rest) (other ∷ rest)
unfolding step_first
first_law v (first_state.Head) next line other rest =
    arm first_started (first_head_in line) (λ head. read_first_rest v head next) (on_step (resume_first v) next)
    (λ head lines. head_law v head next lines) (line ∷ other ∷ rest) (other ∷ rest)
first_law v (first_state.Classes) next line other rest =
    arm (λ classes. Whole (first.Merge classes)) (numbers_in keyword.Classes tail.SomeNumbers line)
    (λ classes. next (first.Merge classes)) (on_step (resume_first v) next) (λ classes lines. refl) (line ∷ other ∷ rest) (other ∷ rest)
first_law v (first_state.Gone pair look) next line other rest =
    arm (λ gone. blocks_left pair look gone [] (blocks_due pair)) (gone_by_in line)
    (λ gone. read_blocks v (blocks_due pair) [] (cut_next pair look gone next)) (on_step (resume_first v) next)
    (λ gone lines. blocks_law v pair look gone [] (blocks_due pair) next lines) (line ∷ other ∷ rest) (other ∷ rest)
first_law v (first_state.Blocks pair look gone blocks later at) next line other rest =
    block_law v at (block_of_cut v pair look gone blocks later next) line other rest
    ∙ arm (with_rel_block pair look gone blocks later) (step_block v at line)
    (on_step (resume_block v) (block_of_cut v pair look gone blocks later next)) (on_step (resume_first v) next)
    (with_block_law v pair look gone blocks later next) (line ∷ other ∷ rest) (other ∷ rest)

pub first_last : (v : ℕ) (s : FirstState) (next : Then FirstStep) (piece : Line)
    → resume_first v s next (piece ∷ []) ≡ Stopped Truncated (piece ∷ [])
first_last v (first_state.Head) next piece = refl
first_last v (first_state.Classes) next piece = refl
first_last v (first_state.Gone pair look) next piece = refl
first_last v (first_state.Blocks pair look gone blocks later at) next piece =
    block_last v at (block_of_cut v pair look gone blocks later next) piece

-- The first log.
abbrev pub step_of_first : ℕ → List FirstStep → ℕ → Then (List FirstStep) → Then FirstStep
step_of_first v steps later next s = read_first_steps v later (steps ++ s ∷ []) next

abbrev pub resume_first_log : ℕ → Resume FirstLog (List FirstStep)
resume_first_log v (first_log.Count) next = read_first_log v next
resume_first_log v (first_log.Steps steps later at) next = resume_first v at (step_of_first v steps later next)

first_steps_law : (v : ℕ) (steps : List FirstStep) (n : ℕ) (next : Then (List FirstStep)) (lines : List Line)
    → read_first_steps v n steps next lines ≡ on_step (resume_first_log v) next (first_left steps n) lines
unfolding first_left
first_steps_law v steps zero next lines = refl
first_steps_law v steps (suc k) next lines =
    sym (ap (λ s. on_step (resume_first_log v) next s lines)
    (on_suc k (Whole steps) (λ later. More (first_log.Steps steps later first_state.Head))))

with_first_law : (v : ℕ) (steps : List FirstStep) (later : ℕ) (next : Then (List FirstStep)) (s : PartSoFar FirstState FirstStep) (lines : List Line)
    → on_step (resume_first v) (step_of_first v steps later next) s lines
    ≡ on_step (resume_first_log v) next (with_first steps later s) lines
unfolding with_first
with_first_law v steps later next (More at) lines = refl
with_first_law v steps later next (Whole s) lines = first_steps_law v (steps ++ s ∷ []) later next lines

pub first_log_law : (v : ℕ) (s : FirstLog) (next : Then (List FirstStep)) (line other : Line) (rest : List Line)
    → resume_first_log v s next (line ∷ other ∷ rest)
    ≡ after (step_first_log v s line) (on_step (resume_first_log v) next) (line ∷ other ∷ rest) (other ∷ rest)
unfolding step_first_log
first_log_law v (first_log.Count) next line other rest =
    arm (λ n. first_left [] n) (number_in keyword.Log1 line) (λ n. read_first_steps v n [] next) (on_step (resume_first_log v) next)
    (λ n lines. first_steps_law v [] n next lines) (line ∷ other ∷ rest) (other ∷ rest)
first_log_law v (first_log.Steps steps later at) next line other rest =
    first_law v at (step_of_first v steps later next) line other rest
    ∙ arm (with_first steps later) (step_first v at line) (on_step (resume_first v) (step_of_first v steps later next))
    (on_step (resume_first_log v) next) (with_first_law v steps later next) (line ∷ other ∷ rest) (other ∷ rest)

pub first_log_last : (v : ℕ) (s : FirstLog) (next : Then (List FirstStep)) (piece : Line)
    → resume_first_log v s next (piece ∷ []) ≡ Stopped Truncated (piece ∷ [])
first_log_last v (first_log.Count) next piece = refl
first_log_last v (first_log.Steps steps later at) next piece = first_last v at (step_of_first v steps later next) piece

-- Steps of the second log.
abbrev pub resume_second : ℕ → Mode → Resume SecondState SecondStep
resume_second v m (second_state.Head) next = next_line (second_head_in v m) (λ head. read_second_rest v head next)
resume_second v m (second_state.Classes by) next = read_second_rest v (second_head.Merge by) next
resume_second v m (second_state.Forward look classes at) next =
    resume_block v at (λ rel. next (second.Merge (grounds.Forward look rel) classes))
resume_second v m (second_state.Backward look classes at) next =
    resume_block v at (λ rel. next (second.Merge (grounds.Backward look rel) classes))
resume_second v m (second_state.Delayed letters classes at) next =
    resume_ranks letters at (λ ranks. next (second.Merge (grounds.Delayed letters ranks) classes))
resume_second v m (second_state.Gone) next = read_second_rest v second_head.Cut next

grounds_law : (v : ℕ) (m : Mode) (by : Way) (classes : List ℕ) (next : Then SecondStep) (lines : List Line)
    → read_grounds v by classes next lines ≡ resume_second v m (rel_due by classes) next lines
unfolding rel_due
grounds_law v m (way.Forward look) classes next lines = refl
grounds_law v m (way.Backward look) classes next lines = refl
grounds_law v m (way.Delayed letters) classes next lines = refl

second_head_law : (v : ℕ) (m : Mode) (head : SecondHead) (next : Then SecondStep) (lines : List Line)
    → read_second_rest v head next lines ≡ on_step (resume_second v m) next (second_started head) lines
unfolding second_started
second_head_law v m (second_head.Trim kept) next lines = refl
second_head_law v m (second_head.Merge by) next lines = refl
second_head_law v m (second_head.Cut) next lines = refl

forward_law : (v : ℕ) (m : Mode) (look : ℕ) (classes : List ℕ) (next : Then SecondStep) (s : PartSoFar BlockState RelBlock) (lines : List Line)
    → on_step (resume_block v) (λ rel. next (second.Merge (grounds.Forward look rel) classes)) s lines
    ≡ on_step (resume_second v m) next (with_forward look classes s) lines
unfolding with_forward
forward_law v m look classes next (More at) lines = refl
forward_law v m look classes next (Whole rel) lines = refl

backward_law : (v : ℕ) (m : Mode) (look : ℕ) (classes : List ℕ) (next : Then SecondStep) (s : PartSoFar BlockState RelBlock) (lines : List Line)
    → on_step (resume_block v) (λ rel. next (second.Merge (grounds.Backward look rel) classes)) s lines
    ≡ on_step (resume_second v m) next (with_backward look classes s) lines
unfolding with_backward
backward_law v m look classes next (More at) lines = refl
backward_law v m look classes next (Whole rel) lines = refl

delayed_law : (v : ℕ) (m : Mode) (letters : ℕ) (classes : List ℕ) (next : Then SecondStep) (s : PartSoFar RankState RankBlock) (lines : List Line)
    → on_step (resume_ranks letters) (λ ranks. next (second.Merge (grounds.Delayed letters ranks) classes)) s lines
    ≡ on_step (resume_second v m) next (with_delayed letters classes s) lines
unfolding with_delayed
delayed_law v m letters classes next (More at) lines = refl
delayed_law v m letters classes next (Whole ranks) lines = refl

pub second_law : (v : ℕ) (m : Mode) (s : SecondState) (next : Then SecondStep) (line other : Line) (rest : List Line)
    → resume_second v m s next (line ∷ other ∷ rest)
    ≡ after (step_second v m s line) (on_step (resume_second v m) next) (line ∷ other ∷ rest) (other ∷ rest)
unfolding step_second
second_law v m (second_state.Head) next line other rest =
    arm second_started (second_head_in v m line) (λ head. read_second_rest v head next) (on_step (resume_second v m) next)
    (λ head lines. second_head_law v m head next lines) (line ∷ other ∷ rest) (other ∷ rest)
second_law v m (second_state.Classes by) next line other rest =
    arm (λ classes. More (rel_due by classes)) (numbers_in keyword.Classes tail.SomeNumbers line)
    (λ classes. read_grounds v by classes next) (on_step (resume_second v m) next)
    (λ classes lines. grounds_law v m by classes next lines) (line ∷ other ∷ rest) (other ∷ rest)
second_law v m (second_state.Forward look classes at) next line other rest =
    block_law v at (λ rel. next (second.Merge (grounds.Forward look rel) classes)) line other rest
    ∙ arm (with_forward look classes) (step_block v at line)
    (on_step (resume_block v) (λ rel. next (second.Merge (grounds.Forward look rel) classes))) (on_step (resume_second v m) next)
    (forward_law v m look classes next) (line ∷ other ∷ rest) (other ∷ rest)
second_law v m (second_state.Backward look classes at) next line other rest =
    block_law v at (λ rel. next (second.Merge (grounds.Backward look rel) classes)) line other rest
    ∙ arm (with_backward look classes) (step_block v at line)
    (on_step (resume_block v) (λ rel. next (second.Merge (grounds.Backward look rel) classes))) (on_step (resume_second v m) next)
    (backward_law v m look classes next) (line ∷ other ∷ rest) (other ∷ rest)
second_law v m (second_state.Delayed letters classes at) next line other rest =
    ranks_law letters at (λ ranks. next (second.Merge (grounds.Delayed letters ranks) classes)) line other rest
    ∙ arm (with_delayed letters classes) (step_ranks letters at line)
    (on_step (resume_ranks letters) (λ ranks. next (second.Merge (grounds.Delayed letters ranks) classes))) (on_step (resume_second v m) next)
    (delayed_law v m letters classes next) (line ∷ other ∷ rest) (other ∷ rest)
second_law v m (second_state.Gone) next line other rest =
    arm (λ gone. Whole (second.Cut gone)) (ascending_in keyword.Gone tail.SomeNumbers line)
    (λ gone. next (second.Cut gone)) (on_step (resume_second v m) next) (λ gone lines. refl) (line ∷ other ∷ rest) (other ∷ rest)

pub second_last : (v : ℕ) (m : Mode) (s : SecondState) (next : Then SecondStep) (piece : Line)
    → resume_second v m s next (piece ∷ []) ≡ Stopped Truncated (piece ∷ [])
second_last v m (second_state.Head) next piece = refl
second_last v m (second_state.Classes by) next piece = refl
second_last v m (second_state.Forward look classes at) next piece =
    block_last v at (λ rel. next (second.Merge (grounds.Forward look rel) classes)) piece
second_last v m (second_state.Backward look classes at) next piece =
    block_last v at (λ rel. next (second.Merge (grounds.Backward look rel) classes)) piece
second_last v m (second_state.Delayed letters classes at) next piece =
    ranks_last letters at (λ ranks. next (second.Merge (grounds.Delayed letters ranks) classes)) piece
second_last v m (second_state.Gone) next piece = refl

-- The second log.
abbrev pub step_of_second : ℕ → Mode → List SecondStep → ℕ → Then (List SecondStep) → Then SecondStep
step_of_second v m steps later next s = read_second_steps v m later (steps ++ s ∷ []) next

abbrev pub resume_second_log : ℕ → Mode → Resume SecondLog (List SecondStep)
resume_second_log v m (second_log.Count) next = read_second_log v m next
resume_second_log v m (second_log.Steps steps later at) next = resume_second v m at (step_of_second v m steps later next)

second_steps_law : (v : ℕ) (m : Mode) (steps : List SecondStep) (n : ℕ) (next : Then (List SecondStep)) (lines : List Line)
    → read_second_steps v m n steps next lines ≡ on_step (resume_second_log v m) next (second_left steps n) lines
unfolding second_left
second_steps_law v m steps zero next lines = refl
second_steps_law v m steps (suc k) next lines =
    sym (ap (λ s. on_step (resume_second_log v m) next s lines)
    (on_suc k (Whole steps) (λ later. More (second_log.Steps steps later second_state.Head))))

with_second_law : (v : ℕ) (m : Mode) (steps : List SecondStep) (later : ℕ) (next : Then (List SecondStep)) (s : PartSoFar SecondState SecondStep) (lines : List Line)
    → on_step (resume_second v m) (step_of_second v m steps later next) s lines
    ≡ on_step (resume_second_log v m) next (with_second steps later s) lines
unfolding with_second
with_second_law v m steps later next (More at) lines = refl
with_second_law v m steps later next (Whole s) lines = second_steps_law v m (steps ++ s ∷ []) later next lines

pub second_log_law : (v : ℕ) (m : Mode) (s : SecondLog) (next : Then (List SecondStep)) (line other : Line) (rest : List Line)
    → resume_second_log v m s next (line ∷ other ∷ rest)
    ≡ after (step_second_log v m s line) (on_step (resume_second_log v m) next) (line ∷ other ∷ rest) (other ∷ rest)
unfolding step_second_log
second_log_law v m (second_log.Count) next line other rest =
    arm (λ n. second_left [] n) (number_in keyword.Log2 line) (λ n. read_second_steps v m n [] next) (on_step (resume_second_log v m) next)
    (λ n lines. second_steps_law v m [] n next lines) (line ∷ other ∷ rest) (other ∷ rest)
second_log_law v m (second_log.Steps steps later at) next line other rest =
    second_law v m at (step_of_second v m steps later next) line other rest
    ∙ arm (with_second steps later) (step_second v m at line) (on_step (resume_second v m) (step_of_second v m steps later next))
    (on_step (resume_second_log v m) next) (with_second_law v m steps later next) (line ∷ other ∷ rest) (other ∷ rest)

pub second_log_last : (v : ℕ) (m : Mode) (s : SecondLog) (next : Then (List SecondStep)) (piece : Line)
    → resume_second_log v m s next (piece ∷ []) ≡ Stopped Truncated (piece ∷ [])
second_log_last v m (second_log.Count) next piece = refl
second_log_last v m (second_log.Steps steps later at) next piece = second_last v m at (step_of_second v m steps later next) piece
