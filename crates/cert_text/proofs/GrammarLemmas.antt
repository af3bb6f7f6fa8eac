-- Each reader of the grammar stops so.
use Rattle.std.proofs.Common.{ℕ, zero, suc, ◌+◌, ◌==◌, List, [], ◌∷◌, ◌++◌, Bool, true, false, cond}
use Rattle.auto_core.specs.declared.parts.Mode.{Mode}
use Rattle.auto_core.specs.declared.parts.Mode.TheVariants as mode
use Rattle.auto_core.specs.declared.parts.Origin.{Origin}
use Rattle.cert_value.specs.declared.types.Form.{Form}
use Rattle.cert_value.specs.declared.types.Form.TheVariants as form
use Rattle.cert_value.specs.declared.types.Body.{Body}
use Rattle.cert_value.specs.declared.types.Body.TheVariants as body
use Rattle.cert_value.specs.declared.types.FirstStep.{FirstStep}
use Rattle.cert_value.specs.declared.types.FirstStep.TheVariants as first
use Rattle.cert_value.specs.declared.types.SecondStep.{SecondStep}
use Rattle.cert_value.specs.declared.types.SecondStep.TheVariants as second
use Rattle.cert_value.specs.declared.types.Grounds.TheVariants as grounds
use Rattle.cert_value.specs.declared.types.RelBlock.{RelBlock}
use Rattle.cert_value.specs.declared.types.RankBlock.{RankBlock}
use Rattle.cert_value.specs.declared.types.Row.{Row}
use Rattle.cert_value.specs.declared.types.RankRow.{RankRow}
use Rattle.cert_value.specs.declared.types.Element.{Element}
use Rattle.cert_value.specs.declared.types.StepLine.{StepLine}
use Rattle.cert_value.specs.WellFormed.{blocks_due, is_live, rank_key}
use Rattle.cert_value.specs.Text.{Line}
use Rattle.cert_line.specs.Lines.{Said, word_in, number_in, numbers_in, ascending_in, sizes_in, heading_in, row_in, rank_row_in, gone_by_in, first_head_in, plain_delayed_in, announced_delayed_in, delayed_in, delayed_or_cut_in, merge_or_cut_in, second_head_in, origin_in, element_in, step_in}
use Rattle.cert_text.specs.Grammar.{LinesOutcome, On, Then, read_rows, read_block, read_rank_rows, read_rank_block, read_blocks, read_classes, read_first_rest, read_first_steps, read_first_log, read_second_log, read_second_rest, read_second_steps, read_elements, read_steps, read_origins, read_cover, read_all_elements, read_closed, read_all_origins, read_list_part, read_turn, read_lasso, read_word, yes_of, list_of, read_evidence, read_after_first, read_logs, read_body, finish, cert_of, read_end, read_rest, read_sizes, read_lines, next_line}
use Rattle.cert_text.proofs.ReaderLemmas.{Reader, TellsOwn, line_reads, finish_reads}
use Rattle.cert_text.proofs.SaidLemmas.{Tells, of_if, plain_tells, tested_tells, either_tells, word_own, number_in_own, numbers_own, ascending_own, sizes_own, heading_own, row_own, rank_row_own, gone_by_own, first_head_own, second_head_own, origin_own, element_own, step_own}

-- Whatever is read, a reader goes on with it.
abbrev pub Goes : {C A : Type 0} → On C A → Type 0
Goes {A = A} next = (a : A) → Reader false (next a)

pub any_line : {C A : Type 0} (said : Line → Said A) (next : On C A) → TellsOwn false said → Goes next → Reader false (next_line said next)
any_line said next own all = line_reads false said next own (λ line a told. all a)

rows_read : {C : Type 0} (v : ℕ) (n bound : ℕ) (rows : List Row) (next : On C (List Row)) → Goes next → Reader false (read_rows v n bound rows next)
rows_read v zero bound rows next all = all rows
rows_read v (suc n) bound rows next all =
    any_line (row_in v bound) (λ row. read_rows v n (row.left + 1) (rows ++ row ∷ []) next) (row_own v bound)
    (λ row. rows_read v n (row.left + 1) (rows ++ row ∷ []) next all)

pub block_reads : {C : Type 0} (v : ℕ) (next : On C RelBlock) → Goes next → Reader false (read_block v next)
block_reads v next all =
    any_line (number_in _) (λ n. read_rows v n 0 [] (λ rows. next (record { rows = rows }))) (number_in_own _)
    (λ n. rows_read v n 0 [] (λ rows. next (record { rows = rows })) (λ rows. all (record { rows = rows })))

rank_rows_read : {C : Type 0} (letters n : ℕ) (key : List ℕ) (rows : List RankRow) (next : On C (List RankRow)) → Goes next
    → Reader false (read_rank_rows letters n key rows next)
rank_rows_read letters zero key rows next all = all rows
rank_rows_read letters (suc n) key rows next all =
    any_line (rank_row_in letters key) (λ row. read_rank_rows letters n (rank_key row) (rows ++ row ∷ []) next) (rank_row_own letters key)
    (λ row. rank_rows_read letters n (rank_key row) (rows ++ row ∷ []) next all)

pub rank_block_reads : {C : Type 0} (letters : ℕ) (next : On C RankBlock) → Goes next → Reader false (read_rank_block letters next)
rank_block_reads letters next all =
    any_line (number_in _) (λ n. read_rank_rows letters n [] [] (λ rows. next (record { rows = rows }))) (number_in_own _)
    (λ n. rank_rows_read letters n [] [] (λ rows. next (record { rows = rows })) (λ rows. all (record { rows = rows })))

blocks_read : {C : Type 0} (v : ℕ) (n : ℕ) (blocks : List RelBlock) (next : On C (List RelBlock)) → Goes next → Reader false (read_blocks v n blocks next)
blocks_read v zero blocks next all = all blocks
blocks_read v (suc n) blocks next all =
    block_reads v (λ block. read_blocks v n (blocks ++ block ∷ []) next) (λ block. blocks_read v n (blocks ++ block ∷ []) next all)

-- A line of numbers.
pub numbers_read : {C : Type 0} (w : _) (tail : _) (next : On C (List ℕ)) → Goes next → Reader false (next_line (numbers_in w tail) next)
numbers_read w tail next all = any_line (numbers_in w tail) next (numbers_own w tail) all

pub ascending_read : {C : Type 0} (w : _) (tail : _) (next : On C (List ℕ)) → Goes next → Reader false (next_line (ascending_in w tail) next)
ascending_read w tail next all = any_line (ascending_in w tail) next (ascending_own w tail) all

classes_read : {C : Type 0} (next : On C (List ℕ)) → Goes next → Reader false (read_classes next)
classes_read next all = search (numbers_read, all)

-- What may begin a step of the first log.
first_tells : {C : Type 0} (v : ℕ) (next : On C FirstStep) → Goes next → Tells (λ head. Reader false (read_first_rest v head next)) first_head_in
first_tells v next all =
    let merge : Reader false (read_classes (λ classes. next (first.Merge classes))) =
    classes_read (λ classes. next (first.Merge classes)) (λ classes. all (first.Merge classes)) in
    let cut : (pair look : ℕ) → Reader false (next_line gone_by_in (λ gone. read_blocks v (blocks_due pair) [] (λ blocks. next (first.Cut pair look gone blocks)))) =
    λ pair look.
    any_line gone_by_in (λ gone. read_blocks v (blocks_due pair) [] (λ blocks. next (first.Cut pair look gone blocks))) gone_by_own
    (λ gone. blocks_read v (blocks_due pair) [] (λ blocks. next (first.Cut pair look gone blocks)) (λ blocks. all (first.Cut pair look gone blocks))) in
    search (either_tells, plain_tells, tested_tells, all, merge, cut)

first_steps_read : {C : Type 0} (v : ℕ) (n : ℕ) (steps : List FirstStep) (next : On C (List FirstStep)) → Goes next → Reader false (read_first_steps v n steps next)
first_steps_read v zero steps next all = all steps
first_steps_read v (suc n) steps next all =
    line_reads false first_head_in (λ head. read_first_rest v head (λ step. read_first_steps v n (steps ++ step ∷ []) next)) first_head_own
    (first_tells v (λ step. read_first_steps v n (steps ++ step ∷ []) next) (λ step. first_steps_read v n (steps ++ step ∷ []) next all)).each

pub first_log_reads : {C : Type 0} (v : ℕ) (next : On C (List FirstStep)) → Goes next → Reader false (read_first_log v next)
first_log_reads v next all = any_line (number_in _) (λ n. read_first_steps v n [] next) (number_in_own _) (λ n. first_steps_read v n [] next all)

-- What may begin a step of the second log.
module _ {C : Type 0} (v : ℕ) (next : On C SecondStep) (all : Goes next) where
  forward_reads : (look : ℕ) → Reader false (read_classes (λ classes. read_block v (λ rel. next (second.Merge (grounds.Forward look rel) classes))))
  forward_reads look =
      classes_read (λ classes. read_block v (λ rel. next (second.Merge (grounds.Forward look rel) classes))) (λ classes.
      block_reads v (λ rel. next (second.Merge (grounds.Forward look rel) classes)) (λ rel. all (second.Merge (grounds.Forward look rel) classes)))

  backward_reads : (look : ℕ) → Reader false (read_classes (λ classes. read_block v (λ rel. next (second.Merge (grounds.Backward look rel) classes))))
  backward_reads look =
      classes_read (λ classes. read_block v (λ rel. next (second.Merge (grounds.Backward look rel) classes))) (λ classes.
      block_reads v (λ rel. next (second.Merge (grounds.Backward look rel) classes)) (λ rel. all (second.Merge (grounds.Backward look rel) classes)))

delayed_reads : {C : Type 0} (next : On C SecondStep) → Goes next → (letters : ℕ)
    → Reader false (read_classes (λ classes. read_rank_block letters (λ ranks. next (second.Merge (grounds.Delayed letters ranks) classes))))
delayed_reads next all letters =
    classes_read (λ classes. read_rank_block letters (λ ranks. next (second.Merge (grounds.Delayed letters ranks) classes))) (λ classes.
    rank_block_reads letters (λ ranks. next (second.Merge (grounds.Delayed letters ranks) classes))
    (λ ranks. all (second.Merge (grounds.Delayed letters ranks) classes)))

delayed_tells : {C : Type 0} (v : ℕ) (next : On C SecondStep) → Goes next → Tells (λ head. Reader false (read_second_rest v head next)) (delayed_in v)
delayed_tells v next all =
    let delayed = delayed_reads next all in
    let announced : Tells (λ head. Reader false (read_second_rest v head next)) announced_delayed_in = search (tested_tells, delayed) in
    let plain : Tells (λ head. Reader false (read_second_rest v head next)) plain_delayed_in = search (plain_tells, delayed) in
    record {
      each = λ line head e.
          of_if (λ head. Reader false (read_second_rest v head next)) (v == 2) (announced_delayed_in line) (plain_delayed_in line) head e
          (announced.each line head) (plain.each line head);
    }

delayed_or_cut_tells : {C : Type 0} (v : ℕ) (m : Mode) (next : On C SecondStep) → Goes next → Tells (λ head. Reader false (read_second_rest v head next)) (delayed_or_cut_in v m)
delayed_or_cut_tells v (mode.Buchi) next all = search (either_tells, plain_tells, delayed_tells, all, ascending_read)
delayed_or_cut_tells v (mode.Finite) next all = search (plain_tells, all, ascending_read)

merge_or_cut_tells : {C : Type 0} (v : ℕ) (m : Mode) (next : On C SecondStep) → Goes next → Tells (λ head. Reader false (read_second_rest v head next)) (merge_or_cut_in v m)
merge_or_cut_tells {C} v m next all =
    let forward = forward_reads v next all in
    let backward = backward_reads v next all in
    search (either_tells, plain_tells, forward, backward, delayed_or_cut_tells {C = C} v)

second_tells : {C : Type 0} (v : ℕ) (m : Mode) (next : On C SecondStep) → Goes next → Tells (λ head. Reader false (read_second_rest v head next)) (second_head_in v m)
second_tells {C} v m next all = search (either_tells, tested_tells, all, merge_or_cut_tells {C = C} v)

second_steps_read : {C : Type 0} (v : ℕ) (m : Mode) (n : ℕ) (steps : List SecondStep) (next : On C (List SecondStep)) → Goes next → Reader false (read_second_steps v m n steps next)
second_steps_read v m zero steps next all = all steps
second_steps_read v m (suc n) steps next all =
    line_reads false (second_head_in v m) (λ head. read_second_rest v head (λ step. read_second_steps v m n (steps ++ step ∷ []) next)) (second_head_own v m)
    (second_tells v m (λ step. read_second_steps v m n (steps ++ step ∷ []) next) (λ step. second_steps_read v m n (steps ++ step ∷ []) next all)).each

pub second_log_reads : {C : Type 0} (v : ℕ) (m : Mode) (next : On C (List SecondStep)) → Goes next → Reader false (read_second_log v m next)
second_log_reads v m next all = any_line (number_in _) (λ n. read_second_steps v m n [] next) (number_in_own _) (λ n. second_steps_read v m n [] next all)

elements_read : {C : Type 0} (m : Mode) (n : ℕ) (elements : List Element) (next : On C (List Element)) → Goes next → Reader false (read_elements m n elements next)
elements_read m zero elements next all = all elements
elements_read m (suc n) elements next all =
    any_line (element_in m) (λ e. read_elements m n (elements ++ e ∷ []) next) (element_own m)
    (λ e. elements_read m n (elements ++ e ∷ []) next all)

origins_read : (m : Mode) (n : ℕ) (origins : List Origin) (next : Then (List Origin)) → Goes next → Reader false (read_origins m n origins next)
origins_read m zero origins next all = all origins
origins_read m (suc n) origins next all =
    any_line (origin_in m) (λ from. read_origins m n (origins ++ from ∷ []) next) (origin_own m)
    (λ from. origins_read m n (origins ++ from ∷ []) next all)

cond_reads : {C : Type 0} (b : Bool) (f g : List Line → LinesOutcome C) → Reader false f → Reader false g → Reader false (λ lines. cond b (f lines) (g lines))
cond_reads true f g p q = p
cond_reads false f g p q = q

steps_read : {C : Type 0} (n : ℕ) (es : List Element) (steps : List StepLine) (next : On C (List StepLine)) → Goes next → Reader false (read_steps n es steps next)
steps_read n [] steps next all = all steps
steps_read n (e ∷ es) steps next all =
    cond_reads (is_live e.mark) _ (read_steps (n + 1) es steps next)
    (any_line (step_in n) (λ step. read_steps (n + 1) es (steps ++ step ∷ []) next) (step_own n)
    (λ step. steps_read (n + 1) es (steps ++ step ∷ []) next all))
    (steps_read (n + 1) es steps next all)

cover_reads : {C : Type 0} (order : RelBlock) (elements : List Element) (next : On C _) → Goes next → Reader false (read_cover order elements next)
cover_reads order elements next all =
    let later : (cover : List ℕ) → Reader false (read_steps 0 elements [] (λ steps. next (record { order = order; elements = elements; cover = cover; steps = steps }))) =
    λ cover.
    steps_read 0 elements [] (λ steps. next (record { order = order; elements = elements; cover = cover; steps = steps }))
    (λ steps. all (record { order = order; elements = elements; cover = cover; steps = steps })) in
    search (numbers_read, later)

pub closed_reads : {C : Type 0} (v : ℕ) (m : Mode) (next : On C _) → Goes next → Reader false (read_closed v m next)
closed_reads v m next all =
    block_reads v (λ order. read_all_elements m order next) (λ order.
    any_line (number_in _) (λ n. read_elements m n [] (λ elements. read_cover order elements next)) (number_in_own _)
    (λ n. elements_read m n [] (λ elements. read_cover order elements next) (λ elements. cover_reads order elements next all)))

list_part_reads : (m : Mode) (next : Then _) → Goes next → Reader false (read_list_part m next)
list_part_reads m next all =
    any_line (number_in _) (λ limit. read_all_origins m limit next) (number_in_own _) (λ limit.
    any_line (number_in _) _ (number_in_own _)
    (λ n. origins_read m n [] (λ elements. next (record { limit = limit; elements = elements })) (λ elements. all (record { limit = limit; elements = elements }))))

logs_read : (v : ℕ) (m : Mode) (a : _) (next : Then Body)
    → ((firsts : List FirstStep) (seconds : List SecondStep) → Reader false (read_evidence v m a firsts seconds next)) → Reader false (read_logs v m a next)
logs_read v m a next all =
    first_log_reads v (λ firsts. read_after_first v m a firsts next) (λ firsts.
    second_log_reads v m (λ seconds. read_evidence v m a firsts seconds next) (λ seconds. all firsts seconds))

turn_reads : {C : Type 0} (prefix : List ℕ) (next : On C _) → Goes next → Reader false (read_turn prefix next)
turn_reads prefix next all = search (numbers_read, all)

pub lasso_reads : {C : Type 0} (next : On C _) → Goes next → Reader false (read_lasso next)
lasso_reads next all =
    let later : (prefix : List ℕ) → Reader false (read_turn prefix next) = λ prefix. turn_reads prefix next all in
    search (numbers_read, later)

word_reads : (next : Then Body) → Goes next → Reader false (read_word next)
word_reads next all = search (numbers_read, all)

pub end_reads : {C : Type 0} (c : C) → Reader false (read_end c)
end_reads c = any_line (word_in _) (λ u. finish c) (word_own _) (λ u. finish_reads c)

-- The body of each form.
body_reads : (v : ℕ) (m : Mode) (a : Form) (next : Then Body) → Goes next → Reader false (read_body v m a next)
body_reads v m (form.Yes) next all =
    logs_read v m form.Yes next
    (λ firsts seconds. closed_reads v m (λ closed. next (yes_of firsts seconds closed)) (λ closed. all (yes_of firsts seconds closed)))
body_reads v (mode.Buchi) (form.No) next all = lasso_reads (λ lasso. next (body.NoLasso lasso)) (λ lasso. all (body.NoLasso lasso))
body_reads v (mode.Finite) (form.No) next all = word_reads next all
body_reads v m (form.List) next all =
    logs_read v m form.List next
    (λ firsts seconds. list_part_reads m (λ list_part. next (list_of firsts seconds list_part)) (λ list_part. all (list_of firsts seconds list_part)))

-- What follows a heading.
sizes_read : (h : _) → Reader false (read_sizes h)
sizes_read h =
    any_line sizes_in (read_rest h) sizes_own
    (λ sizes. body_reads h.version h.mode h.form (λ b. read_end (cert_of h.version h.mode sizes b))
    (λ b. end_reads (cert_of h.version h.mode sizes b)))

pub lines_read : Reader true read_lines
lines_read = line_reads true heading_in read_sizes heading_own (λ line h told. sizes_read h)
