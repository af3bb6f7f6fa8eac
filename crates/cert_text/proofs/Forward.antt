use Rattle.std.proofs.Common.{◌≡◌, refl, sym, ap, ◌∙◌, append_assoc, append-nil, eqb-true, nat_lt, decimal, ℕ, ◌+◌, List, [], ◌∷◌, ◌++◌, length, Bool, true, false, ◌&&◌, Ok, cond, ◌==◌}
use Rattle.auto_core.specs.declared.parts.Mode.{Mode}
use Rattle.auto_core.specs.declared.parts.Mode.TheVariants as mode
use Rattle.auto_core.specs.declared.parts.Lasso.{Lasso}
use Rattle.auto_core.specs.declared.parts.Origin.{Origin}
use Rattle.cert_value.specs.declared.keywords.Keyword.TheVariants as keyword
use Rattle.cert_line.specs.declared.shapes.Tail.TheVariants as tail
use Rattle.cert_value.specs.declared.types.Form.TheVariants as form
use Rattle.cert_value.specs.declared.types.Cert.{Cert}
use Rattle.cert_value.specs.declared.types.Body.{Body}
use Rattle.cert_value.specs.declared.types.Body.TheVariants as body
use Rattle.cert_value.specs.declared.types.FirstStep.{FirstStep}
use Rattle.cert_value.specs.declared.types.FirstStep.TheVariants as first
use Rattle.cert_value.specs.declared.types.SecondStep.{SecondStep}
use Rattle.cert_value.specs.declared.types.SecondStep.TheVariants as second
use Rattle.cert_value.specs.declared.types.Grounds.TheVariants as grounds
use Rattle.cert_value.specs.declared.types.RelBlock.{RelBlock}
use Rattle.cert_value.specs.declared.types.RankBlock.{RankBlock}
use Rattle.cert_value.specs.declared.types.Row.{Row}
use Rattle.cert_value.specs.declared.types.RankRow.{RankRow}
use Rattle.cert_value.specs.declared.types.Element.{Element}
use Rattle.cert_value.specs.declared.types.StepLine.{StepLine}
use Rattle.cert_text.specs.declared.parts.Closed.{Closed}
use Rattle.cert_text.specs.declared.parts.ListPart.{ListPart}
use Rattle.cert_line.specs.declared.lines.Sizes.{Sizes}
use Rattle.cert_line.specs.declared.lines.Heading.{Heading}
use Rattle.cert_line.specs.declared.heads.FirstHead.TheVariants as first_head
use Rattle.cert_line.specs.declared.heads.SecondHead.TheVariants as second_head
use Rattle.cert_line.specs.declared.heads.Way.{Way}
use Rattle.cert_line.specs.declared.heads.Way.TheVariants as way
use Rattle.cert_value.specs.Text.{Line, spelled, numbers, row_numbers, each, row_lines, block_lines, rank_row_lines, rank_block_lines, classes_line, first_step_lines, merge_lines, second_step_lines, origin_line, origin_lines, mark_tokens, element_lines, step_lines, first_lines, second_lines, elements_line, closed_lines, limit_lines, body_lines, form_of, first_line, sizes_line, end_line, cert_lines, gone_numbers, ranked_numbers}
use Rattle.cert_value.specs.declared.types.Grounds.{Grounds}
use Rattle.cert_value.specs.WellFormed.{is_version, are_letters, rank_key, blocks_due, is_live, has_some, is_short, are_short, ascend, is_row, are_rows, is_block, is_rank_row, are_rank_rows, is_rank_block, are_gone, are_classes, is_first_step, are_grounds, is_second_step, is_origin, is_element, is_step_of, are_steps, are_logs, is_lasso, is_body, has_text}
use Rattle.cert_line.specs.Lines.{Said, word_in, number_in, numbers_in, ascending_in, sizes_in, heading_in, row_in, rank_row_in, gone_by_in, first_head_in, second_head_in, origin_in, element_in, step_in}
use Rattle.cert_text.specs.Grammar.{On, Then, after, next_line, read_rows, read_block, read_rank_rows, read_rank_block, read_blocks, read_classes, read_first_rest, read_first_steps, read_grounds, read_second_rest, read_second_steps, read_elements, read_steps, read_origins, read_cover, read_all_elements, read_closed, read_all_origins, read_list_part, read_first_log, read_second_log, read_turn, read_lasso, yes_of, list_of, read_evidence, read_after_first, read_body, finish, cert_of, read_end, read_rest, read_sizes, read_lines}
use Rattle.std.specs.List.{list_all}
use Rattle.std.proofs.lemmas.Bool.{and_parts, and_from}
use Rattle.cert_line.proofs.PairLemmas.{some_cons}
use Rattle.cert_line.proofs.LineFacts.{word_fw, number_fw, numbers_fw, sorted_fw, sizes_fw, row_fw, rank_row_fw, gone_fw, step_fw, some_numbers}
use Rattle.cert_line.proofs.HeadFacts.{first_head_fw, way_tokens, is_way, second_head_fw}
use Rattle.cert_line.proofs.OriginFacts.{origin_fw, element_fw, heading_fw}

-- a whole line is read
pub line_fw : {C A : Type 0} (said : Line → Said A) (next : On C A) (line : Line) (a : A) (rest : List Line) → said line ≡ Ok a
    → has_some rest ≡ true → next_line said next (line ∷ rest) ≡ next a rest
line_fw said next line a [] e h = absurd (cc)
line_fw said next line a (other ∷ rest) e h = ap (λ s. after s next (line ∷ other ∷ rest) (other ∷ rest)) e

pub some_append : (ls rest : List Line) → has_some rest ≡ true → has_some (ls ++ rest) ≡ true
some_append [] rest h = h
some_append (l ∷ ls) rest h = some_cons l (ls ++ rest)

-- Rows.
pub rows_fw : {C : Type 0} (v : ℕ) (rows acc : List Row) (bound : ℕ) (next : On C (List Row)) (rest : List Line) → are_rows bound rows ≡ true → has_some rest ≡ true
    → read_rows v (length rows) bound acc next (each (row_lines v) rows ++ rest) ≡ next (acc ++ rows) rest
rows_fw v [] acc bound next rest e h = ap (λ x. next x rest) (sym (append-nil acc))
rows_fw v (row ∷ rows) acc bound next rest e h =
    let a = and_parts (is_row bound row) _ e in
    line_fw (row_in v bound) (λ row. read_rows v (length rows) (row.left + 1) (acc ++ row ∷ []) next)
    (spelled keyword.Row ∷ decimal row.left ∷ numbers (row_numbers v row.runs)) row (each (row_lines v) rows ++ rest) (row_fw v bound row a.0)
    (some_append (each (row_lines v) rows) rest h)
    ∙ rows_fw v rows (acc ++ row ∷ []) (row.left + 1) next rest a.1 h
    ∙ ap (λ x. next x rest) (append_assoc acc (row ∷ []) rows)

pub block_fw : {C : Type 0} (v : ℕ) (b : RelBlock) (next : On C RelBlock) (rest : List Line) → is_block b ≡ true → has_some rest ≡ true
    → read_block v next (block_lines v b ++ rest) ≡ next b rest
block_fw v b next rest e h =
    let a = and_parts (is_short (length b.rows)) _ e in
    line_fw (number_in keyword.Rel) (λ n. read_rows v n 0 [] (λ rows. next (record { rows = rows })))
    (spelled keyword.Rel ∷ decimal (length b.rows) ∷ []) (length b.rows) (each (row_lines v) b.rows ++ rest)
    (number_fw keyword.Rel (length b.rows) a.0) (some_append (each (row_lines v) b.rows) rest h)
    ∙ rows_fw v b.rows [] 0 (λ rows. next (record { rows = rows })) rest a.1 h

pub rank_rows_fw : {C : Type 0} (letters : ℕ) (rows acc : List RankRow) (key : List ℕ) (next : On C (List RankRow)) (rest : List Line)
    → are_rank_rows letters key rows ≡ true → has_some rest ≡ true
    → read_rank_rows letters (length rows) key acc next (each rank_row_lines rows ++ rest) ≡ next (acc ++ rows) rest
rank_rows_fw letters [] acc key next rest e h = ap (λ x. next x rest) (sym (append-nil acc))
rank_rows_fw letters (row ∷ rows) acc key next rest e h =
    let a = and_parts (is_rank_row letters key row) _ e in
    line_fw (rank_row_in letters key) (λ row. read_rank_rows letters (length rows) (rank_key row) (acc ++ row ∷ []) next)
    (spelled keyword.Row ∷ decimal row.left ∷ numbers (row.ahead ++ ranked_numbers row.rights)) row (each rank_row_lines rows ++ rest)
    (rank_row_fw letters key row a.0) (some_append (each rank_row_lines rows) rest h)
    ∙ rank_rows_fw letters rows (acc ++ row ∷ []) (rank_key row) next rest a.1 h
    ∙ ap (λ x. next x rest) (append_assoc acc (row ∷ []) rows)

pub rank_block_fw : {C : Type 0} (letters : ℕ) (b : RankBlock) (next : On C RankBlock) (rest : List Line) → is_rank_block letters b ≡ true → has_some rest ≡ true
    → read_rank_block letters next (rank_block_lines b ++ rest) ≡ next b rest
rank_block_fw letters b next rest e h =
    let a = and_parts (is_short (length b.rows)) _ e in
    line_fw (number_in keyword.Rel) (λ n. read_rank_rows letters n [] [] (λ rows. next (record { rows = rows })))
    (spelled keyword.Rel ∷ decimal (length b.rows) ∷ []) (length b.rows) (each rank_row_lines b.rows ++ rest)
    (number_fw keyword.Rel (length b.rows) a.0) (some_append (each rank_row_lines b.rows) rest h)
    ∙ rank_rows_fw letters b.rows [] [] (λ rows. next (record { rows = rows })) rest a.1 h

-- the lines of the first item stand before those of the others
pub each_cons : {A : Type 0} (f : A → List Line) (x : A) (xs : List A) (rest : List Line)
    → each f (x ∷ xs) ++ rest ≡ f x ++ (each f xs ++ rest)
each_cons f x xs rest = append_assoc (f x) (each f xs) rest

pub blocks_fw : {C : Type 0} (v : ℕ) (bs acc : List RelBlock) (next : On C (List RelBlock)) (rest : List Line) → list_all is_block bs ≡ true
    → has_some rest ≡ true → read_blocks v (length bs) acc next (each (block_lines v) bs ++ rest) ≡ next (acc ++ bs) rest
blocks_fw v [] acc next rest e h = ap (λ x. next x rest) (sym (append-nil acc))
blocks_fw v (b ∷ bs) acc next rest e h =
    let a = and_parts (is_block b) (list_all is_block bs) e in
    let k = λ (block : RelBlock). read_blocks v (length bs) (acc ++ block ∷ []) next in
    ap (λ ls. read_block v k ls) (each_cons (block_lines v) b bs rest)
    ∙ block_fw v b k (each (block_lines v) bs ++ rest) a.0 (some_append (each (block_lines v) bs) rest h)
    ∙ blocks_fw v bs (acc ++ b ∷ []) next rest a.1 h
    ∙ ap (λ x. next x rest) (append_assoc acc (b ∷ []) bs)

pub classes_fw : {C : Type 0} (classes : List ℕ) (next : On C (List ℕ)) (rest : List Line) → are_classes classes ≡ true → has_some rest ≡ true
    → read_classes next (classes_line classes ∷ rest) ≡ next classes rest
classes_fw classes next rest e h =
    let a = and_parts (are_short classes) (has_some classes) e in
    line_fw (numbers_in keyword.Classes tail.SomeNumbers) next (classes_line classes) classes rest
    (numbers_fw keyword.Classes tail.SomeNumbers classes a.0 (some_numbers classes a.1)) h

-- Steps of the first log.
pub first_step_fw : {C : Type 0} (v : ℕ) (s : FirstStep) (next : On C FirstStep) (rest : List Line) → is_first_step s ≡ true → has_some rest ≡ true
    → next_line first_head_in (λ head. read_first_rest v head next) (first_step_lines v s ++ rest) ≡ next s rest
first_step_fw v (first.Trim kept) next rest e h =
    line_fw first_head_in (λ head. read_first_rest v head next) (spelled keyword.Trim ∷ numbers kept) (first_head.Trim kept) rest
    (first_head_fw (first_head.Trim kept) e) h
first_step_fw v (first.Merge classes) next rest e h =
    line_fw first_head_in (λ head. read_first_rest v head next) (spelled keyword.Merge ∷ []) first_head.Merge (classes_line classes ∷ rest)
    (first_head_fw first_head.Merge refl) (some_cons (classes_line classes) rest)
    ∙ classes_fw classes (λ classes. next (first.Merge classes)) rest e h
first_step_fw v (first.Cut pair look gone blocks) next rest e h =
    let a = and_parts (nat_lt 0 (blocks_due pair)) _ e in
    let b = and_parts (is_short look) _ a.1 in
    let c = and_parts (are_gone gone) _ b.1 in
    let d = and_parts (length blocks == blocks_due pair) (list_all is_block blocks) c.1 in
    let gone_line = spelled keyword.Gone ∷ numbers (gone_numbers gone) in
    let k = λ (blocks : List RelBlock). next (first.Cut pair look gone blocks) in
    let due : length blocks ≡ blocks_due pair = eqb-true (length blocks) (blocks_due pair) d.0 in
    line_fw first_head_in (λ head. read_first_rest v head next) (spelled keyword.Cut ∷ decimal pair ∷ decimal look ∷ [])
    (first_head.Cut pair look) (gone_line ∷ (each (block_lines v) blocks ++ rest))
    (first_head_fw (first_head.Cut pair look) (and_from _ (is_short look) a.0 b.0)) (some_cons gone_line (each (block_lines v) blocks ++ rest))
    ∙ line_fw gone_by_in (λ gone. read_blocks v (blocks_due pair) [] (λ blocks. next (first.Cut pair look gone blocks))) gone_line gone
    (each (block_lines v) blocks ++ rest) (gone_fw gone c.0) (some_append (each (block_lines v) blocks) rest h)
    ∙ ap (λ n. read_blocks v n [] k (each (block_lines v) blocks ++ rest)) (sym due)
    ∙ blocks_fw v blocks [] k rest d.1 h

pub first_steps_fw : {C : Type 0} (v : ℕ) (ss acc : List FirstStep) (next : On C (List FirstStep)) (rest : List Line) → list_all is_first_step ss ≡ true
    → has_some rest ≡ true → read_first_steps v (length ss) acc next (each (first_step_lines v) ss ++ rest) ≡ next (acc ++ ss) rest
first_steps_fw v [] acc next rest e h = ap (λ x. next x rest) (sym (append-nil acc))
first_steps_fw v (s ∷ ss) acc next rest e h =
    let a = and_parts (is_first_step s) (list_all is_first_step ss) e in
    let k = λ (step : FirstStep). read_first_steps v (length ss) (acc ++ step ∷ []) next in
    ap (λ ls. next_line first_head_in (λ head. read_first_rest v head k) ls) (each_cons (first_step_lines v) s ss rest)
    ∙ first_step_fw v s k (each (first_step_lines v) ss ++ rest) a.0 (some_append (each (first_step_lines v) ss) rest h)
    ∙ first_steps_fw v ss (acc ++ s ∷ []) next rest a.1 h
    ∙ ap (λ x. next x rest) (append_assoc acc (s ∷ []) ss)

pub first_log_fw : {C : Type 0} (v : ℕ) (ss : List FirstStep) (next : On C (List FirstStep)) (rest : List Line) → is_short (length ss) ≡ true
    → list_all is_first_step ss ≡ true → has_some rest ≡ true → read_first_log v next (first_lines v ss ++ rest) ≡ next ss rest
first_log_fw v ss next rest s e h =
    line_fw (number_in keyword.Log1) (λ n. read_first_steps v n [] next) (spelled keyword.Log1 ∷ decimal (length ss) ∷ []) (length ss)
    (each (first_step_lines v) ss ++ rest) (number_fw keyword.Log1 (length ss) s) (some_append (each (first_step_lines v) ss) rest h)
    ∙ first_steps_fw v ss [] next rest e h

-- Steps of the second log.
merge_head_fw : {C : Type 0} (v : ℕ) (m : Mode) (by : Way) (classes : List ℕ) (next : On C SecondStep) (rest : List Line) → is_way v m by ≡ true
    → are_classes classes ≡ true → has_some rest ≡ true
    → next_line (second_head_in v m) (λ head. read_second_rest v head next) ((spelled keyword.Merge ∷ way_tokens v by) ∷ classes_line classes ∷ rest)
    ≡ read_grounds v by classes next rest
merge_head_fw v m by classes next rest w e h =
    line_fw (second_head_in v m) (λ head. read_second_rest v head next) (spelled keyword.Merge ∷ way_tokens v by) (second_head.Merge by)
    (classes_line classes ∷ rest) (second_head_fw v m (second_head.Merge by) w) (some_cons (classes_line classes) rest)
    ∙ classes_fw classes (λ classes. read_grounds v by classes next) rest e h

merge_fw : {C : Type 0} (v : ℕ) (m : Mode) (by : Grounds) (classes : List ℕ) (next : On C SecondStep) (rest : List Line) → are_classes classes ≡ true
    → are_grounds v m by ≡ true → has_some rest ≡ true
    → next_line (second_head_in v m) (λ head. read_second_rest v head next) (merge_lines v by classes ++ rest) ≡ next (second.Merge by classes) rest
merge_fw v m (grounds.Forward look rel) classes next rest e g h =
    let a = and_parts (is_short look) (is_block rel) g in
    merge_head_fw v m (way.Forward look) classes next (block_lines v rel ++ rest) a.0 e (some_append (block_lines v rel) rest h)
    ∙ block_fw v rel (λ rel. next (second.Merge (grounds.Forward look rel) classes)) rest a.1 h
merge_fw v m (grounds.Backward look rel) classes next rest e g h =
    let a = and_parts (is_short look) (is_block rel) g in
    merge_head_fw v m (way.Backward look) classes next (block_lines v rel ++ rest) a.0 e (some_append (block_lines v rel) rest h)
    ∙ block_fw v rel (λ rel. next (second.Merge (grounds.Backward look rel) classes)) rest a.1 h
merge_fw v (mode.Buchi) (grounds.Delayed letters ranks) classes next rest e g h =
    let a = and_parts (are_letters v letters) (is_rank_block letters ranks) g in
    merge_head_fw v mode.Buchi (way.Delayed letters) classes next (rank_block_lines ranks ++ rest) a.0 e
    (some_append (rank_block_lines ranks) rest h)
    ∙ rank_block_fw letters ranks (λ ranks. next (second.Merge (grounds.Delayed letters ranks) classes)) rest a.1 h
merge_fw v (mode.Finite) (grounds.Delayed letters ranks) classes next rest e g h = absurd (cc)

pub second_step_fw : {C : Type 0} (v : ℕ) (m : Mode) (s : SecondStep) (next : On C SecondStep) (rest : List Line) → is_second_step v m s ≡ true → has_some rest ≡ true
    → next_line (second_head_in v m) (λ head. read_second_rest v head next) (second_step_lines v s ++ rest) ≡ next s rest
second_step_fw v m (second.Trim kept) next rest e h =
    line_fw (second_head_in v m) (λ head. read_second_rest v head next) (spelled keyword.Trim ∷ numbers kept) (second_head.Trim kept) rest
    (second_head_fw v m (second_head.Trim kept) e) h
second_step_fw v m (second.Merge by classes) next rest e h =
    let a = and_parts (are_classes classes) (are_grounds v m by) e in
    merge_fw v m by classes next rest a.0 a.1 h
second_step_fw v m (second.Cut gone) next rest e h =
    let a = and_parts (are_short gone) _ e in
    let b = and_parts (has_some gone) (ascend gone) a.1 in
    let gone_line = spelled keyword.Gone ∷ numbers gone in
    line_fw (second_head_in v m) (λ head. read_second_rest v head next) (spelled keyword.Cut ∷ []) second_head.Cut (gone_line ∷ rest)
    (second_head_fw v m second_head.Cut refl) (some_cons gone_line rest)
    ∙ line_fw (ascending_in keyword.Gone tail.SomeNumbers) (λ gone. next (second.Cut gone)) gone_line gone rest
    (sorted_fw keyword.Gone tail.SomeNumbers (λ ns. ns) gone a.0 b.1 (some_numbers gone b.0)) h

pub second_steps_fw : {C : Type 0} (v : ℕ) (m : Mode) (ss acc : List SecondStep) (next : On C (List SecondStep)) (rest : List Line) → list_all (is_second_step v m) ss ≡ true
    → has_some rest ≡ true → read_second_steps v m (length ss) acc next (each (second_step_lines v) ss ++ rest) ≡ next (acc ++ ss) rest
second_steps_fw v m [] acc next rest e h = ap (λ x. next x rest) (sym (append-nil acc))
second_steps_fw v m (s ∷ ss) acc next rest e h =
    let a = and_parts (is_second_step v m s) (list_all (is_second_step v m) ss) e in
    let k = λ (step : SecondStep). read_second_steps v m (length ss) (acc ++ step ∷ []) next in
    ap (λ ls. next_line (second_head_in v m) (λ head. read_second_rest v head k) ls) (each_cons (second_step_lines v) s ss rest)
    ∙ second_step_fw v m s k (each (second_step_lines v) ss ++ rest) a.0 (some_append (each (second_step_lines v) ss) rest h)
    ∙ second_steps_fw v m ss (acc ++ s ∷ []) next rest a.1 h
    ∙ ap (λ x. next x rest) (append_assoc acc (s ∷ []) ss)

pub second_log_fw : {C : Type 0} (v : ℕ) (m : Mode) (ss : List SecondStep) (next : On C (List SecondStep)) (rest : List Line) → is_short (length ss) ≡ true
    → list_all (is_second_step v m) ss ≡ true → has_some rest ≡ true → read_second_log v m next (second_lines v ss ++ rest) ≡ next ss rest
second_log_fw v m ss next rest s e h =
    line_fw (number_in keyword.Log2) (λ n. read_second_steps v m n [] next) (spelled keyword.Log2 ∷ decimal (length ss) ∷ []) (length ss)
    (each (second_step_lines v) ss ++ rest) (number_fw keyword.Log2 (length ss) s) (some_append (each (second_step_lines v) ss) rest h)
    ∙ second_steps_fw v m ss [] next rest e h

-- Elements.
pub elements_fw : {C : Type 0} (m : Mode) (es acc : List Element) (next : On C (List Element)) (rest : List Line) → list_all (is_element m) es ≡ true
    → has_some rest ≡ true → read_elements m (length es) acc next (each element_lines es ++ rest) ≡ next (acc ++ es) rest
elements_fw m [] acc next rest e h = ap (λ x. next x rest) (sym (append-nil acc))
elements_fw m (x ∷ xs) acc next rest e h =
    let a = and_parts (is_element m x) (list_all (is_element m) xs) e in
    line_fw (element_in m) (λ e. read_elements m (length xs) (acc ++ e ∷ []) next) (mark_tokens x.mark ++ origin_line x.origin) x
    (each element_lines xs ++ rest) (element_fw m x a.0) (some_append (each element_lines xs) rest h)
    ∙ elements_fw m xs (acc ++ x ∷ []) next rest a.1 h
    ∙ ap (λ y. next y rest) (append_assoc acc (x ∷ []) xs)

pub origins_fw : (m : Mode) (es acc : List Origin) (next : Then (List Origin)) (rest : List Line) → list_all (is_origin m) es ≡ true
    → has_some rest ≡ true → read_origins m (length es) acc next (each origin_lines es ++ rest) ≡ next (acc ++ es) rest
origins_fw m [] acc next rest e h = ap (λ x. next x rest) (sym (append-nil acc))
origins_fw m (x ∷ xs) acc next rest e h =
    let a = and_parts (is_origin m x) (list_all (is_origin m) xs) e in
    line_fw (origin_in m) (λ e. read_origins m (length xs) (acc ++ e ∷ []) next) (origin_line x) x
    (each origin_lines xs ++ rest) (origin_fw m x a.0) (some_append (each origin_lines xs) rest h)
    ∙ origins_fw m xs (acc ++ x ∷ []) next rest a.1 h
    ∙ ap (λ y. next y rest) (append_assoc acc (x ∷ []) xs)

-- The lines of live elements.
abbrev pub StepsHold : {C : Type 0} → ℕ → List Element → On C (List StepLine) → List Line → Type 0
StepsHold n es next rest =
    (ss acc : List StepLine) → are_steps n es ss ≡ true
    → read_steps n es acc next (each step_lines ss ++ rest) ≡ next (acc ++ ss) rest

none_case : {C : Type 0} (b : Bool) (n : ℕ) (es : List Element) (acc : List StepLine) (next : On C (List StepLine)) (rest : List Line)
    → StepsHold (n + 1) es next rest → cond b false (are_steps (n + 1) es []) ≡ true
    → cond b (next_line (step_in n) (λ step. read_steps (n + 1) es (acc ++ step ∷ []) next) rest) (read_steps (n + 1) es acc next rest)
    ≡ next (acc ++ []) rest
none_case true n es acc next rest k e = absurd (cc)
none_case false n es acc next rest k e = k [] acc e

some_case : {C : Type 0} (b : Bool) (n : ℕ) (es : List Element) (s : StepLine) (ss acc : List StepLine) (next : On C (List StepLine)) (rest : List Line)
    → StepsHold (n + 1) es next rest → has_some rest ≡ true
    → cond b (is_step_of n s && are_steps (n + 1) es ss) (are_steps (n + 1) es (s ∷ ss)) ≡ true
    → cond b (next_line (step_in n) (λ step. read_steps (n + 1) es (acc ++ step ∷ []) next) (each step_lines (s ∷ ss) ++ rest))
    (read_steps (n + 1) es acc next (each step_lines (s ∷ ss) ++ rest))
    ≡ next (acc ++ s ∷ ss) rest
some_case true n es s ss acc next rest k h e =
    let a = and_parts (is_step_of n s) (are_steps (n + 1) es ss) e in
    line_fw (step_in n) (λ step. read_steps (n + 1) es (acc ++ step ∷ []) next) (spelled keyword.Step ∷ decimal s.element ∷ numbers s.by) s
    (each step_lines ss ++ rest) (step_fw n s a.0) (some_append (each step_lines ss) rest h)
    ∙ k ss (acc ++ s ∷ []) a.1
    ∙ ap (λ y. next y rest) (append_assoc acc (s ∷ []) ss)
some_case false n es s ss acc next rest k h e = k (s ∷ ss) acc e

pub steps_fw : {C : Type 0} (n : ℕ) (es : List Element) (next : On C (List StepLine)) (rest : List Line) → has_some rest ≡ true → StepsHold n es next rest
steps_fw n [] next rest h [] acc e = ap (λ x. next x rest) (sym (append-nil acc))
steps_fw n [] next rest h (s ∷ ss) acc e = absurd (cc)
steps_fw n (x ∷ xs) next rest h [] acc e = none_case (is_live x.mark) n xs acc next rest (steps_fw (n + 1) xs next rest h) e
steps_fw n (x ∷ xs) next rest h (s ∷ ss) acc e = some_case (is_live x.mark) n xs s ss acc next rest (steps_fw (n + 1) xs next rest h) h e

-- What a yes has after its logs.
pub closed_fw : {C : Type 0} (v : ℕ) (m : Mode) (order : RelBlock) (es : List Element) (cover : List ℕ) (ss : List StepLine) (next : On C Closed) (rest : List Line)
    → is_block order ≡ true → is_short (length es) ≡ true → list_all (is_element m) es ≡ true → are_short cover ≡ true → are_steps 0 es ss ≡ true
    → has_some rest ≡ true
    → read_closed v m next (block_lines v order ++ (closed_lines es cover ss ++ rest))
    ≡ next (record { order = order; elements = es; cover = cover; steps = ss }) rest
closed_fw v m order es cover ss next rest a b c d e h =
    let cover_line = spelled keyword.Cover ∷ numbers cover in
    let after_cover = each step_lines ss ++ rest in
    let after_elements = cover_line ∷ after_cover in
    let some_steps = some_append (each step_lines ss) rest h in
    let some_elements = some_cons cover_line after_cover in
    block_fw v order (λ order. read_all_elements m order next) (closed_lines es cover ss ++ rest) a
    (some_cons (elements_line (length es)) ((each element_lines es ++ (cover_line ∷ each step_lines ss)) ++ rest))
    ∙ ap (λ ls. read_all_elements m order next (elements_line (length es) ∷ ls))
    (append_assoc (each element_lines es) (cover_line ∷ each step_lines ss) rest)
    ∙ line_fw (number_in keyword.Elements) (λ n. read_elements m n [] (λ elements. read_cover order elements next))
    (elements_line (length es)) (length es) (each element_lines es ++ after_elements) (number_fw keyword.Elements (length es) b)
    (some_append (each element_lines es) after_elements some_elements)
    ∙ elements_fw m es [] (λ elements. read_cover order elements next) after_elements c some_elements
    ∙ line_fw (numbers_in keyword.Cover tail.Numbers)
    (λ cover. read_steps 0 es [] (λ steps. next (record { order = order; elements = es; cover = cover; steps = steps })))
    cover_line cover after_cover (numbers_fw keyword.Cover tail.Numbers cover d refl) some_steps
    ∙ steps_fw 0 es (λ steps. next (record { order = order; elements = es; cover = cover; steps = steps })) rest h ss [] e

-- What a list has after its logs.
pub list_part_fw : (m : Mode) (limit : ℕ) (es : List Origin) (next : Then ListPart) (rest : List Line)
    → is_short limit ≡ true → is_short (length es) ≡ true → list_all (is_origin m) es ≡ true → has_some rest ≡ true
    → read_list_part m next (limit_lines limit es ++ rest) ≡ next (record { limit = limit; elements = es }) rest
list_part_fw m limit es next rest a b c h =
    let after = each origin_lines es ++ rest in
    line_fw (number_in keyword.Limit) (λ limit. read_all_origins m limit next) (spelled keyword.Limit ∷ decimal limit ∷ []) limit
    (elements_line (length es) ∷ after) (number_fw keyword.Limit limit a) (some_cons (elements_line (length es)) after)
    ∙ line_fw (number_in keyword.Elements) (λ n. read_origins m n [] (λ elements. next (record { limit = limit; elements = elements })))
    (elements_line (length es)) (length es) after (number_fw keyword.Elements (length es) b) (some_append (each origin_lines es) rest h)
    ∙ origins_fw m es [] (λ elements. next (record { limit = limit; elements = elements })) rest c h

-- A lasso.
pub lasso_fw : {C : Type 0} (lasso : Lasso) (next : On C Lasso) (rest : List Line) → is_lasso lasso ≡ true → has_some rest ≡ true
    → read_lasso next ((spelled keyword.Prefix ∷ numbers lasso.prefix) ∷ (spelled keyword.Loop ∷ numbers lasso.turn) ∷ rest) ≡ next lasso rest
lasso_fw lasso next rest e h =
    let a = and_parts (are_short lasso.prefix) _ e in
    let b = and_parts (are_short lasso.turn) (has_some lasso.turn) a.1 in
    let turn_line = spelled keyword.Loop ∷ numbers lasso.turn in
    line_fw (numbers_in keyword.Prefix tail.Numbers) (λ prefix. read_turn prefix next) (spelled keyword.Prefix ∷ numbers lasso.prefix) lasso.prefix
    (turn_line ∷ rest) (numbers_fw keyword.Prefix tail.Numbers lasso.prefix a.0 refl) (some_cons turn_line rest)
    ∙ line_fw (numbers_in keyword.Loop tail.SomeNumbers) (λ turn. next (record { prefix = lasso.prefix; turn = turn })) turn_line
    lasso.turn rest (numbers_fw keyword.Loop tail.SomeNumbers lasso.turn b.0 (some_numbers lasso.turn b.1)) h

-- The body.
pub body_fw : (v : ℕ) (m : Mode) (b : Body) (next : Then Body) (rest : List Line) → is_body v m b ≡ true → has_some rest ≡ true
    → read_body v m (form_of b) next (body_lines v b ++ rest) ≡ next b rest
body_fw v m (body.Yes y) next rest e h =
    let a = and_parts (are_logs v m y.first y.second) _ e in
    let l = and_parts (is_short (length y.first)) _ a.0 in
    let l1 = and_parts (list_all is_first_step y.first) _ l.1 in
    let l2 = and_parts (is_short (length y.second)) _ l1.1 in
    let b = and_parts (is_block y.order) _ a.1 in
    let c = and_parts (is_short (length y.elements)) _ b.1 in
    let d = and_parts (list_all (is_element m) y.elements) _ c.1 in
    let f = and_parts (are_short y.cover) _ d.1 in
    let closed = closed_lines y.elements y.cover y.steps in
    let B = second_lines v y.second in
    let C = block_lines v y.order in
    let after_second = C ++ (closed ++ rest) in
    let some2 = some_append C (closed ++ rest) (some_append closed rest h) in
    let after_first = B ++ after_second in
    let k = λ (firsts : List FirstStep). read_after_first v m form.Yes firsts next in
    let k2 = λ (seconds : List SecondStep). read_evidence v m form.Yes y.first seconds next in
    ap (λ ls. read_first_log v k ls)
    (append_assoc (first_lines v y.first) (B ++ (C ++ closed)) rest
    ∙ ap (λ ls. first_lines v y.first ++ ls) (append_assoc B (C ++ closed) rest ∙ ap (λ ls. B ++ ls) (append_assoc C closed rest)))
    ∙ first_log_fw v y.first k after_first l.0 l1.0 (some_append B after_second some2)
    ∙ second_log_fw v m y.second k2 after_second l2.0 l2.1 some2
    ∙ closed_fw v m y.order y.elements y.cover y.steps (λ closed. next (yes_of y.first y.second closed)) rest b.0 c.0 d.0 f.0 f.1 h
body_fw v (mode.Buchi) (body.NoLasso lasso) next rest e h =
    lasso_fw lasso (λ l. next (body.NoLasso l)) rest e h
body_fw v (mode.Finite) (body.NoLasso lasso) next rest e h = absurd (cc)
body_fw v (mode.Buchi) (body.NoWord word) next rest e h = absurd (cc)
body_fw v (mode.Finite) (body.NoWord word) next rest e h =
    line_fw (numbers_in keyword.Word tail.Numbers) (λ word. next (body.NoWord word)) (spelled keyword.Word ∷ numbers word) word rest
    (numbers_fw keyword.Word tail.Numbers word e refl) h
body_fw v m (body.Listing list) next rest e h =
    let a = and_parts (are_logs v m list.first list.second) _ e in
    let l = and_parts (is_short (length list.first)) _ a.0 in
    let l1 = and_parts (list_all is_first_step list.first) _ l.1 in
    let l2 = and_parts (is_short (length list.second)) _ l1.1 in
    let b = and_parts (is_short list.limit) _ a.1 in
    let c = and_parts (is_short (length list.elements)) _ b.1 in
    let B = second_lines v list.second in
    let C = limit_lines list.limit list.elements in
    let some2 = some_append C rest h in
    let k = λ (firsts : List FirstStep). read_after_first v m form.List firsts next in
    let k2 = λ (seconds : List SecondStep). read_evidence v m form.List list.first seconds next in
    ap (λ ls. read_first_log v k ls)
    (append_assoc (first_lines v list.first) (B ++ C) rest ∙ ap (λ ls. first_lines v list.first ++ ls) (append_assoc B C rest))
    ∙ first_log_fw v list.first k (B ++ (C ++ rest)) l.0 l1.0 (some_append B (C ++ rest) some2)
    ∙ second_log_fw v m list.second k2 (C ++ rest) l2.0 l2.1 some2
    ∙ list_part_fw m list.limit list.elements (λ list_part. next (list_of list.first list.second list_part)) rest b.0 c.0 c.1 h

-- the lines of a certificate are read as it, whatever follows
pub cert_fw : (c : Cert) (rest : List Line) → has_text c ≡ true → has_some rest ≡ true → read_lines (cert_lines c ++ rest) ≡ finish c rest
cert_fw c rest e h =
    let v = c.version in
    let w = and_parts (is_version v) _ e in
    let a = and_parts (is_short c.first_states) _ w.1 in
    let b = and_parts (is_short c.second_states) _ a.1 in
    let d = and_parts (is_short c.labels) _ b.1 in
    let heading : Heading = record { version = v; mode = c.mode; form = form_of c.body } in
    let sizes : Sizes = record { first_states = c.first_states; second_states = c.second_states; labels = c.labels } in
    let the_end = end_line ∷ rest in
    let k = λ (b : Body). read_end (cert_of v c.mode sizes b) in
    let B = body_lines v c.body in
    let s = sizes_line c.first_states c.second_states c.labels in
    line_fw heading_in read_sizes (first_line v c.mode (form_of c.body)) heading (s ∷ ((B ++ end_line ∷ []) ++ rest))
    (heading_fw v c.mode (form_of c.body) w.0) (some_cons s ((B ++ end_line ∷ []) ++ rest))
    ∙ ap (λ ls. read_sizes heading (s ∷ ls)) (append_assoc B (end_line ∷ []) rest)
    ∙ line_fw sizes_in (read_rest heading) s sizes (B ++ the_end) (sizes_fw c.first_states c.second_states c.labels a.0 b.0 d.0)
    (some_append B the_end (some_cons end_line rest))
    ∙ body_fw v c.mode c.body k the_end d.1 (some_cons end_line rest)
    ∙ line_fw (word_in keyword.End) (λ u. finish c) end_line tt rest (word_fw keyword.End) h
