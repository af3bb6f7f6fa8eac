use Rattle.std.proofs.Common.{◌≡◌, refl, sym, ap, subst, ◌∙◌, append_assoc, append-nil, eq-eqb, ⊎_elim, nat_lt, decimal, ℕ, zero, suc, ◌+◌, List, [], ◌∷◌, ◌++◌, length, Bool, true, false, ◌&&◌, Ok, Err, cond, ◌==◌}
use Rattle.auto_core.specs.declared.parts.Mode.{Mode}
use Rattle.auto_core.specs.declared.parts.Mode.TheVariants as mode
use Rattle.auto_core.specs.declared.parts.Lasso.{Lasso}
use Rattle.auto_core.specs.declared.parts.Origin.{Origin}
use Rattle.cert_value.specs.declared.keywords.Keyword.TheVariants as keyword
use Rattle.cert_line.specs.declared.shapes.Tail.TheVariants as tail
use Rattle.cert_line.specs.declared.faults.TextKind.{TextKind}
use Rattle.cert_line.specs.declared.faults.TextKind.TheVariants.{Trailing}
use Rattle.cert_value.specs.declared.types.Form.{Form}
use Rattle.cert_value.specs.declared.types.Form.TheVariants as form
use Rattle.cert_value.specs.declared.types.Cert.{Cert}
use Rattle.cert_value.specs.declared.types.Body.{Body}
use Rattle.cert_value.specs.declared.types.Body.TheVariants as body
use Rattle.cert_value.specs.declared.types.FirstStep.{FirstStep}
use Rattle.cert_value.specs.declared.types.FirstStep.TheVariants as first
use Rattle.cert_value.specs.declared.types.SecondStep.{SecondStep}
use Rattle.cert_value.specs.declared.types.SecondStep.TheVariants as second
use Rattle.cert_value.specs.declared.types.Grounds.TheVariants as grounds
use Rattle.cert_value.specs.declared.types.RelBlock.{RelBlock}
use Rattle.cert_value.specs.declared.types.RankBlock.{RankBlock}
use Rattle.cert_value.specs.declared.types.Row.{Row}
use Rattle.cert_value.specs.declared.types.RankRow.{RankRow}
use Rattle.cert_value.specs.declared.types.Element.{Element}
use Rattle.cert_value.specs.declared.types.StepLine.{StepLine}
use Rattle.cert_text.specs.declared.parts.Closed.{Closed}
use Rattle.cert_text.specs.declared.parts.ListPart.{ListPart}
use Rattle.cert_line.specs.declared.heads.FirstHead.{FirstHead}
use Rattle.cert_line.specs.declared.heads.FirstHead.TheVariants as first_head
use Rattle.cert_line.specs.declared.heads.SecondHead.{SecondHead}
use Rattle.cert_line.specs.declared.heads.SecondHead.TheVariants as second_head
use Rattle.cert_line.specs.declared.heads.Way.{Way}
use Rattle.cert_line.specs.declared.heads.Way.TheVariants as way
use Rattle.cert_value.specs.Text.{Line, spelled, numbers, letters_tokens, each, row_lines, block_lines, rank_row_lines, rank_block_lines, classes_line, first_step_lines, second_step_lines, mark_tokens, origin_line, origin_lines, element_lines, step_lines, first_lines, second_lines, elements_line, closed_lines, limit_lines, body_lines, form_of, first_line, sizes_line, end_line, cert_lines, gone_numbers}
use Rattle.cert_value.specs.declared.types.GoneBy.{GoneBy}
use Rattle.cert_value.specs.WellFormed.{is_version, are_letters, rank_key, blocks_due, is_live, has_some, is_short, are_short, ascend, is_row, are_rows, is_block, is_rank_row, are_rank_rows, is_rank_block, are_gone, are_classes, is_first_step, is_second_step, is_origin, is_element, is_step_of, are_steps, are_logs, is_lasso, is_body, has_text}
use Rattle.cert_line.specs.Lines.{Said, word_in, number_in, numbers_in, ascending_in, sizes_in, heading_in, row_in, rank_row_in, gone_by_in, first_head_in, second_head_in, origin_in, element_in, step_in}
use Rattle.cert_text.specs.Grammar.{On, Read, Stopped, LinesOutcome, Then, after, next_line, read_rows, read_block, read_rank_rows, read_rank_block, read_blocks, read_classes, read_first_rest, read_first_steps, read_grounds, read_second_rest, read_second_steps, read_elements, read_steps, read_origins, read_cover, read_all_elements, read_closed, read_all_origins, read_list_part, read_first_log, read_second_log, read_turn, read_lasso, read_word, yes_of, list_of, read_evidence, read_after_first, read_logs, read_body, is_bare, finish, cert_of, read_end, read_rest, read_sizes, read_lines}
use Rattle.std.specs.List.{list_all}
use Rattle.std.proofs.lemmas.Bool.{and_parts, and_from, cond-true, cond-false, cases_Bool}
use Rattle.cert_line.proofs.LineFacts.{word_bw, number_bw, numbers_bw, sorted_bw, sizes_bw, row_bw, rank_row_bw, gone_bw, step_bw, numbers_some}
use Rattle.cert_line.proofs.HeadFacts.{first_head_line, is_first_head, first_head_bw, way_tokens, second_head_line, is_way, is_second_head, second_head_bw}
use Rattle.cert_line.proofs.OriginFacts.{origin_bw, element_bw, heading_bw}

-- What is taken off the lines before the rest is read to its end.
pub record Took {C A : Type 0} (Fine : A → Type 0) (lines_of : A → List Line) (next : On C A) (ls : List Line) (c : C) : Type 0 where
  pub item : A
  pub rest : List Line
  pub fine : Fine item
  pub cut : ls ≡ lines_of item ++ rest
  pub on : next item rest ≡ Read c

-- A line that was read.
pub record TookLine {C A : Type 0} (said : Line → Said A) (next : On C A) (ls : List Line) (c : C) : Type 0 where
  pub item : A
  pub line : Line
  pub rest : List Line
  pub cut : ls ≡ line ∷ rest
  pub told : said line ≡ Ok item
  pub on : next item rest ≡ Read c

after_bw : {C A : Type 0} (s : Said A) (next : On C A) (here rest : List Line) (c : C) → after s next here rest ≡ Read c
    → (a : A) × (s ≡ Ok a) × (next a rest ≡ Read c)
after_bw (Ok a) next here rest c e = (a, refl, e)
after_bw (Err fault) next here rest c e = absurd (cc)

pub line_bw : {C A : Type 0} (said : Line → Said A) (next : On C A) (ls : List Line) (c : C) → next_line said next ls ≡ Read c
    → TookLine said next ls c
line_bw said next [] c e = absurd (cc)
line_bw said next (piece ∷ []) c e = absurd (cc)
line_bw said next (line ∷ other ∷ rest) c e =
    let p = after_bw (said line) next (line ∷ other ∷ rest) (other ∷ rest) c e in
    record { item = p.0; line = line; rest = other ∷ rest; cut = refl; told = p.1; on = p.2 }

-- one item more before those that follow
pub cut_cons : {A : Type 0} (f : A → List Line) (x : A) (xs : List A) (ls after rest : List Line)
    → ls ≡ f x ++ after → after ≡ each f xs ++ rest → ls ≡ each f (x ∷ xs) ++ rest
cut_cons f x xs ls after rest p q = p ∙ ap (λ y. f x ++ y) q ∙ sym (append_assoc (f x) (each f xs) rest)

-- Rows.
abbrev pub AreRows : ℕ → ℕ → List Row → Type 0
AreRows n bound rows = (length rows ≡ n) × (are_rows bound rows ≡ true)

pub rows_bw : {C : Type 0} (v : ℕ) (n bound : ℕ) (acc : List Row) (next : On C (List Row)) (ls : List Line) (c : C) → read_rows v n bound acc next ls ≡ Read c
    → Took (AreRows n bound) (λ rows. each (row_lines v) rows) (λ rows rest. next (acc ++ rows) rest) ls c
rows_bw v zero bound acc next ls c e =
    record { item = []; rest = ls; fine = (refl, refl); cut = refl; on = ap (λ x. next x ls) (append-nil acc) ∙ e }
rows_bw v (suc n) bound acc next ls c e =
    let l = line_bw (row_in v bound) (λ row. read_rows v n (row.left + 1) (acc ++ row ∷ []) next) ls c e in
    let f = row_bw v bound l.line l.item l.told in
    let t = rows_bw v n (l.item.left + 1) (acc ++ l.item ∷ []) next l.rest c l.on in
    record {
      item = l.item ∷ t.item;
      rest = t.rest;
      fine = (ap suc t.fine.0, and_from (is_row bound l.item) _ f.0 t.fine.1);
      cut = cut_cons (row_lines v) l.item t.item ls l.rest t.rest (l.cut ∙ ap (λ x. x ∷ l.rest) f.1) t.cut;
      on = ap (λ x. next x t.rest) (sym (append_assoc acc (l.item ∷ []) t.item)) ∙ t.on;
    }

abbrev pub IsBlock : RelBlock → Type 0
IsBlock b = is_block b ≡ true

pub block_bw : {C : Type 0} (v : ℕ) (next : On C RelBlock) (ls : List Line) (c : C) → read_block v next ls ≡ Read c → Took IsBlock (block_lines v) next ls c
block_bw v next ls c e =
    let l = line_bw (number_in keyword.Rel) (λ n. read_rows v n 0 [] (λ rows. next (record { rows = rows }))) ls c e in
    let f = number_bw keyword.Rel l.line l.item l.told in
    let t = rows_bw v l.item 0 [] (λ rows. next (record { rows = rows })) l.rest c l.on in
    let head : spelled keyword.Rel ∷ decimal l.item ∷ [] ≡ spelled keyword.Rel ∷ decimal (length t.item) ∷ [] =
    ap (λ n. spelled keyword.Rel ∷ decimal n ∷ []) (sym t.fine.0) in
    record {
      item = record { rows = t.item };
      rest = t.rest;
      fine = and_from (is_short (length t.item)) _ (ap is_short t.fine.0 ∙ f.0) t.fine.1;
      cut = l.cut ∙ ap (λ x. x ∷ l.rest) (f.1 ∙ head) ∙ ap (λ y. (spelled keyword.Rel ∷ decimal (length t.item) ∷ []) ∷ y) t.cut;
      on = t.on;
    }

abbrev pub AreRankRows : ℕ → ℕ → List ℕ → List RankRow → Type 0
AreRankRows letters n key rows = (length rows ≡ n) × (are_rank_rows letters key rows ≡ true)

pub rank_rows_bw : {C : Type 0} (letters n : ℕ) (key : List ℕ) (acc : List RankRow) (next : On C (List RankRow)) (ls : List Line) (c : C)
    → read_rank_rows letters n key acc next ls ≡ Read c
    → Took (AreRankRows letters n key) (λ rows. each rank_row_lines rows) (λ rows rest. next (acc ++ rows) rest) ls c
rank_rows_bw letters zero key acc next ls c e =
    record { item = []; rest = ls; fine = (refl, refl); cut = refl; on = ap (λ x. next x ls) (append-nil acc) ∙ e }
rank_rows_bw letters (suc n) key acc next ls c e =
    let l = line_bw (rank_row_in letters key) (λ row. read_rank_rows letters n (rank_key row) (acc ++ row ∷ []) next) ls c e in
    let f = rank_row_bw letters key l.line l.item l.told in
    let t = rank_rows_bw letters n (rank_key l.item) (acc ++ l.item ∷ []) next l.rest c l.on in
    record {
      item = l.item ∷ t.item;
      rest = t.rest;
      fine = (ap suc t.fine.0, and_from (is_rank_row letters key l.item) _ f.0 t.fine.1);
      cut = cut_cons rank_row_lines l.item t.item ls l.rest t.rest (l.cut ∙ ap (λ x. x ∷ l.rest) f.1) t.cut;
      on = ap (λ x. next x t.rest) (sym (append_assoc acc (l.item ∷ []) t.item)) ∙ t.on;
    }

abbrev pub IsRankBlock : ℕ → RankBlock → Type 0
IsRankBlock letters b = is_rank_block letters b ≡ true

pub rank_block_bw : {C : Type 0} (letters : ℕ) (next : On C RankBlock) (ls : List Line) (c : C) → read_rank_block letters next ls ≡ Read c
    → Took (IsRankBlock letters) rank_block_lines next ls c
rank_block_bw letters next ls c e =
    let l = line_bw (number_in keyword.Rel) (λ n. read_rank_rows letters n [] [] (λ rows. next (record { rows = rows }))) ls c e in
    let f = number_bw keyword.Rel l.line l.item l.told in
    let t = rank_rows_bw letters l.item [] [] (λ rows. next (record { rows = rows })) l.rest c l.on in
    let head : spelled keyword.Rel ∷ decimal l.item ∷ [] ≡ spelled keyword.Rel ∷ decimal (length t.item) ∷ [] =
    ap (λ n. spelled keyword.Rel ∷ decimal n ∷ []) (sym t.fine.0) in
    record {
      item = record { rows = t.item };
      rest = t.rest;
      fine = and_from (is_short (length t.item)) _ (ap is_short t.fine.0 ∙ f.0) t.fine.1;
      cut = l.cut ∙ ap (λ x. x ∷ l.rest) (f.1 ∙ head) ∙ ap (λ y. (spelled keyword.Rel ∷ decimal (length t.item) ∷ []) ∷ y) t.cut;
      on = t.on;
    }

-- That many items, each of them taken off by `one`, when `read` does that for one after the other.
many_bw : {C A : Type 0} (is : A → Bool) (lines : A → List Line) (one : On C A → List Line → LinesOutcome C)
    → ((next : On C A) (ls : List Line) (c : C) → one next ls ≡ Read c → Took (λ x. is x ≡ true) lines next ls c)
    → (read : ℕ → List A → On C (List A) → List Line → LinesOutcome C)
    → ((acc : List A) (next : On C (List A)) (ls : List Line) → read zero acc next ls ≡ next acc ls)
    → ((n : ℕ) (acc : List A) (next : On C (List A)) (ls : List Line) → read (suc n) acc next ls ≡ one (λ x. read n (acc ++ x ∷ []) next) ls)
    → (n : ℕ) (acc : List A) (next : On C (List A)) (ls : List Line) (c : C) → read n acc next ls ≡ Read c
    → Took (λ xs. (length xs ≡ n) × (list_all is xs ≡ true)) (λ xs. each lines xs) (λ xs rest. next (acc ++ xs) rest) ls c
many_bw is lines one one_bw read none some zero acc next ls c e =
    record { item = []; rest = ls; fine = (refl, refl); cut = refl; on = ap (λ x. next x ls) (append-nil acc) ∙ sym (none acc next ls) ∙ e }
many_bw is lines one one_bw read none some (suc n) acc next ls c e =
    let l = one_bw (λ x. read n (acc ++ x ∷ []) next) ls c (sym (some n acc next ls) ∙ e) in
    let t = many_bw is lines one one_bw read none some n (acc ++ l.item ∷ []) next l.rest c l.on in
    record {
      item = l.item ∷ t.item;
      rest = t.rest;
      fine = (ap suc t.fine.0, and_from (is l.item) _ l.fine t.fine.1);
      cut = cut_cons lines l.item t.item ls l.rest t.rest l.cut t.cut;
      on = ap (λ x. next x t.rest) (sym (append_assoc acc (l.item ∷ []) t.item)) ∙ t.on;
    }

abbrev pub AreBlocks : ℕ → List RelBlock → Type 0
AreBlocks n bs = (length bs ≡ n) × (list_all is_block bs ≡ true)

pub blocks_bw : {C : Type 0} (v : ℕ) (n : ℕ) (acc : List RelBlock) (next : On C (List RelBlock)) (ls : List Line) (c : C) → read_blocks v n acc next ls ≡ Read c
    → Took (AreBlocks n) (λ bs. each (block_lines v) bs) (λ bs rest. next (acc ++ bs) rest) ls c
blocks_bw v n acc next ls c e =
    many_bw is_block (block_lines v) (read_block v) (block_bw v) (read_blocks v) (λ acc next ls. refl) (λ n acc next ls. refl) n acc next ls c e

abbrev pub AreClasses : List ℕ → Type 0
AreClasses classes = are_classes classes ≡ true

pub classes_bw : {C : Type 0} (next : On C (List ℕ)) (ls : List Line) (c : C) → read_classes next ls ≡ Read c
    → Took AreClasses (λ classes. classes_line classes ∷ []) next ls c
classes_bw next ls c e =
    let l = line_bw (numbers_in keyword.Classes tail.SomeNumbers) next ls c e in
    let f = numbers_bw keyword.Classes tail.SomeNumbers l.line l.item l.told in
    record {
      item = l.item;
      rest = l.rest;
      fine = and_from (are_short l.item) _ f.0 (numbers_some l.item f.1);
      cut = l.cut ∙ ap (λ x. x ∷ l.rest) f.2;
      on = l.on;
    }

-- Steps of the first log.
abbrev pub IsFirst : FirstStep → Type 0
IsFirst s = is_first_step s ≡ true

first_rest_bw : {C : Type 0} (v : ℕ) (h : FirstHead) (line : Line) (after : List Line) (next : On C FirstStep) (c : C) → is_first_head h ≡ true
    → line ≡ first_head_line h → read_first_rest v h next after ≡ Read c → Took IsFirst (first_step_lines v) next (line ∷ after) c
first_rest_bw v (first_head.Trim kept) line after next c f g e =
    record { item = first.Trim kept; rest = after; fine = f; cut = ap (λ x. x ∷ after) g; on = e }
first_rest_bw v (first_head.Merge) line after next c f g e =
    let t = classes_bw (λ classes. next (first.Merge classes)) after c e in
    record {
      item = first.Merge t.item;
      rest = t.rest;
      fine = t.fine;
      cut = ap (λ x. x ∷ after) g ∙ ap (λ y. (spelled keyword.Merge ∷ []) ∷ y) t.cut;
      on = t.on;
    }
first_rest_bw v (first_head.Cut pair look) line after next c f g e =
    let a = and_parts (nat_lt 0 (blocks_due pair)) (is_short look) f in
    let k = λ (gone : List GoneBy). read_blocks v (blocks_due pair) [] (λ blocks. next (first.Cut pair look gone blocks)) in
    let l = line_bw gone_by_in k after c e in
    let gg = gone_bw l.line l.item l.told in
    let t = blocks_bw v (blocks_due pair) [] (λ blocks. next (first.Cut pair look l.item blocks)) l.rest c l.on in
    let head = spelled keyword.Cut ∷ decimal pair ∷ decimal look ∷ [] in
    let gone_line = spelled keyword.Gone ∷ numbers (gone_numbers l.item) in
    record {
      item = first.Cut pair look l.item t.item;
      rest = t.rest;
      fine = and_from (nat_lt 0 (blocks_due pair)) _ a.0
          (and_from (is_short look) _ a.1
          (and_from (are_gone l.item) _ gg.0
          (and_from (length t.item == blocks_due pair) _ (eq-eqb (length t.item) (blocks_due pair) t.fine.0) t.fine.1)));
      cut = ap (λ x. x ∷ after) g ∙ ap (λ y. head ∷ y) (l.cut ∙ ap (λ x. x ∷ l.rest) gg.1 ∙ ap (λ y. gone_line ∷ y) t.cut);
      on = t.on;
    }

pub first_step_bw : {C : Type 0} (v : ℕ) (next : On C FirstStep) (ls : List Line) (c : C)
    → next_line first_head_in (λ head. read_first_rest v head next) ls ≡ Read c → Took IsFirst (first_step_lines v) next ls c
first_step_bw v next ls c e =
    let l = line_bw first_head_in (λ head. read_first_rest v head next) ls c e in
    let f = first_head_bw l.line l.item l.told in
    let P : List Line → Type 0 = λ ls. Took IsFirst (first_step_lines v) next ls c in
    subst P (sym l.cut) (first_rest_bw v l.item l.line l.rest next c f.0 f.1 l.on)

abbrev pub AreFirst : ℕ → List FirstStep → Type 0
AreFirst n ss = (length ss ≡ n) × (list_all is_first_step ss ≡ true)

pub first_steps_bw : {C : Type 0} (v : ℕ) (n : ℕ) (acc : List FirstStep) (next : On C (List FirstStep)) (ls : List Line) (c : C)
    → read_first_steps v n acc next ls ≡ Read c
    → Took (AreFirst n) (λ ss. each (first_step_lines v) ss) (λ ss rest. next (acc ++ ss) rest) ls c
first_steps_bw v n acc next ls c e =
    many_bw is_first_step (first_step_lines v) (λ next. next_line first_head_in (λ head. read_first_rest v head next)) (first_step_bw v)
    (read_first_steps v) (λ acc next ls. refl) (λ n acc next ls. refl) n acc next ls c e

abbrev pub IsFirstLog : List FirstStep → Type 0
IsFirstLog ss = (is_short (length ss) ≡ true) × (list_all is_first_step ss ≡ true)

pub first_log_bw : {C : Type 0} (v : ℕ) (next : On C (List FirstStep)) (ls : List Line) (c : C) → read_first_log v next ls ≡ Read c
    → Took IsFirstLog (first_lines v) next ls c
first_log_bw v next ls c e =
    let l = line_bw (number_in keyword.Log1) (λ n. read_first_steps v n [] next) ls c e in
    let f = number_bw keyword.Log1 l.line l.item l.told in
    let t = first_steps_bw v l.item [] next l.rest c l.on in
    let head = ap (λ n. spelled keyword.Log1 ∷ decimal n ∷ []) (sym t.fine.0) in
    record {
      item = t.item;
      rest = t.rest;
      fine = (ap is_short t.fine.0 ∙ f.0, t.fine.1);
      cut = l.cut ∙ ap (λ x. x ∷ l.rest) (f.1 ∙ head) ∙ ap (λ y. (spelled keyword.Log1 ∷ decimal (length t.item) ∷ []) ∷ y) t.cut;
      on = t.on;
    }

-- Steps of the second log.
abbrev pub IsSecond : ℕ → Mode → SecondStep → Type 0
IsSecond v m s = is_second_step v m s ≡ true

merge_bw : {C : Type 0} (v : ℕ) (m : Mode) (by : Way) (classes : List ℕ) (after : List Line) (next : On C SecondStep) (c : C) → is_way v m by ≡ true
    → are_classes classes ≡ true → read_grounds v by classes next after ≡ Read c
    → Took (IsSecond v m) (second_step_lines v) next ((spelled keyword.Merge ∷ way_tokens v by) ∷ classes_line classes ∷ after) c
merge_bw v m (way.Forward look) classes after next c w a e =
    let t = block_bw v (λ rel. next (second.Merge (grounds.Forward look rel) classes)) after c e in
    record {
      item = second.Merge (grounds.Forward look t.item) classes;
      rest = t.rest;
      fine = and_from (are_classes classes) _ a (and_from (is_short look) (is_block t.item) w t.fine);
      cut = ap (λ y. (spelled keyword.Merge ∷ spelled keyword.Forward ∷ decimal look ∷ []) ∷ classes_line classes ∷ y) t.cut;
      on = t.on;
    }
merge_bw v m (way.Backward look) classes after next c w a e =
    let t = block_bw v (λ rel. next (second.Merge (grounds.Backward look rel) classes)) after c e in
    record {
      item = second.Merge (grounds.Backward look t.item) classes;
      rest = t.rest;
      fine = and_from (are_classes classes) _ a (and_from (is_short look) (is_block t.item) w t.fine);
      cut = ap (λ y. (spelled keyword.Merge ∷ spelled keyword.Backward ∷ decimal look ∷ []) ∷ classes_line classes ∷ y) t.cut;
      on = t.on;
    }
merge_bw v (mode.Buchi) (way.Delayed letters) classes after next c w a e =
    let t = rank_block_bw letters (λ ranks. next (second.Merge (grounds.Delayed letters ranks) classes)) after c e in
    record {
      item = second.Merge (grounds.Delayed letters t.item) classes;
      rest = t.rest;
      fine = and_from (are_classes classes) _ a (and_from (are_letters v letters) (is_rank_block letters t.item) w t.fine);
      cut = ap (λ y. (spelled keyword.Merge ∷ spelled keyword.Delayed ∷ letters_tokens v letters) ∷ classes_line classes ∷ y) t.cut;
      on = t.on;
    }
merge_bw v (mode.Finite) (way.Delayed letters) classes after next c w a e = absurd (cc)

second_rest_bw : {C : Type 0} (v : ℕ) (m : Mode) (h : SecondHead) (line : Line) (after : List Line) (next : On C SecondStep) (c : C) → is_second_head v m h ≡ true
    → line ≡ second_head_line v h → read_second_rest v h next after ≡ Read c → Took (IsSecond v m) (second_step_lines v) next (line ∷ after) c
second_rest_bw v m (second_head.Trim kept) line after next c f g e =
    record { item = second.Trim kept; rest = after; fine = f; cut = ap (λ x. x ∷ after) g; on = e }
second_rest_bw v m (second_head.Merge by) line after next c f g e =
    let t = classes_bw (λ classes. read_grounds v by classes next) after c e in
    let P : List Line → Type 0 = λ ls. Took (IsSecond v m) (second_step_lines v) next ls c in
    subst P (sym (ap (λ x. x ∷ after) g ∙ ap (λ y. (spelled keyword.Merge ∷ way_tokens v by) ∷ y) t.cut))
    (merge_bw v m by t.item t.rest next c f t.fine t.on)
second_rest_bw v m (second_head.Cut) line after next c f g e =
    let l = line_bw (ascending_in keyword.Gone tail.SomeNumbers) (λ gone. next (second.Cut gone)) after c e in
    let r = sorted_bw keyword.Gone tail.SomeNumbers (λ ns. ns) l.line l.item l.told in
    let same : r.0 ≡ l.item = r.5 in
    let short : are_short l.item ≡ true = ap are_short (sym same) ∙ r.1 in
    let up : ascend l.item ≡ true = ap ascend (sym same) ∙ r.2 in
    let some : has_some l.item ≡ true = ap has_some (sym same) ∙ numbers_some r.0 r.3 in
    record {
      item = second.Cut l.item;
      rest = l.rest;
      fine = and_from (are_short l.item) _ short (and_from (has_some l.item) (ascend l.item) some up);
      cut = ap (λ x. x ∷ after) g
          ∙ ap (λ y. (spelled keyword.Cut ∷ []) ∷ y) (l.cut ∙ ap (λ x. x ∷ l.rest) (r.4 ∙ ap (λ ns. spelled keyword.Gone ∷ numbers ns) same));
      on = l.on;
    }

pub second_step_bw : {C : Type 0} (v : ℕ) (m : Mode) (next : On C SecondStep) (ls : List Line) (c : C)
    → next_line (second_head_in v m) (λ head. read_second_rest v head next) ls ≡ Read c → Took (IsSecond v m) (second_step_lines v) next ls c
second_step_bw v m next ls c e =
    let l = line_bw (second_head_in v m) (λ head. read_second_rest v head next) ls c e in
    let f = second_head_bw v m l.line l.item l.told in
    let P : List Line → Type 0 = λ ls. Took (IsSecond v m) (second_step_lines v) next ls c in
    subst P (sym l.cut) (second_rest_bw v m l.item l.line l.rest next c f.0 f.1 l.on)

abbrev pub AreSecond : ℕ → Mode → ℕ → List SecondStep → Type 0
AreSecond v m n ss = (length ss ≡ n) × (list_all (is_second_step v m) ss ≡ true)

pub second_steps_bw : {C : Type 0} (v : ℕ) (m : Mode) (n : ℕ) (acc : List SecondStep) (next : On C (List SecondStep)) (ls : List Line) (c : C)
    → read_second_steps v m n acc next ls ≡ Read c
    → Took (AreSecond v m n) (λ ss. each (second_step_lines v) ss) (λ ss rest. next (acc ++ ss) rest) ls c
second_steps_bw v m n acc next ls c e =
    many_bw (is_second_step v m) (second_step_lines v) (λ next. next_line (second_head_in v m) (λ head. read_second_rest v head next))
    (second_step_bw v m) (read_second_steps v m) (λ acc next ls. refl) (λ n acc next ls. refl) n acc next ls c e

abbrev pub IsSecondLog : ℕ → Mode → List SecondStep → Type 0
IsSecondLog v m ss = (is_short (length ss) ≡ true) × (list_all (is_second_step v m) ss ≡ true)

pub second_log_bw : {C : Type 0} (v : ℕ) (m : Mode) (next : On C (List SecondStep)) (ls : List Line) (c : C) → read_second_log v m next ls ≡ Read c
    → Took (IsSecondLog v m) (second_lines v) next ls c
second_log_bw v m next ls c e =
    let l = line_bw (number_in keyword.Log2) (λ n. read_second_steps v m n [] next) ls c e in
    let f = number_bw keyword.Log2 l.line l.item l.told in
    let t = second_steps_bw v m l.item [] next l.rest c l.on in
    let head = ap (λ n. spelled keyword.Log2 ∷ decimal n ∷ []) (sym t.fine.0) in
    record {
      item = t.item;
      rest = t.rest;
      fine = (ap is_short t.fine.0 ∙ f.0, t.fine.1);
      cut = l.cut ∙ ap (λ x. x ∷ l.rest) (f.1 ∙ head) ∙ ap (λ y. (spelled keyword.Log2 ∷ decimal (length t.item) ∷ []) ∷ y) t.cut;
      on = t.on;
    }

-- Elements, each of them on a line.
own_line_bw : {C A : Type 0} (is : A → Bool) (line_of : A → Line) (said : Line → Said A)
    → ((line : Line) (x : A) → said line ≡ Ok x → (is x ≡ true) × (line ≡ line_of x))
    → (next : On C A) (ls : List Line) (c : C) → next_line said next ls ≡ Read c → Took (λ x. is x ≡ true) (λ x. line_of x ∷ []) next ls c
own_line_bw is line_of said told next ls c e =
    let l = line_bw said next ls c e in
    let f = told l.line l.item l.told in
    record { item = l.item; rest = l.rest; fine = f.0; cut = l.cut ∙ ap (λ x. x ∷ l.rest) f.1; on = l.on }

abbrev pub AreElements : Mode → ℕ → List Element → Type 0
AreElements m n es = (length es ≡ n) × (list_all (is_element m) es ≡ true)

pub elements_bw : {C : Type 0} (m : Mode) (n : ℕ) (acc : List Element) (next : On C (List Element)) (ls : List Line) (c : C)
    → read_elements m n acc next ls ≡ Read c
    → Took (AreElements m n) (λ es. each element_lines es) (λ es rest. next (acc ++ es) rest) ls c
elements_bw m n acc next ls c e =
    many_bw (is_element m) element_lines (next_line (element_in m))
    (own_line_bw (is_element m) (λ (x : Element). mark_tokens x.mark ++ origin_line x.origin) (element_in m) (element_bw m))
    (read_elements m) (λ acc next ls. refl) (λ n acc next ls. refl) n acc next ls c e

abbrev pub AreOrigins : Mode → ℕ → List Origin → Type 0
AreOrigins m n es = (length es ≡ n) × (list_all (is_origin m) es ≡ true)

pub origins_bw : (m : Mode) (n : ℕ) (acc : List Origin) (next : Then (List Origin)) (ls : List Line) (c : Cert)
    → read_origins m n acc next ls ≡ Read c
    → Took (AreOrigins m n) (λ es. each origin_lines es) (λ es rest. next (acc ++ es) rest) ls c
origins_bw m n acc next ls c e =
    many_bw (is_origin m) origin_lines (next_line (origin_in m)) (own_line_bw (is_origin m) origin_line (origin_in m) (origin_bw m))
    (read_origins m) (λ acc next ls. refl) (λ n acc next ls. refl) n acc next ls c e

-- The lines of live elements.
abbrev pub TookSteps : {C : Type 0} → ℕ → List Element → List StepLine → On C (List StepLine) → List Line → C → Type 0
TookSteps n es acc next ls c =
    Took (λ ss. are_steps n es ss ≡ true) (λ ss. each step_lines ss) (λ ss rest. next (acc ++ ss) rest) ls c

live_steps : (b : Bool) (n : ℕ) (es : List Element) (ss : List StepLine) (s : StepLine) → b ≡ true → (is_step_of n s && are_steps (n + 1) es ss) ≡ true
    → cond b (is_step_of n s && are_steps (n + 1) es ss) (are_steps (n + 1) es (s ∷ ss)) ≡ true
live_steps b n es ss s e h = cond-true b (is_step_of n s && are_steps (n + 1) es ss) (are_steps (n + 1) es (s ∷ ss)) e ∙ h

dead_steps : (e : Element) (n : ℕ) (es : List Element) (ss : List StepLine) → is_live e.mark ≡ false → are_steps (n + 1) es ss ≡ true
    → are_steps n (e ∷ es) ss ≡ true
dead_steps e n es [] d h = cond-false (is_live e.mark) false (are_steps (n + 1) es []) d ∙ h
dead_steps e n es (s ∷ ss) d h =
    cond-false (is_live e.mark) (is_step_of n s && are_steps (n + 1) es ss) (are_steps (n + 1) es (s ∷ ss)) d ∙ h

pub steps_bw : {C : Type 0} (n : ℕ) (es : List Element) (acc : List StepLine) (next : On C (List StepLine)) (ls : List Line) (c : C)
    → read_steps n es acc next ls ≡ Read c → TookSteps n es acc next ls c
steps_bw n [] acc next ls c e =
    record { item = []; rest = ls; fine = refl; cut = refl; on = ap (λ x. next x ls) (append-nil acc) ∙ e }
steps_bw n (x ∷ xs) acc next ls c e =
    let live = next_line (step_in n) (λ step. read_steps (n + 1) xs (acc ++ step ∷ []) next) ls in
    let dead = read_steps (n + 1) xs acc next ls in
    ⊎_elim
    (λ yes_live.
    let l = line_bw (step_in n) (λ step. read_steps (n + 1) xs (acc ++ step ∷ []) next) ls c
    (sym (cond-true (is_live x.mark) live dead yes_live) ∙ e) in
    let f = step_bw n l.line l.item l.told in
    let t = steps_bw (n + 1) xs (acc ++ l.item ∷ []) next l.rest c l.on in
    record {
      item = l.item ∷ t.item;
      rest = t.rest;
      fine = live_steps (is_live x.mark) n xs t.item l.item yes_live (and_from (is_step_of n l.item) _ f.0 t.fine);
      cut = cut_cons step_lines l.item t.item ls l.rest t.rest (l.cut ∙ ap (λ y. y ∷ l.rest) f.1) t.cut;
      on = ap (λ y. next y t.rest) (sym (append_assoc acc (l.item ∷ []) t.item)) ∙ t.on;
    })
    (λ not_live.
    let t = steps_bw (n + 1) xs acc next ls c (sym (cond-false (is_live x.mark) live dead not_live) ∙ e) in
    record {
      item = t.item;
      rest = t.rest;
      fine = dead_steps x n xs t.item not_live t.fine;
      cut = t.cut;
      on = t.on;
    })
    (cases_Bool (is_live x.mark))

-- What a yes has after its logs.
pub record IsClosed (m : Mode) (k : Closed) : Type 0 where
  pub order : is_block k.order ≡ true
  pub count : is_short (length k.elements) ≡ true
  pub elements : list_all (is_element m) k.elements ≡ true
  pub cover : are_short k.cover ≡ true
  pub steps : are_steps 0 k.elements k.steps ≡ true

pub closed_bw : {C : Type 0} (v : ℕ) (m : Mode) (next : On C Closed) (ls : List Line) (c : C) → read_closed v m next ls ≡ Read c
    → Took (IsClosed m) (λ k. block_lines v k.order ++ closed_lines k.elements k.cover k.steps) next ls c
closed_bw v m next ls c e =
    let b = block_bw v (λ order. read_all_elements m order next) ls c e in
    let n = line_bw (number_in keyword.Elements) (λ n. read_elements m n [] (λ elements. read_cover b.item elements next)) b.rest c b.on in
    let nf = number_bw keyword.Elements n.line n.item n.told in
    let es = elements_bw m n.item [] (λ elements. read_cover b.item elements next) n.rest c n.on in
    let k = λ (cover : List ℕ). read_steps 0 es.item [] (λ steps. next (record { order = b.item; elements = es.item; cover = cover; steps = steps })) in
    let cv = line_bw (numbers_in keyword.Cover tail.Numbers) k es.rest c es.on in
    let cf = numbers_bw keyword.Cover tail.Numbers cv.line cv.item cv.told in
    let ss = steps_bw 0 es.item [] (λ steps. next (record { order = b.item; elements = es.item; cover = cv.item; steps = steps })) cv.rest c cv.on in
    let cover_line = spelled keyword.Cover ∷ numbers cv.item in
    let head = ap (λ n. elements_line n) (sym es.fine.0) in
    let after_count : n.rest ≡ (each element_lines es.item ++ (cover_line ∷ each step_lines ss.item)) ++ ss.rest =
    es.cut
    ∙ ap (λ y. each element_lines es.item ++ y) (cv.cut ∙ ap (λ x. x ∷ cv.rest) cf.2 ∙ ap (λ y. cover_line ∷ y) ss.cut)
    ∙ sym (append_assoc (each element_lines es.item) (cover_line ∷ each step_lines ss.item) ss.rest) in
    let closed = closed_lines es.item cv.item ss.item in
    let after_block : b.rest ≡ closed ++ ss.rest =
    n.cut ∙ ap (λ x. x ∷ n.rest) (nf.1 ∙ head) ∙ ap (λ y. elements_line (length es.item) ∷ y) after_count in
    record {
      item = record { order = b.item; elements = es.item; cover = cv.item; steps = ss.item };
      rest = ss.rest;
      fine = record {
        order = b.fine;
        count = ap is_short es.fine.0 ∙ nf.0;
        elements = es.fine.1;
        cover = cf.0;
        steps = ss.fine;
      };
      cut = b.cut ∙ ap (λ y. block_lines v b.item ++ y) after_block ∙ sym (append_assoc (block_lines v b.item) closed ss.rest);
      on = ss.on;
    }

-- What a list has after its logs.
pub record IsListPart (m : Mode) (k : ListPart) : Type 0 where
  pub limit : is_short k.limit ≡ true
  pub count : is_short (length k.elements) ≡ true
  pub elements : list_all (is_origin m) k.elements ≡ true

pub list_part_bw : (m : Mode) (next : Then ListPart) (ls : List Line) (c : Cert) → read_list_part m next ls ≡ Read c
    → Took (IsListPart m) (λ k. limit_lines k.limit k.elements) next ls c
list_part_bw m next ls c e =
    let b = line_bw (number_in keyword.Limit) (λ limit. read_all_origins m limit next) ls c e in
    let bf = number_bw keyword.Limit b.line b.item b.told in
    let k = λ (elements : List Origin) (rest : List Line). next (record { limit = b.item; elements = elements }) rest in
    let n = line_bw (number_in keyword.Elements) (λ n. read_origins m n [] k) b.rest c b.on in
    let nf = number_bw keyword.Elements n.line n.item n.told in
    let es = origins_bw m n.item [] k n.rest c n.on in
    let head = ap (λ n. elements_line n) (sym es.fine.0) in
    let limit_line = spelled keyword.Limit ∷ decimal b.item ∷ [] in
    record {
      item = record { limit = b.item; elements = es.item };
      rest = es.rest;
      fine = record { limit = bf.0; count = ap is_short es.fine.0 ∙ nf.0; elements = es.fine.1 };
      cut = b.cut ∙ ap (λ x. x ∷ b.rest) bf.1
          ∙ ap (λ y. limit_line ∷ y) (n.cut ∙ ap (λ x. x ∷ n.rest) (nf.1 ∙ head) ∙ ap (λ y. elements_line (length es.item) ∷ y) es.cut);
      on = es.on;
    }

-- A lasso.
abbrev pub IsLasso : Lasso → Type 0
IsLasso lasso = is_lasso lasso ≡ true

pub lasso_bw : {C : Type 0} (next : On C Lasso) (ls : List Line) (c : C) → read_lasso next ls ≡ Read c
    → Took IsLasso (λ lasso. (spelled keyword.Prefix ∷ numbers lasso.prefix) ∷ (spelled keyword.Loop ∷ numbers lasso.turn) ∷ []) next ls c
lasso_bw next ls c e =
    let p = line_bw (numbers_in keyword.Prefix tail.Numbers) (λ prefix. read_turn prefix next) ls c e in
    let pf = numbers_bw keyword.Prefix tail.Numbers p.line p.item p.told in
    let k = λ (turn : List ℕ). next (record { prefix = p.item; turn = turn }) in
    let t = line_bw (numbers_in keyword.Loop tail.SomeNumbers) k p.rest c p.on in
    let tf = numbers_bw keyword.Loop tail.SomeNumbers t.line t.item t.told in
    record {
      item = record { prefix = p.item; turn = t.item };
      rest = t.rest;
      fine = and_from (are_short p.item) _ pf.0 (and_from (are_short t.item) (has_some t.item) tf.0 (numbers_some t.item tf.1));
      cut = p.cut ∙ ap (λ x. x ∷ p.rest) pf.2
          ∙ ap (λ y. (spelled keyword.Prefix ∷ numbers p.item) ∷ y) (t.cut ∙ ap (λ x. x ∷ t.rest) tf.2);
      on = t.on;
    }

-- The body.
abbrev pub IsBodyOf : ℕ → Mode → Form → Body → Type 0
IsBodyOf v m a b = (is_body v m b ≡ true) × (form_of b ≡ a)

abbrev pub TookBody : ℕ → Mode → Form → Then Body → List Line → Cert → Type 0
TookBody v m a next ls c = Took (IsBodyOf v m a) (body_lines v) next ls c

logs_fine : (v : ℕ) (m : Mode) (firsts : List FirstStep) (seconds : List SecondStep) → IsFirstLog firsts → IsSecondLog v m seconds → are_logs v m firsts seconds ≡ true
logs_fine v m firsts seconds f s =
    and_from (is_short (length firsts)) _ f.0
    (and_from (list_all is_first_step firsts) _ f.1 (and_from (is_short (length seconds)) _ s.0 s.1))

three : (A B C rest : List Line) → A ++ (B ++ (C ++ rest)) ≡ (A ++ (B ++ C)) ++ rest
three A B C rest = sym (append_assoc A (B ++ C) rest ∙ ap (λ y. A ++ y) (append_assoc B C rest))

yes_bw : (v : ℕ) (m : Mode) (next : Then Body) (ls : List Line) (c : Cert) → read_logs v m form.Yes next ls ≡ Read c → TookBody v m form.Yes next ls c
yes_bw v m next ls c e =
    let f = first_log_bw v (λ firsts. read_after_first v m form.Yes firsts next) ls c e in
    let s = second_log_bw v m (λ seconds. read_evidence v m form.Yes f.item seconds next) f.rest c f.on in
    let k = closed_bw v m (λ closed. next (yes_of f.item s.item closed)) s.rest c s.on in
    let C = block_lines v k.item.order ++ closed_lines k.item.elements k.item.cover k.item.steps in
    record {
      item = yes_of f.item s.item k.item;
      rest = k.rest;
      fine = (
        and_from (are_logs v m f.item s.item) _ (logs_fine v m f.item s.item f.fine s.fine)
            (and_from (is_block k.item.order) _ k.fine.order
            (and_from (is_short (length k.item.elements)) _ k.fine.count
            (and_from (list_all (is_element m) k.item.elements) _ k.fine.elements
            (and_from (are_short k.item.cover) _ k.fine.cover k.fine.steps)))),
        refl,
      );
      cut = f.cut ∙ ap (λ y. first_lines v f.item ++ y) (s.cut ∙ ap (λ y. second_lines v s.item ++ y) k.cut)
          ∙ three (first_lines v f.item) (second_lines v s.item) C k.rest;
      on = k.on;
    }

list_bw : (v : ℕ) (m : Mode) (next : Then Body) (ls : List Line) (c : Cert) → read_logs v m form.List next ls ≡ Read c → TookBody v m form.List next ls c
list_bw v m next ls c e =
    let f = first_log_bw v (λ firsts. read_after_first v m form.List firsts next) ls c e in
    let s = second_log_bw v m (λ seconds. read_evidence v m form.List f.item seconds next) f.rest c f.on in
    let k = list_part_bw m (λ list_part. next (list_of f.item s.item list_part)) s.rest c s.on in
    let C = limit_lines k.item.limit k.item.elements in
    record {
      item = list_of f.item s.item k.item;
      rest = k.rest;
      fine = (
        and_from (are_logs v m f.item s.item) _ (logs_fine v m f.item s.item f.fine s.fine)
            (and_from (is_short k.item.limit) _ k.fine.limit
            (and_from (is_short (length k.item.elements)) _ k.fine.count k.fine.elements)),
        refl,
      );
      cut = f.cut ∙ ap (λ y. first_lines v f.item ++ y) (s.cut ∙ ap (λ y. second_lines v s.item ++ y) k.cut)
          ∙ three (first_lines v f.item) (second_lines v s.item) C k.rest;
      on = k.on;
    }

no_lasso_bw : (v : ℕ) (next : Then Body) (ls : List Line) (c : Cert) → read_lasso (λ lasso. next (body.NoLasso lasso)) ls ≡ Read c → TookBody v mode.Buchi form.No next ls c
no_lasso_bw v next ls c e =
    let t = lasso_bw (λ lasso. next (body.NoLasso lasso)) ls c e in
    record { item = body.NoLasso t.item; rest = t.rest; fine = (t.fine, refl); cut = t.cut; on = t.on }

word_body_bw : (v : ℕ) (next : Then Body) (ls : List Line) (c : Cert) → read_word next ls ≡ Read c → TookBody v mode.Finite form.No next ls c
word_body_bw v next ls c e =
    let p = line_bw (numbers_in keyword.Word tail.Numbers) (λ word. next (body.NoWord word)) ls c e in
    let pf = numbers_bw keyword.Word tail.Numbers p.line p.item p.told in
    record {
      item = body.NoWord p.item;
      rest = p.rest;
      fine = (pf.0, refl);
      cut = p.cut ∙ ap (λ x. x ∷ p.rest) pf.2;
      on = p.on;
    }

pub body_bw : (v : ℕ) (m : Mode) (a : Form) (next : Then Body) (ls : List Line) (c : Cert) → read_body v m a next ls ≡ Read c → TookBody v m a next ls c
body_bw v m (form.Yes) next ls c e = yes_bw v m next ls c e
body_bw v (mode.Buchi) (form.No) next ls c e = no_lasso_bw v next ls c e
body_bw v (mode.Finite) (form.No) next ls c e = word_body_bw v next ls c e
body_bw v m (form.List) next ls c e = list_bw v m next ls c e

bare_is : (piece : Line) → is_bare piece ≡ true → piece ≡ [] ∷ []
bare_is [] e = absurd (cc)
bare_is ([] ∷ []) e = refl
bare_is ([] ∷ other ∷ more) e = absurd (cc)
bare_is ((b ∷ bs) ∷ more) e = absurd (cc)

read_cond : {C : Type 0} (b : Bool) (x c : C) (k : TextKind) (ls : List Line) → cond b (Read x) (Stopped k ls) ≡ Read c → (b ≡ true) × (x ≡ c)
read_cond true x c k ls e = (refl, cc)
read_cond false x c k ls e = absurd (cc)

pub finish_bw : {C : Type 0} (x c : C) (ls : List Line) → finish x ls ≡ Read c → (x ≡ c) × (ls ≡ (([] ∷ []) ∷ []))
finish_bw x c [] e = absurd (cc)
finish_bw x c (piece ∷ []) e =
    let p = read_cond (is_bare piece) x c Trailing (piece ∷ []) e in
    (p.1, ap (λ y. y ∷ []) (bare_is piece p.0))
finish_bw x c (line ∷ other ∷ rest) e = absurd (cc)

-- lines that are read to a certificate are its lines, and it has a text
pub cert_bw : (ls : List Line) (c : Cert) → read_lines ls ≡ Read c → (has_text c ≡ true) × (ls ≡ cert_lines c ++ (([] ∷ []) ∷ []))
cert_bw ls c e =
    let bare : List Line = ([] ∷ []) ∷ [] in
    let h = line_bw heading_in read_sizes ls c e in
    let v = h.item.version in
    let hf = heading_bw h.line h.item h.told in
    let s = line_bw sizes_in (read_rest h.item) h.rest c h.on in
    let sf = sizes_bw s.line s.item s.told in
    let k = λ (b : Body). read_end (cert_of v h.item.mode s.item b) in
    let b = body_bw v h.item.mode h.item.form k s.rest c s.on in
    let own = cert_of v h.item.mode s.item b.item in
    let z = line_bw (word_in keyword.End) (λ u. finish own) b.rest c b.on in
    let zf = word_bw keyword.End z.line z.item z.told in
    let f = finish_bw own c z.rest z.on in
    let B = body_lines v b.item in
    let first : h.line ≡ first_line v h.item.mode (form_of b.item) = hf.1 ∙ ap (λ a. first_line v h.item.mode a) (sym b.fine.1) in
    let last : b.rest ≡ end_line ∷ bare = z.cut ∙ ap (λ x. x ∷ z.rest) zf ∙ ap (λ y. end_line ∷ y) f.1 in
    let after_sizes : s.rest ≡ (B ++ end_line ∷ []) ++ bare =
    b.cut ∙ ap (λ y. B ++ y) last ∙ sym (append_assoc B (end_line ∷ []) bare) in
    let sizes = sizes_line s.item.first_states s.item.second_states s.item.labels in
    let P : Cert → Type 0 = λ c. (has_text c ≡ true) × (ls ≡ cert_lines c ++ bare) in
    subst P f.0 (
      and_from (is_version v) _ hf.0
          (and_from (is_short s.item.first_states) _ sf.0
          (and_from (is_short s.item.second_states) _ sf.1 (and_from (is_short s.item.labels) _ sf.2 b.fine.0))),
      h.cut ∙ ap (λ x. x ∷ h.rest) first
          ∙ ap (λ y. first_line v h.item.mode (form_of b.item) ∷ y) (s.cut ∙ ap (λ x. x ∷ s.rest) sf.3 ∙ ap (λ y. sizes ∷ y) after_sizes),
    )
