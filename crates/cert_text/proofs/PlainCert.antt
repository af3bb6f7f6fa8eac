use Rattle.std.proofs.Common.{◌≡◌, ℕ, List, [], ◌∷◌, ◌++◌, ◌==◌, length, decimal, Bool, true, false, cond, refl}
use Rattle.std.specs.List.{list_all}
use Rattle.std.proofs.lemmas.Bool.{and_from}
use Rattle.auto_core.specs.declared.parts.Origin.{Origin}
use Rattle.auto_core.specs.declared.parts.Origin.TheVariants as origin
use Rattle.cert_value.specs.declared.keywords.Keyword.{Keyword}
use Rattle.cert_value.specs.declared.keywords.Keyword.TheVariants as keyword
use Rattle.cert_value.specs.declared.types.Cert.{Cert}
use Rattle.cert_value.specs.declared.types.Body.{Body}
use Rattle.cert_value.specs.declared.types.Body.TheVariants as body
use Rattle.cert_value.specs.declared.types.FirstStep.{FirstStep}
use Rattle.cert_value.specs.declared.types.FirstStep.TheVariants as first
use Rattle.cert_value.specs.declared.types.SecondStep.{SecondStep}
use Rattle.cert_value.specs.declared.types.SecondStep.TheVariants as second
use Rattle.cert_value.specs.declared.types.Grounds.{Grounds}
use Rattle.cert_value.specs.declared.types.Grounds.TheVariants as grounds
use Rattle.cert_value.specs.declared.types.RelBlock.{RelBlock}
use Rattle.cert_value.specs.declared.types.Row.{Row}
use Rattle.cert_value.specs.declared.types.RankBlock.{RankBlock}
use Rattle.cert_value.specs.declared.types.RankRow.{RankRow}
use Rattle.cert_value.specs.declared.types.Mark.{Mark}
use Rattle.cert_value.specs.declared.types.Mark.TheVariants as mark
use Rattle.cert_value.specs.declared.types.StepLine.{StepLine}
use Rattle.cert_value.specs.declared.types.Element.{Element}
use Rattle.cert_value.specs.Text.{Line, spelled, numbers, row_numbers, letters_tokens, version_word, each, row_lines, block_lines, ranked_numbers, rank_row_lines, rank_block_lines, gone_numbers, first_step_lines, merge_lines, second_step_lines, origin_line, mark_tokens, element_lines, origin_lines, step_lines, first_lines, second_lines, closed_lines, limit_lines, body_lines, mode_word, form_word, form_of, end_line, cert_lines}
use Rattle.cert_text.proofs.BytesLines.{plain, PlainLine, PlainLines, spelled_plain, decimal_plain, numbers_plain}

-- A line of a word and plain tokens.
pub word_line : (w : Keyword) (rest : Line) → list_all plain rest ≡ true → PlainLine (spelled w ∷ rest)
word_line w rest e = and_from (plain (spelled w)) (list_all plain rest) (spelled_plain w) e

-- a number before plain tokens
pub number_then : (n : ℕ) (rest : Line) → list_all plain rest ≡ true → list_all plain (decimal n ∷ rest) ≡ true
number_then n rest e = and_from (plain (decimal n)) (list_all plain rest) (decimal_plain n) e

pub one_number : (w : Keyword) (n : ℕ) → PlainLine (spelled w ∷ decimal n ∷ [])
one_number w n = word_line w (decimal n ∷ []) (number_then n [] refl)

pub plain_append : (ls ms : List Line) → PlainLines ls → PlainLines ms → PlainLines (ls ++ ms)
plain_append [] ms p q = q
plain_append (l ∷ ls) ms p q = (p.0, plain_append ls ms p.1 q)

plain_each : {A : Type 0} (f : A → List Line) → ((x : A) → PlainLines (f x)) → (xs : List A) → PlainLines (each f xs)
plain_each f p [] = tt
plain_each f p (x ∷ xs) = plain_append (f x) (each f xs) (p x) (plain_each f p xs)

plain_row : (v : ℕ) (row : Row) → PlainLines (row_lines v row)
plain_row v row = (word_line keyword.Row (decimal row.left ∷ numbers (row_numbers v row.runs)) (number_then row.left (numbers (row_numbers v row.runs)) (numbers_plain (row_numbers v row.runs))), tt)

pub plain_block : (v : ℕ) (b : RelBlock) → PlainLines (block_lines v b)
plain_block v b = (one_number keyword.Rel (length b.rows), plain_each (row_lines v) (plain_row v) b.rows)

plain_rank_row : (row : RankRow) → PlainLines (rank_row_lines row)
plain_rank_row row =
    let ns = row.ahead ++ ranked_numbers row.rights in
    (word_line keyword.Row (decimal row.left ∷ numbers ns) (number_then row.left (numbers ns) (numbers_plain ns)), tt)

pub plain_rank_block : (b : RankBlock) → PlainLines (rank_block_lines b)
plain_rank_block b = (one_number keyword.Rel (length b.rows), plain_each rank_row_lines plain_rank_row b.rows)

pub plain_numbers : (w : Keyword) (ns : List ℕ) → PlainLine (spelled w ∷ numbers ns)
plain_numbers w ns = word_line w (numbers ns) (numbers_plain ns)

plain_first : (v : ℕ) (s : FirstStep) → PlainLines (first_step_lines v s)
plain_first v (first.Trim kept) = (plain_numbers keyword.Trim kept, tt)
plain_first v (first.Merge classes) = (word_line keyword.Merge [] refl, (plain_numbers keyword.Classes classes, tt))
plain_first v (first.Cut pair look gone blocks) = (
  word_line keyword.Cut (decimal pair ∷ decimal look ∷ []) (number_then pair (decimal look ∷ []) (number_then look [] refl)),
  (plain_numbers keyword.Gone (gone_numbers gone), plain_each (block_lines v) (plain_block v) blocks),
)

pub two_words : (w v : Keyword) (rest : Line) → list_all plain rest ≡ true → PlainLine (spelled w ∷ spelled v ∷ rest)
two_words w v rest e = word_line w (spelled v ∷ rest) (and_from (plain (spelled v)) (list_all plain rest) (spelled_plain v) e)

plain_letters : (b : Bool) (letters : ℕ) → list_all plain (cond b (decimal letters ∷ []) []) ≡ true
plain_letters true letters = number_then letters [] refl
plain_letters false letters = refl

plain_merge : (v : ℕ) (by : Grounds) (classes : List ℕ) → PlainLines (merge_lines v by classes)
plain_merge v (grounds.Forward look rel) classes =
    (two_words keyword.Merge keyword.Forward (decimal look ∷ []) (number_then look [] refl), (plain_numbers keyword.Classes classes, plain_block v rel))
plain_merge v (grounds.Backward look rel) classes =
    (two_words keyword.Merge keyword.Backward (decimal look ∷ []) (number_then look [] refl), (plain_numbers keyword.Classes classes, plain_block v rel))
plain_merge v (grounds.Delayed letters ranks) classes =
    (two_words keyword.Merge keyword.Delayed (letters_tokens v letters) (plain_letters (v == 2) letters), (plain_numbers keyword.Classes classes, plain_rank_block ranks))

plain_second : (v : ℕ) (s : SecondStep) → PlainLines (second_step_lines v s)
plain_second v (second.Trim kept) = (plain_numbers keyword.Trim kept, tt)
plain_second v (second.Merge by classes) = plain_merge v by classes
plain_second v (second.Cut gone) = (word_line keyword.Cut [] refl, (plain_numbers keyword.Gone gone, tt))

plain_origin : (from : Origin) → list_all plain (origin_line from) ≡ true
plain_origin (origin.Start) = word_line keyword.Start [] refl
plain_origin (origin.Base t) = one_number keyword.Base t
plain_origin (origin.Next p t) = word_line keyword.Next (decimal p ∷ decimal t ∷ []) (number_then p (decimal t ∷ []) (number_then t [] refl))

origin_is : (from : Origin) → PlainLine (origin_line from)
origin_is (origin.Start) = plain_origin origin.Start
origin_is (origin.Base t) = plain_origin (origin.Base t)
origin_is (origin.Next p t) = plain_origin (origin.Next p t)

plain_element : (mk : Mark) (from : Origin) → PlainLine (mark_tokens mk ++ origin_line from)
plain_element (mark.Live) from = word_line keyword.Live (origin_line from) (plain_origin from)
plain_element (mark.Under j) from = word_line keyword.Under (decimal j ∷ origin_line from) (number_then j (origin_line from) (plain_origin from))

plain_step : (s : StepLine) → PlainLines (step_lines s)
plain_step s = (word_line keyword.Step (decimal s.element ∷ numbers s.by) (number_then s.element (numbers s.by) (numbers_plain s.by)), tt)

pub plain_first_log : (v : ℕ) (fs : List FirstStep) → PlainLines (first_lines v fs)
plain_first_log v fs = (one_number keyword.Log1 (length fs), plain_each (first_step_lines v) (plain_first v) fs)

pub plain_second_log : (v : ℕ) (ss : List SecondStep) → PlainLines (second_lines v ss)
plain_second_log v ss = (one_number keyword.Log2 (length ss), plain_each (second_step_lines v) (plain_second v) ss)

-- The order, the elements, their cover and their extensions.
pub plain_closed : (v : ℕ) (order : RelBlock) (es : List Element) (cover : List ℕ) (ss : List StepLine) → PlainLines (block_lines v order ++ closed_lines es cover ss)
plain_closed v order es cover ss =
    plain_append (block_lines v order) (closed_lines es cover ss) (plain_block v order) (
      one_number keyword.Elements (length es),
      plain_append (each element_lines es) ((spelled keyword.Cover ∷ numbers cover) ∷ each step_lines ss)
          (plain_each element_lines (λ e. (plain_element e.mark e.origin, tt)) es)
          (plain_numbers keyword.Cover cover, plain_each step_lines plain_step ss),
    )

plain_logs : (v : ℕ) (fs : List FirstStep) (ss : List SecondStep) (after : List Line) → PlainLines after
    → PlainLines (first_lines v fs ++ (second_lines v ss ++ after))
plain_logs v fs ss after h =
    plain_append (first_lines v fs) (second_lines v ss ++ after) (plain_first_log v fs) (plain_append (second_lines v ss) after (plain_second_log v ss) h)

plain_body : (v : ℕ) (b : Body) → PlainLines (body_lines v b)
plain_body v (body.Yes y) =
    plain_logs v y.first y.second (block_lines v y.order ++ closed_lines y.elements y.cover y.steps)
    (plain_closed v y.order y.elements y.cover y.steps)
plain_body v (body.NoLasso lasso) = (plain_numbers keyword.Prefix lasso.prefix, (plain_numbers keyword.Loop lasso.turn, tt))
plain_body v (body.NoWord word) = (plain_numbers keyword.Word word, tt)
plain_body v (body.Listing list) =
    plain_logs v list.first list.second (limit_lines list.limit list.elements) (
      one_number keyword.Limit list.limit,
      (one_number keyword.Elements (length list.elements), plain_each origin_lines (λ from. (origin_is from, tt)) list.elements),
    )

-- all lines of a certificate are plain
pub plain_cert : (c : Cert) → PlainLines (cert_lines c)
plain_cert c = (
  two_words keyword.RabitCert (version_word c.version) (spelled (mode_word c.mode) ∷ spelled (form_word (form_of c.body)) ∷ [])
      (and_from (plain (spelled (mode_word c.mode))) _ (spelled_plain (mode_word c.mode))
      (and_from (plain (spelled (form_word (form_of c.body)))) true (spelled_plain (form_word (form_of c.body))) refl)),
  (
    word_line keyword.Sizes (decimal c.first_states ∷ decimal c.second_states ∷ decimal c.labels ∷ [])
        (number_then c.first_states (decimal c.second_states ∷ decimal c.labels ∷ [])
        (number_then c.second_states (decimal c.labels ∷ []) (number_then c.labels [] refl))),
    plain_append (body_lines c.version c.body) (end_line ∷ []) (plain_body c.version c.body) (word_line keyword.End [] refl, tt),
  ),
)
