-- Which values have a text: the order, length and size of every list and number.
use Rattle.std.specs.Prelude.{ℕ, ◌+◌, ◌-◌, List, [], ◌∷◌, length, map, Bool, true, false, ◌&&◌, ◌||◌, ◌==◌, nat_lt, nat_le, Option, Some, None, IsTrue, if◌then◌else◌}
use Rattle.std.specs.Ordering.{is_lt, nat_cmp}
use Rattle.std.specs.Cmp.Lexicographic.{slice_cmp}
use Rattle.std.specs.List.{list_all}
use Rattle.auto_core.specs.declared.parts.Mode.{Mode}
use Rattle.auto_core.specs.declared.parts.Mode.TheVariants as mode
use Rattle.auto_core.specs.declared.parts.Origin.{Origin}
use Rattle.auto_core.specs.declared.parts.Origin.TheVariants as origin
use Rattle.cert_value.specs.declared.types.Cert.{Cert}
use Rattle.cert_value.specs.declared.types.Body.{Body}
use Rattle.cert_value.specs.declared.types.Body.TheVariants as body
use Rattle.cert_value.specs.declared.types.YesBody.{YesBody}
use Rattle.cert_value.specs.declared.types.ListBody.{ListBody}
use Rattle.auto_core.specs.declared.parts.Lasso.{Lasso}
use Rattle.cert_value.specs.declared.types.FirstStep.{FirstStep}
use Rattle.cert_value.specs.declared.types.FirstStep.TheVariants as first
use Rattle.cert_value.specs.declared.types.SecondStep.{SecondStep}
use Rattle.cert_value.specs.declared.types.SecondStep.TheVariants as second
use Rattle.cert_value.specs.declared.types.Grounds.{Grounds}
use Rattle.cert_value.specs.declared.types.Grounds.TheVariants as grounds
use Rattle.cert_value.specs.declared.types.GoneBy.{GoneBy}
use Rattle.cert_value.specs.declared.types.RelBlock.{RelBlock}
use Rattle.cert_value.specs.declared.types.Row.{Row}
use Rattle.cert_value.specs.declared.types.Run.{Run}
use Rattle.cert_value.specs.declared.types.RankBlock.{RankBlock}
use Rattle.cert_value.specs.declared.types.RankRow.{RankRow}
use Rattle.cert_value.specs.declared.types.Ranked.{Ranked}
use Rattle.cert_value.specs.declared.types.Element.{Element}
use Rattle.cert_value.specs.declared.types.Mark.{Mark}
use Rattle.cert_value.specs.declared.types.Mark.TheVariants as mark
use Rattle.cert_value.specs.declared.types.StepLine.{StepLine}
use Rattle.cert_value.specs.declared.checks.TheConstants.{TOO_LONG}

-- A number of at most nine digits.
abbrev pub is_short : ℕ → Bool
is_short n = nat_lt n TOO_LONG

-- Numbers of at most nine digits.
abbrev pub are_short : List ℕ → Bool
are_short ns = list_all is_short ns

-- A list that is not empty.
abbrev pub has_some : {A : Type 0} → List A → Bool
has_some xs = nat_lt 0 (length xs)

-- The first is not below the bound, and each exceeds the one before.
abbrev pub ascend_from : ℕ → List ℕ → Bool
ascend_from bound [] = true
ascend_from bound (n ∷ ns) = nat_le bound n && ascend_from (n + 1) ns

-- Each exceeds the one before.
abbrev pub ascend : List ℕ → Bool
ascend ns = ascend_from 0 ns

-- A run of short numbers.
abbrev pub is_run : Run → Bool
is_run run = is_short run.first && is_short run.last

-- No run ends before it begins, the first does not begin below the bound, and each later one leaves
-- out a number at least.
abbrev pub runs_ascend_from : ℕ → List Run → Bool
runs_ascend_from bound [] = true
runs_ascend_from bound (run ∷ runs) =
    nat_le bound run.first && (nat_le run.first run.last && runs_ascend_from (run.last + 2) runs)

-- Runs that ascend, none of them right after the one before.
abbrev pub runs_ascend : List Run → Bool
runs_ascend runs = runs_ascend_from 0 runs

-- A row with its left number not below the bound.
abbrev pub is_row : ℕ → Row → Bool
is_row bound row =
    is_short row.left
    && (list_all is_run row.runs
    && (has_some row.runs && (runs_ascend row.runs && nat_le bound row.left)))

-- Rows whose left numbers ascend from the bound.
abbrev pub are_rows : ℕ → List Row → Bool
are_rows bound [] = true
are_rows bound (row ∷ rows) = is_row bound row && are_rows (row.left + 1) rows

-- A relation.
abbrev pub is_block : RelBlock → Bool
is_block block = is_short (length block.rows) && are_rows 0 block.rows

-- The right numbers of a row with ranks.
abbrev pub rights_of : List Ranked → List ℕ
rights_of pairs = map (λ p. p.right) pairs

-- A pair of short numbers.
abbrev pub is_ranked : Ranked → Bool
is_ranked pair = is_short pair.right && is_short pair.code

-- The left number of a row, and its word.
abbrev pub rank_key : RankRow → List ℕ
rank_key row = row.left ∷ row.ahead

-- The same of the row before, if there is one.
abbrev pub key_before : Option RankRow → List ℕ
key_before None = []
key_before (Some row) = rank_key row

-- The first list is less than the second one in lexicographic order.
abbrev pub is_less : List ℕ → List ℕ → Bool
is_less ns ms = is_lt (slice_cmp nat_cmp ns ms)

-- A row of a relation with ranks for so many announced letters, with its left number and word past
-- the key.
abbrev pub is_rank_row : ℕ → List ℕ → RankRow → Bool
is_rank_row letters key row =
    is_short row.left
    && ((are_short row.ahead && (length row.ahead == letters - 1))
    && (list_all is_ranked row.rights
    && (has_some row.rights && (ascend (rights_of row.rights) && is_less key (rank_key row)))))

-- Such rows, whose left numbers and words ascend in lexicographic order past the key.
abbrev pub are_rank_rows : ℕ → List ℕ → List RankRow → Bool
are_rank_rows letters key [] = true
are_rank_rows letters key (row ∷ rows) =
    is_rank_row letters key row && are_rank_rows letters (rank_key row) rows

-- A relation with ranks for so many announced letters.
abbrev pub is_rank_block : ℕ → RankBlock → Bool
is_rank_block letters block = is_short (length block.rows) && are_rank_rows letters [] block.rows

-- What goes.
abbrev pub gone_of : List GoneBy → List ℕ
gone_of pairs = map (λ p. p.trans) pairs

-- A pair of short numbers.
abbrev pub is_gone : GoneBy → Bool
is_gone pair = is_short pair.trans && is_short pair.by

-- What goes and by what: at least one pair, what goes ascending.
abbrev pub are_gone : List GoneBy → Bool
are_gone pairs =
    list_all is_gone pairs && (has_some pairs && ascend (gone_of pairs))

-- Ascending short numbers, maybe none.
abbrev pub are_kept : List ℕ → Bool
are_kept kept = are_short kept && ascend kept

-- At least one short number.
abbrev pub are_classes : List ℕ → Bool
are_classes classes = are_short classes && has_some classes

-- How many relations the cut by this pair has; no pair has none.
abbrev pub blocks_due : ℕ → ℕ
blocks_due pair =
    if pair == 1 then 1
    else (if pair == 2 then 1 else (if pair == 3 then 2 else (if pair == 4 then 2 else 0)))

-- A cut of the first log: by one of the four pairs, with the relations of that pair.
abbrev pub is_cut : ℕ → ℕ → List GoneBy → List RelBlock → Bool
is_cut pair look gone blocks =
    nat_lt 0 (blocks_due pair)
    && (is_short look
    && (are_gone gone && ((length blocks == blocks_due pair) && list_all is_block blocks)))

-- A step of the first log.
abbrev pub is_first_step : FirstStep → Bool
is_first_step (first.Trim kept) = are_kept kept
is_first_step (first.Merge classes) = are_classes classes
is_first_step (first.Cut pair look gone blocks) = is_cut pair look gone blocks

-- How many letters may be announced: 1 to 4, in version 1 one alone.
abbrev pub are_letters : ℕ → ℕ → Bool
are_letters v letters = if v == 2 then nat_le 1 letters && nat_le letters 4 else letters == 1

-- The grounds of a merge, which are delayed in a Büchi file alone.
abbrev pub are_grounds : ℕ → Mode → Grounds → Bool
are_grounds v m (grounds.Forward look rel) = is_short look && is_block rel
are_grounds v m (grounds.Backward look rel) = is_short look && is_block rel
are_grounds v (mode.Buchi) (grounds.Delayed letters ranks) =
    are_letters v letters && is_rank_block letters ranks
are_grounds v (mode.Finite) (grounds.Delayed letters ranks) = false

-- A step of the second log.
abbrev pub is_second_step : ℕ → Mode → SecondStep → Bool
is_second_step v m (second.Trim kept) = are_kept kept
is_second_step v m (second.Merge by classes) = are_classes classes && are_grounds v m by
is_second_step v m (second.Cut gone) = are_short gone && (has_some gone && ascend gone)

-- Where an element comes from: from a transition in a Büchi file, from the start in a finite one,
-- and in both from an element.
abbrev pub is_origin : Mode → Origin → Bool
is_origin (mode.Buchi) (origin.Start) = false
is_origin (mode.Finite) (origin.Start) = true
is_origin (mode.Buchi) (origin.Base t) = is_short t
is_origin (mode.Finite) (origin.Base t) = false
is_origin m (origin.Next p t) = is_short p && is_short t

-- Whether an element is live.
abbrev pub is_live : Mark → Bool
is_live (mark.Live) = true
is_live (mark.Under j) = false

-- A mark with a short number.
abbrev pub is_mark : Mark → Bool
is_mark (mark.Live) = true
is_mark (mark.Under j) = is_short j

-- An element.
abbrev pub is_element : Mode → Element → Bool
is_element m e = is_mark e.mark && is_origin m e.origin

-- The line of the live element n.
abbrev pub is_step_of : ℕ → StepLine → Bool
is_step_of n step = is_short step.element && (are_short step.by && (step.element == n))

-- One step line for each live element, in order, where the elements are numbered from n.
abbrev pub are_steps : ℕ → List Element → List StepLine → Bool
are_steps n [] [] = true
are_steps n [] (step ∷ steps) = false
are_steps n (e ∷ es) [] = if is_live e.mark then false else are_steps (n + 1) es []
are_steps n (e ∷ es) (step ∷ steps) =
    if is_live e.mark then is_step_of n step && are_steps (n + 1) es steps
    else are_steps (n + 1) es (step ∷ steps)

-- The two logs.
abbrev pub are_logs : ℕ → Mode → List FirstStep → List SecondStep → Bool
are_logs v m firsts seconds =
    is_short (length firsts)
    && (list_all is_first_step firsts
    && (is_short (length seconds) && list_all (is_second_step v m) seconds))

-- The evidence of inclusion.
abbrev pub is_yes : ℕ → Mode → YesBody → Bool
is_yes v m y =
    are_logs v m y.first y.second
    && (is_block y.order
    && (is_short (length y.elements)
    && (list_all (is_element m) y.elements
    && (are_short y.cover && are_steps 0 y.elements y.steps))))

-- A lasso, whose loop is not empty.
abbrev pub is_lasso : Lasso → Bool
is_lasso lasso = are_short lasso.prefix && (are_short lasso.turn && has_some lasso.turn)

-- The evidence that a limit was met.
abbrev pub is_listing : ℕ → Mode → ListBody → Bool
is_listing v m list =
    are_logs v m list.first list.second
    && (is_short list.limit
    && (is_short (length list.elements) && list_all (is_origin m) list.elements))

-- The body fits the mode, and its parts have a text.
abbrev pub is_body : ℕ → Mode → Body → Bool
is_body v m (body.Yes y) = is_yes v m y
is_body v (mode.Buchi) (body.NoLasso lasso) = is_lasso lasso
is_body v (mode.Finite) (body.NoLasso lasso) = false
is_body v (mode.Buchi) (body.NoWord word) = false
is_body v (mode.Finite) (body.NoWord word) = are_short word
is_body v m (body.Listing list) = is_listing v m list

-- A version that there is.
abbrev pub is_version : ℕ → Bool
is_version v = v == 1 || v == 2

-- Whether the certificate has a text.
abbrev pub has_text : Cert → Bool
has_text c =
    is_version c.version
    && (is_short c.first_states
    && (is_short c.second_states && (is_short c.labels && is_body c.version c.mode c.body)))

-- The certificate has a text: its version is 1 or 2, every list is of the stated kind, order and
-- least length, the body fits the mode, every number and every written count has at most nine
-- digits, a cut has the relations of its pair, a delayed merge announces 1 to 4 letters (in version
-- 1 one), and there is one step line for each live element, in order.
abbrev pub WellFormed : Cert → Type 0
WellFormed c = IsTrue (has_text c)

-- The certificate in version 2.
abbrev pub upgraded : Cert → Cert
upgraded c = record {
  version = 2;
  mode = c.mode;
  first_states = c.first_states;
  second_states = c.second_states;
  labels = c.labels;
  body = c.body;
}
