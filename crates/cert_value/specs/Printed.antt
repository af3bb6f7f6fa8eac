-- What the writer's parts write.
use Rattle.std.specs.Prelude.{ℕ, ◌==◌, List, [], ◌∷◌, ◌++◌, decimal, if◌then◌else◌}
use Rattle.cert_value.specs.declared.types.Mark.{Mark}
use Rattle.cert_value.specs.declared.types.Mark.TheVariants as mark
use Rattle.cert_value.specs.declared.keywords.Keyword.TheVariants as keyword
use Rattle.cert_value.specs.Text.{spelled, run_numbers}
use Rattle.cert_value.specs.declared.types.GoneBy.{GoneBy}
use Rattle.cert_value.specs.declared.types.Ranked.{Ranked}
use Rattle.cert_value.specs.declared.types.Run.{Run}

-- What each item gives, one after another.
abbrev pub joined : {A : Type 0} → (A → List ℕ) → List A → List ℕ
joined printed [] = []
joined printed (item ∷ items) = printed item ++ joined printed items

-- A number, with a space before it.
abbrev pub number_text : ℕ → List ℕ
number_text n = 32 ∷ decimal n

-- Two numbers, with a space before each.
abbrev pub pair_text : ℕ → ℕ → List ℕ
pair_text n m = 32 ∷ (decimal n ++ 32 ∷ decimal m)

-- What goes and by what, with a space before each.
abbrev pub gone_text : GoneBy → List ℕ
gone_text pair = pair_text pair.trans pair.by

-- A right number with its code, with a space before each.
abbrev pub ranked_text : Ranked → List ℕ
ranked_text pair = pair_text pair.right pair.code

-- A run, with a space before each number.
abbrev pub run_text : ℕ → Run → List ℕ
run_text v run =
    if v == 2 then pair_text run.first run.last else joined number_text (run_numbers run)

-- A mark, with a space after it.
abbrev pub mark_text : Mark → List ℕ
mark_text (mark.Live) = spelled keyword.Live ++ 32 ∷ []
mark_text (mark.Under j) = spelled keyword.Under ++ 32 ∷ (decimal j ++ 32 ∷ [])
