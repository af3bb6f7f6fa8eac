-- Lists of questions against their texts.
use Rattle.std.specs.Prelude.{◌≡◌, ℕ, List, None}
use Rattle.equal_batch.specs.declared.questions.Question.{Question}
use Rattle.equal_batch.specs.Questions.{IsList, first_bad}

-- A text is that of one list at most.
abbrev pub ListIsOne : Type 0
ListIsOne =
    (one two : List Question) (bytes : List ℕ) → IsList one bytes → IsList two bytes → one ≡ two

-- A list's text has no bad line.
abbrev pub ListHasNoBadLine : Type 0
ListHasNoBadLine =
    (questions : List Question) (bytes : List ℕ) → IsList questions bytes → first_bad bytes ≡ None

-- A text without a bad line is that of a list.
abbrev pub TextWithoutABadLineIsALists : Type 0
TextWithoutABadLineIsALists =
    (bytes : List ℕ) → first_bad bytes ≡ None → (questions : List Question) × IsList questions bytes
