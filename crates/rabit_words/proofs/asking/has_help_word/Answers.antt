use Rattle.std.proofs.Common.{◌≡◌, ◌∙◌, ◌||◌, false, map, Global, List, ℕ, sym, ap}
use Rattle.std.specs.List.{list_any}
use Rattle.std.specs.String.{string_bytes}
use Rattle.rabit_words.specs.Question.{is_help_option, starts_with_help}
use Rattle.rabit_words.proofs.WordLemmas.{any_of_map}
use Rattle.rabit_words.proofs.asking.has_help_word.Goals as goal

pub returns-else-starts_with_help : goal.returns-else-starts_with_help
returns-else-starts_with_help c =
    let words : List (List ℕ) = map (string_bytes {Z = Global}) c.args.words.now in
    let first : starts_with_help words ≡ false = sym c.starts_with_help.ensures ∙ c.if-starts_with_help.false in
    c.has_help_option.ensures ∙ sym (any_of_map is_help_option (string_bytes {Z = Global}) c.args.words.now) ∙ sym (ap (λ b. b || list_any is_help_option words) first)
