-- The texts of the commands.
use Rattle.std.specs.Prelude.{ℕ, List, [], ◌∷◌, ◌++◌, codes, decimal, slice_index_or}
use Rattle.std.specs.List.{flat_map}
use Rattle.auto_core.specs.declared.parts.Mode.{Mode}
use Rattle.auto_core.specs.declared.parts.Mode.TheVariants.{Buchi, Finite}
use Rattle.auto_core.specs.declared.parts.Lasso.{Lasso}
use Rattle.cert_value.specs.declared.types.Body.{Body}
use Rattle.cert_value.specs.declared.types.Body.TheVariants.{Yes, NoLasso, NoWord, Listing}
use Rattle.log_check.specs.declared.faults.Refusal.{Refusal}
use Rattle.rabit_frame.specs.Lines.{line_end}

-- The text of a label.
abbrev pub label_text : List (List ℕ) → ℕ → List ℕ
label_text labels a = slice_index_or labels a []

-- The labels of further letters, each after a comma.
abbrev pub further_letters : List (List ℕ) → List ℕ → List ℕ
further_letters labels word = flat_map (λ a. 44 ∷ label_text labels a) word

-- The labels of a word's letters: a space before the first, and commas between them.
abbrev pub word_text : List (List ℕ) → List ℕ → List ℕ
word_text labels [] = []
word_text labels (a ∷ word) = 32 ∷ (label_text labels a ++ further_letters labels word)

-- How the program is used.
abbrev pub usage_text : List ℕ
usage_text =
    codes "usage: rabit include A B CERT [--finite] [--look K] [--limit N] [--letters M] | check A B CERT | reduce A [--finite] [--look K] [--letters M] | drill SEED STATES LABELS | upgrade CERT OUT | cross A B OUT [--look K] | cross-check A B FILE | equal A B C1 C2 | batch LIST | union A B [--finite] | intersect A B [--finite] | shrink A B CERT OUT | empty A E CERT [--finite] | universal A U CERT [--finite]" ++ line_end

-- The second automaton accepts what the first does, since a cross relation shows it.
abbrev pub by_simulation_text : List ℕ
by_simulation_text = codes "included by simulation" ++ line_end

-- No cross relation has the pair of the initial states.
abbrev pub no_relation_text : List ℕ
no_relation_text = codes "no cross relation" ++ line_end

-- The automaton that was asked for is too large.
abbrev pub too_large_text : List ℕ
too_large_text = codes "too large" ++ line_end

-- The line that says that the certificate is written in version 2.
abbrev pub upgrade_done_text : List ℕ
upgrade_done_text = codes "upgraded" ++ line_end

-- A valid certificate has neither a lasso nor a word.
abbrev pub nothing_to_shrink_text : List ℕ
nothing_to_shrink_text = codes "nothing to shrink" ++ line_end

-- A certificate breaks a rule.
abbrev pub refused_text : Refusal → List ℕ
refused_text refusal =
    codes "certificate item "
    ++ (decimal refusal.item ++ (codes ": rule " ++ (decimal refusal.rule ++ line_end)))

-- The second automaton accepts each lasso, in finite mode each word, that the first accepts.
abbrev pub included_text : Mode → List ℕ
included_text Buchi = codes "included" ++ line_end
included_text Finite = codes "included, finite" ++ line_end

-- The lines of a lasso.
abbrev pub lasso_lines : List (List ℕ) → Lasso → List ℕ
lasso_lines labels lasso =
    codes "prefix:"
    ++ (word_text labels lasso.prefix
    ++ (line_end ++ (codes "loop:" ++ (word_text labels lasso.turn ++ line_end))))

-- The line of a word.
abbrev pub word_line : List (List ℕ) → List ℕ → List ℕ
word_line labels word = codes "word:" ++ (word_text labels word ++ line_end)

-- The first automaton accepts the lasso, and the second does not.
abbrev pub not_included_text : List (List ℕ) → Lasso → List ℕ
not_included_text labels lasso = codes "not included" ++ (line_end ++ lasso_lines labels lasso)

-- The first automaton accepts the word, and the second does not.
abbrev pub word_not_included_text : List (List ℕ) → List ℕ → List ℕ
word_not_included_text labels word =
    codes "not included, finite" ++ (line_end ++ word_line labels word)

-- What a no has, as its lines.
abbrev pub witness_lines : List (List ℕ) → Body → List ℕ
witness_lines labels (Yes evidence) = []
witness_lines labels (NoLasso lasso) = lasso_lines labels lasso
witness_lines labels (NoWord word) = word_line labels word
witness_lines labels (Listing list) = []

-- Both automata accept the same.
abbrev pub equal_text : List ℕ
equal_text = codes "equal" ++ line_end

-- The first accepts what the second does not.
abbrev pub first_apart_text : List (List ℕ) → Body → List ℕ
first_apart_text labels body =
    codes "first not in second" ++ (line_end ++ witness_lines labels body)

-- The second accepts what the first does not.
abbrev pub second_apart_text : List (List ℕ) → Body → List ℕ
second_apart_text labels body =
    codes "second not in first" ++ (line_end ++ witness_lines labels body)

-- An automaton has the property of this name.
abbrev pub holds_text : List ℕ → List ℕ
holds_text property = property ++ line_end

-- It has not, which the lasso shows.
abbrev pub lasso_against_text : List ℕ → List (List ℕ) → Lasso → List ℕ
lasso_against_text property labels lasso =
    codes "not " ++ (property ++ (line_end ++ lasso_lines labels lasso))

-- It has not, which the word shows.
abbrev pub word_against_text : List ℕ → List (List ℕ) → List ℕ → List ℕ
word_against_text property labels word =
    codes "not " ++ (property ++ (line_end ++ word_line labels word))

-- The search met its limit.
abbrev pub limit_text : ℕ → List ℕ
limit_text limit = codes "limit " ++ (decimal limit ++ line_end)
