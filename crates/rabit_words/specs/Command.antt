-- The one command whose matches give the question.
use Rattle.std.specs.Prelude.{ℕ, true, List, codes, Some}
use Rattle.clap.specs.Words.{App, Rule, Shape, new_app, new_rule, with_rule, with_subcommand}
use Rattle.clap.specs.Simple.{on_top}
use Rattle.clap.specs.declared.builder.action.ArgAction.TheVariants.{Set, SetTrue}

-- A word that has to stand in its place.
abbrev pub place : List ℕ → Rule
place id = record (new_rule id) { required = true; action = Some Set }

-- An option with a word after it.
abbrev pub option_with_word : List ℕ → Rule
option_with_word id = record (new_rule id) { long = Some id; action = Some Set }

-- An option alone.
abbrev pub option_alone : List ℕ → Rule
option_alone id = record (new_rule id) { long = Some id; action = Some SetTrue }

-- A command of this name with the places of two automata.
abbrev pub two_files_app : List ℕ → App
two_files_app name = with_rule (with_rule (new_app name) (place (codes "A"))) (place (codes "B"))

-- The same with the place of a certificate after them.
abbrev pub three_files_app : List ℕ → App
three_files_app name = with_rule (two_files_app name) (place (codes "CERT"))

-- `include A B CERT [--finite] [--look K] [--limit N] [--letters M]`
abbrev pub include_app : App
include_app =
    with_rule
    (with_rule
    (with_rule (with_rule (three_files_app (codes "include")) (option_alone (codes "finite")))
    (option_with_word (codes "look"))) (option_with_word (codes "limit")))
    (option_with_word (codes "letters"))

-- `check A B CERT`
abbrev pub check_app : App
check_app = three_files_app (codes "check")

-- `reduce A [--finite] [--look K] [--letters M]`
abbrev pub reduce_app : App
reduce_app =
    with_rule
    (with_rule
    (with_rule (with_rule (new_app (codes "reduce")) (place (codes "A")))
    (option_alone (codes "finite"))) (option_with_word (codes "look")))
    (option_with_word (codes "letters"))

-- `drill SEED STATES LABELS`
abbrev pub drill_app : App
drill_app =
    with_rule (with_rule (with_rule (new_app (codes "drill")) (place (codes "SEED")))
    (place (codes "STATES"))) (place (codes "LABELS"))

-- `upgrade CERT OUT`
abbrev pub upgrade_app : App
upgrade_app =
    with_rule (with_rule (new_app (codes "upgrade")) (place (codes "CERT"))) (place (codes "OUT"))

-- `cross A B OUT [--look K]`
abbrev pub cross_app : App
cross_app =
    with_rule (with_rule (two_files_app (codes "cross")) (place (codes "OUT")))
    (option_with_word (codes "look"))

-- `cross-check A B FILE`
abbrev pub cross_check_app : App
cross_check_app = with_rule (two_files_app (codes "cross-check")) (place (codes "FILE"))

-- `equal A B C1 C2`
abbrev pub equal_app : App
equal_app =
    with_rule (with_rule (two_files_app (codes "equal")) (place (codes "C1"))) (place (codes "C2"))

-- `batch LIST`
abbrev pub batch_app : App
batch_app = with_rule (new_app (codes "batch")) (place (codes "LIST"))

-- `union A B [--finite]`
abbrev pub union_app : App
union_app = with_rule (two_files_app (codes "union")) (option_alone (codes "finite"))

-- `intersect A B [--finite]`
abbrev pub intersect_app : App
intersect_app = with_rule (two_files_app (codes "intersect")) (option_alone (codes "finite"))

-- `shrink A B CERT OUT`
abbrev pub shrink_app : App
shrink_app = with_rule (three_files_app (codes "shrink")) (place (codes "OUT"))

-- A command of this name with the places of an automaton, of another of this name that is written,
-- and of a certificate, and with `--finite`.
abbrev pub deciding_app : List ℕ → List ℕ → App
deciding_app name other =
    with_rule
    (with_rule (with_rule (with_rule (new_app name) (place (codes "A"))) (place other))
    (place (codes "CERT"))) (option_alone (codes "finite"))

-- `empty A E CERT [--finite]`
abbrev pub empty_app : App
empty_app = deciding_app (codes "empty") (codes "E")

-- `universal A U CERT [--finite]`
abbrev pub universal_app : App
universal_app = deciding_app (codes "universal") (codes "U")

-- The command needs one of its subcommands.
abbrev pub needing_subcommand : Shape → Shape
needing_subcommand s = record s { subcommand_required = true }

-- The program's command.
abbrev pub rabit_app : App
rabit_app =
    with_subcommand
    (with_subcommand
    (with_subcommand
    (with_subcommand
    (with_subcommand
    (with_subcommand
    (with_subcommand
    (with_subcommand
    (with_subcommand
    (with_subcommand
    (with_subcommand
    (with_subcommand
    (with_subcommand
    (with_subcommand (on_top needing_subcommand (new_app (codes "rabit"))) include_app.top)
    check_app.top) reduce_app.top) drill_app.top) upgrade_app.top) cross_app.top)
    cross_check_app.top) equal_app.top) batch_app.top) union_app.top) intersect_app.top)
    shrink_app.top) empty_app.top) universal_app.top
