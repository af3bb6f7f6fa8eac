use Rattle.std.proofs.Common.{◌≡◌, ◌∙◌, ap, codes}
use Rattle.clap.specs.Words.{App, app_of, new_app}
use Rattle.clap.specs.Simple.{app_of_fields, on_top}
use Rattle.rabit_words.specs.Command.{needing_subcommand}
use Rattle.rabit_words.proofs.command.rabit.Goals as goal

-- the program's command without its subcommands
abbrev start_app : App
start_app = on_top needing_subcommand (new_app (codes "rabit"))

pub returns : goal.returns
returns c =
    let start : app_of c.subcommand_required.result ≡ start_app = ap app_of_fields c.subcommand_required.ensures ∙ ap (on_top needing_subcommand) c.new.ensures.app in
    let one = c.with_subcommand-one.ensures _ _ start c.include.ensures.app c.include.ensures.local in
    let two = c.with_subcommand-two.ensures _ _ one c.check.ensures.app c.check.ensures.local in
    let three = c.with_subcommand-three.ensures _ _ two c.reduce.ensures.app c.reduce.ensures.local in
    let four = c.with_subcommand-four.ensures _ _ three c.drill.ensures.app c.drill.ensures.local in
    let five = c.with_subcommand-five.ensures _ _ four c.upgrade.ensures.app c.upgrade.ensures.local in
    let six = c.with_subcommand-six.ensures _ _ five c.cross.ensures.app c.cross.ensures.local in
    let seven = c.with_subcommand-seven.ensures _ _ six c.cross_check.ensures.app c.cross_check.ensures.local in
    let eight = c.with_subcommand-eight.ensures _ _ seven c.equal.ensures.app c.equal.ensures.local in
    let nine = c.with_subcommand-nine.ensures _ _ eight c.batch.ensures.app c.batch.ensures.local in
    let ten = c.with_subcommand-ten.ensures _ _ nine c.union.ensures.app c.union.ensures.local in
    let eleven = c.with_subcommand-eleven.ensures _ _ ten c.intersect.ensures.app c.intersect.ensures.local in
    let twelve = c.with_subcommand-twelve.ensures _ _ eleven c.shrink.ensures.app c.shrink.ensures.local in
    let thirteen = c.with_subcommand-thirteen.ensures _ _ twelve c.empty.ensures.app c.empty.ensures.local in
    c.with_subcommand.ensures _ _ thirteen c.universal.ensures.app c.universal.ensures.local
