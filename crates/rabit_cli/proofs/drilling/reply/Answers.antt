use Rattle.std.proofs.Common.{◌++◌, codes, sym, ◌∙◌, ap, subst}
use Rattle.ba_format.specs.declared.parts.Joined.{Joined}
use Rattle.decide.specs.Answer.{IsAnswer}
use Rattle.decide.specs.Laws.{CanDecide}
use Rattle.rabit_frame.specs.declared.parts.Status.TheVariants as status
use Rattle.rabit_frame.specs.Reading.{only_said}
use Rattle.rabit_cli.specs.Drill.{drill_terms, exchanged, size_line, finding}
use Rattle.rabit_cli.proofs.DrillLemmas.{can_draw, can_exchange, text_by_pieces}
use Rattle.rabit_cli.proofs.drilling.reply.Goals as goal

pub add_finding-requires : goal.add_finding-requires
add_finding-requires c = can_draw c.args.drill c.in_ok-pair.pair c.requires c.in_ok-pair.ensures

pub add_finding-requires-2 : goal.add_finding-requires-2
add_finding-requires-2 c =
    let pair = c.in_ok-pair.pair in
    subst (λ (p : Joined). CanDecide p) (sym c.exchanged-pair.ensures) (can_exchange c.args.drill pair c.requires c.in_ok-pair.ensures)

pub returns : goal.returns
returns c =
    let pair = c.in_ok-pair.pair in
    let (forth, one, first_text) = c.in_ok-add_finding.ensures in
    let (converse, two, second_text) = c.in_ok-add_finding-2.ensures in
    let other : IsAnswer (exchanged pair) drill_terms converse = subst (λ (p : Joined). IsAnswer p drill_terms converse) c.exchanged-pair.ensures two in
    λ values. (
      pair,
      forth,
      converse,
      record { drawn = c.in_ok-pair.ensures; first_in_second = one; second_in_first = other },
      c.saying.ensures
          ∙ ap (λ t. only_said status.Done t)
          (second_text
          ∙ ap (λ t. (t ++ codes "second in first: ") ++ finding converse.body) (first_text ∙ ap (λ t. (t ++ codes "first in second: ") ++ finding forth.body) c.in_ok-text.ensures)
          ∙ text_by_pieces (size_line (codes "first") pair.first) (size_line (codes "second") pair.second) (codes "first in second: ") (finding forth.body) (codes "second in first: ") (finding converse.body)),
    )
