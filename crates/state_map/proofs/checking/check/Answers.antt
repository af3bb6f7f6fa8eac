use Rattle.std.proofs.Common.{◌≡◌, ◌∙◌, sym, ap}
use Rattle.auto_core.specs.Quotient.{class_of}
use Rattle.state_map.proofs.MapLemmas.{carries}
use Rattle.state_map.proofs.checking.check.Goals as goal

pub returns-clause-carries : goal.returns-clause-carries
returns-clause-carries c =
    let A = c.args.first.now in
    let B = c.args.small.now in
    let map = c.args.map.now in
    let start : B.initial ≡ class_of map A.initial = sym c.initial.ensures.state ∙ c.if-initial-map.false ∙ ap (class_of map) c.initial-2.ensures.state in
    carries A B map c.initial-2.ensures.valid start c.in_default-first_no_move.ensures.none c.in_default-first_not_accepting.ensures.none
