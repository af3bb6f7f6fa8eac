use Rattle.std.proofs.Common.{[], ap, sym, ◌∙◌}
use Rattle.cert_value.specs.Tokens.{tokens_of}
use Rattle.cert_line.specs.Shapes.{value}
use Rattle.cert_line.proofs.ShapeLemmas.{front_is}
use Rattle.cert_line.proofs.shapes.value_at.Goals as goal

pub returns-in-Some : goal.returns-in-Some
returns-in-Some c =
    c.value.ensures
    ∙ ap (λ t. value t)
    (sym (front_is (tokens_of c.args.line.now) c.args.number c.in-Some.token.now [] c.next.new.self (sym c.behind.ensures ∙ c.in-Some.ensures.token)))
