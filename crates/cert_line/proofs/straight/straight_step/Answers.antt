use Rattle.std.proofs.Common.{◌≡◌, ◌∷◌, sym, ap, ◌∙◌, rules}
use Rattle.cert_value.specs.Tokens.{tokens_of}
use Rattle.cert_value.specs.Text.{spelled}
use Rattle.cert_value.specs.declared.keywords.Keyword.TheVariants as keyword
use Rattle.cert_line.proofs.StraightLemmas.{told_numbers, step_straight}
use Rattle.cert_line.proofs.straight.straight_step.Goals as goal

pub returns-in-Some-2 : goal.returns-in-Some-2
returns-in-Some-2 c =
    let word : c.in-Some.word.now ≡ spelled keyword.Step = search rules in
    let first = c.in-Some-next_number.ensures in
    let by = told_numbers c.in_ok-by.field-0 c.in-Some-2.by c.next_number.new.tokens c.in-Some-2.is c.in_ok-by.ensures in
    step_straight c.args.number c.in-Some-next_number.element c.in-Some-2.by (tokens_of c.args.line.now) c.next.new.self c.next_number.new.tokens
    (sym c.of-tokens.ensures ∙ c.in-Some.ensures.token ∙ ap (λ w. w ∷ c.next.new.self) word)
    first.0 first.1 by.0 by.1 c.if-element-number.true
