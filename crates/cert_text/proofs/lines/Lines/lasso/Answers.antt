use Rattle.std.proofs.lemmas.Result.{err_from_is_err_and}
use Rattle.std.proofs.Common.{ℕ, List, Ok, Err}
use Rattle.auto_core.specs.declared.parts.Lasso.{Lasso}
use Rattle.cert_value.specs.declared.keywords.Keyword.TheVariants as keyword
use Rattle.cert_line.specs.declared.shapes.Tail.TheVariants as tail
use Rattle.cert_line.specs.Lines.{numbers_in}
use Rattle.cert_text.specs.Grammar.{next_line, read_turn}
use Rattle.cert_text.proofs.LinesLeftLemmas.{then_reads, first_stops, gives}
use Rattle.cert_text.proofs.lines.Lines.lasso.Goals as goal

abbrev made : List ℕ → List ℕ → Lasso
made prefix turn = record { prefix = prefix; turn = turn }

pub returns-in_err-prefix : goal.returns-in_err-prefix
returns-in_err-prefix g c =
    let p = err_from_is_err_and c.from_residual.result c.from_residual.ensures.1 in
    rw (p.1, p.2)
    (first_stops {A = Lasso} (next_line (numbers_in keyword.Prefix tail.Numbers)) (λ next prefix. read_turn prefix next) c.args.self.now c.numbers.new.self c.numbers.new.self c.in_err-prefix.field-0.0 c.in_err-prefix.ensures)

pub returns-in_err-turn : goal.returns-in_err-turn
returns-in_err-turn g c =
    let p = err_from_is_err_and c.from_residual-in_err-turn.result c.from_residual-in_err-turn.ensures.1 in
    rw (p.1, p.2)
    (then_reads {A = Lasso} (next_line (numbers_in keyword.Prefix tail.Numbers)) (λ next prefix. read_turn prefix next) c.args.self.now c.numbers.new.self c.numbers-2.new.self c.in_ok-prefix.prefix (Err c.in_err-turn.field-0.0) c.in_ok-prefix.ensures
    (first_stops {A = Lasso} (next_line (numbers_in keyword.Loop tail.SomeNumbers)) (λ next turn. next (made c.in_ok-prefix.prefix turn)) c.numbers.new.self c.numbers-2.new.self c.numbers-2.new.self c.in_err-turn.field-0.0 c.in_err-turn.ensures))

pub returns : goal.returns
returns g c =
    then_reads (next_line (numbers_in keyword.Prefix tail.Numbers)) (λ next prefix. read_turn prefix next) c.args.self.now c.numbers.new.self c.numbers-2.new.self c.in_ok-prefix.prefix (Ok (made c.in_ok-prefix.prefix c.in_ok-turn.turn)) c.in_ok-prefix.ensures
    (gives (next_line (numbers_in keyword.Loop tail.SomeNumbers)) (made c.in_ok-prefix.prefix) c.numbers.new.self c.numbers-2.new.self c.in_ok-turn.turn c.in_ok-turn.ensures)
