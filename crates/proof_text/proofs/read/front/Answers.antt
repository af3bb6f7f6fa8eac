use Rattle.std.proofs.lemmas.Result.{err_from_is_err_and}
use Rattle.auto_core.specs.declared.parts.Mode.TheVariants as mode
use Rattle.cert_value.specs.declared.keywords.Keyword.TheVariants as keyword
use Rattle.cert_line.specs.declared.shapes.Tail.TheVariants as tail
use Rattle.cert_line.specs.Lines.{numbers_in, ascending_in}
use Rattle.cert_text.specs.Grammar.{next_line, read_first_log, read_second_log}
use Rattle.cert_text.proofs.LinesLeftLemmas.{so_far, so_next, so_stop}
use Rattle.proof_text.specs.declared.types.Proof.{Proof}
use Rattle.proof_text.specs.ProofGrammar.{front_of, read_front_end, read_accepting, read_map, read_letters, read_front}
use Rattle.proof_text.proofs.read.front.Goals as goal

pub returns-in_err-second : goal.returns-in_err-second
returns-in_err-second c =
    let p = err_from_is_err_and c.from_residual.result c.from_residual.ensures.1 in
    rw (p.1, p.2)
    (so_stop {C = Proof} read_front (read_second_log 2 mode.Buchi) (λ next seconds. read_letters seconds next) c.args.lines.now c.args.lines.now c.second_log.new.self c.second_log.new.self c.in_err-second.field-0.0 (so_far {C = Proof} read_front c.args.lines.now) c.in_err-second.ensures)

pub returns-in_err-letters : goal.returns-in_err-letters
returns-in_err-letters c =
    let p = err_from_is_err_and c.from_residual-in_err-letters.result c.from_residual-in_err-letters.ensures.1 in
    rw (p.1, p.2)
    (so_stop {C = Proof} read_front (next_line (numbers_in keyword.Letters tail.Numbers)) (λ next letters. read_map c.in_ok-second.second letters next) c.args.lines.now c.second_log.new.self c.numbers.new.self c.numbers.new.self c.in_err-letters.field-0.0 (so_next {C = Proof} read_front (read_second_log 2 mode.Buchi) (λ next seconds. read_letters seconds next) c.args.lines.now c.args.lines.now c.second_log.new.self c.in_ok-second.second (so_far {C = Proof} read_front c.args.lines.now) c.in_ok-second.ensures) c.in_err-letters.ensures)

pub returns-in_err-map : goal.returns-in_err-map
returns-in_err-map c =
    let p = err_from_is_err_and c.from_residual-in_err-map.result c.from_residual-in_err-map.ensures.1 in
    rw (p.1, p.2)
    (so_stop {C = Proof} read_front (next_line (numbers_in keyword.Map tail.Numbers)) (λ next map. read_accepting c.in_ok-second.second c.in_ok-letters.letters map next) c.args.lines.now c.numbers.new.self c.numbers-2.new.self c.numbers-2.new.self c.in_err-map.field-0.0 (so_next {C = Proof} read_front (next_line (numbers_in keyword.Letters tail.Numbers)) (λ next letters. read_map c.in_ok-second.second letters next) c.args.lines.now c.second_log.new.self c.numbers.new.self c.in_ok-letters.letters (so_next {C = Proof} read_front (read_second_log 2 mode.Buchi) (λ next seconds. read_letters seconds next) c.args.lines.now c.args.lines.now c.second_log.new.self c.in_ok-second.second (so_far {C = Proof} read_front c.args.lines.now) c.in_ok-second.ensures) c.in_ok-letters.ensures) c.in_err-map.ensures)

pub returns-in_err-accepting : goal.returns-in_err-accepting
returns-in_err-accepting c =
    let p = err_from_is_err_and c.from_residual-in_err-accepting.result c.from_residual-in_err-accepting.ensures.1 in
    rw (p.1, p.2)
    (so_stop {C = Proof} read_front (next_line (ascending_in keyword.Accepting tail.Numbers)) (λ next accepting. read_front_end c.in_ok-second.second c.in_ok-letters.letters c.in_ok-map.map accepting next) c.args.lines.now c.numbers-2.new.self c.ascending.new.self c.ascending.new.self c.in_err-accepting.field-0.0 (so_next {C = Proof} read_front (next_line (numbers_in keyword.Map tail.Numbers)) (λ next map. read_accepting c.in_ok-second.second c.in_ok-letters.letters map next) c.args.lines.now c.numbers.new.self c.numbers-2.new.self c.in_ok-map.map (so_next {C = Proof} read_front (next_line (numbers_in keyword.Letters tail.Numbers)) (λ next letters. read_map c.in_ok-second.second letters next) c.args.lines.now c.second_log.new.self c.numbers.new.self c.in_ok-letters.letters (so_next {C = Proof} read_front (read_second_log 2 mode.Buchi) (λ next seconds. read_letters seconds next) c.args.lines.now c.args.lines.now c.second_log.new.self c.in_ok-second.second (so_far {C = Proof} read_front c.args.lines.now) c.in_ok-second.ensures) c.in_ok-letters.ensures) c.in_ok-map.ensures) c.in_err-accepting.ensures)

pub returns-in_err-first : goal.returns-in_err-first
returns-in_err-first c =
    let p = err_from_is_err_and c.from_residual-in_err-first.result c.from_residual-in_err-first.ensures.1 in
    rw (p.1, p.2)
    (so_stop {C = Proof} read_front (read_first_log 2) (λ next firsts. next (front_of c.in_ok-second.second c.in_ok-letters.letters c.in_ok-map.map c.in_ok-accepting.accepting firsts)) c.args.lines.now c.ascending.new.self c.first_log.new.self c.first_log.new.self c.in_err-first.field-0.0 (so_next {C = Proof} read_front (next_line (ascending_in keyword.Accepting tail.Numbers)) (λ next accepting. read_front_end c.in_ok-second.second c.in_ok-letters.letters c.in_ok-map.map accepting next) c.args.lines.now c.numbers-2.new.self c.ascending.new.self c.in_ok-accepting.accepting (so_next {C = Proof} read_front (next_line (numbers_in keyword.Map tail.Numbers)) (λ next map. read_accepting c.in_ok-second.second c.in_ok-letters.letters map next) c.args.lines.now c.numbers.new.self c.numbers-2.new.self c.in_ok-map.map (so_next {C = Proof} read_front (next_line (numbers_in keyword.Letters tail.Numbers)) (λ next letters. read_map c.in_ok-second.second letters next) c.args.lines.now c.second_log.new.self c.numbers.new.self c.in_ok-letters.letters (so_next {C = Proof} read_front (read_second_log 2 mode.Buchi) (λ next seconds. read_letters seconds next) c.args.lines.now c.args.lines.now c.second_log.new.self c.in_ok-second.second (so_far {C = Proof} read_front c.args.lines.now) c.in_ok-second.ensures) c.in_ok-letters.ensures) c.in_ok-map.ensures) c.in_ok-accepting.ensures) c.in_err-first.ensures)

pub returns : goal.returns
returns c =
    (so_next {C = Proof} read_front (read_first_log 2) (λ next firsts. next (front_of c.in_ok-second.second c.in_ok-letters.letters c.in_ok-map.map c.in_ok-accepting.accepting firsts)) c.args.lines.now c.ascending.new.self c.first_log.new.self c.in_ok-first.first (so_next {C = Proof} read_front (next_line (ascending_in keyword.Accepting tail.Numbers)) (λ next accepting. read_front_end c.in_ok-second.second c.in_ok-letters.letters c.in_ok-map.map accepting next) c.args.lines.now c.numbers-2.new.self c.ascending.new.self c.in_ok-accepting.accepting (so_next {C = Proof} read_front (next_line (numbers_in keyword.Map tail.Numbers)) (λ next map. read_accepting c.in_ok-second.second c.in_ok-letters.letters map next) c.args.lines.now c.numbers.new.self c.numbers-2.new.self c.in_ok-map.map (so_next {C = Proof} read_front (next_line (numbers_in keyword.Letters tail.Numbers)) (λ next letters. read_map c.in_ok-second.second letters next) c.args.lines.now c.second_log.new.self c.numbers.new.self c.in_ok-letters.letters (so_next {C = Proof} read_front (read_second_log 2 mode.Buchi) (λ next seconds. read_letters seconds next) c.args.lines.now c.args.lines.now c.second_log.new.self c.in_ok-second.second (so_far {C = Proof} read_front c.args.lines.now) c.in_ok-second.ensures) c.in_ok-letters.ensures) c.in_ok-map.ensures) c.in_ok-accepting.ensures) c.in_ok-first.ensures)
