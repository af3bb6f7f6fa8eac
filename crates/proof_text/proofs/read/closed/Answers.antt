use Rattle.std.proofs.lemmas.Result.{err_from_is_err_and}
use Rattle.std.proofs.Common.{Ok, Err, sym, subst}
use Rattle.auto_core.specs.declared.parts.Mode.TheVariants as mode
use Rattle.cert_text.specs.Grammar.{read_closed}
use Rattle.cert_text.proofs.LinesLeftLemmas.{then_reads, first_stops, gives}
use Rattle.proof_text.specs.declared.types.Proof.{Proof}
use Rattle.proof_text.specs.declared.types.ProofBody.{ProofBody}
use Rattle.proof_text.specs.declared.types.ProofBody.TheVariants as body
use Rattle.proof_text.specs.declared.types.Evidence.TheVariants as evidence
use Rattle.cert_text.specs.LinesLeft.{ReadsOn}
use Rattle.proof_text.specs.ProofGrammar.{read_front, read_closed_list}
use Rattle.proof_text.specs.ProofText.{without_logs}
use Rattle.proof_text.proofs.read.closed.Goals as goal

pub returns-in_err-front : goal.returns-in_err-front
returns-in_err-front c =
    let p = err_from_is_err_and c.from_residual.result c.from_residual.ensures.1 in
    rw (p.1, p.2)
    (first_stops {C = Proof} {A = ProofBody} read_front (λ next front. read_closed 2 mode.Buchi (λ x. next (body.Yes front (evidence.Closed (without_logs x))))) c.args.lines.now c.front.new.lines c.front.new.lines c.in_err-front.field-0.0 c.in_err-front.ensures)

pub returns-in-Ok : goal.returns-in-Ok
returns-in-Ok c =
    let reads = then_reads {C = Proof} read_front (λ next front. read_closed 2 mode.Buchi (λ x. next (body.Yes front (evidence.Closed (without_logs x))))) c.args.lines.now c.front.new.lines c.closed.new.self c.in_ok-front.front (Ok (body.Yes c.in_ok-front.front (evidence.Closed (without_logs c.in-Ok.closed)))) c.in_ok-front.ensures
    (gives {C = Proof} (read_closed 2 mode.Buchi) (λ x. body.Yes c.in_ok-front.front (evidence.Closed (without_logs x))) c.front.new.lines c.closed.new.self c.in-Ok.closed c.in-Ok.ensures) in
    subst (λ y. ReadsOn {C = Proof} {A = ProofBody} read_closed_list c.args.lines.now c.closed.new.self (Ok (body.Yes c.in_ok-front.front (evidence.Closed y)))) (sym c.without_logs-list.ensures) reads

pub returns-in-Err : goal.returns-in-Err
returns-in-Err c =
    then_reads {C = Proof} {A = ProofBody} read_front (λ next front. read_closed 2 mode.Buchi (λ x. next (body.Yes front (evidence.Closed (without_logs x))))) c.args.lines.now c.front.new.lines c.closed.new.self c.in_ok-front.front (Err c.in-Err.fault) c.in_ok-front.ensures
    (first_stops {C = Proof} {A = ProofBody} (read_closed 2 mode.Buchi) (λ next x. next (body.Yes c.in_ok-front.front (evidence.Closed (without_logs x)))) c.front.new.lines c.closed.new.self c.closed.new.self c.in-Err.fault c.in-Err.ensures)
