use Rattle.std.proofs.lemmas.Result.{err_from_is_err_and}
use Rattle.std.proofs.Common.{Ok, Err}
use Rattle.cert_text.specs.Grammar.{read_rank_block}
use Rattle.cert_text.proofs.LinesLeftLemmas.{then_reads, first_stops, gives}
use Rattle.proof_text.specs.declared.types.Proof.{Proof}
use Rattle.proof_text.specs.declared.types.ProofBody.{ProofBody}
use Rattle.proof_text.specs.declared.types.ProofBody.TheVariants as body
use Rattle.proof_text.specs.declared.types.Evidence.TheVariants as evidence
use Rattle.proof_text.specs.ProofGrammar.{read_front}
use Rattle.proof_text.proofs.read.delayed.Goals as goal

pub returns-in_err-front : goal.returns-in_err-front
returns-in_err-front c =
    let p = err_from_is_err_and c.from_residual.result c.from_residual.ensures.1 in
    rw (p.1, p.2)
    (first_stops {C = Proof} {A = ProofBody} read_front (λ next front. read_rank_block 1 (λ x. next (body.Yes front (evidence.Delayed x)))) c.args.lines.now c.front.new.lines c.front.new.lines c.in_err-front.field-0.0 c.in_err-front.ensures)

pub returns-in-Ok : goal.returns-in-Ok
returns-in-Ok c =
    then_reads {C = Proof} read_front (λ next front. read_rank_block 1 (λ x. next (body.Yes front (evidence.Delayed x)))) c.args.lines.now c.front.new.lines c.rank_block.new.self c.in_ok-front.front (Ok (body.Yes c.in_ok-front.front (evidence.Delayed c.in-Ok.pairs))) c.in_ok-front.ensures
    (gives {C = Proof} (read_rank_block 1) (λ x. body.Yes c.in_ok-front.front (evidence.Delayed x)) c.front.new.lines c.rank_block.new.self c.in-Ok.pairs c.in-Ok.ensures)

pub returns-in-Err : goal.returns-in-Err
returns-in-Err c =
    then_reads {C = Proof} {A = ProofBody} read_front (λ next front. read_rank_block 1 (λ x. next (body.Yes front (evidence.Delayed x)))) c.args.lines.now c.front.new.lines c.rank_block.new.self c.in_ok-front.front (Err c.in-Err.fault) c.in_ok-front.ensures
    (first_stops {C = Proof} {A = ProofBody} (read_rank_block 1) (λ next x. next (body.Yes c.in_ok-front.front (evidence.Delayed x))) c.front.new.lines c.rank_block.new.self c.rank_block.new.self c.in-Err.fault c.in-Err.ensures)
