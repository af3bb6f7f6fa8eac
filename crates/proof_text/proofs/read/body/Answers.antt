use Rattle.std.proofs.Common.{sym, subst}
use Rattle.cert_text.specs.LinesLeft.{ReadsOn}
use Rattle.proof_text.specs.declared.types.Proof.{Proof}
use Rattle.proof_text.specs.declared.types.ProofForm.{ProofForm}
use Rattle.proof_text.specs.declared.types.ProofBody.{ProofBody}
use Rattle.proof_text.specs.ProofGrammar.{read_proof_body}
use Rattle.proof_text.proofs.read.body.Goals as goal

pub returns-in-Product : goal.returns-in-Product
returns-in-Product c =
    subst (λ (f : ProofForm). ReadsOn {C = Proof} {A = ProofBody} (read_proof_body f) c.args.lines.now c.product.new.lines c.product.result) (sym c.in-Product.is) c.product.ensures

pub returns-in-Delayed : goal.returns-in-Delayed
returns-in-Delayed c =
    subst (λ (f : ProofForm). ReadsOn {C = Proof} {A = ProofBody} (read_proof_body f) c.args.lines.now c.delayed.new.lines c.delayed.result) (sym c.in-Delayed.is) c.delayed.ensures

pub returns-in-Closed : goal.returns-in-Closed
returns-in-Closed c =
    subst (λ (f : ProofForm). ReadsOn {C = Proof} {A = ProofBody} (read_proof_body f) c.args.lines.now c.closed.new.lines c.closed.result) (sym c.in-Closed.is) c.closed.ensures
