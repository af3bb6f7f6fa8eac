-- The grammar of proofs, and their texts.
use Rattle.std.proofs.Common.{true, false, Ok, Err, refl}
use Rattle.auto_core.specs.declared.parts.Mode.TheVariants as mode
use Rattle.cert_value.specs.declared.keywords.Keyword.TheVariants as keyword
use Rattle.cert_line.specs.declared.faults.TextKind.TheVariants.{Header}
use Rattle.cert_line.specs.declared.shapes.Tail.TheVariants as tail
use Rattle.cert_line.specs.Lines.{sizes_in}
use Rattle.cert_text.specs.Grammar.{On, read_end, read_rank_block, read_closed}
use Rattle.cert_text.proofs.TextLemmas.{ReadsTexts}
use Rattle.cert_text.proofs.ReaderLemmas.{Reader, TellsOwn, line_reads}
use Rattle.cert_text.proofs.SaidLemmas.{ok_own, err_own, if_own, sizes_own}
use Rattle.cert_text.proofs.GrammarLemmas.{Goes, any_line, rank_block_reads, closed_reads, first_log_reads, second_log_reads, lasso_reads, numbers_read, ascending_read, end_reads}
use Rattle.proof_text.specs.declared.types.ProofForm.{ProofForm}
use Rattle.proof_text.specs.declared.types.ProofForm.TheVariants as form
use Rattle.proof_text.specs.declared.types.ProofBody.{ProofBody}
use Rattle.proof_text.specs.declared.types.ProofBody.TheVariants as body
use Rattle.proof_text.specs.declared.types.Front.{Front}
use Rattle.proof_text.specs.declared.types.Evidence.TheVariants as evidence
use Rattle.proof_text.specs.ProofText.{ProofFormed, without_logs, proof_lines}
use Rattle.proof_text.specs.ProofGrammar.{is_proof_heading, proof_heading_in, front_of, read_front_end, read_accepting, read_map, read_letters, read_front, read_proof_body, proof_of, read_after_sizes, read_proof_sizes, read_proof}
use Rattle.proof_text.proofs.ProofTextLemmas.{plain_proof, text_then, reading_back}

heading_own : TellsOwn true proof_heading_in
heading_own line =
    if_own true (is_proof_heading form.No line) (Ok form.No) _ (ok_own true form.No)
    (if_own true (is_proof_heading form.Product line) (Ok form.Product) _ (ok_own true form.Product)
    (if_own true (is_proof_heading form.Delayed line) (Ok form.Delayed) _ (ok_own true form.Delayed)
    (if_own true (is_proof_heading form.Closed line) (Ok form.Closed) (Err Header) (ok_own true form.Closed) (err_own true Header refl))))

front_reads : {C : Type 0} (next : On C Front) → Goes next → Reader false (read_front next)
front_reads next all =
    second_log_reads 2 mode.Buchi (λ seconds. read_letters seconds next) (λ seconds.
    numbers_read keyword.Letters tail.Numbers (λ letters. read_map seconds letters next) (λ letters.
    numbers_read keyword.Map tail.Numbers (λ map. read_accepting seconds letters map next) (λ map.
    ascending_read keyword.Accepting tail.Numbers (λ accepting. read_front_end seconds letters map accepting next) (λ accepting.
    first_log_reads 2 (λ firsts. next (front_of seconds letters map accepting firsts)) (λ firsts. all (front_of seconds letters map accepting firsts))))))

body_reads : {C : Type 0} (f : ProofForm) (next : On C ProofBody) → Goes next → Reader false (read_proof_body f next)
body_reads (form.No) next all = lasso_reads (λ lasso. next (body.No lasso)) (λ lasso. all (body.No lasso))
body_reads (form.Product) next all =
    front_reads (λ front. read_rank_block 1 (λ pairs. next (body.Yes front (evidence.Product pairs)))) (λ front.
    rank_block_reads 1 (λ pairs. next (body.Yes front (evidence.Product pairs))) (λ pairs. all (body.Yes front (evidence.Product pairs))))
body_reads (form.Delayed) next all =
    front_reads (λ front. read_rank_block 1 (λ pairs. next (body.Yes front (evidence.Delayed pairs)))) (λ front.
    rank_block_reads 1 (λ pairs. next (body.Yes front (evidence.Delayed pairs))) (λ pairs. all (body.Yes front (evidence.Delayed pairs))))
body_reads (form.Closed) next all =
    front_reads (λ front. read_closed 2 mode.Buchi (λ closed. next (body.Yes front (evidence.Closed (without_logs closed))))) (λ front.
    closed_reads 2 mode.Buchi (λ closed. next (body.Yes front (evidence.Closed (without_logs closed)))) (λ closed. all (body.Yes front (evidence.Closed (without_logs closed)))))

proof_read : Reader true read_proof
proof_read =
    line_reads true proof_heading_in read_proof_sizes heading_own (λ line f told.
    any_line sizes_in (read_after_sizes f) sizes_own (λ sizes. body_reads f (λ b. read_end (proof_of sizes b)) (λ b. end_reads (proof_of sizes b))))

pub proofs : ReadsTexts ProofFormed proof_lines read_proof
proofs = record { plain = plain_proof; onward = text_then; back = reading_back; reader = proof_read }
