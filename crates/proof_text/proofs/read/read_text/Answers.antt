use Rattle.std.proofs.Common.{sym, subst}
use Rattle.std.proofs.lemmas.Result.{err_from_is_err_and}
use Rattle.cert_value.specs.declared.keywords.Keyword.TheVariants as keyword
use Rattle.cert_line.specs.Lines.{word_in, sizes_in}
use Rattle.cert_text.specs.Grammar.{On, next_line, read_end, finish}
use Rattle.cert_text.specs.LinesLeft.{Left}
use Rattle.cert_text.proofs.LinesLeftLemmas.{IsAt, at_start, at_next, at_stop, at_end, at_over, few_left}
use Rattle.cert_line.specs.declared.lines.Sizes.{Sizes}
use Rattle.proof_text.specs.declared.types.Proof.{Proof}
use Rattle.proof_text.specs.declared.types.ProofBody.{ProofBody}
use Rattle.proof_text.specs.ProofGrammar.{proof_heading_in, proof_of, read_proof_body, read_after_sizes, read_proof_sizes, read_proof}
use Rattle.proof_text.proofs.read.read_text.Goals as goal
use Rattle.proof_text.proofs.read.read_text.Goals.{After-of-lines, In_ok-form, In_ok-sizes, In_ok-body, In_ok-end}

-- the last line, after this body
abbrev after_body : Sizes → On Proof ProofBody
after_body sizes b = read_end (proof_of sizes b)

-- where the reader is after each part
opened : (c : goal.After-of-lines) → IsAt read_proof c.args.bytes.now c.of-lines.result read_proof
opened c = subst (λ (l : Left). IsAt read_proof c.args.bytes.now l read_proof) (sym c.of-lines.ensures) (at_start read_proof c.args.bytes.now)

heading_read : (c : goal.In_ok-form) → IsAt read_proof c.args.bytes.now c.heading.new.lines (read_proof_sizes c.in_ok-form.form)
heading_read c = at_next read_proof c.args.bytes.now (next_line proof_heading_in) read_proof_sizes c.of-lines.result c.heading.new.lines c.in_ok-form.form (opened (goal.at.In_ok-form c).After-of-lines) c.in_ok-form.ensures

sizes_read : (c : goal.In_ok-sizes) → IsAt read_proof c.args.bytes.now c.sizes.new.self (read_after_sizes c.in_ok-form.form c.in_ok-sizes.sizes)
sizes_read c =
    at_next read_proof c.args.bytes.now (next_line sizes_in) (read_after_sizes c.in_ok-form.form) c.heading.new.lines c.sizes.new.self c.in_ok-sizes.sizes
    (heading_read (goal.at.In_ok-sizes c).In_ok-form) c.in_ok-sizes.ensures

body_read : (c : goal.In_ok-body) → IsAt read_proof c.args.bytes.now c.body.new.lines (after_body c.in_ok-sizes.sizes c.in_ok-body.body)
body_read c =
    at_next read_proof c.args.bytes.now (read_proof_body c.in_ok-form.form) (after_body c.in_ok-sizes.sizes) c.sizes.new.self c.body.new.lines c.in_ok-body.body
    (sizes_read (goal.at.In_ok-body c).In_ok-sizes) c.in_ok-body.ensures

end_read : (c : goal.In_ok-end) → IsAt read_proof c.args.bytes.now c.end.new.self (finish (proof_of c.in_ok-sizes.sizes c.in_ok-body.body))
end_read c =
    let own = proof_of c.in_ok-sizes.sizes c.in_ok-body.body in
    at_next read_proof c.args.bytes.now (next_line (word_in keyword.End)) (λ u. finish own) c.body.new.lines c.end.new.self tt (body_read (goal.at.In_ok-end c).In_ok-body) c.in_ok-end.ensures

pub heading-requires : goal.heading-requires
heading-requires c = record { few = few_left c.args.bytes.now c.of-lines.result c.requires (opened (goal.at.heading-requires c).After-of-lines).0 }

pub sizes-requires : goal.sizes-requires
sizes-requires c = record { few = few_left c.args.bytes.now c.heading.new.lines c.requires (heading_read (goal.at.sizes-requires c).In_ok-form).0 }

pub body-requires : goal.body-requires
body-requires c = record { few = few_left c.args.bytes.now c.sizes.new.self c.requires (sizes_read (goal.at.body-requires c).In_ok-sizes).0 }

pub end-requires : goal.end-requires
end-requires c = record { few = few_left c.args.bytes.now c.body.new.lines c.requires (body_read (goal.at.end-requires c).In_ok-body).0 }

pub returns-in_err-form : goal.returns-in_err-form
returns-in_err-form c =
    let p = err_from_is_err_and c.from_residual.result c.from_residual.ensures.1 in
    record {
      reading = rw (p.1, p.2)
          (at_stop read_proof c.args.bytes.now (next_line proof_heading_in) read_proof_sizes c.of-lines.result c.heading.new.lines c.in_err-form.field-0.0 (opened (goal.at.returns-in_err-form c).After-of-lines) c.in_err-form.ensures);
    }

pub returns-in_err-sizes : goal.returns-in_err-sizes
returns-in_err-sizes c =
    let p = err_from_is_err_and c.from_residual-in_err-sizes.result c.from_residual-in_err-sizes.ensures.1 in
    record {
      reading = rw (p.1, p.2)
          (at_stop read_proof c.args.bytes.now (next_line sizes_in) (read_after_sizes c.in_ok-form.form) c.heading.new.lines c.sizes.new.self c.in_err-sizes.field-0.0 (heading_read (goal.at.returns-in_err-sizes c).In_ok-form) c.in_err-sizes.ensures);
    }

pub returns-in_err-body : goal.returns-in_err-body
returns-in_err-body c =
    let p = err_from_is_err_and c.from_residual-in_err-body.result c.from_residual-in_err-body.ensures.1 in
    record {
      reading = rw (p.1, p.2)
          (at_stop read_proof c.args.bytes.now (read_proof_body c.in_ok-form.form) (after_body c.in_ok-sizes.sizes) c.sizes.new.self c.body.new.lines c.in_err-body.field-0.0 (sizes_read (goal.at.returns-in_err-body c).In_ok-sizes) c.in_err-body.ensures);
    }

pub returns-in_err-end : goal.returns-in_err-end
returns-in_err-end c =
    let p = err_from_is_err_and c.from_residual-in_err-end.result c.from_residual-in_err-end.ensures.1 in
    let own = proof_of c.in_ok-sizes.sizes c.in_ok-body.body in
    record {
      reading = rw (p.1, p.2)
          (at_stop read_proof c.args.bytes.now (next_line (word_in keyword.End)) (λ u. finish own) c.body.new.lines c.end.new.self c.in_err-end.field-0.0 (body_read (goal.at.returns-in_err-end c).In_ok-body) c.in_err-end.ensures);
    }

pub returns-in_err-finish : goal.returns-in_err-finish
returns-in_err-finish c =
    let p = err_from_is_err_and c.from_residual-in_err-finish.result c.from_residual-in_err-finish.ensures.1 in
    let own = proof_of c.in_ok-sizes.sizes c.in_ok-body.body in
    record { reading = rw (p.1, p.2) (at_over read_proof c.args.bytes.now own c.end.new.self c.in_err-finish.field-0.0 (end_read (goal.at.returns-in_err-finish c).In_ok-end) c.in_err-finish.ensures) }

pub returns : goal.returns
returns c =
    let own = proof_of c.in_ok-sizes.sizes c.in_ok-body.body in
    record { reading = at_end read_proof c.args.bytes.now own c.end.new.self (end_read (goal.at.returns c).In_ok-end) c.in_ok-finish.ensures }
