use Rattle.std.proofs.Common.{◌∙◌, sym, ap, subst, Ok, Err}
use Rattle.cert_value.specs.Tokens.{tokens_of}
use Rattle.cert_line.specs.Agrees.{Agrees}
use Rattle.cert_text.specs.Machine.{step}
use Rattle.cert_text.specs.Pieces.{TellsFirstCertFault}
use Rattle.cert_text.proofs.PieceLemmas.{one_more, taken_line, taken_fault}
use Rattle.cert_text.proofs.pieces.Lines.take.Goals as goal

pub returns-in-Ok : goal.returns-in-Ok
returns-in-Ok c = record {
  taken = λ text rest after u short cut.
      let made = ap (λ s. step s (tokens_of c.args.line.now)) (sym c.replace-state.ensures.value) ∙ c.in-Ok.ensures in
      let takes = made ∙ ap Ok (sym c.replace.ensures.after) in
      taken_line c.args.self.now text rest u c.args.line.now after cut _ takes
      (c.saturating_add-self.ensures ∙ one_more c.args.self.now text rest u c.args.line.now after cut short);
}

pub returns-in-Err : goal.returns-in-Err
returns-in-Err c = record {
  taken = λ text rest after u short cut.
      let agrees = subst (λ s. Agrees (step s (tokens_of c.args.line.now)) (Err c.in-Err.fault)) c.replace-state.ensures.value c.in-Err.ensures in
      subst (TellsFirstCertFault text) (sym c.located.ensures) (taken_fault c.args.self.now text rest u c.args.line.now after cut c.in-Err.fault agrees);
}
