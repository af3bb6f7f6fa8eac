use Rattle.std.proofs.Common.{◌≡◌, ◌∙◌, [], Err, sym, ap, subst, append-nil, inl}
use Rattle.ba_format.specs.declared.parts.ReadFault.TheVariants.{Ba}
use Rattle.ba_format.specs.Faults.{fault_of}
use Rattle.ba_format.specs.Pieces.{HasComeTo, AreTaken}
use Rattle.ba_format.proofs.PieceLemmas.{found_from}
use Rattle.ba_format.proofs.pieces.Reader.finish.Goals as goal

pub returns-in-Faultless-clause-fault : goal.returns-in-Faultless-clause-fault
returns-in-Faultless-clause-fault c = λ limits bytes has short fault is.
    let (same, taken, none) = subst (λ p. HasComeTo p c.args.self.lines c.args.self.line.items limits bytes) c.in-Faultless.is has in
    ap (fault_of bytes) (sym same) ∙ c.end.ensures.fault bytes (subst (AreTaken c.args.self.lines bytes) (sym c.as_slice.ensures.value) taken) short fault is

pub returns-in-Faultless-clause-found : goal.returns-in-Faultless-clause-found
returns-in-Faultless-clause-found c = λ limits bytes has short fault is.
    let (same, taken, none) = subst (λ p. HasComeTo p c.args.self.lines c.args.self.line.items limits bytes) c.in-Faultless.is has in
    let taken' = subst (AreTaken c.args.self.lines bytes) (sym c.as_slice.ensures.value) taken in
    found_from c.end.result bytes c.args.self.lines.limits fault (c.end.ensures.named bytes taken' short) (c.end.ensures.fault bytes taken' short) (ap (fault_of bytes) same ∙ is)

pub returns-in-Faulty-clause-fault : goal.returns-in-Faulty-clause-fault
returns-in-Faulty-clause-fault c = λ limits bytes has short fault is.
    let known = subst (λ p. HasComeTo p c.args.self.lines c.args.self.line.items limits bytes) c.in-Faulty.is has in
    let first = ap (λ t. fault_of t limits) (sym (append-nil bytes)) ∙ known [] in
    cc

pub returns-in-Faulty-clause-found : goal.returns-in-Faulty-clause-found
returns-in-Faulty-clause-found c = λ limits bytes has short fault is.
    let known = subst (λ p. HasComeTo p c.args.self.lines c.args.self.line.items limits bytes) c.in-Faulty.is has in
    let first = ap (λ t. fault_of t limits) (sym (append-nil bytes)) ∙ known [] in
    let same : c.in-Faulty.fault ≡ fault = cc in
    inl (ap (λ f. Err (Ba f)) same)
