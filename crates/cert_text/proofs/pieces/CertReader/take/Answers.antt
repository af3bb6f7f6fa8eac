use Rattle.std.proofs.Common.{◌≡◌, ◌∙◌, ◌++◌, Result, Err, MatchResult, sym, subst, rules}
use Rattle.cert_text.specs.declared.faults.CertReadFault.{CertReadFault}
use Rattle.ba_format.specs.Cut.{IsUnfinished, IsLineCut}
use Rattle.cert_text.specs.Pieces.{AreCertLinesTaken, TellsFirstCertFault}
use Rattle.ba_format.proofs.CutLemmas.{unfinished_on, cut_on}
use Rattle.cert_text.proofs.pieces.CertReader.take.Goals as goal

pub returns-in_default-clause-taken : goal.returns-in_default-clause-taken
returns-in_default-clause-taken c = λ text u short none.
    let is = c.in_ok-extend_from_slice.ensures.items in
    (subst (AreCertLinesTaken c.args.self.now.lines text) (sym is) u, subst IsUnfinished (sym is) (unfinished_on c.args.self.now.line.items c.args.piece.now none c.in_default.ensures.ends))

pub returns-in_err-take-clause-taken : goal.returns-in_err-take-clause-taken
returns-in_err-take-clause-taken c = λ text u short none.
    let line = c.args.self.now.line.items in
    let piece = c.args.piece.now in
    let is : c.as_slice.result.now ≡ line ++ c.in-Some.line.now = c.as_slice.ensures.value ∙ c.in_ok-extend_from_slice-2.ensures.items in
    let cut = cut_on line piece c.in-Some.line.now c.in-Some.rest.now none c.in-Some.ensures.ends in
    let e : c.from_residual-in_err-take.result ≡ Err c.in_err-take.field-0.0 = search rules in
    let P : Result (Unit {0}) CertReadFault → Type 0 = λ r. MatchResult r (λ x. AreCertLinesTaken c.take.new.self text c.extend_from_slice-2.new.self.items × IsUnfinished c.extend_from_slice-2.new.self.items) (TellsFirstCertFault text) in
    subst P (sym e) (c.in_err-take.ensures.taken text (line ++ piece) c.in-Some.rest.now u short (subst (λ l. IsLineCut (line ++ piece) l c.in-Some.rest.now) (sym is) cut))

pub returns-clause-taken : goal.returns-clause-taken
returns-clause-taken c = λ text u short none.
    let line = c.args.self.now.line.items in
    let piece = c.args.piece.now in
    let is : c.as_slice.result.now ≡ line ++ c.in-Some.line.now = c.as_slice.ensures.value ∙ c.in_ok-extend_from_slice-2.ensures.items in
    let cut = cut_on line piece c.in-Some.line.now c.in-Some.rest.now none c.in-Some.ensures.ends in
    let taken = c.in_ok-take.ensures.taken text (line ++ piece) c.in-Some.rest.now u short (subst (λ l. IsLineCut (line ++ piece) l c.in-Some.rest.now) (sym is) cut) in
    c.take_lines-2.ensures.taken text taken short c.clear.ensures.items
