use Rattle.std.proofs.Common.{◌≡◌, ◌==◌, false, ◌∷◌, [], length, cond, Option, Result, sym, ap, ◌∙◌, Bool}
use Rattle.cert_value.specs.Tokens.{tokens_of}
use Rattle.cert_text.specs.Machine.{ended}
use Rattle.cert_text.specs.Grammar.{told_at, Read, Stopped}
use Rattle.cert_line.specs.declared.faults.TextKind.TheVariants.{Trailing}
use Rattle.cert_value.specs.declared.types.Cert.{Cert}
use Rattle.cert_text.specs.declared.faults.TextFault.{TextFault}
use Rattle.cert_text.proofs.ReadLemmas.{bare_false}
use Rattle.cert_text.proofs.read.at_end.Goals as goal

pub returns-else-is_empty : goal.returns-else-is_empty
returns-else-is_empty c =
    let piece = tokens_of c.args.rest.now in
    let f : Option Cert → Result Cert TextFault = λ d. told_at c.args.line (ended d piece) in
    let g : Bool → Result Cert TextFault = λ b. told_at c.args.line (cond b (Read c.in-Some.cert) (Stopped Trailing (piece ∷ []))) in
    let empty : (length c.args.rest.now == 0) ≡ false = cc in
    ap f (sym c.done_cert.ensures ∙ c.in-Some.is) ∙ ap g (bare_false c.args.rest.now empty)
