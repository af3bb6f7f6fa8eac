use Rattle.std.proofs.Common.{◌≡◌, ◌==◌, length, false, Err, refl, subst}
use Rattle.cert_text.specs.declared.faults.CertReadFault.TheVariants.{Text}
use Rattle.cert_line.specs.declared.faults.TextKind.TheVariants.{Trailing}
use Rattle.cert_text.specs.LinesLeft.{Left, IsAtEnd}
use Rattle.cert_text.proofs.LinesLeftLemmas.{over_one}
use Rattle.cert_text.proofs.lines.Lines.finish.Goals as goal

pub returns : goal.returns
returns g c =
    let some : (length c.self.inside.rest.now == 0) ≡ false = cc in
    subst (λ (left : Left). IsAtEnd _ left (Err (Text (record { line = c.self.inside.number; kind = Trailing })))) c.self.view_is (refl, λ k. over_one c.self.inside.rest.now k some)
