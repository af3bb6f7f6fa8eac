use Rattle.std.proofs.Common.{◌≡◌, Bool, true, false, not, Option, Some, None, is_none, [], ◌∷◌, refl, ap, ◌∙◌}
use Rattle.std.specs.Option.{is_some}
use Rattle.cert_value.specs.declared.keywords.Keyword.{Keyword}
use Rattle.cert_value.specs.declared.keywords.Keyword.TheVariants as keyword
use Rattle.cert_value.specs.Text.{version_word, mode_word}
use Rattle.cert_value.specs.Tokens.{tokens_of}
use Rattle.cert_line.specs.declared.faults.TextKind.{TextKind}
use Rattle.cert_line.specs.declared.shapes.Place.TheVariants.{Word}
use Rattle.cert_line.specs.declared.shapes.Tail.TheVariants as tail
use Rattle.cert_line.specs.Shapes.{line_fault}
use Rattle.cert_line.proofs.lines.is_heading.Goals as goal

none_told : (o : Option TextKind) (r : Bool) → is_some o ≡ not r → r ≡ is_none o
none_told None true e = refl
none_told None false e = absurd (cc)
none_told (Some k) true e = absurd (cc)
none_told (Some k) false e = refl

pub returns : goal.returns
returns c =
    let h = c.args.heading in
    let at : Keyword → Keyword → Keyword → Option TextKind =
    λ v m a. line_fault (Word keyword.RabitCert ∷ Word v ∷ Word m ∷ Word a ∷ []) tail.Nothing (tokens_of c.args.line.now) in
    none_told c.line_fault.result c.is_none.result c.is_none.ensures
    ∙ ap is_none
    (c.line_fault.ensures
    ∙ ap (λ v. at v c.mode_word.result c.form_word.result) c.version_word.ensures
    ∙ ap (λ m. at (version_word h.version) m c.form_word.result) c.mode_word.ensures
    ∙ ap (λ a. at (version_word h.version) (mode_word h.mode) a) c.form_word.ensures)
