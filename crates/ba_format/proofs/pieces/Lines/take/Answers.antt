use Rattle.std.proofs.Common.{◌∙◌, ap, sym, refl, subst, length, Some}
use Rattle.std.proofs.lemmas.List.{nil_from_length}
use Rattle.ba_format.specs.Grammar.{trimmed}
use Rattle.ba_format.specs.Faults.{kind_of_line}
use Rattle.ba_format.specs.Draft.{TellsKind}
use Rattle.ba_format.proofs.ReadLemmas.{nonempty_from, empty_from}
use Rattle.ba_format.proofs.PieceLemmas.{one_more, taken_blank, taken_line, taken_fault}
use Rattle.ba_format.proofs.pieces.Lines.take.Goals as goal

pub returns-then-is_empty-clause-taken : goal.returns-then-is_empty-clause-taken
returns-then-is_empty-clause-taken c = λ text rest u short has is.
    let none = empty_from (length c.trimmed-line.result.now) c.if-is_empty.ensures in
    taken_blank c.args.self.now text rest u has _ refl refl (c.saturating_add-self.ensures ∙ one_more c.args.self.now text rest u has short)
    (ap trimmed (sym is) ∙ sym c.trimmed-line.ensures ∙ nil_from_length _ none)

pub returns-in-Ok-clause-taken : goal.returns-in-Ok-clause-taken
returns-in-Ok-clause-taken c = λ text rest u short has is.
    let long = nonempty_from (length c.trimmed-line.result.now) c.if-is_empty.ensures in
    taken_line c.args.self.now text rest u has c.trimmed-line.result.now _ (c.trimmed-line.ensures ∙ ap trimmed is) long refl
    (c.saturating_add-self.ensures ∙ one_more c.args.self.now text rest u has short) (c.in-Ok.ensures u.entries u.stands u.fits)

pub returns-in-Err-Line-clause-taken : goal.returns-in-Err-Line-clause-taken
returns-in-Err-Line-clause-taken c = λ text rest u short has is.
    let long = nonempty_from (length c.trimmed-line.result.now) c.if-is_empty.ensures in
    taken_fault c.args.self.now text rest u has c.trimmed-line.result.now c.in-Err-Line.kind c.saturating_add-self.result (c.trimmed-line.ensures ∙ ap trimmed is) long
    (c.saturating_add-self.ensures ∙ one_more c.args.self.now text rest u has short)
    (subst (TellsKind (kind_of_line c.args.self.now.limits u.entries c.trimmed-line.result.now)) c.in-Err-Line.field-0-is (c.in-Err-Line.ensures u.entries u.stands u.fits) ∙ sym (ap Some c.in-Err-Line.kind-is))
