-- What the marks of a closure tell.
use Rattle.std.proofs.Common.{◌≡◌, ℕ, ◌<◌, true, false, List, length, sym, ap, ◌∙◌, arith}
use Rattle.std.proofs.lemmas.Bool.{false≢true}
use Rattle.std.proofs.lemmas.List.{length-map}
use Rattle.auto_core.specs.Outcome.{Rules, Entry, StaysLive, IsDropped, TellsLive}
use Rattle.cert_value.specs.WellFormed.{is_live}
use Rattle.cert_value.specs.declared.types.Element.{Element}
use Rattle.cert_value.specs.declared.types.Mark.{Mark}
use Rattle.cert_value.specs.declared.types.Mark.TheVariants.{Live, Under}
use Rattle.auto_laws.proofs.PlaceLemmas.{at_some}
use Rattle.auto_laws.proofs.ListLemmas.{read_map}
use Rattle.evidence.specs.declared.parts.Closure.{Closure}
use Rattle.evidence.specs.Evidence.{IsMarked, IsEvidenceOf, marked_live}

mark_tells : (R : Rules Entry) (es : List Entry) (i : ℕ) (x : Entry) (mark : Mark) → IsMarked R es i x mark → (is_live mark ≡ true → StaysLive R es i) × (is_live mark ≡ false → IsDropped R es i)
mark_tells R es i x Live told = (λ e. told, λ e. absurd (false≢true (sym e)))
mark_tells R es i x (Under j) told = (λ e. absurd (false≢true e), λ e. told.0)

-- There are as many marked elements as elements.
pub elements_size : (R : Rules Entry) (es : List Entry) (c : Closure) → IsEvidenceOf R es c → length c.elements ≡ length es
elements_size R es c is = sym (length-map c.elements (λ (m : Element). m.origin)) ∙ ap length is.origins ∙ length-map es (λ (x : Entry). x.origin)

told : (R : Rules Entry) (es : List Entry) (c : Closure) → IsEvidenceOf R es c → (i : ℕ) → i < length es → (marked_live c.elements i ≡ true → StaysLive R es i) × (marked_live c.elements i ≡ false → IsDropped R es i)
told R es c is i lt =
    let size = elements_size R es c is in
    let x = at_some es i lt in
    let m = at_some c.elements i (omega arith) in
    let tells = mark_tells R es i x.0 m.0.mark (is.marks i x.0 m.0 x.1 m.1) in
    let read : marked_live c.elements i ≡ is_live m.0.mark = ap is_live (read_map (λ (k : Element). k.mark) c.elements i m.0 (Under 0) m.1) in
    (λ e. tells.0 (sym read ∙ e), λ e. tells.1 (sym read ∙ e))

-- The marks of a closure tell which elements are live, and which later ones subsume the others.
pub marks_tell : (R : Rules Entry) (es : List Entry) (c : Closure) → IsEvidenceOf R es c → TellsLive R es (marked_live c.elements)
marks_tell R es c is = record { stays = λ i lt e. (told R es c is i lt).0 e; drops = λ i lt e. (told R es c is i lt).1 e }
