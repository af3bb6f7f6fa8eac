-- No live element of a closure subsumes another.
use Rattle.std.proofs.Common.{◌≡◌, ℕ, List, length, map, ap, ◌∙◌, arith}
use Rattle.std.proofs.lemmas.List.{length-map}
use Rattle.auto_core.specs.Automaton.{Automaton}
use Rattle.auto_core.specs.Graph.{WordArc, arcs_of}
use Rattle.auto_core.specs.Outcome.{Rules, At, Entry, StaysLive, origins_in, arcs_in}
use Rattle.cert_value.specs.declared.types.Element.{Element}
use Rattle.auto_laws.proofs.PlaceLemmas.{at_within, at_some}
use Rattle.auto_laws.proofs.ArcLemmas.{related_here}
use Rattle.evidence.specs.declared.parts.Closure.{Closure}
use Rattle.evidence.specs.Evidence.{IsEvidenceOf, LiveStandApart, entry_at, marked_live}
use Rattle.evidence.proofs.MarkLemmas.{marks_tell}

pub live_stand_apart : (A : Automaton) (R : Rules Entry) (Rel : WordArc → WordArc → Type 0) → ((x y : Entry) → R.subsumes x y → Rel x.arc y.arc) →
    (es : List Entry) (c : Closure) → IsEvidenceOf R es c → arcs_of A (origins_in es) ≡ arcs_in es →
    ((i j : ℕ) (x y : Entry) → (i ≡ j → ⊥) → At es i x → At es j y → StaysLive R es i → StaysLive R es j → Rel x.arc y.arc → ⊥) →
    LiveStandApart R A (map (λ (m : Element). m.origin) c.elements) (marked_live c.elements)
live_stand_apart A R Rel read es c is arcs apart i j i_in j_in differ i_live j_live subsumes =
    let origins = map (λ (m : Element). m.origin) c.elements in
    let tells = marks_tell R es c is in
    let size = ap length is.origins in
    let count = length-map es (λ (x : Entry). x.origin) in
    let x = at_some es i (omega arith) in
    let y = at_some es j (omega arith) in
    apart i j x.0 y.0 differ x.1 y.1 (tells.stays i (at_within es i x.0 x.1) i_live) (tells.stays j (at_within es j y.0 y.1) j_live)
    (related_here A Rel es origins (ap (arcs_of A) is.origins ∙ arcs) i j x.0 y.0 x.1 y.1 (read (entry_at A origins i) (entry_at A origins j) subsumes))
