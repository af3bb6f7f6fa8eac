-- What is told of the elements of a list, told of their arcs by their numbers.
use Rattle.std.proofs.Common.{◌≡◌, ℕ, ◌<◌, Bool, List, length, map, Contains, sym, ap, ◌∙◌, subst, arith}
use Rattle.auto_core.specs.Automaton.{Automaton, trans_at}
use Rattle.auto_core.specs.Graph.{WordArc, arc_at, arcs_of, extended_arc}
use Rattle.auto_core.specs.Closed.{IsLive}
use Rattle.auto_core.specs.Outcome.{Rules, At, StaysLive, HasSubsumer, TellsLive, Entry, next_entry, steps_out, origins_in, arcs_in}
use Rattle.auto_core.specs.declared.parts.Origin.{Origin}
use Rattle.auto_laws.proofs.PlaceLemmas.{at_within, at_some}
use Rattle.auto_laws.proofs.SearchLemmas.{IsMet, HasClosed}
use Rattle.auto_laws.proofs.LiveLemmas.{live_one}
use Rattle.auto_laws.proofs.PlacingLemmas.{arcs_size, origins_size, arc_here, next_extends}

pub arcs_have : (A : Automaton) (Q : WordArc → Type 0) (es : List Entry) → ((i : ℕ) (x : Entry) → At es i x → Q x.arc) → (e : ℕ) → e < length (arcs_in es) → Q (arc_at A (arcs_in es) e)
arcs_have A Q es each e lt =
    let size = arcs_size es in
    let x = at_some es e (omega arith) in
    subst Q (sym (arc_here A es e x.0 x.1)) (each e x.0 x.1)

-- A relation of the arcs that origins make is one of the elements at these places.
pub related_here : (A : Automaton) (Rel : WordArc → WordArc → Type 0) (es : List Entry) (origins : List Origin) → arcs_of A origins ≡ arcs_in es → (i j : ℕ) (x y : Entry) → At es i x → At es j y →
    Rel (arc_at A (arcs_of A origins) i) (arc_at A (arcs_of A origins) j) → Rel x.arc y.arc
related_here A Rel es origins arcs i j x y x_is y_is related =
    subst (λ a. Rel a y.arc) (ap (λ l. arc_at A l i) arcs ∙ arc_here A es i x x_is)
    (subst (Rel (arc_at A (arcs_of A origins) i)) (ap (λ l. arc_at A l j) arcs ∙ arc_here A es j y y_is) related)

-- So where no element subsumes a later one, no arc of their origins does.
pub fresh_arcs : (A : Automaton) (Rel : WordArc → WordArc → Type 0) (es : List Entry) → arcs_of A (origins_in es) ≡ arcs_in es →
    ((i j : ℕ) (x y : Entry) → i < j → At es i x → At es j y → Rel x.arc y.arc → ⊥) → (i j : ℕ) → i < j → j < length (origins_in es) →
    Rel (arc_at A (arcs_of A (origins_in es)) i) (arc_at A (arcs_of A (origins_in es)) j) → ⊥
fresh_arcs A Rel es arcs fresh i j lt within related =
    let count = origins_size es in
    let x = at_some es i (omega arith) in
    let y = at_some es j (omega arith) in
    fresh i j x.0 y.0 lt x.1 y.1 (related_here A Rel es (origins_in es) arcs i j x.0 y.0 x.1 y.1 related)

-- A live arc subsumes this one.
abbrev pub HasLive : Automaton → (WordArc → WordArc → Type 0) → List WordArc → (ℕ → Bool) → WordArc → Type 0
HasLive A Rel arcs live a = (e : ℕ) × IsLive arcs live e × Rel (arc_at A arcs e) a

-- The arcs of a closed list, some of them live: each that is met is subsumed by a live one, and so is each extension of a live one.
pub record AreClosed (A : Automaton) (R : Rules Entry) (Rel : WordArc → WordArc → Type 0) (es : List Entry) (live : ℕ → Bool) : Type 0 where
  pub stays : (e : ℕ) → IsLive (arcs_in es) live e → StaysLive R es e
  pub subsumed : (c : Entry) → IsMet R es c → HasLive A Rel (arcs_in es) live c.arc
  pub steps : (e t : ℕ) → IsLive (arcs_in es) live e → t < length A.transitions → (trans_at A t).source ≡ (arc_at A (arcs_in es) e).to →
      HasLive A Rel (arcs_in es) live (extended_arc A (arc_at A (arcs_in es) e) (trans_at A t))

module _ (A : Automaton) (R : Rules Entry) (Rel : WordArc → WordArc → Type 0) (read : (x y : Entry) → R.subsumes x y → Rel x.arc y.arc)
    (joins : (x y z : Entry) → R.subsumes x y → R.subsumes y z → R.subsumes x z)
    (extensions : (e : ℕ) (x : Entry) → R.extensions e x ≡ map (next_entry A e x) (steps_out A x.arc.to))
    (limit : ℕ) (Have : List Entry → Type 0) (es : List Entry) (live : ℕ → Bool)
    (has : HasClosed R limit Have es) (tells : TellsLive R es live) (met : (c : Entry) → IsMet R es c → HasSubsumer R es c)
  where
    subsumed : (c : Entry) → IsMet R es c → HasLive A Rel (arcs_in es) live c.arc
    subsumed c is_met =
        let one = live_one Entry R joins es live tells c (met c is_met) in
        let size = arcs_size es in
        let within = at_within es one.0 one.2.element one.2.is in
        (one.0, (omega arith, one.1), subst (λ a. Rel a c.arc) (sym (arc_here A es one.0 one.2.element one.2.is)) (read one.2.element c one.2.subsumes))

    stays : (e : ℕ) → IsLive (arcs_in es) live e → StaysLive R es e
    stays e is = let size = arcs_size es in let lt = is.0 in tells.stays e (omega arith) is.1

    steps : (e t : ℕ) → IsLive (arcs_in es) live e → t < length A.transitions → (trans_at A t).source ≡ (arc_at A (arcs_in es) e).to →
        HasLive A Rel (arcs_in es) live (extended_arc A (arc_at A (arcs_in es) e) (trans_at A t))
    steps e t is lt leaves =
        let size = arcs_size es in
        let within = is.0 in
        let x = at_some es e (omega arith) in
        let here = arc_here A es e x.0 x.1 in
        let next = next_extends A e t x.0 lt (leaves ∙ ap (λ (y : WordArc). y.to) here) in
        subst (λ y. HasLive A Rel (arcs_in es) live (extended_arc A y (trans_at A t))) (sym here)
        (subsumed (next_entry A e x.0 t) (has.steps e x.0 (next_entry A e x.0 t) x.1 (stays e is) (subst (λ l. Contains l (next_entry A e x.0 t)) (sym (extensions e x.0)) next)))

    pub arcs_closed : AreClosed A R Rel es live
    arcs_closed = record { stays = stays; subsumed = subsumed; steps = steps }
