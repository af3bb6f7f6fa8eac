-- The elements of a search have origins that fit, by the rule of placing of the search.
use Rattle.std.proofs.Common.{◌≡◌, ℕ, ◌+◌, ◌<◌, ◌≤◌, ◌==◌, List, [], ◌∷◌, ◌++◌, length, map, Contains, slice_index_or, refl, sym, ap, ◌∙◌, subst, inl, inr, arith, length-append}
use Rattle.std.proofs.lemmas.Bool.{cases_lt, eqb-true, eq-eqb}
use Rattle.std.proofs.lemmas.List.{map-append, length-map, get_or_append_left, get_or-append-add}
use Rattle.auto_core.specs.Automaton.{Automaton, trans_at}
use Rattle.auto_core.specs.Graph.{WordArc, arc_at, arc_of, arcs_of, extended_arc}
use Rattle.auto_core.specs.Outcome.{At, Entry, next_entry, all_steps, steps_out, origins_in, arcs_in}
use Rattle.auto_core.specs.declared.parts.Origin.{Origin}
use Rattle.auto_core.specs.declared.parts.Origin.TheVariants.{Start, Base, Next}
use Rattle.auto_core.proofs.MemberLemmas.{map_has, map_from, filter_has, filter_from, range_has, range_from}
use Rattle.auto_laws.proofs.OriginLemmas.{IsPlacing, origins_have_arcs}
use Rattle.auto_laws.proofs.PlaceLemmas.{at_within}
use Rattle.auto_laws.proofs.ListLemmas.{read_map}

-- The candidate's origin may stand behind these elements, and its arc is that of the origin.
pub record FitsBehind (A : Automaton) (P : List WordArc → ℕ → Origin → Type 0) (es : List Entry) (c : Entry) : Type 0 where
  pub placed : P (arcs_in es) (length es) c.origin
  pub is : arc_of A (arcs_in es) c.origin ≡ c.arc

-- The origins of the elements are placed, and the arcs that they make are those of the elements.
pub record HavePlaced (A : Automaton) (P : List WordArc → ℕ → Origin → Type 0) (es : List Entry) : Type 0 where
  pub placed : (e : ℕ) → e < length (origins_in es) → P (arcs_of A (origins_in es)) e (slice_index_or (origins_in es) e Start)
  pub arcs : arcs_of A (origins_in es) ≡ arcs_in es

-- What stays when arcs are added behind.
arc_stays : (A : Automaton) (arcs more : List WordArc) (k : ℕ) → k < length arcs → arc_at A (arcs ++ more) k ≡ arc_at A arcs k
arc_stays A arcs more k lt = get_or_append_left arcs more (arc_at A [] 0) k lt

pub arcs_size : (es : List Entry) → length (arcs_in es) ≡ length es
arcs_size es = length-map es (λ x. x.arc)

pub origins_size : (es : List Entry) → length (origins_in es) ≡ length es
origins_size es = length-map es (λ x. x.origin)

arcs_added : (es : List Entry) (c : Entry) → arcs_in (es ++ c ∷ []) ≡ arcs_in es ++ c.arc ∷ []
arcs_added es c = map-append (λ x. x.arc) es (c ∷ [])

origins_added : (es : List Entry) (c : Entry) → origins_in (es ++ c ∷ []) ≡ origins_in es ++ c.origin ∷ []
origins_added es c = map-append (λ x. x.origin) es (c ∷ [])

-- The arc of the element at a place.
pub arc_here : (A : Automaton) (es : List Entry) (i : ℕ) (x : Entry) → At es i x → arc_at A (arcs_in es) i ≡ x.arc
arc_here A es i x is = read_map (λ y. y.arc) es i x (arc_at A [] 0) is

-- An element is extended by the transitions that leave its end.
pub next_extends : (A : Automaton) (e t : ℕ) (x : Entry) → t < length A.transitions → (trans_at A t).source ≡ x.arc.to → Contains (map (next_entry A e x) (steps_out A x.arc.to)) (next_entry A e x t)
next_extends A e t x lt leaves =
    map_has (next_entry A e x) (steps_out A x.arc.to) t
    (filter_has (λ k. (trans_at A k).source == x.arc.to) (all_steps A) t (range_has (length A.transitions) t lt) (eq-eqb (trans_at A t).source x.arc.to leaves))

module _ (A : Automaton) (P : List WordArc → ℕ → Origin → Type 0) (rule : IsPlacing A P) where
  placed_behind : (arcs more : List WordArc) (e n : ℕ) (o : Origin) → e ≤ length arcs → e ≤ n → P arcs e o → P (arcs ++ more) n o
  placed_behind arcs more e n Start within less placed = rule.start arcs (arcs ++ more) e n placed
  placed_behind arcs more e n (Base t) within less placed = rule.base arcs (arcs ++ more) e n t placed
  placed_behind arcs more e n (Next p t) within less placed =
      let was = rule.leaves arcs e p t placed in
      let lt : p < e = was.0 in
      rule.next (arcs ++ more) n p t (omega arith, was.1, was.2 ∙ sym (ap (λ (x : WordArc). x.to) (arc_stays A arcs more p (omega arith))))

  same_behind : (arcs more : List WordArc) (e : ℕ) (o : Origin) → e ≤ length arcs → P arcs e o → arc_of A (arcs ++ more) o ≡ arc_of A arcs o
  same_behind arcs more e Start within placed = refl
  same_behind arcs more e (Base t) within placed = refl
  same_behind arcs more e (Next p t) within placed =
      let lt : p < e = (rule.leaves arcs e p t placed).0 in
      ap (λ x. extended_arc A x (trans_at A t)) (arc_stays A arcs more p (omega arith))

  -- The laws that a search asks for.
  placed_more : (es : List Entry) (c : Entry) → HavePlaced A P es → FitsBehind A P es c → (arcs : List WordArc) → arcs ≡ arcs_in es ++ c.arc ∷ [] →
      (origins : List Origin) → origins ≡ origins_in es ++ c.origin ∷ [] → (e : ℕ) → e < length origins → P arcs e (slice_index_or origins e Start)
  placed_more es c have fits arcs arcs_are origins origins_are e lt =
      let count = origins_size es in
      let size = arcs_size es in
      let more = length-append (origins_in es) (c.origin ∷ []) in
      let total = ap length origins_are in
      let within : length es ≤ length (arcs_in es) = omega arith in
      subst (λ l. P l e (slice_index_or origins e Start)) (sym arcs_are)
      (subst (λ l. P (arcs_in es ++ c.arc ∷ []) e (slice_index_or l e Start)) (sym origins_are)
      (elim (cases_lt e (length es)) [
        | inl old ↦
            let lies : e < length (origins_in es) = omega arith in
            let was : P (arcs_in es) e (slice_index_or (origins_in es) e Start) = subst (λ l. P l e (slice_index_or (origins_in es) e Start)) have.arcs (have.placed e lies) in
            subst (P (arcs_in es ++ c.arc ∷ []) e) (sym (get_or_append_left (origins_in es) (c.origin ∷ []) Start e lies))
            (placed_behind (arcs_in es) (c.arc ∷ []) e e (slice_index_or (origins_in es) e Start) (omega arith) (omega arith) was)
        | inr new ↦
            let here : e ≡ length es = omega arith in
            let there : e ≡ length (origins_in es) + 0 = omega arith in
            let is : slice_index_or (origins_in es ++ c.origin ∷ []) e Start ≡ c.origin =
            ap (λ k. slice_index_or (origins_in es ++ c.origin ∷ []) k Start) there ∙ get_or-append-add (origins_in es) (c.origin ∷ []) 0 Start in
            subst (P (arcs_in es ++ c.arc ∷ []) e) (sym is) (placed_behind (arcs_in es) (c.arc ∷ []) (length es) e c.origin within (omega arith) fits.placed)
      ]))

  pub have_more : (es : List Entry) (c : Entry) → HavePlaced A P es → FitsBehind A P es c → HavePlaced A P (es ++ c ∷ [])
  have_more es c have fits =
      let added : arcs_of A (origins_in es ++ c.origin ∷ []) ≡ arcs_in (es ++ c ∷ []) =
      (origins_have_arcs A (origins_in es)).more c.origin
      ∙ ap (λ l. l ++ arc_of A l c.origin ∷ []) have.arcs
      ∙ ap (λ x. arcs_in es ++ x ∷ []) fits.is
      ∙ sym (arcs_added es c) in
      let arcs : arcs_of A (origins_in (es ++ c ∷ [])) ≡ arcs_in (es ++ c ∷ []) = ap (arcs_of A) (origins_added es c) ∙ added in
      record {
        placed = placed_more es c have fits (arcs_of A (origins_in (es ++ c ∷ []))) (arcs ∙ arcs_added es c) (origins_in (es ++ c ∷ [])) (origins_added es c);
        arcs = arcs;
      }

  pub fits_later : (es : List Entry) (c d : Entry) → FitsBehind A P es c → FitsBehind A P (es ++ d ∷ []) c
  fits_later es c d fits =
      let size = arcs_size es in
      let more = length-append es (d ∷ []) in
      record {
        placed = subst (λ l. P l (length (es ++ d ∷ [])) c.origin) (sym (arcs_added es d))
            (placed_behind (arcs_in es) (d.arc ∷ []) (length es) (length (es ++ d ∷ [])) c.origin (omega arith) (omega arith) fits.placed);
        is = subst (λ l. arc_of A l c.origin ≡ c.arc) (sym (arcs_added es d)) (same_behind (arcs_in es) (d.arc ∷ []) (length es) c.origin (omega arith) fits.placed ∙ fits.is);
      }

  pub next_fits : (es : List Entry) (e t : ℕ) (x : Entry) → At es e x → t < length A.transitions → (trans_at A t).source ≡ x.arc.to → FitsBehind A P es (next_entry A e x t)
  next_fits es e t x is lt leaves =
      let here = arc_here A es e x is in
      record {
        placed = rule.next (arcs_in es) (length es) e t (at_within es e x is, lt, leaves ∙ sym (ap (λ (y : WordArc). y.to) here));
        is = ap (λ y. extended_arc A y (trans_at A t)) here;
      }

  pub fits_after_a_turn : (es : List Entry) (e : ℕ) (x c : Entry) → At es e x → Contains (map (next_entry A e x) (steps_out A x.arc.to)) c → FitsBehind A P es c
  fits_after_a_turn es e x c is has =
      let from = map_from (next_entry A e x) (steps_out A x.arc.to) c has in
      let out = filter_from (λ t. (trans_at A t).source == x.arc.to) (all_steps A) from.0 from.1 in
      subst (FitsBehind A P es) from.2 (next_fits es e from.0 x is (range_from (length A.transitions) from.0 out.0) (eqb-true (trans_at A from.0).source x.arc.to out.1))
