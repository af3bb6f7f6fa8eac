-- The evidence of a closed list.
use Rattle.std.proofs.Common.{◌≡◌, ℕ, ◌+◌, ◌<◌, true, false, List, [], ◌∷◌, ◌++◌, length, slice_index_or, sym, ap, ◌∙◌, subst, inl, inr, arith, length-append}
use Rattle.auto_core.specs.Automaton.{Automaton, IsAutomaton, trans_at}
use Rattle.auto_core.specs.Game.{IsGreatestForward}
use Rattle.auto_core.specs.Outcome.{At, Entry, Closed, HasSubsumer, IsLeastSubsumer, next_entry}
use Rattle.auto_core.specs.PairOutcome.{PairSearchEnds, start_entry, pair_rules}
use Rattle.cert_value.specs.declared.types.Element.{Element}
use Rattle.cert_value.specs.declared.types.Mark.{Mark}
use Rattle.cert_value.specs.declared.types.Mark.TheVariants.{Live, Under}
use Rattle.auto_laws.specs.PairOutcomes.{HavePairOrigins}
use Rattle.auto_laws.proofs.PlaceLemmas.{at_same, at_within, at_some, at_cases}
use Rattle.auto_laws.proofs.SearchLemmas.{HasClosed}
use Rattle.auto_laws.proofs.PlacingLemmas.{next_extends}
use Rattle.auto_laws.proofs.PairEntryLemmas.{start_starts}
use Rattle.auto_laws.proofs.PairOutcomeLemmas.{closed_end, pair_met_is_subsumed}
use Rattle.antichain.specs.declared.parts.Held.{Held}
use Rattle.antichain.specs.declared.family.Family.{Family}
use Rattle.antichain.specs.Kept.{IsKept, IsFamily, IsWhole, entries_held}
use Rattle.antichain.specs.Marks.{IsCovererOf, HasCoverer, IsHeldMark, AreMarked}
use Rattle.evidence.specs.Evidence.{IsMarked}
use Rattle.antichain.proofs.MeetLemmas.{none_at_all, first_is_least}
use Rattle.antichain.proofs.TurnLemmas.{held_in_range}

-- An element that some element subsumes has a coverer, and that is its least live subsumer.
module _ (A B : Automaton) (S : List (ℕ × ℕ)) (greatest : IsGreatestForward B 1 S) (f : Family) (es : List Entry) (family : IsFamily A B S f es)
    (h : Held) (c : Entry) (kept : IsKept B S h c) (state_in : h.state < A.states)
  where
    pub has_coverer : HasSubsumer (pair_rules A B S) es c → HasCoverer S f h
    has_coverer has none =
        none_at_all A B S greatest f es h c family kept state_in none has.0 has.1 has.2 has.3

    pub coverer_is_least : (j : ℕ) → IsCovererOf S f h j → IsLeastSubsumer (pair_rules A B S) es c j
    coverer_is_least j covers = first_is_least A B S greatest f es h c family kept state_in j covers

-- One more mark.
pub marked_more : (S : List (ℕ × ℕ)) (f : Family) (count : ℕ) (elements : List Element) (m : Element) (h : Held) → At f.held.items count h → m.origin ≡ h.origin →
    IsHeldMark S f h (slice_index_or f.live.items count false) m.mark → AreMarked S f count elements → AreMarked S f (count + 1) (elements ++ m ∷ [])
marked_more S f count elements m h h_is origin mark marked =
    let more = length-append elements (m ∷ []) in
    let size = marked.size in
    record {
      size = omega arith;
      each = λ i k g k_is g_is. elim (at_cases elements m i k k_is) [
        | inl old ↦ marked.each i k g old g_is
        | inr new ↦
            let here : i ≡ count = new.0 ∙ marked.size in
            let one : g ≡ h = at_same f.held.items count g h (subst (λ a. At f.held.items a g) here g_is) h_is in
            let is : k ≡ m = new.1 in (
              ap (λ (z : Element). z.origin) is ∙ origin ∙ ap (λ (z : Held). z.origin) (sym one),
              subst (λ a. IsHeldMark S f g (slice_index_or f.live.items a false) k.mark) (sym here)
                  (subst (λ z. IsHeldMark S f g (slice_index_or f.live.items count false) z.mark) (sym is) (subst (λ z. IsHeldMark S f z (slice_index_or f.live.items count false) m.mark) (sym one) mark)),
            )
      ];
    }

-- What a closed family's elements have.
module _ (A B : Automaton) (S : List (ℕ × ℕ)) (limit : ℕ) (valid_A : IsAutomaton A) (valid : IsAutomaton B) (greatest : IsGreatestForward B 1 S) (f : Family) (whole : IsWhole A B S f)
    (ends : PairSearchEnds A B S limit (Closed (entries_held A f)))
  where
    abbrev es : List Entry
    es = entries_held A f

    has : HasClosed (pair_rules A B S) limit (HavePairOrigins A) es
    has = closed_end A B S limit es ends

    pub start_has : HasSubsumer (pair_rules A B S) es (start_entry A)
    start_has = pair_met_is_subsumed A B S valid greatest es (start_entry A) (has.starts (start_entry A) (start_starts A B S))

    pub steps_have : (e t : ℕ) (x : Entry) → slice_index_or f.live.items e false ≡ true → At es e x → t < length A.transitions → (trans_at A t).source ≡ x.arc.to →
        HasSubsumer (pair_rules A B S) es (next_entry A e x t)
    steps_have e t x live x_is lt leaves =
        let stays = whole.tells.stays e (at_within es e x x_is) live in
        pair_met_is_subsumed A B S valid greatest es (next_entry A e x t) (has.steps e x (next_entry A e x t) x_is stays (next_extends A e t x lt leaves))

    pub dropped_have : (i : ℕ) (h : Held) → At f.held.items i h → slice_index_or f.live.items i false ≡ false → HasCoverer S f h
    dropped_have i h h_is gone =
        let within = at_within f.held.items i h h_is in
        let size = whole.size in
        let x = at_some es i (omega arith) in
        let kept = whole.kept i h x.0 h_is x.1 in
        let range = held_in_range A B S valid_A es whole.origins i x.0 h x.1 kept in
        let d = whole.tells.drops i (omega arith) gone in
        let one : d.element ≡ x.0 = at_same es i d.element x.0 d.is x.1 in
        has_coverer A B S greatest f es whole h x.0 kept range (d.place, d.by, d.by_is, subst (λ z. (pair_rules A B S).subsumes d.by z) one d.subsumes)

    -- The marks of the elements.
    module _ (elements : List Element) (marked : AreMarked S f (length f.held.items) elements) where
      held_at : (i : ℕ) (x : Entry) → At es i x → (h : Held) × At f.held.items i h × IsKept B S h x
      held_at i x x_is =
          let within = at_within es i x x_is in
          let size = whole.size in
          let k = at_some f.held.items i (omega arith) in
          (k.0, k.1, whole.kept i k.0 x k.1 x_is)

      pub marks_are : (i : ℕ) (x : Entry) (m : Element) → At es i x → At elements i m → IsMarked (pair_rules A B S) es i x m.mark
      marks_are i x m x_is m_is =
          let h = held_at i x x_is in
          let within = at_within es i x x_is in
          let range = held_in_range A B S valid_A es whole.origins i x h.0 x_is h.2 in
          let told = (marked.each i m h.0 m_is h.1).1 in
          go m.mark told within h.0 h.2 range
        where
          go : (mark : Mark) → IsHeldMark S f (held_at i x x_is).0 (slice_index_or f.live.items i false) mark → i < length es → (h : Held) → IsKept B S h x → h.state < A.states → IsMarked (pair_rules A B S) es i x mark
          go Live flag within h kept state_in = whole.tells.stays i within flag
          go (Under j) told within h kept state_in =
              let own = held_at i x x_is in
              let range = held_in_range A B S valid_A es whole.origins i x own.0 x_is own.2 in
              (whole.tells.drops i within told.0, coverer_is_least A B S greatest f es whole own.0 x own.2 range j told.1)
