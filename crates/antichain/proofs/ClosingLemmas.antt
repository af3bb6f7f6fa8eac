-- The parts of the evidence make the closure.
use Rattle.std.proofs.Common.{◌≡◌, ℕ, ◌+◌, ◌<◌, ◌≤◌, Bool, false, List, length, map, slice_index_or, sym, ap, ◌∙◌, arith}
use Rattle.std.specs.Prelude.{filter}
use Rattle.std.specs.List.{range_with_len}
use Rattle.auto_core.specs.Automaton.{Automaton, IsAutomaton}
use Rattle.auto_core.specs.Game.{IsGreatestForward}
use Rattle.auto_core.specs.Outcome.{At, Closed}
use Rattle.auto_core.specs.PairOutcome.{PairSearchEnds, pair_rules}
use Rattle.cert_value.specs.declared.types.Element.{Element}
use Rattle.cert_value.specs.declared.types.Mark.{Mark}
use Rattle.cert_value.specs.declared.types.Mark.TheVariants.{Live, Under}
use Rattle.cert_value.specs.declared.types.StepLine.{StepLine}
use Rattle.auto_laws.proofs.PlaceLemmas.{at_some, same_maps}
use Rattle.auto_laws.proofs.ListLemmas.{read_map}
use Rattle.antichain.specs.declared.parts.Held.{Held}
use Rattle.evidence.specs.declared.parts.Closure.{Closure}
use Rattle.antichain.specs.declared.family.Family.{Family}
use Rattle.antichain.specs.Kept.{IsWhole, entries_held}
use Rattle.antichain.specs.Marks.{IsHeldMark, AreMarked}
use Rattle.evidence.specs.Evidence.{AreLeastSubsumers, marked_live, IsEvidenceOf, IsStepOf}
use Rattle.cert_value.specs.WellFormed.{is_live}
use Rattle.evidence.proofs.RangeLemmas.{filters_alike}
use Rattle.antichain.proofs.ClosureLemmas.{marks_are}
use Rattle.evidence.proofs.EntriesLemmas.{origins_of_entries}

flag_of_mark : (S : List (ℕ × ℕ)) (f : Family) (h : Held) (flag : Bool) (mark : Mark) → IsHeldMark S f h flag mark → flag ≡ is_live mark
flag_of_mark S f h flag Live told = told
flag_of_mark S f h flag (Under j) told = told.0

module _ (A B : Automaton) (S : List (ℕ × ℕ)) (limit : ℕ) (valid_A : IsAutomaton A) (valid : IsAutomaton B) (greatest : IsGreatestForward B 1 S) (f : Family) (whole : IsWhole A B S f)
    (ends : PairSearchEnds A B S limit (Closed (entries_held A f)))
    (c : Closure) (marked : AreMarked S f (length f.held.items) c.elements)
    (cover : AreLeastSubsumers (pair_rules A B S) (entries_held A f) (pair_rules A B S).starts c.cover)
    (lines : map (λ (l : StepLine). l.element) c.steps ≡ filter (λ e. slice_index_or f.live.items e false) (range_with_len 0 (length f.held.items)))
    (steps : (k : ℕ) (l : StepLine) → At c.steps k l → IsStepOf (pair_rules A B S) (entries_held A f) l)
  where
    flags : (i : ℕ) → 0 ≤ i → i < 0 + length f.held.items → slice_index_or f.live.items i false ≡ marked_live c.elements i
    flags i from below =
        let size = marked.size in
        let m = at_some c.elements i (omega arith) in
        let h = at_some f.held.items i (omega arith) in
        flag_of_mark S f h.0 (slice_index_or f.live.items i false) m.0.mark (marked.each i m.0 h.0 m.1 h.1).1
        ∙ sym (ap is_live (read_map (λ (k : Element). k.mark) c.elements i m.0 (Under 0) m.1))

    pub closure_is : IsEvidenceOf (pair_rules A B S) (entries_held A f) c
    closure_is = record {
      origins = same_maps (λ (m : Element). m.origin) (λ (h : Held). h.origin) c.elements f.held.items marked.size (λ i m h m_is h_is. (marked.each i m h m_is h_is).0)
          ∙ sym (origins_of_entries A (map (λ (h : Held). h.origin) f.held.items));
      marks = marks_are A B S limit valid_A valid greatest f whole ends c.elements marked;
      cover = cover;
      lines = lines
          ∙ filters_alike (λ e. slice_index_or f.live.items e false) (marked_live c.elements) 0 (length f.held.items) flags
          ∙ ap (λ k. filter (marked_live c.elements) (range_with_len 0 k)) whole.size;
      steps = steps;
    }
