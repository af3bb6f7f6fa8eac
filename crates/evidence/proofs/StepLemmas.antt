-- The step line of an element whose extensions are those by the transitions out of a state.
use Rattle.std.proofs.Common.{◌≡◌, ℕ, ◌+◌, ◌-◌, List, [], ◌∷◌, length, map, refl, sym, ap, ◌∙◌, subst, arith}
use Rattle.std.specs.List.{range_with_len}
use Rattle.std.proofs.lemmas.List.{length-map}
use Rattle.std.proofs.lemmas.List.FromFn.{length-range_with_len}
use Rattle.auto_core.specs.Automaton.{Automaton, IsOutgoing}
use Rattle.auto_core.specs.Outcome.{Rules, At, Entry, IsLeastSubsumer, next_entry, steps_out}
use Rattle.cert_value.specs.declared.types.StepLine.{StepLine}
use Rattle.auto_laws.proofs.PlaceLemmas.{at_same, at_within, at_some}
use Rattle.auto_laws.proofs.ListLemmas.{at_map}
use Rattle.evidence.specs.Evidence.{AreLeastSubsumers, IsStepOf}
use Rattle.evidence.proofs.RangeLemmas.{steps_out_are, at_range}

-- What stands at a place of a mapped list comes from what stands there in the list.
pub at_mapped : {X Y : Type 0} (f : X → Y) (xs : List X) (k : ℕ) (y : Y) → At (map f xs) k y → (x : X) × At xs k x × (y ≡ f x)
at_mapped f xs k y is =
    let within = at_within (map f xs) k y is in
    let size = length-map xs f in
    let x = at_some xs k (omega arith) in
    (x.0, x.1, at_same (map f xs) k y (f x.0) is (at_map f xs k x.0 x.1))

-- The least subsumers of what a function makes of a list, by those of its values.
pub subsumers_of_map : (R : Rules Entry) (es : List Entry) {X : Type 0} (f : X → Entry) (xs : List X) (numbers : List ℕ) → length numbers ≡ length xs →
    ((k j : ℕ) (x : X) → At xs k x → At numbers k j → IsLeastSubsumer R es (f x) j) → AreLeastSubsumers R es (map f xs) numbers
subsumers_of_map R es f xs numbers size each = record {
  size = size ∙ sym (length-map xs f);
  each = λ k j c c_is j_is. let x = at_mapped f xs k c c_is in subst (λ z. IsLeastSubsumer R es z j) (sym x.2) (each k j x.0 x.1 j_is);
}

-- The least subsumer of one candidate.
pub one_subsumer : (R : Rules Entry) (es : List Entry) (c : Entry) (j : ℕ) → IsLeastSubsumer R es c j → AreLeastSubsumers R es (c ∷ []) (j ∷ [])
one_subsumer R es c j least = record {
  size = refl;
  each = λ k i d d_is i_is.
      let within = at_within (c ∷ []) k d d_is in
      let first : k ≡ 0 = omega arith in
      let element : c ≡ d = at_same (c ∷ []) 0 c d refl (subst (λ m. At (c ∷ []) m d) first d_is) in
      let number : j ≡ i = at_same (j ∷ []) 0 j i refl (subst (λ m. At (j ∷ []) m i) first i_is) in
      subst (λ m. IsLeastSubsumer R es d m) number (subst (λ e. IsLeastSubsumer R es e j) element least);
}

pub step_is : (R : Rules Entry) (A : Automaton) (es : List Entry) (line : StepLine) (x : Entry) (begin end : ℕ) → R.extensions line.element x ≡ map (next_entry A line.element x) (steps_out A x.arc.to) →
    At es line.element x → IsOutgoing A x.arc.to begin end → begin + length line.by ≡ end →
    ((k j : ℕ) → At line.by k j → IsLeastSubsumer R es (next_entry A line.element x (begin + k)) j) → IsStepOf R es line
step_is R A es line x begin end extensions is out size each =
    let steps : steps_out A x.arc.to ≡ range_with_len begin (end - begin) = steps_out_are A x.arc.to begin end out in
    let count : length (range_with_len begin (end - begin)) ≡ end - begin = length-range_with_len begin (end - begin) in
    let range = out.is_range in
    record {
      element = x;
      is = is;
      by = subst (λ l. AreLeastSubsumers R es l line.by) (sym extensions) (subsumers_of_map R es (next_entry A line.element x) (steps_out A x.arc.to) line.by
          ((let e : length line.by ≡ end - begin = omega arith in e) ∙ sym count ∙ sym (ap length steps))
          (λ k j t t_is j_is.
          let here : t ≡ begin + k = at_range begin (end - begin) k t (subst (λ l. At l k t) steps t_is) in
          subst (λ m. IsLeastSubsumer R es (next_entry A line.element x m) j) (sym here) (each k j j_is)));
    }
