-- There is one log.
use Rattle.std.proofs.Common.{◌≡◌, ℕ, zero, suc, ◌<◌, ◌↔◌, inl, inr, Option, None, Some, List, refl, [], ◌∷◌, ◌++◌, Contains, sym, ap, ◌∙◌, subst, arith}
use Rattle.std.specs.List.Sorted.{IsStrictlyIncreasing}
use Rattle.std.proofs.lemmas.List.Kept.{AllPairs-from_increasing}
use Rattle.auto_core.specs.Automaton.{Automaton, IsAutomaton}
use Rattle.auto_core.specs.Delayed.{IsGreatestDelayed, AreStateRelated, letters_for}
use Rattle.auto_core.specs.Game.{Close, Holds, IsGreatestForward, IsGreatestBackward}
use Rattle.auto_core.specs.Pruning.{look_backward, look_forward}
use Rattle.auto_core.specs.declared.parts.Mode.{Mode}
use Rattle.auto_core.proofs.MemberLemmas.{rises_from_pairs, same_members}
use Rattle.backward_sim.proofs.GreatestLemmas.{greatest_is_one as backward_is_one}
use Rattle.bit_rel.specs.Relation.{Relation}
use Rattle.delayed_sim.specs.Rankings.{Ranking}
use Rattle.delayed_sim.proofs.OneLemmas.{greatest_one}
use Rattle.direct_sim.proofs.GreatestLemmas.{greatest_is_one as forward_is_one}
use Rattle.prune_pairs.specs.Least.{AreLeastBetter}
use Rattle.prune_pairs.specs.declared.removing.Gone.{Gone}
use Rattle.prune_pairs.proofs.OneLaws.{least_one}
use Rattle.reduce_loop.specs.declared.steps.Foresight.{Foresight}
use Rattle.reduce_loop.specs.declared.steps.Kind.{Kind}
use Rattle.reduce_loop.specs.declared.steps.Kind.TheVariants.{Trim, Forward, Backward, Delayed, Prune}
use Rattle.reduce_loop.specs.declared.steps.MergeBy.{MergeBy}
use Rattle.reduce_loop.specs.declared.steps.MergeBy.TheVariants as by
use Rattle.reduce_loop.specs.declared.steps.Step.{Step}
use Rattle.reduce_loop.specs.declared.steps.Step.TheVariants as step
use Rattle.reduce_loop.specs.Kinds.{kinds_of}
use Rattle.reduce_loop.specs.Logs.{IsRelationOf, IsMergeOf, IsDelayedMergeOf, IsGivenWhere, pairs_given, IsCutOf, IsStepEntry, IsLogged, LogThrough, LogPasses}
use Rattle.reduce_loop.specs.Laws.{LogIsOne}
use Rattle.reduce_loop.proofs.RelationLemmas.{same_relation}
use Rattle.reduce_loop.proofs.MergeLemmas.{same_classes, same_closure}
use Rattle.reduce_loop.proofs.DelayedLemmas.{same_related}
use Rattle.reduce_loop.proofs.StepLemmas.{after_valid, after_one}
use Rattle.reduce_loop.proofs.PassLemmas.{log_through, through_valid, through_one}

-- numbers that increase are one list if they have the same members
same_numbers : (xs ys : List ℕ) → IsStrictlyIncreasing xs → IsStrictlyIncreasing ys → ((q : ℕ) → Contains xs q ↔ Contains ys q) → xs ≡ ys
same_numbers xs ys up other same = same_members (λ x y. x < y) (λ x y h k. omega arith) xs ys
    (rises_from_pairs (λ x y. x < y) xs (AllPairs-from_increasing xs up))
    (rises_from_pairs (λ x y. x < y) ys (AllPairs-from_increasing ys other))
    (λ q h. (same q).0 h) (λ q h. (same q).1 h)

-- ---- entries

module _ (A : Automaton) (Greatest : List (ℕ × ℕ) → Type 0) (one : (S T : List (ℕ × ℕ)) → Greatest S → Greatest T → (p q : ℕ) → Holds S p q ↔ Holds T p q) where
  relation_one : (rel other : Relation) → IsRelationOf A Greatest rel → IsRelationOf A Greatest other → rel ≡ other
  relation_one rel other is also = same_relation rel other is.valid also.valid (is.on_states ∙ sym also.on_states) (one rel.pairs other.pairs is.greatest also.greatest)

  merge_entry_one : (named : Relation → MergeBy) (rel other : Relation) (classes these : List ℕ) → IsMergeOf A Greatest rel classes → IsMergeOf A Greatest other these → step.Merge (named rel) classes ≡ step.Merge (named other) these
  merge_entry_one named rel other classes these is also =
      let same = relation_one rel other is.relation also.relation in
      let equal = same_classes A.states (Close (Holds rel.pairs)) (Close (Holds other.pairs)) classes these is.joined also.joined
      (same_closure (Holds rel.pairs) (Holds other.pairs) (one rel.pairs other.pairs is.relation.greatest also.relation.greatest)) in
      λ i. step.Merge (named (same i)) (equal i)

  given_one : (wanted : Type 0) (rel other : Option Relation) → IsGivenWhere wanted (IsRelationOf A Greatest) rel → IsGivenWhere wanted (IsRelationOf A Greatest) other → rel ≡ other
  given_one wanted None None is also = refl
  given_one wanted None (Some other) is also = absurd (is also.0)
  given_one wanted (Some rel) None is also = absurd (also is.0)
  given_one wanted (Some rel) (Some other) is also = ap Some (relation_one rel other is.1 also.1)

delayed_entry_one :
    (A : Automaton) (n : ℕ) (X Y : Ranking) (classes these : List ℕ)
    → IsDelayedMergeOf A n X classes
    → IsDelayedMergeOf A n Y these
    → step.Merge (by.Delayed X) classes ≡ step.Merge (by.Delayed Y) these
delayed_entry_one A n X Y classes these is also =
    let greatest : IsGreatestDelayed A X.letters X.triples = subst (λ m. IsGreatestDelayed A m X.triples) (sym is.announced) is.greatest in
    let other : IsGreatestDelayed A Y.letters Y.triples = subst (λ m. IsGreatestDelayed A m Y.triples) (sym also.announced) also.greatest in
    let same : X ≡ Y = greatest_one A X Y is.valid also.valid (is.on_states ∙ sym also.on_states) (is.on_labels ∙ sym also.on_labels) (is.announced ∙ sym also.announced) greatest other in
    let R : ℕ → ℕ → Type 0 = AreStateRelated A.labels n X.triples in
    let S : ℕ → ℕ → Type 0 = AreStateRelated A.labels n Y.triples in
    let equal : classes ≡ these = same_classes A.states (Close R) (Close S) classes these is.joined also.joined (same_closure R S (same_related A n X.triples Y.triples is.greatest also.greatest)) in
    λ i. step.Merge (by.Delayed (same i)) (equal i)

cut_entry_one : (A : Automaton) (n k : ℕ) (gone these : List Gone) (back back' ahead ahead' : Option Relation) → IsCutOf A n k gone back ahead → IsCutOf A n k these back' ahead' → step.Cut n k gone back ahead ≡ step.Cut n k these back' ahead'
cut_entry_one A n k gone these back back' ahead ahead' is also =
    let same_back : back ≡ back' = given_one A (IsGreatestBackward A (look_backward n k)) (backward_is_one A (look_backward n k)) (¬ (n ≡ 1)) back back' is.is_back also.is_back in
    let same_ahead : ahead ≡ ahead' = given_one A (IsGreatestForward A (look_forward n k)) (forward_is_one A (look_forward n k)) (¬ (n ≡ 2)) ahead ahead' is.is_ahead also.is_ahead in
    let moved : AreLeastBetter A n (Close (Holds (pairs_given back'))) (Close (Holds (pairs_given ahead'))) gone =
    subst (λ f. AreLeastBetter A n (Close (Holds (pairs_given back'))) (Close (Holds (pairs_given f))) gone) same_ahead
    (subst (λ b. AreLeastBetter A n (Close (Holds (pairs_given b))) (Close (Holds (pairs_given ahead))) gone) same_back is.least) in
    let same_gone : gone ≡ these = least_one A n (Close (Holds (pairs_given back'))) (Close (Holds (pairs_given ahead'))) gone these moved also.least in
    λ i. step.Cut n k (same_gone i) (same_back i) (same_ahead i)

entry_one : (A : Automaton) (mode : Mode) (sight : Foresight) (kind : Kind) (entry other : Step) → IsStepEntry A mode sight kind entry → IsStepEntry A mode sight kind other → entry ≡ other
entry_one A mode sight Trim entry other (kept, e, is) (these, f, also) =
    e
    ∙ ap step.Trim (same_numbers kept these is.ascending also.ascending (λ q. ((λ h. (also.useful q).1 ((is.useful q).0 h)), (λ h. (is.useful q).1 ((also.useful q).0 h)))))
    ∙ sym f
entry_one A mode sight Forward entry other (rel, classes, e, is) (rel', classes', f, also) =
    e ∙ merge_entry_one A (IsGreatestForward A sight.look) (forward_is_one A sight.look) (λ r. by.Forward sight.look r) rel rel' classes classes' is also ∙ sym f
entry_one A mode sight Backward entry other (rel, classes, e, is) (rel', classes', f, also) =
    e ∙ merge_entry_one A (IsGreatestBackward A sight.look) (backward_is_one A sight.look) (λ r. by.Backward sight.look r) rel rel' classes classes' is also ∙ sym f
entry_one A mode sight Delayed entry other (X, classes, e, is) (Y, classes', f, also) =
    e ∙ delayed_entry_one A (letters_for A sight.letters) X Y classes classes' is also ∙ sym f
entry_one A mode sight (Prune n) entry other (gone, back, ahead, e, is) (gone', back', ahead', f, also) =
    e ∙ cut_entry_one A n sight.look gone gone' back back' ahead ahead' is also ∙ sym f

-- ---- logs

logged_one : (A B : Automaton) (mode : Mode) (sight : Foresight) (kind : Kind) (log other : List Step) → IsLogged A mode sight kind B log → IsLogged A mode sight kind B other → log ≡ other
logged_one A B mode sight kind log other (inl is) (inl also) = is.1 ∙ sym also.1
logged_one A B mode sight kind log other (inl is) (inr also) = absurd (also.0 is.0)
logged_one A B mode sight kind log other (inr is) (inl also) = absurd (is.0 also.0)
logged_one A B mode sight kind log other (inr (changed, (entry, is, e))) (inr (differs, (entry', also, f))) = e ∙ ap (λ x. x ∷ []) (entry_one A mode sight kind entry entry' is also) ∙ sym f

through_log_one : (mode : Mode) (sight : Foresight) (kinds : List Kind) (A B C : Automaton) (log other : List Step) → IsAutomaton A → LogThrough A mode sight kinds B log → LogThrough A mode sight kinds C other → log ≡ other
through_log_one mode sight [] A B C log other valid (e, none) (f, nothing) = none ∙ sym nothing
through_log_one mode sight (kind ∷ kinds) A B C log other valid (X, now, later, step, logged, rest, is) (Y, now', later', step', logged', rest', is') =
    let same = after_one A X Y mode sight kind valid step step' in
    let first = logged_one A X mode sight kind now now' logged (subst (λ Z. IsLogged A mode sight kind Z now') (sym same) logged') in
    let others = through_log_one mode sight kinds X B C later later' (after_valid A X mode sight kind step) rest (subst (λ Z. LogThrough Z mode sight kinds C later') (sym same) rest') in
    is ∙ (λ i. first i ++ others i) ∙ sym is'

passes_log_one : (mode : Mode) (sight : Foresight) (n m : ℕ) (A B C : Automaton) (log other : List Step) → IsAutomaton A → LogPasses A mode sight n B log → LogPasses A mode sight m C other → log ≡ other
passes_log_one mode sight zero zero A B C log other valid (e, through) (f, also) = through_log_one mode sight (kinds_of mode) A A A log other valid through also
passes_log_one mode sight zero (suc m) A B C log other valid (e, through) (Y, now', later', through', changed', rest', is') =
    absurd (changed' (through_one mode sight (kinds_of mode) A Y A valid (log_through mode sight (kinds_of mode) A Y now' through') (log_through mode sight (kinds_of mode) A A log through)))
passes_log_one mode sight (suc n) zero A B C log other valid (X, now, later, through, changed, rest, is) (e, also) =
    absurd (changed (through_one mode sight (kinds_of mode) A X A valid (log_through mode sight (kinds_of mode) A X now through) (log_through mode sight (kinds_of mode) A A other also)))
passes_log_one mode sight (suc n) (suc m) A B C log other valid (X, now, later, through, changed, rest, is) (Y, now', later', through', changed', rest', is') =
    let path = log_through mode sight (kinds_of mode) A X now through in
    let same = through_one mode sight (kinds_of mode) A X Y valid path (log_through mode sight (kinds_of mode) A Y now' through') in
    let first = through_log_one mode sight (kinds_of mode) A X Y now now' valid through through' in
    let others = passes_log_one mode sight n m X B C later later' (through_valid mode sight (kinds_of mode) A X valid path) rest (subst (λ Z. LogPasses Z mode sight m C later') (sym same) rest') in
    is ∙ (λ i. first i ++ others i) ∙ sym is'

pub log_one : LogIsOne
log_one A B C mode sight log other valid some (n, passes) (m, also) = passes_log_one mode sight n m A B C log other valid passes also
