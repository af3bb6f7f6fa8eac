-- Automata that were read have a join, and it is over the joined labels.
use Rattle.std.proofs.Common.{◌≡◌, ℕ, suc, ◌^◌, ◌<◌, ◌≤◌, Bool, true, false, not, cond, List, [], ◌∷◌, ◌++◌, length, map, filter, get_or, All, refl, sym, ap, subst, ◌∙◌, true≢false, arith}
use Rattle.std.specs.List.{list_any}
use Rattle.std.proofs.lemmas.List.{length-append}
use Rattle.std.proofs.lemmas.List.Elements.{All-nil, All-cons, All-head, All-tail, All-append, All-filter}
use Rattle.std.proofs.lemmas.List.Folds.{list_any_at}
use Rattle.std.proofs.lemmas.List.Kept.{AllPairs-cons, AllPairs-filter}
use Rattle.auto_core.specs.Automaton.{Automaton, IsAutomaton}
use Rattle.ba_format.specs.declared.parts.Limits.{Limits}
use Rattle.ba_format.specs.declared.parts.Named.{Named}
use Rattle.ba_format.specs.Sight.{same_text, AreDifferent}
use Rattle.ba_format.specs.Reading.{Reads}
use Rattle.ba_format.specs.Joining.{joined_labels, relabelled, IsRelabelled}
use Rattle.ba_format.specs.Laws.{IsLabelText}
use Rattle.ba_format.proofs.JoinLemmas.{first_found, second_found, relabelled_parts}
use Rattle.ba_format.proofs.LabelLemmas.{labels_fit}
use Rattle.ba_format.proofs.SightLemmas.{same_text-refl}
use Rattle.ba_format.specs.Joins.{JoinedLabelsAreFew, ReadAutomataJoin, JoinIsOverLabels}
use Rattle.ba_format.proofs.OrderLemmas.{built_from}

-- ---- the joined labels

-- A filter leaves no more than there was.
length-filter : {X : Type 0} (p : X → Bool) (xs : List X) → length (filter p xs) ≤ length xs
length-filter p [] = omega arith
length-filter p (x ∷ xs) = by (p x) (length-filter p xs)
  where
    by : (b : Bool) → length (filter p xs) ≤ length xs → length (cond b (x ∷ filter p xs) (filter p xs)) ≤ length (x ∷ xs)
    by true h = omega arith
    by false h = omega arith

-- It leaves what passes.
filter_passes : {X : Type 0} (p : X → Bool) (xs : List X) → All (λ x. p x ≡ true) (filter p xs)
filter_passes {X} p [] = All-nil (λ x. p x ≡ true)
filter_passes {X} p (x ∷ xs) = by (p x) refl (filter_passes p xs)
  where
    by : (b : Bool) → p x ≡ b → All (λ x. p x ≡ true) (filter p xs) → All (λ x. p x ≡ true) (cond b (x ∷ filter p xs) (filter p xs))
    by true e h = All-cons (λ x. p x ≡ true) x (filter p xs) e h
    by false e h = h

pub joined_labels_are_few : JoinedLabelsAreFew
joined_labels_are_few first second =
    let news = λ (label : List ℕ). not (list_any (same_text label) first) in
    omega (arith, length-append first (filter news second), length-filter news second)

-- Two lists of different texts, no text of the one in the other.
different_both : (xs ys : List (List ℕ)) → AreDifferent xs → AreDifferent ys → All (λ x. All (λ y. x ≡ y → ⊥) ys) xs → AreDifferent (xs ++ ys)
different_both [] ys hx hy apart = hy
different_both (x ∷ xs) ys hx hy apart =
    let D = λ (a : List ℕ). λ (b : List ℕ). (a ≡ b → ⊥) in
    AllPairs-cons D x (xs ++ ys)
    (All-append (D x) xs ys (λ k d lt. hx 0 (suc k) d (omega arith) (omega arith)) (All-head (λ x. All (λ y. x ≡ y → ⊥) ys) x xs apart))
    (different_both xs ys (λ i j d lt short. hx (suc i) (suc j) d (omega arith) (omega arith)) hy (All-tail (λ x. All (λ y. x ≡ y → ⊥) ys) x xs apart))

not_true : (b : Bool) → not b ≡ true → b ≡ true → ⊥
not_true true h e = true≢false (sym h)
not_true false h e = true≢false (sym e)

pub joined_different : (first second : List (List ℕ)) → AreDifferent first → AreDifferent second → AreDifferent (joined_labels first second)
joined_different first second hf hs =
    let news = λ (label : List ℕ). not (list_any (same_text label) first) in
    different_both first (filter news second) hf (AllPairs-filter (λ a b. a ≡ b → ⊥) news second hs)
    (λ i d lt j x short e.
    let y = get_or (filter news second) j x in
    not_true (list_any (same_text y) first) (filter_passes news second j x short)
    (list_any_at (same_text y) first i d lt (ap (same_text y) e ∙ same_text-refl y)))

pub joined_fit : (first second : List (List ℕ)) → All IsLabelText first → All IsLabelText second → All IsLabelText (joined_labels first second)
joined_fit first second hf hs =
    let news = λ (label : List ℕ). not (list_any (same_text label) first) in
    All-append IsLabelText first (filter news second) hf (All-filter news IsLabelText second hs)

-- ---- the joined automata

-- A valid automaton is one over more labels too, if a u32 counts them.
pub valid_with :
    (A : Automaton) (n : ℕ)
    → IsAutomaton A
    → A.labels ≤ n
    → n < 2 ^ 32
    → IsAutomaton (record { states = A.states; labels = n; initial = A.initial; transitions = A.transitions; accepting = A.accepting })
valid_with A n valid more few = record {
  states_fit = valid.states_fit;
  labels_fit = few;
  initial_is_state = valid.initial_is_state;
  in_range = λ k d lt. let r = valid.in_range k d lt in (r.0, r.1, omega (arith, r.2));
  in_order = valid.in_order;
  few = valid.few;
  accepting_in_range = valid.accepting_in_range;
  accepting_in_order = valid.accepting_in_order;
}

-- An automaton over some of these different labels, which are all in the joined list, has its relabelled one.
pub relabelled_from : (A : Automaton) (labels joined : List (List ℕ)) → IsAutomaton A → A.labels ≤ length labels → length labels < 2 ^ 32 → AreDifferent labels
    → All (λ label. list_any (same_text label) joined ≡ true) labels → length joined < 2 ^ 32 → (B : Automaton) × IsRelabelled A labels joined B
relabelled_from A labels joined valid named few different found fits =
    built_from A.states (length joined) A.initial (map (relabelled labels joined) A.transitions) A.accepting valid.states_fit fits
    (relabelled_parts _ labels joined (valid_with A (length labels) valid named few) refl different found)

-- What was read is a valid automaton over its labels.
pub read_labels : (text : List ℕ) (limits : Limits) (read : Named) → Reads text limits read → read.auto.labels ≡ length read.labels
read_labels text limits read r = r.reading.auto.labels_given ∙ sym (ap length r.reading.labels)

pub read_automata_join : ReadAutomataJoin
read_automata_join text other limits bounds one two r s few =
    let labels = joined_labels one.labels two.labels in
    let own = read_labels text limits one r in
    let also = read_labels other bounds two s in
    let first = relabelled_from one.auto one.labels labels r.reading.auto.valid (omega (arith, own)) (omega (arith, own, r.reading.auto.valid.labels_fit)) (labels_fit text limits one r).1
    (first_found one.labels two.labels) few in
    let second = relabelled_from two.auto two.labels labels s.reading.auto.valid (omega (arith, also)) (omega (arith, also, s.reading.auto.valid.labels_fit)) (labels_fit other bounds two s).1
    (second_found one.labels two.labels) few in
    (record { first = first.0; second = second.0; labels = labels }, record { labels = refl; first = first.1; second = second.1 })

pub join_is_over_labels : JoinIsOverLabels
join_is_over_labels text other limits bounds one two joined r s j =
    let a = labels_fit text limits one r in
    let b = labels_fit other bounds two s in
    let different : AreDifferent joined.labels = subst AreDifferent (sym j.labels) (joined_different one.labels two.labels a.1 b.1) in
    let fit : All IsLabelText joined.labels = subst (All IsLabelText) (sym j.labels) (joined_fit one.labels two.labels a.0 b.0) in
    record {
      first_labels = j.first.labels_given;
      second_labels = j.second.labels_given;
      first = record { valid = j.first.valid; all_named = omega (arith, j.first.labels_given); different = different; fit = fit };
      second = record { valid = j.second.valid; all_named = omega (arith, j.second.labels_given); different = different; fit = fit };
    }
