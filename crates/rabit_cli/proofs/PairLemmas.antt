-- The joined automata of two files are small enough for a decision.
use Rattle.std.proofs.Common.{ℕ, ◌≤◌, Bool, true, false, cond, List, [], ◌∷◌, length, map, filter, ap, ◌∙◌, arith, length-append}
use Rattle.std.proofs.lemmas.List.{length-map}
use Rattle.std.proofs.lemmas.List.Sorted.{length_permutation}
use Rattle.std.specs.Prelude.{not, Result, Ok, Err, IfOk}
use Rattle.std.specs.List.{list_any}
use Rattle.auto_core.specs.Automaton.{Automaton}
use Rattle.ba_format.specs.declared.parts.Limits.{Limits}
use Rattle.ba_format.specs.declared.parts.Named.{Named}
use Rattle.ba_format.specs.declared.parts.Joined.{Joined}
use Rattle.ba_format.specs.Reading.{IsWithinLimits}
use Rattle.ba_format.specs.Joining.{IsJoined, IsRelabelled, relabelled}
use Rattle.ba_format.specs.Sight.{same_text}
use Rattle.decide.specs.Answer.{HasFewParts}
use Rattle.decide.specs.Laws.{CanDecide}
use Rattle.ba_format.proofs.FaultlessLemmas.{read_is_within}
use Rattle.shelf_io.specs.Shelf.{FileMap}
use Rattle.rabit_frame.specs.declared.files.TheConstants.{FIRST_LIMITS, SECOND_LIMITS}
use Rattle.rabit_frame.specs.FileKinds.{ReadsPair}

filter_shorter : {X : Type 0} (p : X → Bool) (xs : List X) → length (filter p xs) ≤ length xs
filter_shorter p [] = omega arith
filter_shorter p (x ∷ xs) = let rest = filter_shorter p xs in go (p x) rest
  where
    go : (b : Bool) → length (filter p xs) ≤ length xs → length (cond b (x ∷ filter p xs) (filter p xs)) ≤ length (x ∷ xs)
    go true le = omega arith
    go false le = omega arith

few_parts : (limits : Limits) → limits.transitions ≤ 65536 → (named : Named) (joined : List (List ℕ)) (A : Automaton) → IsWithinLimits limits named → IsRelabelled named.auto named.labels joined A → HasFewParts limits.states A
few_parts limits most named joined A within is =
    let states = within.states in
    let given = is.states_given in
    let transitions = within.transitions in
    let same = length_permutation (map (relabelled named.labels joined) named.auto.transitions) A.transitions is.transitions_given in
    let mapped = length-map named.auto.transitions (relabelled named.labels joined) in
    record { states = omega arith; transitions = omega arith }

-- what is small enough for a second file is so for a first one
pub within_first : (named : Named) → IsWithinLimits SECOND_LIMITS named → IsWithinLimits FIRST_LIMITS named
within_first named within = record {
  states_named = within.states_named;
  labels_named = within.labels_named;
  states = let few = within.states in omega arith;
  labels = within.labels;
  transitions = within.transitions;
}

pub can_decide : (one two : Named) (pair : Joined) → IsWithinLimits FIRST_LIMITS one → IsWithinLimits SECOND_LIMITS two → IsJoined one two pair → CanDecide pair
can_decide one two pair first second joined = record {
  first = joined.first.valid;
  second = joined.second.valid;
  first_labels = joined.first.labels_given;
  second_labels = joined.second.labels_given;
  few_labels =
      let p : List ℕ → Bool = λ label. not (list_any (same_text label) one.labels) in
      let count = ap length joined.labels ∙ length-append one.labels (filter p two.labels) in
      let shorter = filter_shorter p two.labels in
      let a = first.labels in
      let b = second.labels in
      let c = first.labels_named in
      let d = second.labels_named in
      omega arith;
  first_parts = few_parts FIRST_LIMITS (omega arith) one pair.labels pair.first first joined.first;
  second_parts = few_parts SECOND_LIMITS (omega arith) two pair.labels pair.second second joined.second;
}

-- so are those that two files read as
pub pair_can_decide : (files : FileMap) (a b : List ℕ) (pair : Joined) → ReadsPair files a b pair → CanDecide pair
pair_can_decide files a b pair (one, two, (bytes, held, few, first), (bytes', held', few', second), joined) =
    can_decide one two pair (read_is_within bytes FIRST_LIMITS one first) (read_is_within bytes' SECOND_LIMITS two second) joined

pub ok_gives : {T E : Type 0} (P Q : T → Type 0) (r : Result T E) → ((x : T) → P x → Q x) → IfOk r P → IfOk r Q
ok_gives P Q (Ok x) f h = f x h
ok_gives P Q (Err e) f h = h
