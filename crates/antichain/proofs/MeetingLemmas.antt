-- Meeting the elements of a list of numbers.
use Rattle.std.proofs.Common.{ℕ, ◌+◌, ◌<◌, ◌≤◌, Bool, false, List, length, slice_set, arith}
use Rattle.auto_core.specs.Game.{Holds}
use Rattle.auto_core.specs.Pairs.{StatePair, PairSubsumes}
use Rattle.auto_core.specs.Outcome.{At}
use Rattle.auto_laws.proofs.PlaceLemmas.{at_within}
use Rattle.evidence.proofs.DropLemmas.{AreDroppedSoFar as DroppedSoFar, dropped_more as more_dropped, kept_more as more_kept}
use Rattle.antichain.specs.declared.parts.Held.{Held}
use Rattle.antichain.specs.Kept.{held_pair, IsSubsumedOf, AreDropped}

-- The flags so far.
abbrev pub AreDroppedSoFar : List (ℕ × ℕ) → List Held → List ℕ → StatePair → List Bool → List Bool → ℕ → Type 0
AreDroppedSoFar S held numbers x old new count = DroppedSoFar (λ h. PairSubsumes (Holds S) x (held_pair h)) (IsSubsumedOf S held numbers x) held numbers old new count

module _ (S : List (ℕ × ℕ)) (held : List Held) (numbers : List ℕ) (x : StatePair) (old : List Bool) where
  pub dropped_all : (new : List Bool) (count : ℕ) → length numbers ≤ count → AreDroppedSoFar S held numbers x old new count → AreDropped S held numbers x old new
  dropped_all new count enough so_far = record {
    size = so_far.size;
    each = so_far.each;
    all = λ j of. let within = at_within numbers of.place j of.is in so_far.all of.place j of.element (omega arith) of.is of.element_is of.subsumes;
  }

  -- The next number is dropped, or it is kept.
  pub dropped_more : (new : List Bool) (count j : ℕ) (h : Held) → At numbers count j → At held j h → j < length old → PairSubsumes (Holds S) x (held_pair h) →
      AreDroppedSoFar S held numbers x old new count → AreDroppedSoFar S held numbers x old (slice_set new j false) (count + 1)
  dropped_more new count j h is there within subsumes so_far =
      more_dropped Held (λ k. PairSubsumes (Holds S) x (held_pair k)) (IsSubsumedOf S held numbers x) held numbers old new count j h is there so_far within
      (record { place = count; is = is; element = h; element_is = there; subsumes = subsumes })

  pub kept_more : (new : List Bool) (count j : ℕ) (h : Held) → At numbers count j → At held j h → (PairSubsumes (Holds S) x (held_pair h) → ⊥) →
      AreDroppedSoFar S held numbers x old new count → AreDroppedSoFar S held numbers x old new (count + 1)
  kept_more new count j h is there not so_far =
      more_kept Held (λ k. PairSubsumes (Holds S) x (held_pair k)) (IsSubsumedOf S held numbers x) held numbers old new count j h is there so_far not
