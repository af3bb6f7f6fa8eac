-- The laws of each kind of step.
use Rattle.std.proofs.Common.{◌≡◌, ℕ, ◌≤◌, ◌↔◌, List, Contains}
use Rattle.auto_core.specs.Automaton.{Automaton, IsAutomaton}
use Rattle.auto_core.specs.Accept.{Same}
use Rattle.auto_core.specs.Delayed.{letters_for}
use Rattle.auto_core.specs.Game.{Close, Holds, IsGreatestForward, IsGreatestBackward}
use Rattle.auto_core.specs.Quotient.{RelatesMembers}
use Rattle.auto_core.specs.declared.parts.Mode.{Mode}
use Rattle.auto_core.specs.declared.parts.Mode.TheVariants.{Buchi, Finite}
use Rattle.backward_sim.proofs.GreatestLemmas.{greatest_is_one as backward_is_one}
use Rattle.direct_sim.proofs.GreatestLemmas.{greatest_is_one as forward_is_one}
use Rattle.prune_pairs.proofs.PruneLaws.{pruned_same}
use Rattle.prune_pairs.proofs.OneLaws.{pruned_one, pruned_itself}
use Rattle.quotient.proofs.MergeLaws.{forward_same, backward_same}
use Rattle.useful_states.proofs.KeepLaws.{trimmed_the_same, trimmed_one}
use Rattle.reduce_loop.specs.declared.steps.Foresight.{Foresight}
use Rattle.reduce_loop.specs.declared.steps.Kind.{Kind}
use Rattle.reduce_loop.specs.declared.steps.Kind.TheVariants.{Trim, Forward, Backward, Delayed, Prune}
use Rattle.reduce_loop.specs.Kinds.{kinds_of, AreDelayedPairs, IsMerged, After}
use Rattle.reduce_loop.specs.Settled.{HasNoTwins, IsSettledAt}
use Rattle.reduce_loop.proofs.SizeLemmas.{IsSmaller, kept_smaller}
use Rattle.reduce_loop.proofs.DelayedLemmas.{delayed_is_one, merged_same, delayed_settled, none_in_finite}
use Rattle.reduce_loop.proofs.PruneLemmas.{pruned_smaller}
use Rattle.reduce_loop.proofs.MergeLemmas.{merged_smaller, merged_one, no_twins, same_closure}

-- ---- merges by a greatest list of pairs, of any sort of which there is one

module _ (A : Automaton) (Greatest : List (ℕ × ℕ) → Type 0) where
  merge_smaller : (B : Automaton) → IsAutomaton A → IsMerged A Greatest B → IsSmaller A B
  merge_smaller B valid m = merged_smaller A B m.classes m.joined.valid m.joined.len m.quotient valid

  members_related : (B : Automaton) → (m : IsMerged A Greatest B) → RelatesMembers A m.classes m.pairs
  members_related B m p q p_in q_in e = ((m.joined.joins p q p_in q_in).0 e).0

  module _ (one : (S T : List (ℕ × ℕ)) → Greatest S → Greatest T → (p q : ℕ) → Holds S p q ↔ Holds T p q) where
    merge_one : (B C : Automaton) → IsMerged A Greatest B → IsMerged A Greatest C → B ≡ C
    merge_one B C b c = merged_one A B C b.pairs c.pairs b.classes c.classes (one b.pairs c.pairs b.greatest c.greatest) b.joined c.joined b.quotient c.quotient

    -- no two states are joined by one greatest list, so by none
    merge_settled : IsMerged A Greatest A → (S : List (ℕ × ℕ)) → Greatest S → HasNoTwins A (Close (Holds S))
    merge_settled m S is p q p_in q_in there back =
        let same = same_closure (Holds m.pairs) (Holds S) (one m.pairs S m.greatest is) in
        no_twins A (Close (Holds m.pairs)) m.classes m.joined m.quotient p q p_in q_in ((same p q).1 there) ((same q p).1 back)

-- ---- the laws

-- what a step makes is an automaton
pub after_valid : (A B : Automaton) (mode : Mode) (sight : Foresight) (kind : Kind) → After A mode sight kind B → IsAutomaton B
after_valid A B mode sight Trim (kept, are, keeps) = keeps.valid
after_valid A B mode sight Forward m = m.quotient.valid
after_valid A B mode sight Backward m = m.quotient.valid
after_valid A B mode sight Delayed m = m.quotient.valid
after_valid A B mode sight (Prune n) p = p.cut.valid

-- it is the same automaton, or smaller
pub after_smaller : (A B : Automaton) (mode : Mode) (sight : Foresight) (kind : Kind) → IsAutomaton A → After A mode sight kind B → IsSmaller A B
after_smaller A B mode sight Trim valid (kept, are, keeps) = kept_smaller A B kept valid keeps
after_smaller A B mode sight Forward valid m = merge_smaller A (IsGreatestForward A sight.look) B valid m
after_smaller A B mode sight Backward valid m = merge_smaller A (IsGreatestBackward A sight.look) B valid m
after_smaller A B mode sight Delayed valid m = merge_smaller A (AreDelayedPairs A (letters_for A sight.letters)) B valid m
after_smaller A B mode sight (Prune n) valid p = pruned_smaller A B n sight.look valid p

-- a step makes one automaton
pub after_one : (A B C : Automaton) (mode : Mode) (sight : Foresight) (kind : Kind) → IsAutomaton A → After A mode sight kind B → After A mode sight kind C → B ≡ C
after_one A B C mode sight Trim valid b c = trimmed_one A B C mode b c
after_one A B C mode sight Forward valid b c = merge_one A (IsGreatestForward A sight.look) (forward_is_one A sight.look) B C b c
after_one A B C mode sight Backward valid b c = merge_one A (IsGreatestBackward A sight.look) (backward_is_one A sight.look) B C b c
after_one A B C mode sight Delayed valid b c = merge_one A (AreDelayedPairs A (letters_for A sight.letters)) (delayed_is_one A (letters_for A sight.letters)) B C b c
after_one A B C mode sight (Prune n) valid b c = pruned_one A B C n sight.look valid b c

-- it accepts the same
pub after_same : (A B : Automaton) (mode : Mode) (sight : Foresight) (kind : Kind) → IsAutomaton A → 1 ≤ sight.look → Contains (kinds_of mode) kind → After A mode sight kind B → Same A B mode
after_same A B mode sight Trim valid some listed b = trimmed_the_same A B mode b
after_same A B mode sight Forward valid some listed m =
    forward_same A B m.classes sight.look m.pairs mode valid some m.greatest.stable (members_related A (IsGreatestForward A sight.look) B m) m.quotient
after_same A B mode sight Backward valid some listed m =
    backward_same A B m.classes sight.look m.pairs mode valid some m.greatest.stable (members_related A (IsGreatestBackward A sight.look) B m) m.quotient
after_same A B Buchi sight Delayed valid some listed m = merged_same A B sight.letters m valid
after_same A B Finite sight Delayed valid some listed m = absurd (none_in_finite listed)
after_same A B mode sight (Prune n) valid some listed p = pruned_same A B n sight.look mode valid some p

-- a step that changes nothing has nothing to do
pub after_settled : (A : Automaton) (mode : Mode) (sight : Foresight) (kind : Kind) → After A mode sight kind A → IsSettledAt A mode sight kind
after_settled A mode sight Trim b = b
after_settled A mode sight Forward m = merge_settled A (IsGreatestForward A sight.look) (forward_is_one A sight.look) m
after_settled A mode sight Backward m = merge_settled A (IsGreatestBackward A sight.look) (backward_is_one A sight.look) m
after_settled A mode sight Delayed m = delayed_settled A (letters_for A sight.letters) m
after_settled A mode sight (Prune n) p = λ back ahead greatest_back greatest_ahead. (pruned_itself A n sight.look back ahead p.cut.valid greatest_back greatest_ahead).0 p
