-- Pruning changes nothing of what is accepted.
use Rattle.std.proofs.Common.{◌≡◌, ◌==◌, ℕ, zero, suc, ◌≤◌, ◌⊎◌, inl, inr, List, [], ◌∷◌, Contains, refl, sym, ◌∙◌, subst, arith, reverse}
use Rattle.std.specs.List.{list_any}
use Rattle.std.proofs.lemmas.Bool.{cases_Bool, false≢true}
use Rattle.std.proofs.lemmas.List.{reverse-reverse}
use Rattle.auto_core.specs.Automaton.{Automaton, Moves, trans, trans_at}
use Rattle.auto_core.specs.Run.{PathBy, Path, end_of}
use Rattle.auto_core.specs.Game.{BackwardMoves, MatchesForward, MatchesBackward, AllMatched, Close, Strict, Holds, StableForward, StableBackward}
use Rattle.auto_core.specs.Pruning.{AtSource, AtTarget, IsBetter, HasBetter, IsCut, IsStableBack, IsStableAhead}
use Rattle.auto_core.specs.declared.parts.Trans.{Trans}
use Rattle.auto_core.specs.declared.parts.Mode.TheVariants.{Buchi, Finite}
use Rattle.auto_core.proofs.PathLemmas.{Contains-from_test, test_from_Contains}
use Rattle.auto_core.proofs.MoveLemmas.{number_of, move_at}
use Rattle.auto_laws.specs.Paths.{turned}
use Rattle.auto_laws.specs.Transfer.{FollowsFromStart}
use Rattle.auto_laws.proofs.MatchLemmas.{forward_refl, forward_trans, backward_trans, matched_refl, matched_weaker, matched_end}
use Rattle.auto_laws.proofs.TurnLemmas.{path_turned, end_of-turned, turned-turned, matched_turned}
use Rattle.auto_laws.proofs.GameLemmas.{close_refl, close_trans}
use Rattle.auto_laws.proofs.AppliedLemmas.{followed_forward, followed_backward, followed_move_by_move, followed_move_by_move_backward}
use Rattle.auto_laws.proofs.TransferLemmas.{transfer, transfer_words}
use Rattle.prune_pairs.proofs.FindLemmas.{same_source, same_target}
use Rattle.prune_pairs.proofs.TowerLemmas.{towers_are_low}
use Rattle.prune_pairs.proofs.ClimbLemmas.{climbed}
use Rattle.prune_pairs.proofs.RepairLemmas.{path_as, Repaired, repaired}
use Rattle.prune_pairs.specs.Laws.{PruningIsSame, PrunedIsSame}

-- a better move than that from p to q
record BetterMove (A : Automaton) (n : ℕ) (back ahead : ℕ → ℕ → Type 0) (p a q : ℕ) : Type 0 where
  from : ℕ
  to : ℕ
  moves : Moves A from a to
  source : AtSource n back p from
  target : AtTarget n ahead q to

better_move : (A : Automaton) (n : ℕ) (back ahead : ℕ → ℕ → Type 0) (t p a q : ℕ) → trans_at A t ≡ trans p a q → HasBetter A n back ahead t → BetterMove A n back ahead p a q
better_move A n back ahead t p a q is (u, h) =
    let b : IsBetter n back ahead (trans p a q) (trans_at A u) = subst (λ x. IsBetter n back ahead x (trans_at A u)) is h.better in
    record {
      from = (trans_at A u).source;
      to = (trans_at A u).target;
      moves = subst (λ x. Moves A (trans_at A u).source x (trans_at A u).target) (sym b.label) (move_at A u h.by);
      source = b.source;
      target = b.target;
    }

-- pairs by their numbers
strict_target : (n : ℕ) (ahead : ℕ → ℕ → Type 0) (p q : ℕ) → (n ≡ 1) ⊎ (n ≡ 3) → AtTarget n ahead p q → Strict ahead p q
strict_target n ahead p q at (inl h) = h.1
strict_target n ahead p q at (inr (inl h)) = absurd (omega (arith, at, h.0))
strict_target n ahead p q at (inr (inr (inl h))) = h.1
strict_target n ahead p q at (inr (inr (inr h))) = absurd (omega (arith, at, h.0))

strict_source : (n : ℕ) (back : ℕ → ℕ → Type 0) (p q : ℕ) → (n ≡ 2) ⊎ (n ≡ 4) → AtSource n back p q → Strict back p q
strict_source n back p q at (inl h) = absurd (omega (arith, at, h.0))
strict_source n back p q at (inr (inl h)) = h.1
strict_source n back p q at (inr (inr (inl h))) = absurd (omega (arith, at, h.0))
strict_source n back p q at (inr (inr (inr h))) = h.1

plain_source : (back : ℕ → ℕ → Type 0) (p q : ℕ) → AtSource 3 back p q → back p q
plain_source back p q (inl h) = absurd (omega (arith, h.0))
plain_source back p q (inr (inl h)) = absurd (omega (arith, h.0))
plain_source back p q (inr (inr (inl h))) = h.1
plain_source back p q (inr (inr (inr h))) = absurd (omega (arith, h.0))

plain_target : (ahead : ℕ → ℕ → Type 0) (p q : ℕ) → AtTarget 4 ahead p q → ahead p q
plain_target ahead p q (inl h) = absurd (omega (arith, h.0))
plain_target ahead p q (inr (inl h)) = absurd (omega (arith, h.0))
plain_target ahead p q (inr (inr (inl h))) = absurd (omega (arith, h.0))
plain_target ahead p q (inr (inr (inr h))) = h.1

no_source : (n : ℕ) (back : ℕ → ℕ → Type 0) (p q : ℕ) → (n ≡ 0) ⊎ (5 ≤ n) → AtSource n back p q → ⊥
no_source n back p q at (inl h) = omega (arith, at, h.0)
no_source n back p q at (inr (inl h)) = omega (arith, at, h.0)
no_source n back p q at (inr (inr (inl h))) = omega (arith, at, h.0)
no_source n back p q at (inr (inr (inr h))) = omega (arith, at, h.0)

module _ (A B : Automaton) (gone : List ℕ) (k : IsCut A gone B) where
  -- a move is left, or its number is among those that are gone
  left_or_gone : (p a q : ℕ) → Moves A p a q → Moves B p a q ⊎ ((t : ℕ) × (trans_at A t ≡ trans p a q) × Contains gone t)
  left_or_gone p a q m =
      let (t, t_in, is) = number_of A p a q m in
      elim (cases_Bool (list_any (λ x. x == t) gone)) [
        | inl listed ↦ inr (t, is, Contains-from_test gone t listed)
        | inr not_listed ↦ inl ((k.moves p a q).1 (t, t_in, is, λ h. false≢true (sym not_listed ∙ test_from_Contains gone t h)))
      ]

  was_there : (p a q : ℕ) → Moves B p a q → Moves A p a q
  was_there p a q m =
      let (t, t_in, is, _) = (k.moves p a q).0 m in
      let P : Trans → Type 0 = λ x. Contains A.transitions x in
      subst P is (move_at A t t_in)

  accepts_too : (p q : ℕ) → MatchesForward A A p q → MatchesForward A B p q
  accepts_too p q h acc = subst (λ l. Contains l q) (sym k.accepting) (h acc)

  accepted_before : (p : ℕ) → MatchesForward B A p p
  accepted_before p acc = subst (λ l. Contains l p) k.accepting acc

  -- what is left accepts no more
  fewer : FollowsFromStart B A
  fewer w ps path = (
    ps,
    subst (λ s. Path A s w ps) k.initial (path_as (Moves B) (Moves A) was_there B.initial w ps path),
    matched_refl (MatchesForward B A) accepted_before ps,
  )

  -- a path of A and one that is left, as seen from their ends
  read_back : (w ps : List ℕ) (m : ℕ) (xs : List ℕ) → PathBy (BackwardMoves B) m (reverse w) xs → MatchesForward A A (end_of A.initial ps) m
      → AllMatched (MatchesForward A A) (turned A.initial ps) xs → end_of m xs ≡ A.initial → (qs : List ℕ) × Path B B.initial w qs × AllMatched (MatchesForward A B) ps qs
  read_back w ps m xs path here matched start =
      let e = end_of A.initial ps in
      let goes : Path B (end_of m xs) (reverse (reverse w)) (turned m xs) = path_turned (BackwardMoves B) m (reverse w) xs path in
      let whole : AllMatched (MatchesForward A A) (end_of e (turned A.initial ps) ∷ turned e (turned A.initial ps)) (end_of m xs ∷ turned m xs) =
      matched_turned (MatchesForward A A) e m (turned A.initial ps) xs (here, matched) in
      let rest : AllMatched (MatchesForward A A) ps (turned m xs) = subst (λ l. AllMatched (MatchesForward A A) l (turned m xs)) (turned-turned A.initial ps) whole.1 in (
        turned m xs,
        subst (λ s. Path B s w (turned m xs)) (start ∙ sym k.initial) (subst (λ l. Path B (end_of m xs) l (turned m xs)) (reverse-reverse w) goes),
        matched_weaker (MatchesForward A A) (MatchesForward A B) accepts_too ps (turned m xs) rest,
      )

  -- where no move is gone
  all_left : ((p a q : ℕ) → Moves A p a q → Moves B p a q) → FollowsFromStart A B
  all_left left w ps path = (
    ps,
    subst (λ s. Path B s w ps) (sym k.initial) (path_as (Moves A) (Moves B) left A.initial w ps path),
    matched_refl (MatchesForward A B) (λ p. accepts_too p p (forward_refl A p)) ps,
  )

  module _ (n : ℕ) (back ahead : List (ℕ × ℕ)) (have : (t : ℕ) → Contains gone t → HasBetter A n (Close (Holds back)) (Close (Holds ahead)) t) where
    -- a move is left, or there is a better one
    left_or_better : (p a q : ℕ) → Moves A p a q → Moves B p a q ⊎ BetterMove A n (Close (Holds back)) (Close (Holds ahead)) p a q
    left_or_better p a q m = elim (left_or_gone p a q m) [
      | inl left ↦ inl left
      | inr (t, is, there) ↦ inr (better_move A n (Close (Holds back)) (Close (Holds ahead)) t p a q is (have t there))
    ]

    none_better : (n ≡ 0) ⊎ (5 ≤ n) → FollowsFromStart A B
    none_better at = all_left (λ p a q m. elim (left_or_better p a q m) [
      | inl left ↦ left
      | inr b ↦ absurd (no_source n (Close (Holds back)) p b.from at b.source)
    ])

-- ---- pairs 1 and 2

module _ (A B : Automaton) (gone : List ℕ) (k : IsCut A gone B) (look : ℕ) (some : 1 ≤ look) (back ahead : List (ℕ × ℕ)) where
  first_pair : StableForward A look ahead → ((t : ℕ) → Contains gone t → HasBetter A 1 (Close (Holds back)) (Close (Holds ahead)) t) → FollowsFromStart A B
  first_pair stable have w ps path =
      let (bound, low) = towers_are_low ahead in
      let stays : (p a r : ℕ) → Moves A p a r → Moves B p a r ⊎ ((s : ℕ) × Moves A p a s × Strict (Close (Holds ahead)) r s) = λ p a r m.
      elim (left_or_better A B gone k 1 back ahead have p a r m) [
        | inl left ↦ inl left
        | inr b ↦ inr (
          b.to,
          subst (λ x. Moves A x a b.to) (sym (same_source (Close (Holds back)) p b.from b.source)) b.moves,
          strict_target 1 (Close (Holds ahead)) r b.to (inl refl) b.target,
        )
      ] in
      let (qs, goes, matched) = climbed (Moves A) (Moves B) (MatchesForward A A) (Close (Holds ahead)) (forward_trans A A A) (close_refl (Holds ahead)) (close_trans (Holds ahead)) bound low
      (followed_forward A look ahead some stable) stays A.initial w ps path in
      (qs, subst (λ s. Path B s w qs) (sym k.initial) goes, matched_weaker (MatchesForward A A) (MatchesForward A B) (accepts_too A B gone k) ps qs matched)

  second_pair : StableBackward A look back → ((t : ℕ) → Contains gone t → HasBetter A 2 (Close (Holds back)) (Close (Holds ahead)) t) → FollowsFromStart A B
  second_pair stable have w ps path =
      let e = end_of A.initial ps in
      let (bound, low) = towers_are_low back in
      let stays : (p a r : ℕ) → BackwardMoves A p a r → BackwardMoves B p a r ⊎ ((s : ℕ) × BackwardMoves A p a s × Strict (Close (Holds back)) r s) = λ p a r m.
      elim (left_or_better A B gone k 2 back ahead have r a p m) [
        | inl left ↦ inl left
        | inr b ↦ inr (
          b.from,
          subst (λ x. Moves A b.from a x) (sym (same_target (Close (Holds ahead)) p b.to b.target)) b.moves,
          strict_source 2 (Close (Holds back)) r b.from (inl refl) b.source,
        )
      ] in
      let (xs, goes, matched) = climbed (BackwardMoves A) (BackwardMoves B) (MatchesBackward A A) (Close (Holds back)) (backward_trans A A A) (close_refl (Holds back)) (close_trans (Holds back)) bound low
      (followed_backward A look back some stable) stays e (reverse w) (turned A.initial ps) (path_turned (Moves A) A.initial w ps path) in
      let far = matched_end (MatchesBackward A A) e e (turned A.initial ps) xs ((λ a. a), (λ i. i)) matched in
      read_back A B gone k w ps e xs goes (λ a. a) (matched_weaker (MatchesBackward A A) (MatchesForward A A) (λ p q h. h.0) (turned A.initial ps) xs matched) (far.1 (end_of-turned A.initial ps))

  -- ---- pairs 3 and 4

  third_pair : StableBackward A look back → StableForward A 1 ahead → ((t : ℕ) → Contains gone t → HasBetter A 3 (Close (Holds back)) (Close (Holds ahead)) t) → FollowsFromStart A B
  third_pair stable_back stable_ahead have w ps path =
      let e = end_of A.initial ps in
      let (bound, low) = towers_are_low ahead in
      let stays : (p a r : ℕ) → Moves A p a r → Moves B p a r ⊎ ((q s : ℕ) × Moves A q a s × Close (Holds back) p q × Strict (Close (Holds ahead)) r s) = λ p a r m.
      elim (left_or_better A B gone k 3 back ahead have p a r m) [
        | inl left ↦ inl left
        | inr b ↦ inr (b.from, b.to, b.moves, plain_source (Close (Holds back)) p b.from b.source, strict_target 3 (Close (Holds ahead)) r b.to (inr refl) b.target)
      ] in
      let r : Repaired (Moves A) (Moves B) (MatchesForward A A) (Close (Holds ahead)) (λ s. s ≡ A.initial) e (reverse w) (turned A.initial ps) [] [] =
      repaired (Moves A) (Moves B) (MatchesForward A A) (MatchesBackward A A) (Close (Holds back)) (Close (Holds ahead)) (λ s. s ≡ A.initial) (forward_trans A A A)
      (close_refl (Holds ahead)) (close_trans (Holds ahead)) (λ p q h. (followed_forward A 1 ahead (omega arith) stable_ahead p q h).0) (λ p q h. h.0) (λ p q h i. h.1 i) bound low
      (followed_backward A look back some stable_back) (followed_move_by_move A ahead stable_ahead) (was_there A B gone k) stays
      (reverse w) e (turned A.initial ps) [] [] (path_turned (Moves A) A.initial w ps path) tt in
      read_back A B gone k w ps r.middle r.before r.left (followed_forward A 1 ahead (omega arith) stable_ahead e r.middle r.above).0 r.matched (r.far (end_of-turned A.initial ps))

  fourth_pair : StableBackward A 1 back → StableForward A look ahead → ((t : ℕ) → Contains gone t → HasBetter A 4 (Close (Holds back)) (Close (Holds ahead)) t) → FollowsFromStart A B
  fourth_pair stable_back stable_ahead have w ps path =
      let (bound, low) = towers_are_low back in
      let stays : (p a r : ℕ) → BackwardMoves A p a r → BackwardMoves B p a r ⊎ ((q s : ℕ) × BackwardMoves A q a s × Close (Holds ahead) p q × Strict (Close (Holds back)) r s) = λ p a r m.
      elim (left_or_better A B gone k 4 back ahead have r a p m) [
        | inl left ↦ inl left
        | inr b ↦ inr (b.to, b.from, b.moves, plain_target (Close (Holds ahead)) p b.to b.target, strict_source 4 (Close (Holds back)) r b.from (inr refl) b.source)
      ] in
      let r : Repaired (BackwardMoves A) (BackwardMoves B) (MatchesForward A A) (Close (Holds back)) (λ s. Unit {0}) A.initial w ps [] [] =
      repaired (BackwardMoves A) (BackwardMoves B) (MatchesForward A A) (MatchesForward A A) (Close (Holds ahead)) (Close (Holds back)) (λ s. Unit {0}) (forward_trans A A A)
      (close_refl (Holds back)) (close_trans (Holds back)) (λ p q h. (followed_backward A 1 back (omega arith) stable_back p q h).0.0) (λ p q h. h) (λ p q h i. tt) bound low
      (followed_forward A look ahead some stable_ahead) (followed_move_by_move_backward A back stable_back) (λ p a q m. was_there A B gone k q a p m) stays
      w A.initial ps [] [] path tt in
      let start : r.middle ≡ A.initial = (followed_backward A 1 back (omega arith) stable_back A.initial r.middle r.above).0.1 refl in (
        r.before,
        subst (λ s. Path B s w r.before) (start ∙ sym k.initial) r.left,
        matched_weaker (MatchesForward A A) (MatchesForward A B) (accepts_too A B gone k) ps r.before r.matched,
      )

-- ---- the law

pruning_follows : (A B : Automaton) (n look : ℕ) (back ahead : List (ℕ × ℕ)) (gone : List ℕ) → 1 ≤ look → IsStableBack A n look back → IsStableAhead A n look ahead
    → ((t : ℕ) → Contains gone t → HasBetter A n (Close (Holds back)) (Close (Holds ahead)) t) → IsCut A gone B → FollowsFromStart A B
pruning_follows A B zero look back ahead gone some sb sa have k = none_better A B gone k 0 back ahead have (inl refl)
pruning_follows A B (suc zero) look back ahead gone some sb sa have k = first_pair A B gone k look some back ahead (sa (λ e. omega (arith, e))) have
pruning_follows A B (suc (suc zero)) look back ahead gone some sb sa have k = second_pair A B gone k look some back ahead (sb (λ e. omega (arith, e))) have
pruning_follows A B (suc (suc (suc zero))) look back ahead gone some sb sa have k = third_pair A B gone k look some back ahead (sb (λ e. omega (arith, e))) (sa (λ e. omega (arith, e))) have
pruning_follows A B (suc (suc (suc (suc zero)))) look back ahead gone some sb sa have k = fourth_pair A B gone k look some back ahead (sb (λ e. omega (arith, e))) (sa (λ e. omega (arith, e))) have
pruning_follows A B (suc (suc (suc (suc (suc n))))) look back ahead gone some sb sa have k = none_better A B gone k (suc (suc (suc (suc (suc n))))) back ahead have (inr (omega arith))

pub pruning_same : PruningIsSame
pruning_same A B n look back ahead gone Buchi valid some sb sa have k =
    (transfer A B k.valid (pruning_follows A B n look back ahead gone some sb sa have k), transfer B A valid (fewer A B gone k))
pruning_same A B n look back ahead gone Finite valid some sb sa have k = (
  transfer_words A B (subst (λ s. MatchesForward A B A.initial s) (sym k.initial) (accepts_too A B gone k A.initial A.initial (λ a. a))) (pruning_follows A B n look back ahead gone some sb sa have k),
  transfer_words B A (subst (λ s. MatchesForward B A B.initial s) k.initial (accepted_before A B gone k B.initial)) (fewer A B gone k),
)

pub pruned_same : PrunedIsSame
pruned_same A B n look mode valid some p =
    pruning_same A B n look p.back p.ahead p.gone mode valid some (λ e. (p.greatest_back e).stable) (λ e. (p.greatest_ahead e).stable) (λ t h. (p.removable t).0 h) p.cut
