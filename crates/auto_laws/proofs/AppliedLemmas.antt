-- The laws of games at one automaton's moves, forward and backward, and across two automata.
use Rattle.std.proofs.Common.{◌≡◌, ℕ, zero, suc, ◌<◌, List, ◌∷◌, reverse, sym, ap, ◌∙◌, subst}
use Rattle.std.proofs.lemmas.List.{reverse-reverse}
use Rattle.auto_core.specs.Automaton.{Moves}
use Rattle.auto_core.specs.Run.{PathBy, Path, end_of}
use Rattle.auto_core.specs.Game.{BackwardMoves, MatchesForward, MatchesBackward, AllMatched, ArePairsBelow, Chain, Close, Holds}
use Rattle.auto_core.specs.declared.parts.Mode.TheVariants.{Buchi, Finite}
use Rattle.auto_laws.specs.Paths.{turned}
use Rattle.auto_laws.specs.Games.{IsFollowed, FollowedForward, FollowedBackward, FollowedToTheEnd, FollowedAcross, AcrossIncludes, ClosureIsLeast, ClosureStaysStable, ClosureStaysStableBackward, ClosureIsShort, StrictStepsAreFew, FollowedMoveByMove, FollowedMoveByMoveBackward}
use Rattle.auto_laws.proofs.MatchLemmas.{forward_refl, forward_trans, backward_refl, backward_trans}
use Rattle.auto_laws.proofs.TurnLemmas.{path_turned, end_of-turned, turned-turned, matched_turned}
use Rattle.auto_laws.proofs.GameLemmas.{tells_forward, tells_backward, follow, follow_close, close_matches, close_stable, follow_moves, close_refl, close_trans, close_one, close_least}
use Rattle.auto_laws.proofs.PumpingLemmas.{chain_short, strict_chain_short}
use Rattle.auto_laws.proofs.TransferLemmas.{transfer, transfer_words}

pub followed_forward : FollowedForward
followed_forward A k S some stable p q close = (
  close_matches (Moves A) (MatchesForward A A) (Holds S) (forward_refl A) (forward_trans A A A) k stable p q close,
  follow_close (Moves A) (MatchesForward A A) (Holds S) (forward_refl A) (forward_trans A A A) k some (tells_forward A) stable p q close,
)

pub followed_backward : FollowedBackward
followed_backward A k S some stable p q close = (
  close_matches (BackwardMoves A) (MatchesBackward A A) (Holds S) (backward_refl A) (backward_trans A A A) k stable p q close,
  follow_close (BackwardMoves A) (MatchesBackward A A) (Holds S) (backward_refl A) (backward_trans A A A) k some (tells_backward A) stable p q close,
)

pub followed_to_the_end : FollowedToTheEnd
followed_to_the_end A k S some stable p q close s w ps path ends =
    let law = followed_backward A k S some stable p q close in
    let back : PathBy (BackwardMoves A) p (reverse w) (turned s ps) = subst (λ x. PathBy (BackwardMoves A) x (reverse w) (turned s ps)) ends (path_turned (Moves A) s w ps path) in
    let followed : IsFollowed (BackwardMoves A) (MatchesBackward A A) q (reverse w) (turned s ps) = law.1 (reverse w) (turned s ps) back in
    let goes : Path A (end_of q followed.0) (reverse (reverse w)) (turned q followed.0) = path_turned (BackwardMoves A) q (reverse w) followed.0 followed.1 in
    let match : AllMatched (MatchesBackward A A) (end_of p (turned s ps) ∷ turned p (turned s ps)) (end_of q followed.0 ∷ turned q followed.0) =
    matched_turned (MatchesBackward A A) p q (turned s ps) followed.0 (law.0, followed.2) in
    let start : end_of p (turned s ps) ≡ s = ap (λ x. end_of x (turned s ps)) (sym ends) ∙ end_of-turned s ps in
    let again : turned p (turned s ps) ≡ ps = ap (λ x. turned x (turned s ps)) (sym ends) ∙ turned-turned s ps in
    let first : AllMatched (MatchesBackward A A) (s ∷ turned p (turned s ps)) (end_of q followed.0 ∷ turned q followed.0) =
    subst (λ x. AllMatched (MatchesBackward A A) (x ∷ turned p (turned s ps)) (end_of q followed.0 ∷ turned q followed.0)) start match in (
      end_of q followed.0,
      turned q followed.0,
      subst (λ l. Path A (end_of q followed.0) l (turned q followed.0)) (reverse-reverse w) goes,
      end_of-turned q followed.0,
      subst (λ l. AllMatched (MatchesBackward A A) (s ∷ l) (end_of q followed.0 ∷ turned q followed.0)) again first,
    )

pub followed_across : FollowedAcross
followed_across A B k S some stable p q held =
    ((stable p q held).0, follow (Moves A) (Moves B) (MatchesForward A B) (Holds S) k some (tells_forward A) stable p q held)

pub across_includes : AcrossIncludes
across_includes A B k S valid some stable held Buchi = transfer A B valid (followed_across A B k S some stable A.initial B.initial held).1
across_includes A B k S valid some stable held Finite =
    let law = followed_across A B k S some stable A.initial B.initial held in
    transfer_words A B law.0 law.1

pub closure_is_least : ClosureIsLeast
closure_is_least S = record {
  reflexive = close_refl (Holds S);
  transitive = close_trans (Holds S);
  has_pairs = close_one (Holds S);
  least = λ T inside joins p q close. close_least (Holds S) (Holds T) inside joins p q close;
}

pub closure_stays_stable : ClosureStaysStable
closure_stays_stable A S stable = close_stable (Moves A) (MatchesForward A A) (Holds S) (forward_refl A) (forward_trans A A A) stable

pub closure_stays_stable_backward : ClosureStaysStableBackward
closure_stays_stable_backward A S stable = close_stable (BackwardMoves A) (MatchesBackward A A) (Holds S) (backward_refl A) (backward_trans A A A) stable

pub followed_move_by_move : FollowedMoveByMove
followed_move_by_move A S stable p q close w ps path = follow_moves (Moves A) (MatchesForward A A) (Holds S) (forward_refl A) (forward_trans A A A) stable p q close w ps path

pub followed_move_by_move_backward : FollowedMoveByMoveBackward
followed_move_by_move_backward A S stable p q close w ps path = follow_moves (BackwardMoves A) (MatchesBackward A A) (Holds S) (backward_refl A) (backward_trans A A A) stable p q close w ps path

close_below : (n : ℕ) (S : List (ℕ × ℕ)) → ArePairsBelow n n S → (s t : ℕ) → s < n → Close (Holds S) s t → t < n
close_below n S below s t start close = along close.0 s t start close.1
  where
    along : (m p q : ℕ) → p < n → Chain (Holds S) m p q → q < n
    along zero p q h c = subst (λ x. x < n) c h
    along (suc m) p q h (r, held, c) = along m r q (below p r held).1 c

pub closure_is_short : ClosureIsShort
closure_is_short n S below p q start close = chain_short (Holds S) n (λ s t h held. (below s t held).1) close.0 p q start close.1

pub strict_steps_are_few : StrictStepsAreFew
strict_steps_are_few n S below m p q start c = strict_chain_short (Close (Holds S)) (close_trans (Holds S)) n (close_below n S below) m p q start c
