-- Where each move that is cut has one to a strictly greater state beside it, each path is followed by moves that are left.
use Rattle.std.proofs.Common.{◌≡◌, ℕ, zero, suc, ◌+◌, ◌<◌, ◌⊎◌, inl, inr, List, [], ◌∷◌, arith}
use Rattle.auto_core.specs.Run.{PathBy}
use Rattle.auto_core.specs.Game.{Strict}
use Rattle.auto_laws.specs.Games.{IsFollowed}
use Rattle.auto_laws.proofs.MatchLemmas.{matched_trans}
use Rattle.prune_pairs.proofs.TowerLemmas.{Tower}

module _ (M N : ℕ → ℕ → ℕ → Type 0) (ok R : ℕ → ℕ → Type 0) (ok_joins : (p q r : ℕ) → ok p q → ok q r → ok p r)
    (same : (p : ℕ) → R p p) (joins : (p q r : ℕ) → R p q → R q r → R p r) (bound : ℕ) (low : (c p : ℕ) → Tower R c p → c < bound)
    (follows : (p q : ℕ) → R p q → ok p q × ((w ps : List ℕ) → PathBy M p w ps → IsFollowed M ok q w ps))
    (stays : (p a r : ℕ) → M p a r → N p a r ⊎ ((s : ℕ) × M p a s × Strict R r s)) where
  -- from move to greater move, until one is left
  climb : (fuel c p a r : ℕ) → c + fuel ≡ bound → Tower R c r → M p a r → (s : ℕ) × N p a s × R r s
  climb zero c p a r e tower m = absurd (omega (arith, low c r tower))
  climb (suc fuel) c p a r e tower m = elim (stays p a r m) [
    | inl left ↦ (r, left, same r)
    | inr up ↦
        let (t, left, above) = climb fuel (suc c) p a up.0 (omega arith) (r, up.2, tower) up.1 in
        (t, left, joins r up.0 t up.2.0 above)
  ]

  pub climbed : (p : ℕ) (w ps : List ℕ) → PathBy M p w ps → IsFollowed N ok p w ps
  climbed p [] [] h = ([], tt, tt)
  climbed p [] (r ∷ ps) h = absurd h
  climbed p (a ∷ w) [] h = absurd h
  climbed p (a ∷ w) (r ∷ ps) (move, path) =
      let (s, left, above) = climb bound 0 p a r (omega arith) tt move in
      let (match, follow) = follows r s above in
      let (qs, goes, matched) = follow w ps path in
      let (xs, kept, more) = climbed s w qs goes in
      (s ∷ xs, (left, kept), (match, matched_trans ok ok ok ok_joins ps qs xs matched more))
