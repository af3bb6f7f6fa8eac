-- Rounds, move by move.
use Rattle.std.proofs.Common.{◌≡◌, ℕ, suc, ◌<◌, ◌≤◌, ◌⊎◌, ◌↔◌, inl, inr, List, [], ◌∷◌, refl, subst, arith}
use Rattle.auto_core.specs.Run.{PathBy}
use Rattle.auto_core.specs.Game.{IsDead, MayShow, Answers, Round}
use Rattle.look_round.specs.Replies.{HasReplyFrom, RoundFrom, RoundAfter}

module _ (M : ℕ → ℕ → ℕ → Type 0) (ok W : ℕ → ℕ → Type 0) where
  -- the states from which Duplicator answers may be exchanged for others that have them
  pub after_same : (D E : ℕ → Type 0) → ((q : ℕ) → D q → E q) → (n a p : ℕ) → RoundAfter M ok W n a p D → RoundAfter M ok W n a p E
  after_same D E to n a p h w ps path may = let r = h w ps path may in (r.0, to r.0 r.1, r.2)

  pub from_same : (D E : ℕ → Type 0) → ((q : ℕ) → D q → E q) → (n p : ℕ) → RoundFrom M ok W n p D → RoundFrom M ok W n p E
  from_same D E to n p h w ps path may = let r = h w ps path may in (r.0, to r.0 r.1, r.2)

  -- from one state alone
  pub round_from_one : (n p q : ℕ) (D : ℕ → Type 0) → ((r : ℕ) → D r ↔ (r ≡ q)) → RoundFrom M ok W n p D ↔ Round M M ok n W p q
  round_from_one n p q D one = (
    λ h w ps path may. let r = h w ps path may in subst (λ x. Answers M ok W x w ps) ((one r.0).0 r.1) r.2,
    λ h w ps path may. (q, (one q).1 refl, h w ps path may),
  )

  -- by the first move
  pub from_moves : (n p : ℕ) (D : ℕ → Type 0) → 1 ≤ n → ((a r : ℕ) → M p a r → RoundAfter M ok W n a r D) → RoundFrom M ok W n p D
  from_moves n p D some each [] [] path may = absurd (elim may [ inl e ↦ omega arith | inr short ↦ let lt = short.0 in omega arith ])
  from_moves n p D some each [] (r ∷ ps) path may = absurd path
  from_moves n p D some each (a ∷ w) [] path may = absurd path
  from_moves n p D some each (a ∷ w) (r ∷ ps) path may = each a r path.0 w ps path.1 may

  pub to_move : (n p : ℕ) (D : ℕ → Type 0) → RoundFrom M ok W n p D → (a r : ℕ) → M p a r → RoundAfter M ok W n a r D
  to_move n p D h a r go w ps path may = h (a ∷ w) (r ∷ ps) (go, path) may

  module _ (n a p : ℕ) (D E : ℕ → Type 0) (replies : (r : ℕ) → E r ↔ HasReplyFrom M ok a p D r) where
    -- a reply is related: the first letter is enough
    pub met : (r : ℕ) → E r → W p r → RoundAfter M ok W n a p D
    met r is related w ps path may = let f = (replies r).0 is in (f.0, f.1, (r, f.2.0, f.2.1, inl related))

    -- no reply is related, and Spoiler's path ends here
    pub ended : ((r : ℕ) → E r → W p r → ⊥) → (n ≡ 1) ⊎ ((1 < n) × IsDead M p) → RoundAfter M ok W n a p D → ⊥
    ended none ends h =
        let may : MayShow M n p (a ∷ []) (p ∷ []) = elim ends [ inl e ↦ inl (omega arith) | inr dead ↦ let lt = dead.0 in inr (omega arith, omega arith, dead.1) ] in
        let r = h [] [] tt may in
        let s = r.2 in
        elim s.3 [
          | inl related ↦ none s.0 ((replies s.0).1 (r.0, r.1, (s.1, s.2))) related
          | inr more ↦ absurd more
        ]

    -- no reply is related, and Spoiler goes on
    pub goes_on : (m : ℕ) → n ≡ suc m → 1 ≤ m → ((r : ℕ) → E r → W p r → ⊥) → (IsDead M p → ⊥) → RoundAfter M ok W n a p D ↔ RoundFrom M ok W m p E
    goes_on m is some none alive = (down, up)
      where
        down : RoundAfter M ok W n a p D → RoundFrom M ok W m p E
        down h w ps path may =
            let shown : MayShow M n p (a ∷ w) (p ∷ ps) = elim may [ inl e ↦ inl (omega arith) | inr short ↦ let lt = short.1 in inr (omega arith, omega arith, short.2) ] in
            let r = h w ps path shown in
            let s = r.2 in
            elim s.3 [
              | inl related ↦ absurd (none s.0 ((replies s.0).1 (r.0, r.1, (s.1, s.2))) related)
              | inr more ↦ (s.0, (replies s.0).1 (r.0, r.1, (s.1, s.2)), more)
            ]

        shorter : (w ps : List ℕ) → PathBy M p w ps → MayShow M n p (a ∷ w) (p ∷ ps) → MayShow M m p w ps
        shorter [] [] path may = absurd (elim may [ inl e ↦ omega arith | inr short ↦ absurd (alive short.2) ])
        shorter [] (r ∷ ps) path may = absurd path
        shorter (b ∷ w) ps path may = elim may [ inl e ↦ inl (omega arith) | inr short ↦ let lt = short.1 in inr (omega arith, omega arith, short.2) ]

        up : RoundFrom M ok W m p E → RoundAfter M ok W n a p D
        up h w ps path may =
            let r = h w ps path (shorter w ps path may) in
            let f = (replies r.0).0 r.1 in
            (f.0, f.1, (r.0, f.2.0, f.2.1, inr r.2))
