-- Rounds of a game are decided: Spoiler's paths are finitely many, and so are Duplicator's answers.
use Rattle.std.proofs.Common.{◌≡◌, ℕ, zero, suc, ◌<◌, ◌≤◌, ◌⊎◌, List, [], ◌∷◌, length, refl, inl, inr, arith}
use Rattle.std.proofs.lemmas.Bool.{cases_eq}
use Rattle.auto_core.specs.Run.{PathBy, end_of}
use Rattle.auto_core.specs.Game.{IsDead, MayShow, Answers, Round}
use Rattle.auto_laws.proofs.DecisionLemmas.{Decided, decide_as, decide_both, decide_either, decide_then, decide_less}
use Rattle.auto_laws.proofs.MoveLemmas.{ListsMoves, decide_moves, decide_move}

module _ (M : ℕ → ℕ → ℕ → Type 0) (listing : ListsMoves M) where
  -- P holds of each path from p of n moves.
  abbrev OfLength : ℕ → (List ℕ → List ℕ → Type 0) → ℕ → Type 0
  OfLength n P p = (w ps : List ℕ) → length w ≡ n → PathBy M p w ps → P w ps

  -- P holds of each path from p of at most n moves.
  abbrev UpToLength : ℕ → (List ℕ → List ℕ → Type 0) → ℕ → Type 0
  UpToLength n P p = (w ps : List ℕ) → length w ≤ n → PathBy M p w ps → P w ps

  -- P holds of each path that begins with this move and goes on by n.
  abbrev OnFrom : ℕ → (List ℕ → List ℕ → Type 0) → ℕ → ℕ → Type 0
  OnFrom n P a q = OfLength n (λ w ps. P (a ∷ w) (q ∷ ps)) q

  decide_paths : (n : ℕ) (P : List ℕ → List ℕ → Type 0) → ((w ps : List ℕ) → Decided (P w ps)) → (p : ℕ) → Decided (OfLength n P p)
  decide_paths zero P decide p = decide_as (P [] []) (OfLength 0 P p) to (λ h. h [] [] refl tt) (decide [] [])
    where
      to : P [] [] → OfLength 0 P p
      to h [] [] e path = h
      to h [] (q ∷ qs) e path = absurd path
      to h (a ∷ w) ps e path = absurd (omega arith)
  decide_paths (suc n) P decide p =
      decide_as ((a q : ℕ) → M p a q → OnFrom n P a q) (OfLength (suc n) P p) to (λ h a q move w ps e path. h (a ∷ w) (q ∷ ps) (omega arith) (move, path))
      (decide_moves M listing p (OnFrom n P) (λ a q. decide_paths n (λ w ps. P (a ∷ w) (q ∷ ps)) (λ w ps. decide (a ∷ w) (q ∷ ps)) q))
    where
      to : ((a q : ℕ) → M p a q → OnFrom n P a q) → OfLength (suc n) P p
      to h [] ps e path = absurd (omega arith)
      to h (a ∷ w) [] e path = absurd path
      to h (a ∷ w) (q ∷ ps) e path = h a q path.0 w ps (omega arith) path.1

  decide_short : (k : ℕ) (P : List ℕ → List ℕ → Type 0) → ((w ps : List ℕ) → Decided (P w ps)) → (p : ℕ) → Decided (UpToLength k P p)
  decide_short zero P decide p =
      decide_as (OfLength 0 P p) (UpToLength 0 P p) (λ h w ps le path. h w ps (omega arith) path) (λ h w ps e path. h w ps (omega arith) path) (decide_paths 0 P decide p)
  decide_short (suc k) P decide p =
      decide_as (UpToLength k P p × OfLength (suc k) P p) (UpToLength (suc k) P p)
      (λ h w ps le path. elim (cases_eq (length w) (suc k)) [
        | inl e ↦ h.1 w ps e path
        | inr differ ↦ h.0 w ps (omega arith) path
      ])
      (λ h. (λ w ps le path. h w ps (omega arith) path, λ w ps e path. h w ps (omega arith) path))
      (decide_both (UpToLength k P p) (OfLength (suc k) P p) (decide_short k P decide p) (decide_paths (suc k) P decide p))

  decide_dead : (p : ℕ) → Decided (IsDead M p)
  decide_dead p = decide_moves M listing p (λ a q. ⊥) (λ a q. inr (λ none. none))

  decide_show : (k p : ℕ) (w ps : List ℕ) → Decided (MayShow M k p w ps)
  decide_show k p w ps =
      decide_as ((length w ≡ k) ⊎ ((0 < length w) × ((length w < k) × IsDead M (end_of p ps)))) (MayShow M k p w ps)
      (λ h. elim h [ inl e ↦ inl e | inr r ↦ inr (omega (arith, r.0), r.1.0, r.1.1) ])
      (λ h. elim h [ inl e ↦ inl e | inr r ↦ inr (omega (arith, r.0), (r.1, r.2)) ])
      (decide_either (length w ≡ k) ((0 < length w) × ((length w < k) × IsDead M (end_of p ps))) (cases_eq (length w) k)
      (decide_both (0 < length w) ((length w < k) × IsDead M (end_of p ps)) (decide_less 0 (length w))
      (decide_both (length w < k) (IsDead M (end_of p ps)) (decide_less (length w) k) (decide_dead (end_of p ps)))))

  show_short : (k p : ℕ) (w ps : List ℕ) → MayShow M k p w ps → length w ≤ k
  show_short k p w ps h = elim h [ inl e ↦ omega arith | inr r ↦ omega (arith, r.1) ]

module _ (M : ℕ → ℕ → ℕ → Type 0) (listing : ListsMoves M) (ok W : ℕ → ℕ → Type 0) (matched : (p q : ℕ) → Decided (ok p q)) (related : (p q : ℕ) → Decided (W p q)) where
  -- The answer goes on so at r.
  abbrev AnswersOn : ℕ → List ℕ → List ℕ → ℕ → Type 0
  AnswersOn p w ps r = ok p r × (W p r ⊎ Answers M ok W r w ps)

  decide_answers : (q : ℕ) (w ps : List ℕ) → Decided (Answers M ok W q w ps)
  decide_answers q [] ps = inr (λ none. none)
  decide_answers q (a ∷ w) [] = inr (λ none. none)
  decide_answers q (a ∷ w) (p ∷ ps) =
      decide_as ((r : ℕ) × M q a r × AnswersOn p w ps r) (Answers M ok W q (a ∷ w) (p ∷ ps)) (λ (r, move, on). (r, move, on.0, on.1)) (λ (r, move, good, more). (r, move, (good, more)))
      (decide_move M listing q a (AnswersOn p w ps) (λ r. decide_both (ok p r) (W p r ⊎ Answers M ok W r w ps) (matched p r)
      (decide_either (W p r) (Answers M ok W r w ps) (related p r) (decide_answers r w ps))))

-- Whether a round holds.
pub decide_round : (M1 M2 : ℕ → ℕ → ℕ → Type 0) → ListsMoves M1 → ListsMoves M2 → (ok : ℕ → ℕ → Type 0) (k : ℕ) (W : ℕ → ℕ → Type 0)
    → ((p q : ℕ) → Decided (ok p q)) → ((p q : ℕ) → Decided (W p q)) → (p q : ℕ) → Decided (Round M1 M2 ok k W p q)
decide_round M1 M2 shown answered ok k W matched related p q =
    decide_as ((w ps : List ℕ) → length w ≤ k → PathBy M1 p w ps → (MayShow M1 k p w ps → Answers M2 ok W q w ps)) (Round M1 M2 ok k W p q)
    (λ h w ps path show. h w ps (show_short M1 shown k p w ps show) path show) (λ h w ps le path show. h w ps path show)
    (decide_short M1 shown k (λ w ps. MayShow M1 k p w ps → Answers M2 ok W q w ps)
    (λ w ps. decide_then (MayShow M1 k p w ps) (Answers M2 ok W q w ps) (decide_show M1 shown k p w ps) (decide_answers M2 answered ok W matched related q w ps)) p)
