-- Where each move that is cut has one elsewhere whose start is near enough to be reached by a matching path and whose end is strictly
-- greater, each path is followed by moves that are left. A path is seen from one of its states: the part before it is read
-- backward, the part after it forward. The part before is made good place by place, from its far end; what a repair does to the
-- states after its place is to raise them.
use Rattle.std.proofs.Common.{◌≡◌, ℕ, zero, suc, ◌+◌, ◌<◌, ◌⊎◌, inl, inr, List, [], ◌∷◌, arith}
use Rattle.auto_core.specs.Run.{PathBy, end_of}
use Rattle.auto_core.specs.Game.{AllMatched, Strict}
use Rattle.auto_laws.specs.Games.{IsFollowed}
use Rattle.auto_laws.proofs.MatchLemmas.{matched_trans, matched_weaker, matched_refl, matched_end}
use Rattle.auto_laws.proofs.TurnLemmas.{Flipped}
use Rattle.prune_pairs.proofs.TowerLemmas.{Tower, tower_up}

pub path_as : (M N : ℕ → ℕ → ℕ → Type 0) → ((p a q : ℕ) → M p a q → N p a q) → (p : ℕ) (w ps : List ℕ) → PathBy M p w ps → PathBy N p w ps
path_as M N f p [] [] h = tt
path_as M N f p [] (q ∷ ps) h = absurd h
path_as M N f p (a ∷ w) [] h = absurd h
path_as M N f p (a ∷ w) (q ∷ ps) h = (f p a q h.0, path_as M N f q w ps h.1)

-- A path by moves that are left before its middle, in the place of one whose parts are fs and rs: on the same words, the middle
-- and the states after it at or above the old ones, the states before it matching, and far where the old one was.
pub record Repaired (V K : ℕ → ℕ → ℕ → Type 0) (ok R : ℕ → ℕ → Type 0) (IsFar : ℕ → Type 0) (m : ℕ) (v fs x rs : List ℕ) : Type 0 where
  pub middle : ℕ
  pub before : List ℕ
  pub after : List ℕ
  pub left : PathBy (Flipped K) middle v before
  pub goes_on : PathBy V middle x after
  pub above : R m middle
  pub matched : AllMatched ok fs before
  pub raised : AllMatched R rs after
  pub far : IsFar (end_of m fs) → IsFar (end_of middle before)

module _ (V K : ℕ → ℕ → ℕ → Type 0) (ok near_ok Near R : ℕ → ℕ → Type 0) (IsFar : ℕ → Type 0)
    (ok_joins : (p q r : ℕ) → ok p q → ok q r → ok p r) (same : (p : ℕ) → R p p) (joins : (p q r : ℕ) → R p q → R q r → R p r)
    (above_ok : (p q : ℕ) → R p q → ok p q) (near_is_ok : (p q : ℕ) → near_ok p q → ok p q) (near_far : (p q : ℕ) → near_ok p q → IsFar p → IsFar q)
    (bound : ℕ) (low : (c p : ℕ) → Tower R c p → c < bound)
    (follows : (p q : ℕ) → Near p q → near_ok p q × ((w ps : List ℕ) → PathBy (Flipped V) p w ps → IsFollowed (Flipped V) near_ok q w ps))
    (rises : (p q : ℕ) → R p q → (w ps : List ℕ) → PathBy V p w ps → IsFollowed V R q w ps)
    (was : (p a q : ℕ) → K p a q → V p a q)
    (stays : (p a r : ℕ) → V p a r → K p a r ⊎ ((q s : ℕ) × V q a s × Near p q × Strict R r s)) where
  abbrev Fixed : ℕ → List ℕ → List ℕ → List ℕ → List ℕ → Type 0
  Fixed = Repaired V K ok R IsFar

  -- all paths whose part before the middle is on this word can be repaired
  abbrev Fixes : List ℕ → Type 0
  Fixes v = (m : ℕ) (fs x rs : List ℕ) → PathBy (Flipped V) m v fs → PathBy V m x rs → Fixed m v fs x rs

  -- with the moves before f1 left, either the move from f1 is left too, or there is a better one and the middle rises strictly
  step : (v : List ℕ) (a c m f : ℕ) (fs x rs : List ℕ) → Tower R c m
      → ((n g : ℕ) (gs ss : List ℕ) → Tower R (suc c) n → V g a n → PathBy (Flipped V) g v gs → PathBy V n x ss → Fixed n (a ∷ v) (g ∷ gs) x ss)
      → (f1 : ℕ) (fs1 rs1 : List ℕ) → PathBy (Flipped K) f1 v fs1 → PathBy V f1 (a ∷ x) rs1 → R f f1 → AllMatched ok fs fs1 → AllMatched R (m ∷ rs) rs1
      → (IsFar (end_of f fs) → IsFar (end_of f1 fs1)) → Fixed m (a ∷ v) (f ∷ fs) x rs
  step v a c m f fs x rs tower again f1 fs1 [] left goes above matched raised far = absurd raised
  step v a c m f fs x rs tower again f1 fs1 (m1 ∷ rs1) left (move, goes) above matched (up, raised) far = elim (stays f1 a m1 move) [
    | inl kept ↦ record {
      middle = m1;
      before = f1 ∷ fs1;
      after = rs1;
      left = (kept, left);
      goes_on = goes;
      above = up;
      matched = (above_ok f f1 above, matched);
      raised = raised;
      far = far;
    }
    | inr (g, n, better, near, strict) ↦
        let (g_ok, follow) = follows f1 g near in
        let (gs, front, g_matched) = follow v fs1 (path_as (Flipped K) (Flipped V) (λ p b q k. was q b p k) f1 v fs1 left) in
        let (ss, rest, s_raised) = rises m1 n strict.0 x rs1 goes in
        let r : Fixed n (a ∷ v) (g ∷ gs) x ss = again n g gs ss (m1, strict, tower_up R joins c m m1 up tower) better front rest in
        record {
          middle = r.middle;
          before = r.before;
          after = r.after;
          left = r.left;
          goes_on = r.goes_on;
          above = joins m m1 r.middle up (joins m1 n r.middle strict.0 r.above);
          matched = matched_trans ok ok ok ok_joins (f ∷ fs) (f1 ∷ fs1) r.before (above_ok f f1 above, matched)
              (matched_trans ok ok ok ok_joins (f1 ∷ fs1) (g ∷ gs) r.before (near_is_ok f1 g g_ok, matched_weaker near_ok ok near_is_ok fs1 gs g_matched) r.matched);
          raised = matched_trans R R R joins rs rs1 r.after raised (matched_trans R R R joins rs1 ss r.after s_raised r.raised);
          far = λ h. r.far (near_far (end_of f1 fs1) (end_of g gs) (matched_end near_ok f1 g fs1 gs g_ok g_matched) (far h));
        }
  ]

  -- again and again, each time with a higher tower below the middle
  turns : (v : List ℕ) → Fixes v → (a fuel c m f : ℕ) (fs x rs : List ℕ) → c + fuel ≡ bound → Tower R c m → V f a m → PathBy (Flipped V) f v fs → PathBy V m x rs → Fixed m (a ∷ v) (f ∷ fs) x rs
  turns v fixes a zero c m f fs x rs e tower move front back = absurd (omega (arith, low c m tower))
  turns v fixes a (suc fuel) c m f fs x rs e tower move front back =
      let r : Fixed f v fs (a ∷ x) (m ∷ rs) = fixes f fs (a ∷ x) (m ∷ rs) front (move, back) in
      step v a c m f fs x rs tower
      (λ n g gs ss t better ahead rest. turns v fixes a fuel (suc c) n g gs x ss (omega arith) t better ahead rest)
      r.middle r.before r.after r.left r.goes_on r.above r.matched r.raised r.far

  pub repaired : (v : List ℕ) (m : ℕ) (fs x rs : List ℕ) → PathBy (Flipped V) m v fs → PathBy V m x rs → Repaired V K ok R IsFar m v fs x rs
  repaired [] m [] x rs front back = record {
    middle = m;
    before = [];
    after = rs;
    left = tt;
    goes_on = back;
    above = same m;
    matched = tt;
    raised = matched_refl R same rs;
    far = λ h. h;
  }
  repaired [] m (f ∷ fs) x rs front back = absurd front
  repaired (a ∷ v) m [] x rs front back = absurd front
  repaired (a ∷ v) m (f ∷ fs) x rs front back = turns v (repaired v) a bound 0 m f fs x rs (omega arith) tt front.0 front.1 back
