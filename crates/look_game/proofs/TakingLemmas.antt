-- Taking pairs away.
use Rattle.std.proofs.Common.{ℕ, zero, suc, ◌≤◌, inl, inr, List, [], ◌∷◌, length, refl, ◌∙◌, subst, arith}
use Rattle.auto_core.specs.Run.{PathBy}
use Rattle.auto_core.specs.Game.{Answers, Round, MayShow, Holds, IsGreatest}
use Rattle.bit_rel.specs.Relation.{Relation, IsRelation, Removes}
use Rattle.bit_rel.proofs.LengthLemmas.{no_more, fewer}
use Rattle.look_game.specs.Taking.{TakesAway, TakesSome, HasStable}
use Rattle.look_game.specs.Near.{IsReachedWithin}

-- A round that ends in a relation ends in each greater one.
answers_more :
    (M : ℕ → ℕ → ℕ → Type 0) (ok V W : ℕ → ℕ → Type 0)
    → ((p q : ℕ) → V p q → W p q)
    → (q : ℕ) (w ps : List ℕ)
    → Answers M ok V q w ps
    → Answers M ok W q w ps
answers_more M ok V W more q [] ps h = h
answers_more M ok V W more q (a ∷ w) [] h = h
answers_more M ok V W more q (a ∷ w) (p ∷ ps) (r, move, match, h) =
    (r, move, match, elim h [ inl held ↦ inl (more p r held) | inr later ↦ inr (answers_more M ok V W more r w ps later) ])

pub round_more :
    (M : ℕ → ℕ → ℕ → Type 0) (ok V W : ℕ → ℕ → Type 0) (k p q : ℕ)
    → ((r s : ℕ) → V r s → W r s)
    → Round M M ok k V p q
    → Round M M ok k W p q
round_more M ok V W k p q more h w ps path may = answers_more M ok V W more q w ps (h w ps path may)

-- A round from p looks at the relation only at states that are reached from p in as many moves as are looked ahead.
answers_near :
    (M : ℕ → ℕ → ℕ → Type 0) (ok V W : ℕ → ℕ → Type 0) (k p q : ℕ) (w ps : List ℕ)
    → PathBy M p w ps
    → length w ≤ k
    → ((r s : ℕ) → IsReachedWithin M k p r → V r s → W r s)
    → Answers M ok V q w ps
    → Answers M ok W q w ps
answers_near M ok V W k p q [] ps path few same h = h
answers_near M ok V W k p q (a ∷ w) [] path few same h = h
answers_near M ok V W zero p q (a ∷ w) (r ∷ ps) path few same h = absurd (omega arith)
answers_near M ok V W (suc k) p q (a ∷ w) (r ∷ ps) (move, rest) few same (s, go, match, h) = (
  s,
  go,
  match,
  elim h [
    | inl held ↦ inl (same r s (a, r, move, inl refl) held)
    | inr later ↦ inr (answers_near M ok V W k r s w ps rest (omega arith) (λ u v is held. same u v (a, r, move, inr is) held) later)
  ],
)

pub round_near :
    (M : ℕ → ℕ → ℕ → Type 0) (ok V W : ℕ → ℕ → Type 0) (k p q : ℕ)
    → ((r s : ℕ) → IsReachedWithin M k p r → V r s → W r s)
    → Round M M ok k V p q
    → Round M M ok k W p q
round_near M ok V W k p q same h w ps path may =
    let few : length w ≤ k = elim may [ inl e ↦ omega arith | inr short ↦ let lt = short.1 in omega arith ] in
    answers_near M ok V W k p q w ps path few same (h w ps path may)

module _ (M : ℕ → ℕ → ℕ → Type 0) (ok : ℕ → ℕ → Type 0) (k : ℕ) where
  pub takes_none : (R : Relation) → IsRelation R → TakesAway M ok k R R
  takes_none R valid = record { size = refl; valid = valid; within = λ p q h. h; leaves = λ T stable inside. inside }

  pub takes_then : (R S T : Relation) → TakesAway M ok k R S → TakesAway M ok k S T → TakesAway M ok k R T
  takes_then R S T first second = record {
    size = second.size ∙ first.size;
    valid = second.valid;
    within = λ p q h. first.within p q (second.within p q h);
    leaves = λ X stable inside. second.leaves X stable (first.leaves X stable inside);
  }

  -- a pair that has no round
  pub takes_one : (R S : Relation) (p q : ℕ) → IsRelation S → Removes R S p q → (Round M M ok k (Holds R.pairs) p q → ⊥) → TakesAway M ok k R S
  takes_one R S p q valid removes none = record {
    size = removes.size;
    valid = valid;
    within = λ r s h. ((removes.pairs r s).0 h).0;
    leaves = λ T stable inside r s h.
        (removes.pairs r s).1
        ((
          inside r s h,
          λ same.
              let round : Round M M ok k (Holds R.pairs) r s = round_more M ok (Holds T) (Holds R.pairs) k r s inside (stable r s h).1 in
              let P : ℕ → Type 0 = λ x. Round M M ok k (Holds R.pairs) x s in
              let Q : ℕ → Type 0 = λ y. Round M M ok k (Holds R.pairs) p y in
              none (subst Q same.1 (subst P same.0 round)),
        ));
  }

  pub takes_upto : (R S : Relation) → IsRelation R → TakesAway M ok k R S → length S.pairs ≤ length R.pairs
  takes_upto R S valid takes = no_more R S valid takes.valid takes.within

pub takes_some : (R S : Relation) (p q : ℕ) → IsRelation R → IsRelation S → Removes R S p q → Holds R.pairs p q → TakesSome R S
takes_some R S p q valid after removes held =
    fewer R S p q valid after (λ r s h. ((removes.pairs r s).0 h).0) held (λ h. ((removes.pairs p q).0 h).1 ((refl, refl)))

-- a round at lookahead 1 is one at each
round_far :
    (M : ℕ → ℕ → ℕ → Type 0) (ok W : ℕ → ℕ → Type 0) (k p q : ℕ)
    → 1 ≤ k
    → Round M M ok 1 W p q
    → (w ps : List ℕ)
    → PathBy M p w ps
    → MayShow M k p w ps
    → Answers M ok W q w ps
round_far M ok W k p q some h [] ps path may = elim may [ inl e ↦ absurd (omega arith) | inr short ↦ let lt = short.0 in absurd (omega arith) ]
round_far M ok W k p q some h (a ∷ w) [] path may = absurd path
round_far M ok W k p q some h (a ∷ w) (r ∷ ps) (move, rest) may =
    let (s, go, match, held) = h (a ∷ []) (r ∷ []) (move, tt) (inl refl) in
    (s, go, match, elim held [ inl there ↦ inl there | inr none ↦ absurd none ])

-- The greatest relation at a larger lookahead has each list inside that is stable at lookahead 1.
pub far_has_stable :
    (M : ℕ → ℕ → ℕ → Type 0) (ok : ℕ → ℕ → Type 0) (k n : ℕ) (S : List (ℕ × ℕ))
    → 1 ≤ k
    → IsGreatest M M ok k n n S
    → HasStable M ok 1 n S
far_has_stable M ok k n S some far = record {
  in_range = far.in_range;
  matching = λ p q h. (far.stable p q h).0;
  has_each = λ T below stable. far.has_each T below (λ p q h. let is = stable p q h in (is.0, round_far M ok (Holds T) k p q some is.1));
}
