-- The closure of the state relation of a block with ranks, as a table.
use Rattle.std.proofs.Common.{◌≡◌, ℕ, zero, suc, ◌<◌, ◌⊎◌, ◌↔◌, inl, inr, List, [], ◌∷◌, length, replicate, refl, sym, ap, ◌∙◌, subst, arith}
use Rattle.std.proofs.lemmas.List.{length-replicate}
use Rattle.std.proofs.lemmas.List.Elements.{All-nil, All-contains, All-replicate}
use Rattle.auto_core.specs.Automaton.{Automaton}
use Rattle.auto_core.specs.Game.{Close, Holds}
use Rattle.auto_core.specs.Delayed.{RankedTriples, IsTripleWord, AreTriplesOf, AreStateRelated}
use Rattle.auto_core.proofs.PathLemmas.{Contains-here}
use Rattle.bit_rel.specs.Relation.{Relation, IsClosed}
use Rattle.bit_rel.proofs.ClosingLemmas.{close_same}
use Rattle.delayed_sim.specs.Rankings.{Ranking}
use Rattle.cert_value.specs.declared.types.RankBlock.{RankBlock}
use Rattle.log_check.specs.Blocks.{triples_of, IsRankingOf}
use Rattle.log_check.specs.Closures.{IsClosureOf}
use Rattle.log_check.proofs.RankLemmas.{ahead_alike, turned}

-- There is a word for triples, or there are no labels for one.
word_or_none : (labels letters : ℕ) → ((b : List ℕ) × IsTripleWord labels letters b) ⊎ ((b : List ℕ) → IsTripleWord labels letters b → ⊥)
word_or_none labels zero = inr (λ b h. let is : suc (length b) ≡ 0 = h.0 in omega arith)
word_or_none labels (suc zero) = inl ([], (refl, All-nil (λ a. a < labels)))
word_or_none zero (suc (suc n)) = inr none
  where
    none : (b : List ℕ) → IsTripleWord 0 (suc (suc n)) b → ⊥
    none [] h = let is : 1 ≡ suc (suc n) = h.0 in omega arith
    none (a ∷ b) h = let low : a < 0 = All-contains (λ x. x < 0) (a ∷ b) a h.1 (Contains-here a a b refl) in omega arith
word_or_none (suc labels) (suc (suc n)) = inl (replicate (suc n) 0, (ap suc (length-replicate (suc n) 0), All-replicate (λ a. a < suc labels) (suc n) 0 (omega arith)))

-- Among states below n the closure stays among them: where there is no word for triples, each state is related to each at once.
ahead_within :
    (n labels letters : ℕ) (X : RankedTriples)
    → AreTriplesOf n labels letters X
    → (p q : ℕ)
    → p < n
    → q < n
    → Close (AreStateRelated labels letters X) p q
    → Close (λ r s. (r < n) × (s < n) × AreStateRelated labels letters X r s) p q
ahead_within n labels letters X below p q p_in q_in way = elim (word_or_none labels letters) [
  | inl (b, is_word) ↦
      close_same (AreStateRelated labels letters X) (λ r s. (r < n) × (s < n) × AreStateRelated labels letters X r s)
      (λ r s h. let in_range = below b r s (h b is_word) in (in_range.1, in_range.2, h)) p q way
  | inr none ↦ (1, (q, (p_in, q_in, λ b is_word. absurd (none b is_word)), refl))
]

closure_ahead :
    (n labels letters : ℕ) (X : RankedTriples) (rel closed : Relation)
    → AreTriplesOf n labels letters X
    → rel.size ≡ n
    → ((p q : ℕ) → Holds rel.pairs p q ↔ ((p < n) × (q < n) × AreStateRelated labels letters X p q))
    → IsClosed rel closed
    → IsClosureOf n (AreStateRelated labels letters X) closed
closure_ahead n labels letters X rel closed below size same is = record {
  size = is.size ∙ size;
  pairs = λ p q p_in q_in. (
    λ h. close_same (Holds rel.pairs) (AreStateRelated labels letters X) (λ r s held. ((same r s).0 held).2) p q ((is.pairs p q).0 h).2,
    λ way. (is.pairs p q).1 (
      subst (λ m. p < m) (sym size) p_in,
      subst (λ m. q < m) (sym size) q_in,
      close_same (λ r s. (r < n) × (s < n) × AreStateRelated labels letters X r s) (Holds rel.pairs) (λ r s. (same r s).1) p q (ahead_within n labels letters X below p q p_in q_in way),
    ),
  );
}

-- The table of the relation that is made of a block.
pub closure_made :
    (A : Automaton) (letters : ℕ) (block : RankBlock) (ranks : Ranking) (rel closed : Relation)
    → AreTriplesOf A.states A.labels letters (triples_of block)
    → IsRankingOf A letters block ranks
    → rel.size ≡ ranks.states
    → ((p q : ℕ) → Holds rel.pairs p q ↔ ((p < ranks.states) × (q < ranks.states) × AreStateRelated ranks.labels ranks.letters ranks.triples p q))
    → IsClosed rel closed
    → IsClosureOf A.states (AreStateRelated A.labels letters (triples_of block)) closed
closure_made A letters block ranks rel closed below made size pairs is =
    closure_ahead A.states A.labels letters (triples_of block) rel closed below (size ∙ made.states) (λ p q. (to p q, from p q)) is
  where
    to : (p q : ℕ) → Holds rel.pairs p q → (p < A.states) × (q < A.states) × AreStateRelated A.labels letters (triples_of block) p q
    to p q h =
        let (p_in, q_in, ahead) = (pairs p q).0 h in
        let here : AreStateRelated A.labels letters ranks.triples p q =
        subst (λ n. AreStateRelated A.labels n ranks.triples p q) made.letters (subst (λ l. AreStateRelated l ranks.letters ranks.triples p q) made.labels ahead) in
        (subst (λ m. p < m) made.states p_in, subst (λ m. q < m) made.states q_in, ahead_alike A.labels letters ranks.triples (triples_of block) made.triples p q here)

    from : (p q : ℕ) → (p < A.states) × (q < A.states) × AreStateRelated A.labels letters (triples_of block) p q → Holds rel.pairs p q
    from p q (p_in, q_in, ahead) =
        let there : AreStateRelated A.labels letters ranks.triples p q = ahead_alike A.labels letters (triples_of block) ranks.triples (turned ranks.triples (triples_of block) made.triples) p q ahead in
        (pairs p q).1 (
          subst (λ m. p < m) (sym made.states) p_in,
          subst (λ m. q < m) (sym made.states) q_in,
          subst (λ l. AreStateRelated l ranks.letters ranks.triples p q) (sym made.labels) (subst (λ n. AreStateRelated A.labels n ranks.triples p q) (sym made.letters) there),
        )
