-- When a relation with ranks is right, triple by triple.
use Rattle.std.proofs.Common.{◌≡◌, ℕ, ◌<◌, ◌≤◌, ◌↔◌, Bool, true, false, Option, Some, None, List, [], ◌∷◌, ◌++◌, length, get_or, drop, Contains, refl, sym, ◌∙◌, subst, arith}
use Rattle.std.specs.Prelude.{IsTrue}
use Rattle.std.proofs.lemmas.Bool.{false≢true}
use Rattle.std.proofs.lemmas.List.{get_or_default}
use Rattle.std.proofs.lemmas.List.Elements.{Contains-get_or}
use Rattle.auto_core.specs.Automaton.{Automaton, Moves, IsAccepting}
use Rattle.auto_core.specs.Delayed.{RankedTriples, HasRank, HasTriplesOnce, IsTripleWord, IsRight}
use Rattle.delayed_sim.specs.Rankings.{Triple, Ranking, IsRanking, triple_at}
use Rattle.delayed_sim.specs.Right.{Suits, HasAnswerBelow, IsAnsweredAhead, HasAnswers, IsTripleRight}
use Rattle.delayed_sim.proofs.AheadLemmas.{announced_parts, parts_announced, first_of}

same_some : (a b : ℕ) → Some a ≡ Some b → a ≡ b
same_some a b e = cc

pub one_rank : (X : RankedTriples) → HasTriplesOnce X → (b : List ℕ) (p q r s : ℕ) → HasRank X b p q r → HasRank X b p q s → r ≡ s
one_rank X once b p q r s h g = same_some r s (once b p q (Some r) (Some s) h g)

-- ---- one answer

-- the state that the answer leads to, with its triple
pub answer_by : (A : Automaton) (X : RankedTriples) (below : Option ℕ) (c : List ℕ) (q a p' q' : ℕ) → Moves A q a q' → Suits X below c p' q' → HasAnswerBelow A X below c q a p'
answer_by A X None c q a p' q' move suits = (q', move, suits)
answer_by A X (Some r) c q a p' q' move suits = (q', suits.0, move, suits.1, suits.2)

pub answer_parts : (A : Automaton) (X : RankedTriples) (below : Option ℕ) (c : List ℕ) (q a p' : ℕ) → HasAnswerBelow A X below c q a p' → (q' : ℕ) × Moves A q a q' × Suits X below c p' q'
answer_parts A X None c q a p' answer = answer
answer_parts A X (Some r) c q a p' answer = (answer.0, answer.2, (answer.1, answer.3, answer.4))

-- ---- the further letter

-- With no letters before it the move is answered at once.
pub ahead_at_once :
    (A : Automaton) (X : RankedTriples) (below : Option ℕ) (b : List ℕ) (q a p' : ℕ) (t : Bool)
    → length b ≡ 0
    → a < A.labels
    → (IsTrue t ↔ HasAnswerBelow A X below b q a p')
    → IsTrue t ↔ IsAnsweredAhead A X below b q a p'
ahead_at_once A X below [] q a p' t none a_in told = (
  λ yes more c lt e. subst (λ d. HasAnswerBelow A X below d q a p') (announced_parts [] more a c e).1 (told.0 yes),
  λ all. told.1 (all a [] a_in refl),
)
ahead_at_once A X below (x ∷ b) q a p' t none a_in told = absurd (omega arith)

-- A move by another letter than the first is not asked for.
pub ahead_of_other : (A : Automaton) (X : RankedTriples) (below : Option ℕ) (b : List ℕ) (q a p' : ℕ) → 0 < length b → (get_or b 0 0 ≡ a → ⊥) → IsAnsweredAhead A X below b q a p'
ahead_of_other A X below b q a p' some other more c lt e = absurd (other (sym (first_of b more some) ∙ (announced_parts b more a c e).0))

-- The first letters are tried.
abbrev pub IsAnsweredUpto : Automaton → RankedTriples → Option ℕ → List ℕ → ℕ → ℕ → ℕ → ℕ → Type 0
IsAnsweredUpto A X below b q a p' upto = (m : ℕ) → m < upto → HasAnswerBelow A X below (drop 1 (b ++ m ∷ [])) q a p'

pub ahead_of_all : (A : Automaton) (X : RankedTriples) (below : Option ℕ) (b : List ℕ) (q a p' upto : ℕ) → A.labels ≤ upto → IsAnsweredUpto A X below b q a p' upto → IsAnsweredAhead A X below b q a p'
ahead_of_all A X below b q a p' upto all h more c lt e = subst (λ d. HasAnswerBelow A X below d q a p') (announced_parts b more a c e).1 (h more (omega arith))

pub one_of_ahead :
    (A : Automaton) (X : RankedTriples) (below : Option ℕ) (b : List ℕ) (q a p' more : ℕ)
    → 0 < length b
    → get_or b 0 0 ≡ a
    → more < A.labels
    → IsAnsweredAhead A X below b q a p'
    → HasAnswerBelow A X below (drop 1 (b ++ more ∷ [])) q a p'
one_of_ahead A X below b q a p' more some first lt h = h more (drop 1 (b ++ more ∷ [])) lt (parts_announced b more a (first_of b more some ∙ first))

-- ---- one triple

-- answers of lesser rank are answers
answers_some : (A : Automaton) (X : RankedTriples) (r : ℕ) (b : List ℕ) (p q : ℕ) → HasAnswers A X (Some r) b p q → HasAnswers A X None b p q
answers_some A X r b p q h a p' move more c lt e =
    let answer = h a p' move more c lt e in
    (answer.0, answer.2, (Some answer.1, answer.3))

none_some : (r : ℕ) → None ≡ Some r → ⊥
none_some r e = cc

module _ (A : Automaton) (X : RankedTriples) (p : ℕ) (b : List ℕ) (q : ℕ) where
  pub unranked_right : (t u : Bool) → (IsTrue t ↔ IsAccepting A p) → (IsTrue u ↔ HasAnswers A X None b p q) → t ≡ false → IsTrue u ↔ IsTripleRight A X (p, b, q, None)
  unranked_right t u accepting answers is_false = (
    λ yes. record {
      answers = answers.0 yes;
      ranked = λ is. absurd (false≢true (sym is_false ∙ accepting.1 is));
      at_zero = λ e. absurd (none_some 0 e);
      above_zero = λ r e. absurd (none_some r e);
    },
    λ right. answers.1 right.answers,
  )

  pub unranked_wrong : (t : Bool) → (IsTrue t ↔ IsAccepting A p) → t ≡ true → IsTrue false ↔ IsTripleRight A X (p, b, q, None)
  unranked_wrong t accepting is_true = (λ e. absurd (false≢true e), λ right. let has = right.ranked (accepting.0 is_true) in absurd (none_some has.0 has.1))

  pub zero_right : (t u : Bool) → (IsTrue t ↔ IsAccepting A q) → (IsTrue u ↔ HasAnswers A X None b p q) → t ≡ true → IsTrue u ↔ IsTripleRight A X (p, b, q, Some 0)
  zero_right t u accepting answers is_true = (
    λ all. record {
      answers = answers.0 all;
      ranked = λ is. (0, refl);
      at_zero = λ e. accepting.0 is_true;
      above_zero = λ r e some. let same = same_some 0 r e in absurd (omega arith);
    },
    λ right. answers.1 right.answers,
  )

  pub zero_wrong : (t : Bool) → (IsTrue t ↔ IsAccepting A q) → t ≡ false → IsTrue false ↔ IsTripleRight A X (p, b, q, Some 0)
  zero_wrong t accepting is_false = (λ e. absurd (false≢true e), λ right. absurd (false≢true (sym is_false ∙ accepting.1 (right.at_zero refl))))

  pub ranked_right : (u : Bool) (r : ℕ) → (r ≡ 0 → ⊥) → (IsTrue u ↔ HasAnswers A X (Some r) b p q) → IsTrue u ↔ IsTripleRight A X (p, b, q, Some r)
  ranked_right u r some answers = (
    λ all. record {
      answers = answers_some A X r b p q (answers.0 all);
      ranked = λ is. (r, refl);
      at_zero = λ e. absurd (some (same_some r 0 e));
      above_zero = λ s e positive. subst (λ x. HasAnswers A X (Some x) b p q) (same_some r s e) (answers.0 all);
    },
    λ right. answers.1 (right.above_zero r refl (omega arith)),
  )

-- the same answers, by the parts of the triple
pub answers_at :
    (A : Automaton) (X : RankedTriples) (below : Option ℕ) (t : Triple) (p : ℕ) (b : List ℕ) (q : ℕ) (r : Bool)
    → p ≡ t.0
    → b ≡ t.1
    → q ≡ t.2
    → (IsTrue r ↔ HasAnswers A X below b p q)
    → IsTrue r ↔ HasAnswers A X below t.1 t.0 t.2
answers_at A X below t p b q r e f g told =
    subst (λ x. IsTrue r ↔ HasAnswers A X below t.1 x t.2) e (subst (λ y. IsTrue r ↔ HasAnswers A X below y p t.2) f (subst (λ z. IsTrue r ↔ HasAnswers A X below b p z) g told))

-- a triple of the list is of the states and labels
pub triple_range : (R : Ranking) → IsRanking R → (i : ℕ) → i < length R.triples → IsTripleWord R.labels R.letters (triple_at R.triples i).1 × ((triple_at R.triples i).0 < R.states) × ((triple_at R.triples i).2 < R.states)
triple_range R valid i i_in =
    let t = triple_at R.triples i in
    valid.in_range t.1 t.0 t.2 (t.3, Contains-get_or R.triples i (0, [], 0, None) i_in)

-- ---- all triples

pub right_of_triples : (A : Automaton) (X : RankedTriples) → ((x : Triple) → Contains X x → IsTripleRight A X x) → IsRight A X
right_of_triples A X all = record {
  answers = λ b p q more a c p' h lt e move. (all (p, b, q, h.0) h.1).answers a p' move more c lt e;
  ranked = λ b p q h accepting.
      let has = (all (p, b, q, h.0) h.1).ranked accepting in
      (has.0, subst (λ o. Contains X (p, b, q, o)) has.1 h.1);
  at_zero = λ b p q h. (all (p, b, q, Some 0) h).at_zero refl;
  above_zero = λ b p q r more a c p' h some lt e move. (all (p, b, q, Some r) h).above_zero r refl some a p' move more c lt e;
}

pub triple_of_right : (A : Automaton) (X : RankedTriples) → HasTriplesOnce X → IsRight A X → (p : ℕ) (b : List ℕ) (q : ℕ) (o : Option ℕ) → Contains X (p, b, q, o) → IsTripleRight A X (p, b, q, o)
triple_of_right A X once right p b q o has = record {
  answers = λ a p' move more c lt e. right.answers b p q more a c p' (o, has) lt e move;
  ranked = λ accepting. let rank = right.ranked b p q (o, has) accepting in (rank.0, once b p q o (Some rank.0) has rank.1);
  at_zero = λ e. right.at_zero b p q (subst (λ m. Contains X (p, b, q, m)) e has);
  above_zero = λ r e some a p' move more c lt is. right.above_zero b p q r more a c p' (subst (λ m. Contains X (p, b, q, m)) e has) some lt is move;
}

pub right_of_places : (A : Automaton) (X : RankedTriples) (upto : ℕ) → length X ≤ upto → ((i : ℕ) → i < upto → IsTripleRight A X (triple_at X i)) → IsRight A X
right_of_places A X upto all h = right_of_triples A X (λ x (i, i_in, is). subst (λ y. IsTripleRight A X y) (get_or_default X i (0, [], 0, None) x i_in ∙ is) (h i (omega arith)))

pub place_of_right : (A : Automaton) (X : RankedTriples) (i : ℕ) → HasTriplesOnce X → i < length X → IsRight A X → IsTripleRight A X (triple_at X i)
place_of_right A X i once i_in right =
    let x = triple_at X i in
    triple_of_right A X once right x.0 x.1 x.2 x.3 (Contains-get_or X i (0, [], 0, None) i_in)
