-- Closures as tables, and what the tests by them tell.
use Rattle.std.proofs.Common.{◌≡◌, ℕ, zero, suc, ◌<◌, ◌⊎◌, ◌↔◌, inl, inr, List, [], length, All, slice_index_or, ◌==◌, Option, None, Some, MatchOption, Result, IfOk, refl, sym, ap, ◌∙◌, subst, arith}
use Rattle.std.proofs.lemmas.Bool.{cases_eq, cond-false, ne_eqb}
use Rattle.std.proofs.lemmas.List.{get_or_default}
use Rattle.std.proofs.lemmas.Result.{IfOk-weaker}
use Rattle.auto_core.specs.Automaton.{Automaton, IsAutomaton, trans_at}
use Rattle.auto_core.specs.Game.{Close, Holds, StableForward, StableBackward}
use Rattle.auto_core.specs.Quotient.{RelatesMembersBy}
use Rattle.auto_core.specs.Pruning.{look_backward, look_forward, IsStableBack, IsStableAhead}
use Rattle.auto_core.specs.declared.parts.Memory.{Memory}
use Rattle.auto_core.proofs.PathLemmas.{none_in_nil}
use Rattle.bit_rel.specs.Relation.{Relation, IsClosed}
use Rattle.bit_rel.proofs.ClosingLemmas.{close_same}
use Rattle.cert_value.specs.declared.types.GoneBy.{GoneBy}
use Rattle.cert_value.specs.declared.types.RelBlock.{RelBlock}
use Rattle.cert_value.specs.WellFormed.{blocks_due}
use Rattle.log_check.specs.Blocks.{pairs_of}
use Rattle.log_check.specs.Closures.{IsClosureOf, JoinsMembers, IsAsGoodBy, IsBetterBy}
use Rattle.log_check.specs.FirstLog.{no_block, pairs_at, back_of, ahead_of, IsAtMost, IsAsGood, IsNotRelatedBack, IsGoneIn}
use Rattle.log_check.proofs.ShapeLemmas.{source_in, target_in}

-- A table of the pairs of R on n states, closed.
pub closure_of : (n : ℕ) (R : ℕ → ℕ → Type 0) (rel closed : Relation) → rel.size ≡ n → ((p q : ℕ) → Holds rel.pairs p q ↔ R p q) → IsClosed rel closed → IsClosureOf n R closed
closure_of n R rel closed size same is = record {
  size = is.size ∙ size;
  pairs = λ p q p_in q_in. (
    λ h. close_same (Holds rel.pairs) R (λ r s. (same r s).0) p q ((is.pairs p q).0 h).2,
    λ way. (is.pairs p q).1 (subst (λ m. p < m) (sym size) p_in, subst (λ m. q < m) (sym size) q_in, close_same R (Holds rel.pairs) (λ r s. (same r s).1) p q way),
  );
}

-- The same of the table of no pairs.
pub closure_of_none : (n : ℕ) (rel closed : Relation) → rel ≡ record { size = n; pairs = [] } → IsClosed rel closed → IsClosureOf n (Holds []) closed
closure_of_none n rel closed none is =
    let empty : Relation = record { size = n; pairs = [] } in
    closure_of n (Holds []) empty closed refl (λ p q. (λ h. h, λ h. h)) (subst (λ R. IsClosed R closed) none is)

-- The closure of no pairs relates a state to itself alone.
pub close_nothing : (p q : ℕ) → Close (Holds []) p q → p ≡ q
close_nothing p q (zero, e) = e
close_nothing p q (suc n, (r, h, chain)) = absurd (none_in_nil (p, r) h)

-- The table relates the members of each class just where the closure does.
pub joins_from : (A : Automaton) (classes : List ℕ) (R : ℕ → ℕ → Type 0) (rel : Relation) → IsClosureOf A.states R rel → JoinsMembers classes rel rel.size → RelatesMembersBy A classes R
joins_from A classes R rel is joins p q p_in q_in same =
    (is.pairs p q p_in q_in).0 (joins p (subst (λ m. p < m) (sym is.size) p_in) q (subst (λ m. q < m) (sym is.size) q_in) same)

pub joins_to : (A : Automaton) (classes : List ℕ) (R : ℕ → ℕ → Type 0) (rel : Relation) → IsClosureOf A.states R rel → RelatesMembersBy A classes R → JoinsMembers classes rel rel.size
joins_to A classes R rel is relates p p_in q q_in same =
    let p_here = subst (λ m. p < m) is.size p_in in
    let q_here = subst (λ m. q < m) is.size q_in in
    (is.pairs p q p_here q_here).1 (relates p q p_here q_here same)

-- ---- the relations of a cut

-- What is told of a relation, of equal facts.
found_as :
    (r : Result (Option Relation) Memory) (P Q : Type 0) (F G : Relation → Type 0)
    → (P → Q)
    → (Q → P)
    → ((rel : Relation) → F rel → G rel)
    → IfOk r (λ found. MatchOption found (P → ⊥) (λ rel. P × F rel))
    → IfOk r (λ found. MatchOption found (Q → ⊥) (λ rel. Q × G rel))
found_as r P Q F G to from carry told =
    IfOk-weaker r (λ found. MatchOption found (P → ⊥) (λ rel. P × F rel)) (λ found. MatchOption found (Q → ⊥) (λ rel. Q × G rel)) each told
  where
    each : (found : Option Relation) → MatchOption found (P → ⊥) (λ rel. P × F rel) → MatchOption found (Q → ⊥) (λ rel. Q × G rel)
    each None never = λ q. never (from q)
    each (Some rel) h = (to h.0, carry rel h.1)

-- The block at a place within.
block_at : (blocks : List RelBlock) (i : ℕ) (block : RelBlock) → i < length blocks → block ≡ slice_index_or blocks i block → pairs_at blocks i ≡ pairs_of block
block_at blocks i block lt is = ap pairs_of (sym (is ∙ get_or_default blocks i block no_block lt))

pub ahead_told :
    (A : Automaton) (pair look k : ℕ) (blocks : List RelBlock) (block : RelBlock) (r : Result (Option Relation) Memory)
    → ahead_of pair blocks ≡ pairs_of block
    → look_forward pair look ≡ k
    → (pair ≡ 2 → ⊥)
    → IfOk r (λ found. MatchOption found (StableForward A k (pairs_of block) → ⊥) (λ rel. StableForward A k (pairs_of block) × IsClosureOf A.states (Holds (pairs_of block)) rel))
    → IfOk r (λ found. MatchOption found (IsStableAhead A pair look (ahead_of pair blocks) → ⊥)
    (λ rel. IsStableAhead A pair look (ahead_of pair blocks) × IsClosureOf A.states (Holds (ahead_of pair blocks)) rel))
ahead_told A pair look k blocks block r pairs looks has told =
    found_as r (StableForward A k (pairs_of block)) (IsStableAhead A pair look (ahead_of pair blocks))
    (λ rel. IsClosureOf A.states (Holds (pairs_of block)) rel) (λ rel. IsClosureOf A.states (Holds (ahead_of pair blocks)) rel)
    (λ stable differs. subst (λ n. StableForward A n (ahead_of pair blocks)) (sym looks) (subst (λ l. StableForward A k l) (sym pairs) stable))
    (λ stable. subst (λ l. StableForward A k l) pairs (subst (λ n. StableForward A n (ahead_of pair blocks)) looks (stable has)))
    (λ rel is. subst (λ l. IsClosureOf A.states (Holds l) rel) (sym pairs) is) told

pub back_told :
    (A : Automaton) (pair look k : ℕ) (blocks : List RelBlock) (block : RelBlock) (r : Result (Option Relation) Memory)
    → back_of pair blocks ≡ pairs_of block
    → look_backward pair look ≡ k
    → (pair ≡ 1 → ⊥)
    → IfOk r (λ found. MatchOption found (StableBackward A k (pairs_of block) → ⊥) (λ rel. StableBackward A k (pairs_of block) × IsClosureOf A.states (Holds (pairs_of block)) rel))
    → IfOk r (λ found. MatchOption found (IsStableBack A pair look (back_of pair blocks) → ⊥)
    (λ rel. IsStableBack A pair look (back_of pair blocks) × IsClosureOf A.states (Holds (back_of pair blocks)) rel))
back_told A pair look k blocks block r pairs looks has told =
    found_as r (StableBackward A k (pairs_of block)) (IsStableBack A pair look (back_of pair blocks))
    (λ rel. IsClosureOf A.states (Holds (pairs_of block)) rel) (λ rel. IsClosureOf A.states (Holds (back_of pair blocks)) rel)
    (λ stable differs. subst (λ n. StableBackward A n (back_of pair blocks)) (sym looks) (subst (λ l. StableBackward A k l) (sym pairs) stable))
    (λ stable. subst (λ l. StableBackward A k l) pairs (subst (λ n. StableBackward A n (back_of pair blocks)) looks (stable has)))
    (λ rel is. subst (λ l. IsClosureOf A.states (Holds l) rel) (sym pairs) is) told

-- Which block the pair has where.
pub ahead_one : (pair : ℕ) (blocks : List RelBlock) (block : RelBlock) → pair ≡ 1 → 0 < length blocks → block ≡ slice_index_or blocks 0 block → ahead_of pair blocks ≡ pairs_of block
ahead_one pair blocks block e lt is = subst (λ n. ahead_of n blocks ≡ pairs_of block) (sym e) (block_at blocks 0 block lt is)

pub ahead_both :
    (pair : ℕ) (blocks : List RelBlock) (block : RelBlock) → (pair ≡ 3) ⊎ (pair ≡ 4) → 1 < length blocks → block ≡ slice_index_or blocks 1 block → ahead_of pair blocks ≡ pairs_of block
ahead_both pair blocks block e lt is = elim e [
  | inl three ↦ subst (λ n. ahead_of n blocks ≡ pairs_of block) (sym three) (block_at blocks 1 block lt is)
  | inr four ↦ subst (λ n. ahead_of n blocks ≡ pairs_of block) (sym four) (block_at blocks 1 block lt is)
]

pub back_all : (pair : ℕ) (blocks : List RelBlock) (block : RelBlock) → (pair ≡ 1 → ⊥) → 0 < length blocks → block ≡ slice_index_or blocks 0 block → back_of pair blocks ≡ pairs_of block
back_all pair blocks block differs lt is = cond-false (pair == 1) [] (pairs_at blocks 0) (ne_eqb pair 1 differs) ∙ block_at blocks 0 block lt is

pub four_left : (pair : ℕ) → 0 < blocks_due pair → (pair ≡ 1 → ⊥) → (pair ≡ 2 → ⊥) → (pair ≡ 3 → ⊥) → pair ≡ 4
four_left pair due one two three = elim (cases_eq pair 4) [
  | inl e ↦ e
  | inr four ↦
      let none : blocks_due pair ≡ 0 =
      cond-false (pair == 1) 1 _ (ne_eqb pair 1 one) ∙ cond-false (pair == 2) 1 _ (ne_eqb pair 2 two) ∙ cond-false (pair == 3) 2 _ (ne_eqb pair 3 three)
      ∙ cond-false (pair == 4) 2 0 (ne_eqb pair 4 four) in
      absurd (omega arith)
]

-- ---- the tests of a cut

at_most : (same : Type 0) (S : List (ℕ × ℕ)) (p q : ℕ) → (same ⊎ (same → ⊥)) → (same → S ≡ []) → IsAtMost same S p q ↔ Close (Holds S) p q
at_most same S p q decided none = (
  λ h. elim decided [ inl s ↦ (zero, h.0 s) | inr differs ↦ h.1 differs ],
  λ way. (λ s. close_nothing p q (subst (λ l. Close (Holds l) p q) (none s) way), λ differs. way),
)

no_back : (pair : ℕ) (blocks : List RelBlock) → pair ≡ 1 → back_of pair blocks ≡ []
no_back pair blocks e = subst (λ n. back_of n blocks ≡ []) (sym e) refl

no_ahead : (pair : ℕ) (blocks : List RelBlock) → pair ≡ 2 → ahead_of pair blocks ≡ []
no_ahead pair blocks e = subst (λ n. ahead_of n blocks ≡ []) (sym e) refl

module _ (A : Automaton) (pair : ℕ) (blocks : List RelBlock) (back ahead : Relation) (valid : IsAutomaton A)
    (is_back : IsClosureOf A.states (Holds (back_of pair blocks)) back) (is_ahead : IsClosureOf A.states (Holds (ahead_of pair blocks)) ahead) where
  back_at : (s u : ℕ) → s < A.states → u < A.states → Holds back.pairs s u ↔ IsAtMost (pair ≡ 1) (back_of pair blocks) s u
  back_at s u s_in u_in =
      let most = at_most (pair ≡ 1) (back_of pair blocks) s u (cases_eq pair 1) (no_back pair blocks) in
      let held = is_back.pairs s u s_in u_in in
      (λ h. most.1 (held.0 h), λ h. held.1 (most.0 h))

  ahead_at : (s u : ℕ) → s < A.states → u < A.states → Holds ahead.pairs s u ↔ IsAtMost (pair ≡ 2) (ahead_of pair blocks) s u
  ahead_at s u s_in u_in =
      let most = at_most (pair ≡ 2) (ahead_of pair blocks) s u (cases_eq pair 2) (no_ahead pair blocks) in
      let held = is_ahead.pairs s u s_in u_in in
      (λ h. most.1 (held.0 h), λ h. held.1 (most.0 h))

  good_one : (g : GoneBy) → IsGoneIn A g → IsAsGoodBy A back ahead g ↔ IsAsGood A pair blocks g
  good_one g g_in =
      let sources = back_at (trans_at A g.trans).source (trans_at A g.by).source (source_in A valid g.trans g_in.0) (source_in A valid g.by g_in.1) in
      let targets = ahead_at (trans_at A g.trans).target (trans_at A g.by).target (target_in A valid g.trans g_in.0) (target_in A valid g.by g_in.1) in
      (λ h. (h.0, sources.0 h.1, targets.0 h.2), λ h. (h.0, sources.1 h.1, targets.1 h.2))

  better_one : (g : GoneBy) → IsGoneIn A g → IsBetterBy A pair back ahead g ↔ IsNotRelatedBack A pair blocks g
  better_one g g_in =
      let sources = is_back.pairs (trans_at A g.by).source (trans_at A g.trans).source (source_in A valid g.by g_in.1) (source_in A valid g.trans g_in.0) in
      let targets = is_ahead.pairs (trans_at A g.by).target (trans_at A g.trans).target (target_in A valid g.by g_in.1) (target_in A valid g.trans g_in.0) in (
        λ h. (λ e way. h.0 e (targets.1 way), λ e way. h.1 e (sources.1 way), λ e way. h.2 e (targets.1 way), λ e way. h.3 e (sources.1 way)),
        λ h. (λ e held. h.0 e (targets.0 held), λ e held. h.1 e (sources.0 held), λ e held. h.2 e (targets.0 held), λ e held. h.3 e (sources.0 held)),
      )

  pub good_from : (gone : List GoneBy) → All (IsGoneIn A) gone → All (IsAsGoodBy A back ahead) gone → All (IsAsGood A pair blocks) gone
  good_from gone gone_in good k d lt = (good_one _ (gone_in k d lt)).0 (good k d lt)

  pub good_to : (gone : List GoneBy) → All (IsGoneIn A) gone → All (IsAsGood A pair blocks) gone → All (IsAsGoodBy A back ahead) gone
  good_to gone gone_in good k d lt = (good_one _ (gone_in k d lt)).1 (good k d lt)

  pub better_from : (gone : List GoneBy) → All (IsGoneIn A) gone → All (IsBetterBy A pair back ahead) gone → All (IsNotRelatedBack A pair blocks) gone
  better_from gone gone_in better k d lt = (better_one _ (gone_in k d lt)).0 (better k d lt)

  pub better_to : (gone : List GoneBy) → All (IsGoneIn A) gone → All (IsNotRelatedBack A pair blocks) gone → All (IsBetterBy A pair back ahead) gone
  better_to gone gone_in better k d lt = (better_one _ (gone_in k d lt)).1 (better k d lt)
