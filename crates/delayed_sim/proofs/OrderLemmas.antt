-- The order of triples.
use Rattle.std.proofs.Common.{◌≡◌, inl, inr, get_or, refl, sym, ap, ◌∙◌, subst}
use Rattle.std.specs.Cmp.{IsTotalOrder}
use Rattle.std.specs.Ordering.{is_lt}
use Rattle.std.specs.declared.cmp.Ordering.{Ordering}
use Rattle.std.specs.declared.cmp.Ordering.TheVariants.{Less, Equal}
use Rattle.std.proofs.lemmas.Bool.{cases_order, false≢true}
use Rattle.std.proofs.lemmas.Cmp.{nat_list_cmp_total, nat_cmp_total, then_total, on_total, tied_itself}
use Rattle.std.proofs.lemmas.List.{get_or_default}
use Rattle.auto_core.specs.Delayed.{RankedTriples, HasTriplesOnce}
use Rattle.delayed_sim.specs.Rankings.{Triple, row_key, triple_cmp, IsTripleBefore, AreTriplesInOrder}

pub triple_total : IsTotalOrder triple_cmp
triple_total = then_total (on_total row_key nat_list_cmp_total) (on_total (λ (x : Triple). x.2) nat_cmp_total)

pub equal_less : (o : Ordering) → o ≡ Equal → o ≡ Less → ⊥
equal_less o e l = false≢true (sym (ap is_lt e) ∙ ap is_lt l)

-- no triple stands before one with the same states and the same word
pub not_before : (x y : Triple) → row_key x ≡ row_key y → x.2 ≡ y.2 → IsTripleBefore x y → ⊥
not_before x y keys rights before =
    let same : triple_cmp x x ≡ triple_cmp x y = cc in
    equal_less (triple_cmp x y) (sym same ∙ tied_itself triple_total x) before

pub before_back : (x y : Triple) → IsTripleBefore x y → IsTripleBefore y x → ⊥
before_back x y h g = equal_less (triple_cmp x x) (tied_itself triple_total x) (triple_total.trans x y x h g)

-- triples in order stand there once
pub once_in_order : (X : RankedTriples) → AreTriplesInOrder X → HasTriplesOnce X
once_in_order X order b p q o m (i, i_in, is_i) (j, j_in, is_j) =
    elim (cases_order i j) [
      | inl e ↦
          let same : get_or X i (p, b, q, o) ≡ get_or X j (p, b, q, m) = ap (λ k. get_or X k (p, b, q, o)) e ∙ get_or_default X j (p, b, q, o) (p, b, q, m) j_in in
          ap (λ (x : Triple). x.3) (sym is_i ∙ same ∙ is_j)
      | inr (inl lt) ↦
          let here = order i j (p, b, q, o) lt j_in in
          absurd (not_before (p, b, q, o) (p, b, q, m) refl refl (subst (λ x. IsTripleBefore x (p, b, q, m)) is_i (subst (λ y. IsTripleBefore (get_or X i (p, b, q, o)) y) (get_or_default X j (p, b, q, o) (p, b, q, m) j_in ∙ is_j) here)))
      | inr (inr gt) ↦
          let here = order j i (p, b, q, m) gt i_in in
          absurd (not_before (p, b, q, m) (p, b, q, o) refl refl (subst (λ x. IsTripleBefore x (p, b, q, o)) is_j (subst (λ y. IsTripleBefore (get_or X j (p, b, q, m)) y) (get_or_default X i (p, b, q, m) (p, b, q, o) i_in ∙ is_i) here)))
    ]
