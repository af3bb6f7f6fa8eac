-- The greatest delayed relation is one.
use Rattle.std.proofs.Common.{◌≡◌, ℕ, Option, Some, None, List, Contains, sym, subst, arith}
use Rattle.auto_core.specs.Automaton.{Automaton}
use Rattle.auto_core.specs.Delayed.{RankedTriples, HoldsTriple, HasRank, IsGreatestDelayed}
use Rattle.auto_core.proofs.MemberLemmas.{same_members, rises_from_pairs}
use Rattle.delayed_sim.specs.Rankings.{IsTripleBefore}
use Rattle.delayed_sim.specs.Laws.{GreatestDelayedIsOne}
use Rattle.delayed_sim.proofs.OrderLemmas.{before_back}

same_some : (a b : ℕ) → Some a ≡ Some b → a ≡ b
same_some a b e = cc

module _ (A : Automaton) (n : ℕ) (X Y : RankedTriples) (x : IsGreatestDelayed A n X) (y : IsGreatestDelayed A n Y) where
  goes_over : (b : List ℕ) (p q : ℕ) (o : Option ℕ) → Contains X (p, b, q, o) → Contains Y (p, b, q, o)
  goes_over b p q (Some r) h =
      let (s, there, less) = y.least X x.in_range x.right b p q r h in
      let (t, back, lesser) = x.least Y y.in_range y.right b p q s there in
      let same = same_some t r (x.once b p q (Some t) (Some r) back h) in
      let is : s ≡ r = omega arith in
      subst (λ n. HasRank Y b p q n) is there
  goes_over b p q None h = by (y.has_each X x.in_range x.right b p q (None, h))
    where
      by : HoldsTriple Y b p q → Contains Y (p, b, q, None)
      by (None, there) = there
      by (Some s, there) =
          let (t, back, less) = x.least Y y.in_range y.right b p q s there in
          let e = x.once b p q None (Some t) h back in
          absurd (let f = e in cc)

pub greatest_one : GreatestDelayedIsOne
greatest_one A R S valid also size labels letters is other =
    let other_n : IsGreatestDelayed A R.letters S.triples = subst (λ n. IsGreatestDelayed A n S.triples) (sym letters) other in
    let triples : R.triples ≡ S.triples =
    same_members IsTripleBefore before_back R.triples S.triples (rises_from_pairs IsTripleBefore R.triples valid.in_order) (rises_from_pairs IsTripleBefore S.triples also.in_order)
    (λ z h. goes_over A R.letters R.triples S.triples is other_n z.1 z.0 z.2 z.3 h) (λ z h. goes_over A R.letters S.triples R.triples other_n is z.1 z.0 z.2 z.3 h) in
    λ i. record { states = size i; labels = labels i; letters = letters i; triples = triples i }
