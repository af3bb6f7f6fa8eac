-- The rows of the greatest cross relation, and what follows for a cross relation that is written.
use Rattle.std.proofs.Common.{◌≡◌, ◌↔◌, ℕ, ◌+◌, ◌<◌, ◌≤◌, List, length, sym, ◌∙◌, subst, arith}
use Rattle.std.proofs.lemmas.Bool.{and_from, lt-ltb}
use Rattle.auto_core.specs.Automaton.{Automaton, Moves}
use Rattle.auto_core.specs.Game.{Holds, MatchesForward, StableAcross, IsGreatestAcross}
use Rattle.auto_laws.proofs.GameLemmas.{round_more}
use Rattle.ba_format.specs.declared.parts.Joined.{Joined}
use Rattle.cert_value.specs.declared.types.Row.{Row}
use Rattle.cert_value.specs.WellFormed.{is_short, are_rows}
use Rattle.log_check.specs.Blocks.{pairs_of}
use Rattle.log_check.specs.Rows.{HoldsFrom, AreRows}
use Rattle.log_check.proofs.RowBoundLemmas.{rows_below}
use Rattle.log_check.proofs.SameRowsLemmas.{one_rows}
use Rattle.cert_text.specs.declared.cross.Cross.{Cross}
use Rattle.cross_sim.specs.Cross.{HoldsGreatestAcross}
use Rattle.cross_sim.specs.Rules.{HasCrossSizes, pairs_across}
use Rattle.cross_sim.specs.Written.{IsCrossOfGreatest, CrossIsOne, GreatestCrossKeepsRules}
use Rattle.cross_sim.proofs.CheckLemmas.{rows_formed}

-- Which list is the greatest is a matter of its pairs alone.
greatest_alike : (A B : Automaton) (k : ℕ) (S T : List (ℕ × ℕ)) → ((p q : ℕ) → Holds S p q ↔ Holds T p q) → IsGreatestAcross A B k S → IsGreatestAcross A B k T
greatest_alike A B k S T same g = record {
  in_range = λ p q h. g.in_range p q ((same p q).1 h);
  stable = λ p q h.
      let (ok, round) = g.stable p q ((same p q).1 h) in
      (ok, round_more (Moves A) (Moves B) (MatchesForward A B) k (Holds S) (Holds T) (λ r s. (same r s).0) p q round);
  has_each = λ U below stable p q h. (same p q).0 (g.has_each U below stable p q h);
}

-- The rows of the relation on both automata list the pairs across.
module _ (A B : Automaton) (k : ℕ) (R : List (ℕ × ℕ)) (g : HoldsGreatestAcross A B k R) (rows : List Row) (are : AreRows (HoldsFrom R A.states B.states) A.states rows) where
  rows_list : (p q : ℕ) → Holds g.across p q ↔ Holds (pairs_of (record { rows = rows })) p q
  rows_list p q = (
    λ h. let (left, right) = g.is_greatest.in_range p q h in (are.has p q).1 (left, (right, (g.pairs p q).0 h)),
    λ h. (g.pairs p q).1 ((are.has p q).0 h).1.1,
  )

  pub greatest_listed : IsGreatestAcross A B k (pairs_of (record { rows = rows }))
  greatest_listed = greatest_alike A B k g.across (pairs_of (record { rows = rows })) rows_list g.is_greatest

  pub pair_listed : (p q : ℕ) → p < A.states → q < B.states → Holds R p (A.states + q) ↔ Holds (pairs_of (record { rows = rows })) p q
  pair_listed p q left right = (λ h. (are.has p q).1 (left, (right, h)), λ h. ((are.has p q).0 h).1.1)

-- With few states and labels, it has a text.
pub cross_made :
    (pair : Joined) (look : ℕ) (R : List (ℕ × ℕ)) (cross : Cross)
    → pair.first.states ≤ 2048
    → pair.second.states ≤ 512
    → length pair.labels ≤ 512
    → look ≤ 6
    → HasCrossSizes pair cross
    → cross.look ≡ look
    → HoldsGreatestAcross pair.first pair.second look R
    → AreRows (HoldsFrom R pair.first.states pair.second.states) pair.first.states cross.rows
    → IsCrossOfGreatest pair look cross
cross_made pair look R cross first second labels upto sizes look_is g are = record {
  formed = and_from (is_short cross.first_states) _ (lt-ltb cross.first_states 1000000000 (omega (arith, sizes.0)))
      (and_from (is_short cross.second_states) _ (lt-ltb cross.second_states 1000000000 (omega (arith, sizes.1)))
      (and_from (is_short cross.labels) _ (lt-ltb cross.labels 1000000000 (omega (arith, sizes.2)))
      (and_from (is_short cross.look) _ (lt-ltb cross.look 1000000000 (omega arith))
      (and_from (is_short (length cross.rows)) (are_rows 0 cross.rows) (lt-ltb (length cross.rows) 1000000000 (let few = are.few in omega arith)) are.formed))));
  sizes = sizes;
  look_is = look_is;
  greatest = greatest_listed pair.first pair.second look R g cross.rows are;
}

pub cross_is_one : CrossIsOne
cross_is_one pair look c d p q =
    let (first, second, labels) = p.sizes in
    let (other_first, other_second, other_labels) = q.sizes in
    let rows = one_rows c.rows d.rows (rows_formed c p.formed) (rows_formed d q.formed)
    (q.greatest.has_each (pairs_across c) p.greatest.in_range p.greatest.stable)
    (p.greatest.has_each (pairs_across d) q.greatest.in_range q.greatest.stable) in
    λ i. record {
      first_states = (first ∙ sym other_first) i;
      second_states = (second ∙ sym other_second) i;
      labels = (labels ∙ sym other_labels) i;
      look = (p.look_is ∙ sym q.look_is) i;
      rows = rows i;
    }

pub greatest_cross_keeps_rules : GreatestCrossKeepsRules
greatest_cross_keeps_rules pair look cross from upto is held = (
  is.sizes,
  (
    (omega (arith, is.look_is), omega (arith, is.look_is)),
    (
      rows_below pair.first.states pair.second.states 0 cross.rows (rows_formed cross is.formed) is.greatest.in_range,
      (held, (subst (λ k. StableAcross pair.first pair.second k (pairs_across cross)) (sym is.look_is) is.greatest.stable, tt)),
    ),
  ),
)
