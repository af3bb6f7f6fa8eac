-- The bounds on lists of pairwise different supergraphs and pairs, and that they grow with the numbers of states.
use Rattle.std.proofs.Common.{◌≡◌, ℕ, ◌*◌, ◌^◌, ◌<◌, ◌≤◌, length, arith}
use Rattle.std.proofs.Math.Nat.{pow-le-pow_right}
use Rattle.std.proofs.lemmas.Nat.{mul-le}
use Rattle.auto_core.specs.Automaton.{Automaton, IsAutomaton}
use Rattle.auto_core.specs.Graph.{WordArc, IsReal, arc_at, arcs_of, super_of}
use Rattle.auto_core.specs.Outcome.{SameSupergraph}
use Rattle.auto_core.specs.Pairs.{IsReached, pair_of}
use Rattle.auto_core.specs.PairOutcome.{SamePair}
use Rattle.auto_laws.proofs.OriginLemmas.{placed_arcs_are_real}
use Rattle.auto_laws.proofs.PairEntryLemmas.{placed_pairs_are_reached}
use Rattle.auto_laws.specs.Bounds.{supergraph_bound, pair_bound, SupergraphsAreFew, PairsAreFew, ListedSupergraphsAreFew, ListedPairsAreFew, BoundsRise}
use Rattle.auto_laws.proofs.CountLemmas.{no_more}
use Rattle.auto_laws.proofs.CodeLemmas.{super_code, super_code_below, same_super, pair_code, pair_code_below, same_pair}

module _ (A B : Automaton) (a b count : ℕ) (arc : ℕ → WordArc) (valid : IsAutomaton A) (also : IsAutomaton B) (enough : A.states ≤ a) (fits : B.states ≤ b) where
  -- Of more arcs than the bound two supergraphs had the same number.
  few_supergraphs : ((e : ℕ) → e < count → IsReal A (arc e)) → ((i j : ℕ) → i < j → j < count → SameSupergraph (super_of B (arc i)) (super_of B (arc j)) → ⊥) → count ≤ supergraph_bound a b
  few_supergraphs real differ =
      no_more (supergraph_bound a b) count (λ e. super_code B a b (arc e))
      (λ e lt. super_code_below A B valid a b enough (arc e) (real e lt))
      (λ i j before lt same. differ i j before lt (same_super A B valid also a b enough fits (arc i) (arc j) (real i (omega arith)) (real j lt) same))

  -- The same with the numbers of pairs.
  few_pairs : ((e : ℕ) → e < count → IsReached A (arc e)) → ((i j : ℕ) → i < j → j < count → SamePair (pair_of B (arc i)) (pair_of B (arc j)) → ⊥) → count ≤ pair_bound a b
  few_pairs reached differ =
      no_more (pair_bound a b) count (λ e. pair_code B b (arc e))
      (λ e lt. pair_code_below A B valid a b enough (arc e) (reached e lt))
      (λ i j before lt same. differ i j before lt (same_pair B also b fits (arc i) (arc j) same))

pub supergraphs_are_few : SupergraphsAreFew
supergraphs_are_few A B a b arcs valid also enough fits d = few_supergraphs A B a b (length arcs) (arc_at A arcs) valid also enough fits d.real d.differ

pub pairs_are_few : PairsAreFew
pairs_are_few A B a b arcs valid also enough fits d = few_pairs A B a b (length arcs) (arc_at A arcs) valid also enough fits d.reached d.differ

-- Placed origins have arcs of runs.
pub listed_supergraphs_are_few : ListedSupergraphsAreFew
listed_supergraphs_are_few A B a b count origins valid also enough fits listed =
    let size : length origins ≡ count = listed.size in
    few_supergraphs A B a b count (arc_at A (arcs_of A origins)) valid also enough fits
    (λ e lt. placed_arcs_are_real A origins listed.placed e (omega arith)) (λ i j before lt. listed.differ i j before (omega arith))

pub listed_pairs_are_few : ListedPairsAreFew
listed_pairs_are_few A B a b count origins valid also enough fits listed =
    let size : length origins ≡ count = listed.size in
    few_pairs A B a b count (arc_at A (arcs_of A origins)) valid also enough fits
    (λ e lt. placed_pairs_are_reached A origins listed.placed e (omega arith)) (λ i j before lt. listed.differ i j before (omega arith))

-- Products and powers rise with their factors and exponents.
pub bounds_rise : BoundsRise
bounds_rise a b c d first second =
    let squares : a * a ≤ c * c = mul-le a a c c first first in
    let states : b * b ≤ d * d = mul-le b b d d second second in (
      mul-le (2 * (a * a)) (3 ^ (b * b)) (2 * (c * c)) (3 ^ (d * d)) (omega arith) (pow-le-pow_right (omega arith) states),
      mul-le a (2 ^ b) c (2 ^ d) first (pow-le-pow_right (omega arith) second),
    )
