-- A right list of pairs is inside a bound on the lists that are stable at lookahead 1 where no state asks anything of another.
use Rattle.std.proofs.Common.{◌≡◌, ℕ, ◌/◌, ◌-◌, ◌^◌, ◌<◌, inl, inr, Option, [], ◌∷◌, map, sym, ap, ◌∙◌, subst, arith}
use Rattle.auto_core.specs.Automaton.{Automaton, Moves}
use Rattle.auto_core.specs.Game.{Holds, Round}
use Rattle.auto_core.proofs.MemberLemmas.{map_has, map_from}
use Rattle.bit_rel.specs.Relation.{Relation}
use Rattle.look_round.specs.Words.{IsBound}
use Rattle.delayed_game.specs.Across.{RankedPlacePairs, HoldsPlacePair, IsRightAcross}
use Rattle.delayed_game.specs.Played.{HasEachRight}
use Rattle.delayed_sim.specs.Unasked.{AsksNothing}
use Rattle.delayed_sim.proofs.WordLemmas.{power_zero}

-- the pair without its rank
abbrev states_of : ℕ × ℕ × Option ℕ → ℕ × ℕ
states_of x = (x.0, x.1)

unranked : (Y : RankedPlacePairs) (p q : ℕ) → HoldsPlacePair Y p q → Holds (map states_of Y) p q
unranked Y p q h = map_has states_of Y (p, q, h.0) h.1

ranked : (Y : RankedPlacePairs) (p q : ℕ) → Holds (map states_of Y) p q → HoldsPlacePair Y p q
ranked Y p q h =
    let (x, there, is) = map_from states_of Y (p, q) h in
    let left : x.0 ≡ p = ap (λ (y : ℕ × ℕ). y.0) is in
    let right : x.1 ≡ q = ap (λ (y : ℕ × ℕ). y.1) is in
    let here : HoldsPlacePair Y x.0 x.1 = (x.2, there) in
    subst (λ r. HoldsPlacePair Y r q) left (subst (λ r. HoldsPlacePair Y x.0 r) right here)

right_round : (A : Automaton) (Y : RankedPlacePairs) → IsRightAcross A A Y → (p q : ℕ) → HoldsPlacePair Y p q → Round (Moves A) (Moves A) AsksNothing 1 (Holds (map states_of Y)) p q
right_round A Y right p q held [] ps path may = absurd (elim may [ inl e ↦ omega arith | inr short ↦ let lt = short.0 in omega arith ])
right_round A Y right p q held (a ∷ w) [] path may = absurd path
right_round A Y right p q held (a ∷ w) (r ∷ ps) path may =
    let answer = right.answers p q a r held path.0 in
    (answer.0, answer.1, tt, inl (unranked Y r answer.0 answer.2))

pub bound_has :
    (A : Automaton) (R : Relation)
    → IsBound (Moves A) AsksNothing A.states R
    → HasEachRight A A (λ x q. Holds R.pairs (x / A.labels ^ (1 - 1)) q)
bound_has A R bound Y inside right p q held =
    let here : Holds R.pairs p q =
    bound.has_each 1 (omega arith) (map states_of Y) (λ r s h. inside r s (ranked Y r s h)) (λ r s h. (tt, right_round A Y right r s (ranked Y r s h))) p q (unranked Y p q held) in
    let alone : p ≡ p / A.labels ^ (1 - 1) = sym (ap (λ w. p / w) (power_zero A.labels) ∙ by_one p) in
    subst (λ x. Holds R.pairs x q) alone here
  where
    by_one : (p : ℕ) → p / 1 ≡ p
    by_one p = omega arith

-- the relation of all pairs has those of each right list
pub all_have : (L A : Automaton) (R : Relation) (w : ℕ) → ((x : ℕ) → x < L.states → x / w < A.states) → ((p q : ℕ) → p < A.states → q < A.states → Holds R.pairs p q) → HasEachRight L A (λ x q. Holds R.pairs (x / w) q)
all_have L A R w below all X inside right x q held = let range = inside x q held in all (x / w) q (below x range.0) range.1
