-- What is so of each place of the list is so of each pair.
use Rattle.std.proofs.Common.{◌≡◌, ℕ, ◌<◌, List, length, Contains, ◌∙◌, subst}
use Rattle.std.proofs.lemmas.List.{get_or_default}
use Rattle.auto_core.specs.Automaton.{Automaton}
use Rattle.product_laws.specs.declared.RankedPair.{RankedPair}
use Rattle.product_laws.specs.Ranked.{IsDeterministic, HasInitialPair, IsRankedProduct}
use Rattle.product_laws.specs.Ascending.{pair_at}
use Rattle.ranked_product.specs.Rules.{KeepsRules}

pub product_by_places : (A B : Automaton) (pairs : List RankedPair) → IsDeterministic B → HasInitialPair A B pairs →
    ((i : ℕ) → i < length pairs → KeepsRules A B pairs (pair_at pairs i)) → IsRankedProduct A B pairs
product_by_places A B pairs det starts kept = record {
  deterministic = det;
  starts = starts;
  states = λ x there. (keeps x there).states;
  moves = λ x there. (keeps x there).moves;
  ranks = λ x there. (keeps x there).ranks;
}
  where
    keeps : (x : RankedPair) → Contains pairs x → KeepsRules A B pairs x
    keeps x (i, within, is) =
        let same : pair_at pairs i ≡ x = get_or_default pairs i (record { left = 0; right = 0; rank = 0 }) x within ∙ is in
        subst (λ y. KeepsRules A B pairs y) same (kept i within)
