-- What goes while the game is played, and what is left.
use Rattle.std.proofs.Common.{◌≡◌, ℕ, ◌<◌, List, arith}
use Rattle.auto_core.specs.Automaton.{Automaton, Moves}
use Rattle.auto_core.specs.Game.{Holds}
use Rattle.delayed_game.specs.Pairings.{Pairing, IsPairing}
use Rattle.delayed_game.specs.Settling.{AnswersAll, LeavesRight, Drops, TakesAway, IsAnsweredBesides}
use Rattle.delayed_game.specs.Boards.{AreLeastRanks}
use Rattle.delayed_game.proofs.CanLemmas.{right_can}

-- Pairs that were dropped are in no right relation.
pub drops_takes :
    (L A : Automaton) (ranks : List ℕ) (R S : Pairing) (marks marks' : List ℕ)
    → R.places ≡ L.states
    → R.states ≡ A.states
    → IsPairing R
    → AreLeastRanks L A (Holds R.pairs) ranks
    → Drops L A.states ranks R S marks marks'
    → TakesAway L A R S
drops_takes L A ranks R S marks marks' places size valid least drops = record { places = drops.places; states = drops.states; valid = drops.valid; within = drops.within; leaves = leaves }
  where
    leaves : LeavesRight L A R S
    leaves X right inside p q h = drops.stays p q (inside p q h) (λ accepting.
        let range = valid.in_range p q (inside p q h) in
        let left = range.0 in
        let right_in = range.1 in
        let has = right.ranked p q h accepting in
        least.all p q has.0 (omega arith) (omega arith) (right_can L A (Holds R.pairs) X right inside has.0 p q has.0 (omega arith) has.1))

-- Moves to places whose rows lost no pair stay answered.
pub drops_besides :
    (L A : Automaton) (n : ℕ) (ranks : List ℕ) (R S : Pairing) (marks marks' : List ℕ)
    → ((p a p' : ℕ) → Moves L p a p' → p' < L.states)
    → ((p q : ℕ) → Holds R.pairs p q → AnswersAll L A (Holds R.pairs) p q)
    → Drops L n ranks R S marks marks'
    → IsAnsweredBesides L A (Holds S.pairs) marks'
drops_besides L A n ranks R S marks marks' range answered drops x x_in clear p a q move held =
    let answer = answered p q (drops.within p q held) a x move in
    (answer.0, answer.1, (drops.marked x clear).1 answer.0 answer.2)
