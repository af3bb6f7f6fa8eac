use Rattle.std.proofs.Common.{ℕ, ◌-◌, ◌*◌, ◌^◌, ◌<◌, ap, subst, arith}
use Rattle.auto_core.specs.Game.{Holds}
use Rattle.delayed_sim.proofs.BoundLemmas.{all_have}
use Rattle.delayed_sim.proofs.FewLemmas.{small_game}
use Rattle.delayed_sim.proofs.PlaceLemmas.{state_of_place}
use Rattle.delayed_sim.proofs.game.greatest_ahead.Goals as goal

pub greatest_within-requires-clause-words : goal.greatest_within-requires-clause-words
greatest_within-requires-clause-words c = (small_game c.args.automaton.now c.args.letters c.requires.valid c.requires.from c.requires.fitting).words

pub greatest_within-requires-clause-word_count : goal.greatest_within-requires-clause-word_count
greatest_within-requires-clause-word_count c =
    let upto = (small_game c.args.automaton.now c.args.letters c.requires.valid c.requires.from c.requires.fitting).word_count in
    omega arith

pub greatest_within-requires-clause-few : goal.greatest_within-requires-clause-few
greatest_within-requires-clause-few c =
    let A = c.args.automaton.now in
    let upto = (small_game A c.args.letters c.requires.valid c.requires.from c.requires.fitting).pairs in
    let all = ap (λ m. m * A.states) c.in_ok-places.ensures.states in
    omega arith

pub greatest_within-requires-clause-first : goal.greatest_within-requires-clause-first
greatest_within-requires-clause-first c =
    let A = c.args.automaton.now in
    let n : ℕ = c.args.letters in
    let w = A.labels ^ (n - 1) in
    let L = c.in_ok-places.places in
    all_have L A c.in_ok-first.first w (λ x lt. state_of_place A.labels n A.states x (subst (λ m. x < m) c.in_ok-places.ensures.states lt))
    (subst (λ (m : ℕ). (p q : ℕ) → p < m → q < m → Holds c.in_ok-first.first.pairs p q) c.states.ensures.count c.in_ok-first.ensures.pairs)
