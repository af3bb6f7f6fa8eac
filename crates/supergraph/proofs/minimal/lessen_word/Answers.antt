use Rattle.std.proofs.Common.{◌≡◌, ◌+◌, ◌*◌, ◌%◌, ◌<◌, ◌↔◌, ℕ, [], ◌∷◌, arith, rules, subst}
use Rattle.auto_core.specs.Game.{Holds}
use Rattle.auto_core.specs.Graph.{graph_of_tables}
use Rattle.auto_core.specs.Reach.{HasArc}
use Rattle.auto_core.specs.Rows.{HasBit}
use Rattle.graph_rows.proofs.CoveringLemmas.{bit_below}
use Rattle.supergraph.specs.Minimal.{IsDominated}
use Rattle.supergraph.proofs.minimal.lessen_word.Goals as goal

pub lessen_targets-requires-clause-states : goal.lessen_targets-requires-clause-states
lessen_targets-requires-clause-states c = λ j bit.
    let count_is : c.size.result ≡ c.args.order.now.size = search rules in
    let (s, arc) = (c.targets_in-targets.ensures j (bit_below c.targets_in-targets.result j bit)).0 bit in
    subst (λ k. c.args.word * 64 + j < k) count_is arc.1

pub returns-clause-minimal : goal.returns-clause-minimal
returns-clause-minimal c = λ s t in_word arc d.
    let n : ℕ = c.args.order.now.size in
    let w : ℕ = c.args.width in
    let new = graph_of_tables c.lessen_targets.new.joined c.lessen_targets.new.past n w in
    let count_is : c.size.result ≡ n = search rules in
    let j : ℕ = t % 64 in
    let j_in : j < 64 = omega arith in
    let is : t ≡ c.args.word * 64 + j = omega (arith, in_word) in
    let was : HasArc c.args.joined.now n w s t = c.lessen_targets.ensures.lessened.part.joined s t arc in
    let told =
    subst (λ k. HasBit (c.targets_in-targets.result ∷ []) j ↔ ((p : ℕ) × HasArc c.args.joined.now k w p (c.args.word * 64 + j))) count_is (c.targets_in-targets.ensures j j_in) in
    let bit = told.1 (s, subst (λ k. HasArc c.args.joined.now n w s k) is was) in
    c.lessen_targets.ensures.minimal j bit s (subst (λ k. HasArc c.lessen_targets.new.joined n w s k) is arc)
    (subst (λ k. IsDominated (Holds c.args.order.now.pairs) new s k) is d)
