use Rattle.std.proofs.Common.{◌≡◌, ◌+◌, ◌*◌, ◌<◌, ◌≤◌, ℕ, [], ◌∷◌, false, arith, rules}
use Rattle.auto_core.specs.Game.{Holds}
use Rattle.auto_core.specs.Graph.{graph_of_tables}
use Rattle.auto_core.specs.Reach.{HasArc}
use Rattle.auto_core.specs.Rows.{bit_of}
use Rattle.supergraph.specs.Minimal.{IsDominated}
use Rattle.supergraph.proofs.MinimalLemmas.{bits_all, bits_more, dominated_before, lessened_refl, lessened_trans}
use Rattle.supergraph.proofs.minimal.lessen_targets.Goals as goal

pub loop-bit-init : goal.loop-bit-init
loop-bit-init c = record {
  place = omega arith;
  joined = c.requires.joined;
  past = c.requires.past;
  lessened = lessened_refl (Holds c.args.order.now.pairs) (graph_of_tables c.args.joined.now c.args.past.now c.args.order.now.size c.args.width) c.requires.within (λ s t arc. c.requires.order.reflexive t arc.1);
  minimal = λ j below. absurd (omega arith);
}

pub loop-bit-preserved : goal.loop-bit-preserved
loop-bit-preserved c =
    let n : ℕ = c.args.order.now.size in
    let w : ℕ = c.args.width in
    let S = Holds c.args.order.now.pairs in
    let now = c.loop-bit.invariant in
    let old = graph_of_tables c.args.joined.now c.args.past.now n w in
    let before = graph_of_tables c.loop-bit.joined c.loop-bit.past n w in
    let new = graph_of_tables c.lessen_target.new.joined c.lessen_target.new.past n w in
    let step = c.lessen_target.ensures.lessened in
    let word : ℕ = c.args.word in
    let bit : ℕ = c.in-Some.bit in
    let near : bit < 64 = search rules in
    let between : (k : ℕ) → c.loop-bit.at ≤ k → k < bit → bit_of (c.args.targets ∷ []) k ≡ false = search rules in
    record {
      place = omega arith;
      joined = c.lessen_target.ensures.joined;
      past = c.lessen_target.ensures.past;
      lessened = lessened_trans S c.requires.order.transitive old before new now.lessened step;
      minimal = bits_more (λ j. (s : ℕ) → HasArc c.lessen_target.new.joined n w s (word * 64 + j) → IsDominated S new s (word * 64 + j) → ⊥) (c.args.targets ∷ []) c.loop-bit.at bit between
          c.lessen_target.ensures.minimal
          (λ j below own s arc d. now.minimal j below own s (step.part.joined s (word * 64 + j) arc) (dominated_before S new before step.part s (word * 64 + j) arc d));
    }

pub returns-clause-minimal : goal.returns-clause-minimal
returns-clause-minimal c =
    let n : ℕ = c.args.order.now.size in
    let w : ℕ = c.args.width in
    let word : ℕ = c.args.word in
    let none : (k : ℕ) → c.loop-bit.at ≤ k → bit_of (c.args.targets ∷ []) k ≡ false = search rules in
    bits_all (λ j. (s : ℕ) → HasArc c.loop-bit.joined n w s (word * 64 + j) → IsDominated (Holds c.args.order.now.pairs) (graph_of_tables c.loop-bit.joined c.loop-bit.past n w) s (word * 64 + j) → ⊥)
    (c.args.targets ∷ []) c.loop-bit.at none c.loop-bit.invariant.minimal
