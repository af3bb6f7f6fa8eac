use Rattle.std.proofs.Common.{ℕ, ◌/◌, ◌*◌, ◌<◌, ◌≤◌, inl, inr, arith}
use Rattle.std.proofs.lemmas.Bool.{cases_eq}
use Rattle.auto_core.specs.Game.{Holds}
use Rattle.auto_core.specs.Graph.{graph_of_tables}
use Rattle.supergraph.proofs.MinimalLemmas.{dominated_before, lessened_refl, lessened_trans}
use Rattle.supergraph.proofs.minimal.lessen.Goals as goal

pub loop-word-init : goal.loop-word-init
loop-word-init c = record {
  joined = c.requires.joined;
  past = c.requires.past;
  lessened = lessened_refl (Holds c.args.order.now.pairs) (graph_of_tables c.args.joined.now c.args.past.now c.args.order.now.size c.args.width) c.requires.within (λ s t arc. c.requires.order.reflexive t arc.1);
  minimal = λ s t t_in. absurd (omega arith);
}

pub loop-word-preserved : goal.loop-word-preserved
loop-word-preserved c =
    let n : ℕ = c.args.order.now.size in
    let w : ℕ = c.args.width in
    let S = Holds c.args.order.now.pairs in
    let now = c.loop-word.invariant in
    let old = graph_of_tables c.args.joined.now c.args.past.now n w in
    let before = graph_of_tables c.loop-word.joined c.loop-word.past n w in
    let new = graph_of_tables c.lessen_word.new.joined c.lessen_word.new.past n w in
    let step = c.lessen_word.ensures.lessened in
    record {
      joined = c.lessen_word.ensures.joined;
      past = c.lessen_word.ensures.past;
      lessened = lessened_trans S c.requires.order.transitive old before new now.lessened step;
      minimal = λ s t t_in arc d. elim (cases_eq (t / 64) c.loop-word.word) [
        | inl here ↦ c.lessen_word.ensures.minimal s t here arc d
        | inr apart ↦ now.minimal s t (omega arith) (step.part.joined s t arc) (dominated_before S new before step.part s t arc d)
      ];
    }

pub returns-clause-minimal : goal.returns-clause-minimal
returns-clause-minimal c = λ s t arc d.
    let t_in : t < c.args.order.now.size = arc.1 in
    let room : c.args.order.now.size ≤ c.args.width * 64 = c.requires.joined.room in
    c.loop-word.invariant.minimal s t (omega arith) arc d
