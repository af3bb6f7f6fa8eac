use Rattle.std.proofs.Common.{ℕ, ◌<◌, inl, inr, refl, arith, subst}
use Rattle.std.proofs.lemmas.Bool.{cases_eq}
use Rattle.auto_core.specs.Game.{Holds}
use Rattle.auto_core.specs.Graph.{graph_of_tables}
use Rattle.auto_core.specs.Reach.{HasArc}
use Rattle.supergraph.specs.Minimal.{IsDominated}
use Rattle.supergraph.proofs.MinimalLemmas.{dominated_before, lessened_refl, lessened_trans}
use Rattle.supergraph.proofs.minimal.lessen_target.Goals as goal

-- A target that the order relates to itself alone is not dominated.
pub returns-then-has_no_other : goal.returns-then-has_no_other
returns-then-has_no_other c = record {
  joined = c.requires.joined;
  past = c.requires.past;
  lessened = lessened_refl (Holds c.args.order.now.pairs) (graph_of_tables c.args.joined.now c.args.past.now c.args.order.now.size c.args.width) c.requires.within (λ s t arc. c.requires.order.reflexive t arc.1);
  minimal = λ s arc d. d.differs ((c.if-has_no_other.ensures.0 refl) d.other ((c.row.ensures.bits d.other).1 d.related));
}

pub loop-row-init : goal.loop-row-init
loop-row-init c = record {
  joined = c.requires.joined;
  past = c.requires.past;
  lessened = lessened_refl (Holds c.args.order.now.pairs) (graph_of_tables c.args.joined.now c.args.past.now c.args.order.now.size c.args.width) c.requires.within (λ s t arc. c.requires.order.reflexive t arc.1);
  minimal = λ s s_in. absurd (omega arith);
}

pub loop-row-preserved : goal.loop-row-preserved
loop-row-preserved c =
    let n : ℕ = c.args.order.now.size in
    let w : ℕ = c.args.width in
    let target : ℕ = c.args.target in
    let S = Holds c.args.order.now.pairs in
    let now = c.loop-row.invariant in
    let old = graph_of_tables c.args.joined.now c.args.past.now n w in
    let before = graph_of_tables c.loop-row.joined c.loop-row.past n w in
    let new = graph_of_tables c.lessen_arc.new.joined c.lessen_arc.new.past n w in
    let step = c.lessen_arc.ensures.lessened in
    record {
      joined = c.lessen_arc.ensures.joined;
      past = c.lessen_arc.ensures.past;
      lessened = lessened_trans S c.requires.order.transitive old before new now.lessened step;
      minimal = λ s s_in arc d. elim (cases_eq s c.loop-row.row) [
        | inl here ↦
            c.lessen_arc.ensures.minimal (subst (λ k. HasArc c.lessen_arc.new.joined n w k target) here arc)
            (subst (λ k. IsDominated S new k target) here d)
        | inr apart ↦ now.minimal s (omega arith) (step.part.joined s target arc) (dominated_before S new before step.part s target arc d)
      ];
    }

pub returns-clause-minimal : goal.returns-clause-minimal
returns-clause-minimal c = λ s arc d.
    let s_in : s < c.args.order.now.size = arc.0 in
    c.loop-row.invariant.minimal s (omega arith) arc d
