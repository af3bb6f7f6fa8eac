use Rattle.std.proofs.Common.{ℕ, ◌≡◌, List, take, slice_index_or, Contains, true, false, inl, inr, refl, sym, ◌∙◌, subst, rules, arith, take_all}
use Rattle.std.proofs.lemmas.Bool.{false≢true}
use Rattle.std.proofs.lemmas.List.{take_more}
use Rattle.std.proofs.lemmas.List.Elements.{Contains-get_or, Contains-push_cases}
use Rattle.auto_core.specs.Graph.{LassoIn}
use Rattle.graph_rows.specs.Block.{IsFormed, block_graph}
use Rattle.shared_graphs.specs.Graphs.{block_at}
use Rattle.cert_check.proofs.pairs.has_lassos.Goals as goal

pub has_lasso-requires-clause-formed : goal.has_lasso-requires-clause-formed
has_lasso-requires-clause-formed c = subst (IsFormed c.args.second.now.states) (sym c.block-block.ensures) c.requires.formed

pub has_lasso-requires-clause-other : goal.has_lasso-requires-clause-other
has_lasso-requires-clause-other c =
    c.requires.others (slice_index_or c.args.others.now c.loop-h.h-index 0) (Contains-get_or c.args.others.now c.loop-h.h-index 0 c.loop-h-test.true)

pub has_lasso-requires-clause-there : goal.has_lasso-requires-clause-there
has_lasso-requires-clause-there c =
    let there = c.requires.there (slice_index_or c.args.others.now c.loop-h.h-index 0) (Contains-get_or c.args.others.now c.loop-h.h-index 0 c.loop-h-test.true) in
    omega (arith, there, c.loop-h.invariant.size)

pub returns-then-not-branch-clause-told : goal.returns-then-not-branch-clause-told
returns-then-not-branch-clause-told c =
    let h : ℕ = slice_index_or c.args.others.now c.loop-h.h-index 0 in
    let is : c.in_ok-has_lasso.field-0 ≡ false = search rules in (
      λ told. absurd (false≢true told),
      λ all. sym is
          ∙ c.in_ok-has_lasso.ensures.told.1
          (subst (λ b. LassoIn (block_graph c.args.second.now.states b) (block_graph c.args.second.now.states (block_at c.args.graphs.now.items h)) c.args.second.now.initial) (sym c.block-block.ensures)
          (all h (Contains-get_or c.args.others.now c.loop-h.h-index 0 c.loop-h-test.true))),
    )

pub loop-h-preserved : goal.loop-h-preserved
loop-h-preserved c =
    let n : ℕ = c.args.second.now.states in
    let k : ℕ = c.loop-h.h-index in
    let h : ℕ = slice_index_or c.args.others.now k 0 in
    let is : c.in_ok-has_lasso.field-0 ≡ true = search rules in
    record {
      told = λ f there. elim (Contains-push_cases (take k c.args.others.now) h f (subst (λ (l : List ℕ). Contains l f) (take_more c.args.others.now k 0 c.loop-h-test.true) there)) [
        | inl before ↦ c.loop-h.invariant.told f before
        | inr same ↦
            subst (λ m. LassoIn (block_graph n (block_at c.args.graphs.now.items c.args.g)) (block_graph n (block_at c.args.graphs.now.items m)) c.args.second.now.initial) same
            (subst (λ b. LassoIn (block_graph n b) (block_graph n (block_at c.args.graphs.now.items h)) c.args.second.now.initial) c.block-block.ensures (c.in_ok-has_lasso.ensures.told.0 is))
      ];
      loops = c.in_ok-has_lasso.ensures.loops;
      size = c.has_lasso.ensures.size ∙ c.loop-h.invariant.size;
      room = c.has_lasso.ensures.room;
    }

pub returns-clause-told : goal.returns-clause-told
returns-clause-told c = (
  λ _ h there. c.loop-h.invariant.told h (subst (λ (l : List ℕ). Contains l h) (sym (take_all c.loop-h.h-index c.args.others.now c.loop-h-test.false)) there),
  λ all. refl,
)
