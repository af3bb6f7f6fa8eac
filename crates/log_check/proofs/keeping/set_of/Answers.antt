use Rattle.std.proofs.Common.{ℕ, List, slice_index_or, refl, ◌∙◌}
use Rattle.log_check.proofs.ShapeLemmas.{listed_more, listed_all}
use Rattle.log_check.proofs.keeping.set_of.Goals as goal

pub loop-state-preserved : goal.loop-state-preserved
loop-state-preserved c =
    let kept : List ℕ = c.args.kept.now in
    let k : ℕ = c.loop-state.state-index in (
      c.add.ensures.members.states ∙ c.loop-state.invariant.0,
      listed_more c.loop-state.set.members c.add.new.self.members kept k (slice_index_or kept k 0) 0 c.loop-state-test.true refl c.add.ensures.members.members c.loop-state.invariant.1,
    )

pub returns-clause-members : goal.returns-clause-members
returns-clause-members c = listed_all c.loop-state.set.members c.args.kept.now c.loop-state.state-index c.loop-state-test.false c.loop-state.invariant.1
