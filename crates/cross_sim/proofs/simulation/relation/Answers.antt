use Rattle.std.proofs.Common.{ℕ, subst}
use Rattle.auto_core.specs.Automaton.{Moves}
use Rattle.auto_core.specs.Game.{IsGreatest}
use Rattle.cross_sim.specs.Sides.{MatchesAcross, LeavesAcross}
use Rattle.cross_sim.proofs.CrossLemmas.{greatest_cross}
use Rattle.cross_sim.proofs.simulation.relation.Goals as goal

pub returns-clause-greatest : goal.returns-clause-greatest
returns-clause-greatest c =
    let A = c.args.pair.now.first in
    let B = c.args.pair.now.second in
    let U = c.in_ok-both.both in
    let R = c.in_ok-rel.rel in
    let T = c.leave_across.new.rel in
    let P : ℕ → Type 0 = λ n. IsGreatest (Moves U) (Moves U) (MatchesAcross n U) c.args.look U.states U.states R.pairs in
    let Q : ℕ → Type 0 = λ n. LeavesAcross n n R T in
    greatest_cross A B U c.states.ensures.valid c.in_ok-both.ensures c.args.look R T (subst P c.states.ensures.count c.in_ok-rel.ensures.greatest) (subst Q c.states-2.ensures.count c.leave_across.ensures)
