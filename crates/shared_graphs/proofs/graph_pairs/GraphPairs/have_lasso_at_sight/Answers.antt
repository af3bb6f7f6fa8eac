use Rattle.std.proofs.Common.{List, subst}
use Rattle.shared_graphs.specs.declared.glimpses.Glimpse.{Glimpse}
use Rattle.shared_graphs.specs.Glimpses.{MeetAtSight}
use Rattle.shared_graphs.proofs.GlimpseLemmas.{seen_lasso}
use Rattle.shared_graphs.proofs.graph_pairs.GraphPairs.have_lasso_at_sight.Goals as goal

pub returns : goal.returns
returns c = λ told.
    seen_lasso c.args.second.now c.args.graphs.now.items c.args.self.now.glimpses.items c.args.g c.args.h c.requires.second c.requires.told.glimpses
    (subst (λ (l : List Glimpse). MeetAtSight l c.args.g c.args.h) c.deref.ensures.value (c.meet.ensures told))
