use Rattle.std.proofs.Common.{ℕ, List, slice_index_or, subst}
use Rattle.auto_core.specs.Automaton.{trans, trans_at}
use Rattle.auto_core.specs.Graph.{letter_graph}
use Rattle.auto_core.specs.declared.parts.Trans.{Trans}
use Rattle.shared_graphs.specs.Graphs.{AsTheyAre, IsGraphOf}
use Rattle.cert_check.proofs.SuperLemmas.{base_numbered}
use Rattle.cert_check.proofs.blocks.base.Goals as goal

pub returns : goal.returns
returns c =
    let A = c.args.first.now in
    let B = c.args.second.now in
    let t : ℕ = c.args.t in
    let k : ℕ = c.in_ok-number.number in
    let graph : IsGraphOf B AsTheyAre (letter_graph B (trans_at A t).label) c.letter.new.self.graphs.items k =
    subst (λ (l : List Trans). IsGraphOf B AsTheyAre (letter_graph B (slice_index_or l t (trans 0 0 0)).label) c.letter.new.self.graphs.items k) c.transitions.ensures.list c.in_ok-number.ensures.is in
    base_numbered A B c.args.graphs.now c.letter.new.self c.base-arc.result t k c.base-arc.ensures.arc c.base-arc.ensures.real c.in_ok-number.ensures.stock c.in_ok-number.ensures.grown graph
