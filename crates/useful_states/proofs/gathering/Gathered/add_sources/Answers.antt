use Rattle.std.proofs.Common.{◌≡◌, ℕ, List, length, get_or, ap, subst, arith}
use Rattle.auto_core.specs.Automaton.{trans, trans_at}
use Rattle.auto_core.specs.declared.parts.Trans.{Trans}
use Rattle.strong_components.specs.Graph.{at}
use Rattle.useful_states.specs.Gathering.{HasGained, MovesAlong}
use Rattle.useful_states.specs.declared.direction.Direction.TheVariants.{Backward}
use Rattle.useful_states.proofs.GatherLemmas.{Named, named_more, gained_as, sources_named}
use Rattle.useful_states.proofs.gathering.Gathered.add_sources.Goals as goal

pub loop-k-preserved : goal.loop-k-preserved
loop-k-preserved c =
    let A = c.args.automaton.now in
    let k : ℕ = c.loop-k.k in
    let numbers = c.predecessors-numbers.result.now in
    let f : ℕ → ℕ = λ i. (trans_at A (at numbers i)).source in
    let of : List Trans → ℕ = λ ts. (get_or ts (get_or numbers k 0) (trans 0 0 0)).source in
    named_more f 0 k (of c.transitions.result.now) c.args.self.now c.loop-k.self c.add.new.self (omega arith) (ap of c.transitions.ensures.list) c.loop-k.invariant c.in_ok-add.ensures

pub returns : goal.returns
returns c =
    let A = c.args.automaton.now in
    let numbers = c.predecessors-numbers.result.now in
    let f : ℕ → ℕ = λ i. (trans_at A (at numbers i)).source in
    let over : c.loop-k.k ≡ length numbers = omega arith in
    let P : ℕ → Type 0 = λ n. HasGained (Named f 0 n) c.args.self.now c.loop-k.self in
    gained_as (Named f 0 (length numbers)) (MovesAlong A Backward c.args.state) c.args.self.now c.loop-k.self (subst P over c.loop-k.invariant)
    (sources_named A c.args.state numbers c.predecessors-numbers.ensures.list)
