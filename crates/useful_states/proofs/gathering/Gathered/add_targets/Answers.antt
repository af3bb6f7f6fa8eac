use Rattle.std.proofs.Common.{◌≡◌, ℕ, List, get_or, ap, subst, arith}
use Rattle.auto_core.specs.Automaton.{trans, trans_at}
use Rattle.auto_core.specs.declared.parts.Trans.{Trans}
use Rattle.useful_states.specs.Gathering.{HasGained, MovesAlong}
use Rattle.useful_states.specs.declared.direction.Direction.TheVariants.{Forward}
use Rattle.useful_states.proofs.GatherLemmas.{Named, named_more, gained_as, targets_named}
use Rattle.useful_states.proofs.gathering.Gathered.add_targets.Goals as goal

pub loop-t-preserved : goal.loop-t-preserved
loop-t-preserved c =
    let A = c.args.automaton.now in
    let t : ℕ = c.loop-t.t in
    let f : ℕ → ℕ = λ k. (trans_at A k).target in
    let of : List Trans → ℕ = λ ts. (get_or ts t (trans 0 0 0)).target in
    named_more f c.outgoing-span.result.begin t (of c.transitions.result.now) c.args.self.now c.loop-t.self c.add.new.self c.loop-t.auto.t (ap of c.transitions.ensures.list) c.loop-t.invariant c.in_ok-add.ensures

pub returns : goal.returns
returns c =
    let A = c.args.automaton.now in
    let f : ℕ → ℕ = λ k. (trans_at A k).target in
    let begin : ℕ = c.outgoing-span.result.begin in
    let end : ℕ = c.outgoing-span.result.end in
    let over : c.loop-t.t ≡ end = omega (arith, c.outgoing-span.ensures.range.is_range) in
    let P : ℕ → Type 0 = λ n. HasGained (Named f begin n) c.args.self.now c.loop-t.self in
    gained_as (Named f begin end) (MovesAlong A Forward c.args.state) c.args.self.now c.loop-t.self (subst P over c.loop-t.invariant)
    (targets_named A c.args.state begin end c.outgoing-span.ensures.range)
