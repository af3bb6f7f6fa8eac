use Rattle.std.proofs.Common.{◌≡◌, ℕ, List, get_or, refl, ap, ◌∙◌, subst, arith}
use Rattle.std.proofs.lemmas.Bool.{false≢true}
use Rattle.auto_core.specs.Automaton.{trans, trans_at}
use Rattle.auto_core.specs.declared.parts.Trans.{Trans}
use Rattle.auto_core.proofs.MoveLemmas.{outgoing_moves, moves_in_outgoing}
use Rattle.strong_components.specs.Graph.{at}
use Rattle.useful_states.proofs.CycleLemmas.{cycle_from, move_from}
use Rattle.useful_states.proofs.cycles.is_on_cycle.Goals as goal

pub returns-then-numbers-transitions : goal.returns-then-numbers-transitions
returns-then-numbers-transitions c =
    let A = c.args.automaton.now in
    let numbers = c.args.numbers.now in
    let p : ℕ = c.args.state in
    let t : ℕ = c.loop-t.t in
    let move = outgoing_moves A p c.outgoing-span.result.begin c.outgoing-span.result.end c.outgoing-span.ensures.range t c.loop-t.auto.t c.loop-t-test.true in
    let P : List Trans → Type 0 = λ ts. at numbers (get_or ts t (trans 0 0 0)).target ≡ at numbers p in
    let same = subst P c.transitions-transitions.ensures.list c.if-numbers-transitions.true in
    (λ h. cycle_from A numbers c.requires.numbers p (trans_at A t).label (trans_at A t).target move same, λ cycle. refl)

pub returns : goal.returns
returns c =
    let A = c.args.automaton.now in
    let numbers = c.args.numbers.now in
    let p : ℕ = c.args.state in (
      λ h. absurd (false≢true h),
      λ cycle.
          let (a, q, move, same) = move_from A numbers c.requires.numbers p cycle in
          let (k, low, high, is) = moves_in_outgoing A p c.outgoing-span.result.begin c.outgoing-span.result.end c.outgoing-span.ensures.range a q move in
          absurd (c.loop-t.invariant k low (omega (arith, high, c.loop-t-test.false)) (ap (λ (u : Trans). at numbers u.target) is ∙ same)),
    )
