use Rattle.std.proofs.Common.{◌≡◌, ℕ, inl, inr, get_or, sym, ap, subst, arith}
use Rattle.auto_core.specs.Automaton.{Moves, trans, trans_at}
use Rattle.auto_core.specs.declared.parts.Trans.{Trans}
use Rattle.auto_core.proofs.MoveLemmas.{incoming_moves, moves_in_incoming}
use Rattle.delayed_game.proofs.BeforeLemmas.{found_more}
use Rattle.delayed_game.proofs.before.mark_before.Goals as goal

pub loop-i-preserved : goal.loop-i-preserved
loop-i-preserved c = λ a q near.
    let A = c.args.automaton.now in
    let ns = c.predecessors-before.result.now in
    let i : ℕ = c.loop-i.i in
    let now : Trans = get_or c.transitions.result.now (get_or ns i 0) (trans 0 0 0) in
    let is : now ≡ trans_at A (get_or ns i 0) = ap (λ ts. get_or ts (get_or ns i 0) (trans 0 0 0)) c.transitions.ensures.list in
    found_more A ns i c.args.made.now c.loop-i.made c.set_cell.new.table c.args.width a q now.label now.source
    (sym (ap (λ (u : Trans). u.label) is)) (sym (ap (λ (u : Trans). u.source) is)) (c.loop-i.invariant a q near) c.set_cell.ensures.here (c.set_cell.ensures.others a q near)

pub returns : goal.returns
returns c = λ a q near.
    let A = c.args.automaton.now in
    let ns = c.predecessors-before.result.now in
    let right : ℕ = c.args.right in
    let was = c.loop-i.invariant a q near in (
      λ cell. elim (was.0 cell) [
        | inl old ↦ inl old
        | inr found ↦
            let lt = found.1 in
            let move = incoming_moves A right ns c.predecessors-before.ensures.list found.0 (omega (arith, lt, c.loop-i.auto.i-end)) in
            inr (subst (λ x. Moves A q x right) found.2 (subst (λ x. Moves A x (trans_at A (get_or ns found.0 0)).label right) found.3 move))
      ],
      λ either. was.1 (elim either [
        | inl old ↦ inl old
        | inr move ↦
            let (k, k_in, is) = moves_in_incoming A right ns c.predecessors-before.ensures.list q a move in
            inr (k, omega (arith, k_in, c.loop-i-test.false), ap (λ (u : Trans). u.label) is, ap (λ (u : Trans). u.source) is)
      ]),
    )
