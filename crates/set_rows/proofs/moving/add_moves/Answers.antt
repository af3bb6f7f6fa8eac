use Rattle.std.proofs.Common.{◌≡◌, ℕ, ◌+◌, ◌≤◌, ◌⊎◌, ◌↔◌, List, get_or, subst, arith, rules}
use Rattle.auto_core.specs.Automaton.{Automaton, Moves, trans, trans_at}
use Rattle.auto_core.specs.Rows.{HasBit}
use Rattle.auto_core.specs.declared.parts.Trans.{Trans}
use Rattle.set_rows.proofs.BitLemmas.{bit_set}
use Rattle.set_rows.proofs.MoveLemmas.{IsTarget, target_more, target_moves}
use Rattle.set_rows.proofs.SetLemmas.{joins_up, same_right}
use Rattle.set_rows.proofs.moving.add_moves.Goals as goal

pub loop-t-preserved : goal.loop-t-preserved
loop-t-preserved c = λ q.
    let A : Automaton = c.args.automaton.now in
    let t : ℕ = c.loop-t.t in
    let begin : ℕ = c.successors-span.result.begin in
    let from : begin ≤ t = search rules in
    let T : List Trans → Type 0 = λ ts. HasBit c.set_bit.new.row q ↔ (HasBit c.loop-t.out q ⊎ (q ≡ (get_or ts t (trans 0 0 0)).target)) in
    let step : T A.transitions = subst T c.transitions-transitions.ensures.list
    (bit_set c.loop-t.out c.set_bit.new.row (get_or c.transitions-transitions.result.now t (trans 0 0 0)).target c.set_bit.ensures.here c.set_bit.ensures.others q) in
    joins_up (HasBit c.args.out.now q) (HasBit c.loop-t.out q) (HasBit c.set_bit.new.row q) (IsTarget A begin t q) (q ≡ (trans_at A t).target) (IsTarget A begin (t + 1) q)
    (c.loop-t.invariant q) step (target_more A begin t from q)

pub returns-clause-members : goal.returns-clause-members
returns-clause-members c = λ q.
    let A : Automaton = c.args.automaton.now in
    let s = c.successors-span.ensures.range in
    let ordered = s.is_range in
    let begin : ℕ = c.successors-span.result.begin in
    let end : ℕ = c.successors-span.result.end in
    let over : c.loop-t.t ≡ end = omega arith in
    same_right (HasBit c.args.out.now q) (HasBit c.loop-t.out q) (IsTarget A begin end q) (Moves A c.args.from c.args.label q)
    (subst (λ k. HasBit c.loop-t.out q ↔ (HasBit c.args.out.now q ⊎ IsTarget A begin k q)) over (c.loop-t.invariant q))
    (target_moves A c.args.from c.args.label begin end s q)
