use Rattle.std.proofs.Common.{◌≡◌, ℕ, List, inl, inr, get_or, sym, ap, ◌∙◌, subst, arith}
use Rattle.std.proofs.lemmas.Bool.{cases_eq, false≢true}
use Rattle.auto_core.specs.Automaton.{Moves, trans, trans_at}
use Rattle.auto_core.specs.declared.parts.Trans.{Trans}
use Rattle.auto_core.specs.Rows.{HasBit, bit_of}
use Rattle.auto_core.proofs.MoveLemmas.{successor_moves, moves_in_successors}
use Rattle.lasso_accept.specs.Plane.{chosen}
use Rattle.lasso_accept.proofs.spelling.successor_in.Goals as goal

pub loop-t-preserved : goal.loop-t-preserved
loop-t-preserved c = λ j from below h.
    let A = c.args.automaton.now in
    let t : ℕ = c.loop-t.t in
    let target : ℕ = (trans_at A t).target in
    let T : List Trans → Type 0 = λ ts. c.has_bit.result ≡ bit_of c.pick.result.now (get_or ts t (trans 0 0 0)).target in
    let U : List Trans → Type 0 = λ ts. c.pick.result.now ≡ chosen A c.args.marked.now c.args.plain.now (get_or ts t (trans 0 0 0)).target in
    let bit : c.has_bit.result ≡ bit_of (chosen A c.args.marked.now c.args.plain.now target) target =
    subst T c.transitions-transitions.ensures.list c.has_bit.ensures ∙ ap (λ xs. bit_of xs target) (subst U c.transitions-transitions.ensures.list c.pick.ensures) in
    elim (cases_eq j t) [
      | inl e ↦
          let P : ℕ → Type 0 = λ k. HasBit (chosen A c.args.marked.now c.args.plain.now (trans_at A k).target) (trans_at A k).target in
          false≢true (sym c.if-has_bit.false ∙ bit ∙ subst P e h)
      | inr n ↦ c.loop-t.invariant j from (omega arith) h
    ]

pub returns-then-has_bit-clause-moves : goal.returns-then-has_bit-clause-moves
returns-then-has_bit-clause-moves c =
    let A = c.args.automaton.now in
    let R : List Trans → Type 0 = λ ts. Moves A c.args.state c.args.label (get_or ts c.loop-t.t (trans 0 0 0)).target in
    subst R (sym c.transitions-transitions.ensures.list)
    (successor_moves A c.args.state c.args.label c.successors-span.result.begin c.successors-span.result.end c.successors-span.ensures.range c.loop-t.t (omega arith) (omega arith))

pub returns-then-has_bit-clause-is_in : goal.returns-then-has_bit-clause-is_in
returns-then-has_bit-clause-is_in c =
    let target : ℕ = (get_or c.transitions-transitions.result.now c.loop-t.t (trans 0 0 0)).target in
    ap (λ xs. bit_of xs target) (sym c.pick.ensures) ∙ sym c.has_bit.ensures ∙ c.if-has_bit.true

pub returns-clause-moves : goal.returns-clause-moves
returns-clause-moves c =
    let A = c.args.automaton.now in
    let (r, m, bit) = c.requires.some in
    let (j, from, below, is) = moves_in_successors A c.args.state c.args.label c.successors-span.result.begin c.successors-span.result.end c.successors-span.ensures.range r m in
    let Q : ℕ → Type 0 = λ x. HasBit (chosen A c.args.marked.now c.args.plain.now x) x in
    absurd (c.loop-t.invariant j from (omega arith) (subst Q (sym is) bit))

pub returns-clause-is_in : goal.returns-clause-is_in
returns-clause-is_in c =
    let A = c.args.automaton.now in
    let (r, m, bit) = c.requires.some in
    let (j, from, below, is) = moves_in_successors A c.args.state c.args.label c.successors-span.result.begin c.successors-span.result.end c.successors-span.ensures.range r m in
    let Q : ℕ → Type 0 = λ x. HasBit (chosen A c.args.marked.now c.args.plain.now x) x in
    absurd (c.loop-t.invariant j from (omega arith) (subst Q (sym is) bit))
