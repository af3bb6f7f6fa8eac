use Rattle.std.proofs.Common.{◌≡◌, ℕ, ◌<◌, inl, inr, false, get_or, sym, ap, ◌∙◌, subst, arith}
use Rattle.std.proofs.lemmas.Bool.{cases_eq}
use Rattle.auto_core.specs.Automaton.{trans, trans_at}
use Rattle.auto_core.specs.Rows.{cell_of}
use Rattle.auto_core.specs.declared.parts.Trans.{Trans}
use Rattle.auto_core.proofs.MoveLemmas.{moves_in_incoming}
use Rattle.delayed_game.proofs.before.clear_letters.Goals as goal

pub loop-i-preserved : goal.loop-i-preserved
loop-i-preserved c = λ k q k_in near.
    let L = c.args.places.now in
    let ns = c.predecessors-before.result.now in
    let i : ℕ = c.loop-i.i in
    let made = c.clear_table_row.new.table in
    let w : ℕ = c.args.width in
    let now : Trans = get_or c.transitions.result.now (get_or ns i 0) (trans 0 0 0) in
    let label : now.label ≡ (trans_at L (get_or ns i 0)).label = ap (λ ts. (get_or ts (get_or ns i 0) (trans 0 0 0)).label) c.transitions.ensures.list in
    elim (cases_eq (trans_at L (get_or ns k 0)).label now.label) [
      | inl e ↦ ap (λ x. cell_of made w x q) e ∙ c.clear_table_row.ensures.here q near
      | inr apart ↦
          let before : k < i = elim (cases_eq k i) [
            | inl f ↦ absurd (apart (ap (λ j. (trans_at L (get_or ns j 0)).label) f ∙ sym label))
            | inr far ↦ omega arith
          ] in
          c.clear_table_row.ensures.others (trans_at L (get_or ns k 0)).label q near apart ∙ c.loop-i.invariant k q before near
    ]

pub returns : goal.returns
returns c = λ p a q move near.
    let L = c.args.places.now in
    let ns = c.predecessors-before.result.now in
    let made = c.loop-i.made in
    let w : ℕ = c.args.width in
    let (k, k_in, is) = moves_in_incoming L c.args.to ns c.predecessors-before.ensures.list p a move in
    let e : (trans_at L (get_or ns k 0)).label ≡ a = ap (λ (u : Trans). u.label) is in
    subst (λ x. cell_of made w x q ≡ false) e (c.loop-i.invariant k q (omega (arith, k_in, c.loop-i-test.false)) near)
