use Rattle.std.proofs.Common.{◌≡◌, ℕ, ◌+◌, ◌*◌, ◌/◌, ◌%◌, ◌<◌, inl, inr, List, length, get_or, sym, ap, ◌∙◌, subst, arith}
use Rattle.auto_core.specs.Automaton.{trans, trans_at}
use Rattle.auto_core.specs.Rows.{bit_of, cell_of}
use Rattle.auto_core.specs.declared.parts.Trans.{Trans}
use Rattle.delayed_game.proofs.BlockLemmas.{AreRowsNoted, noted_none, noted_passed, noted_more}
use Rattle.delayed_game.proofs.blocks.note_turned.Goals as goal
use Rattle.delayed_game.proofs.blocks.note_turned.Goals.{then-step-label+then-to-block, then-step-label+else-to-block, else-step-label}

pub loop-number-init : goal.loop-number-init
loop-number-init c = noted_none c.args.places.now c.args.answered.now c.args.turned.now c.args.width c.args.label c.args.block

pub loop-number-preserved : goal.loop-number-preserved
loop-number-preserved c =
    let L = c.args.places.now in
    let old = c.args.answered.now in
    let now = c.loop-number.answered in
    let turned = c.args.turned.now in
    let w : ℕ = c.args.width in
    let a : ℕ = c.args.label in
    let b : ℕ = c.args.block in
    let n : ℕ = c.loop-number.number in
    let m : Trans = get_or c.transitions-steps.result.now n (trans 0 0 0) in
    let is : m ≡ trans_at L n = ap (λ ts. get_or ts n (trans 0 0 0)) c.transitions-steps.ensures.list in
    let label_is : m.label ≡ (trans_at L n).label = ap (λ (x : Trans). x.label) is in
    let to_is : m.target ≡ (trans_at L n).target = ap (λ (x : Trans). x.target) is in
    let P : List ℕ → Type 0 = λ answered. AreRowsNoted L old answered turned w a b (n + 1) in
    elim c.if-step-label.branch [
      | then-step-label+then-to-block v ↦
          let bits = subst (λ (x : ℕ). (q : ℕ) → q < w * 64 → bit_of v.row_at.result.now q ≡ cell_of turned w (x % 64) q) to_is v.row_at.ensures.bits in
          subst P (sym v.answered-is)
          (noted_more L old now v.or_row.new.table turned v.row_at.result.now w a b n (sym label_is ∙ v.if-step-label.true) (ap (λ x. x / 64) (sym to_is) ∙ v.if-to-block.true)
          bits v.or_row.ensures.here v.or_row.ensures.others c.loop-number.invariant)
      | then-step-label+else-to-block v ↦
          subst P (sym v.answered-is) (noted_passed L old now turned w a b n (λ label into. v.if-to-block.false (ap (λ x. x / 64) to_is ∙ into)) c.loop-number.invariant)
      | else-step-label v ↦ subst P (sym v.answered-is) (noted_passed L old now turned w a b n (λ label into. v.if-step-label.false (label_is ∙ label)) c.loop-number.invariant)
    ]

pub returns : goal.returns
returns c = λ t q t_in near.
    let was = c.loop-number.invariant t q t_in near in
    let all : t < c.loop-number.number = omega (arith, c.loop-number-test.false, ap length c.transitions-steps.ensures.list) in (
      λ cell. elim (was.0 cell) [ inl first ↦ inl first | inr is ↦ inr (is.1, is.2, is.3) ],
      λ either. was.1 (elim either [ inl first ↦ inl first | inr is ↦ inr (all, is.0, is.1, is.2) ]),
    )
