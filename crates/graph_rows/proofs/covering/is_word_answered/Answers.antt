use Rattle.std.proofs.Common.{◌≡◌, ◌*◌, ◌+◌, ◌/◌, ◌^◌, ◌<◌, ℕ, [], ◌∷◌, List, true, false, inl, inr, get_or, bit_and, w64, refl, sym, ◌∙◌, subst, arith, rules}
use Rattle.std.specs.Int.{bit_not}
use Rattle.std.proofs.lemmas.Bool.{cases_eq, false≢true}
use Rattle.auto_core.specs.Rows.{HasBit}
use Rattle.auto_core.specs.Reach.{HasArc}
use Rattle.auto_core.specs.Game.{Holds}
use Rattle.graph_rows.specs.Covering.{IsTargetAnswered}
use Rattle.graph_rows.proofs.ArcLemmas.{row_marks}
use Rattle.graph_rows.proofs.CoveringLemmas.{bit_below, bit_in_row, kept_bit, word_answered}
use Rattle.graph_rows.proofs.covering.is_word_answered.Goals as goal

pub loop-row-init : goal.loop-row-init
loop-row-init c = λ s t below. absurd (omega arith)

pub are_answered-requires-clause-states : goal.are_answered-requires-clause-states
are_answered-requires-clause-states c = λ j bit.
    let n : ℕ = c.args.order.now.size in
    let in_row : c.loop-row.row < n = search rules in
    let w : ℕ = c.args.width in
    let word : ℕ = c.args.word in
    let targets : List ℕ = c.row_at.result.now in
    let others : List ℕ = c.row_at-other_targets.result.now in
    let own : HasBit (get_or targets word 0 ∷ []) j = kept_bit (get_or targets word 0) (bit_not w64 (bit_and (get_or others word 0) c.own_answers-themselves.result)) j bit in
    let arc : HasArc c.args.arcs.now n w c.loop-row.row (word * 64 + j) =
    (row_marks c.args.arcs.now targets n w c.loop-row.row c.requires.arcs in_row c.row_at.ensures.bits c.row_at.ensures.outside (word * 64 + j)).0 (bit_in_row targets word j own) in
    arc.1

pub returns-then-not-are_answered : goal.returns-then-not-are_answered
returns-then-not-are_answered c =
    let n : ℕ = c.args.order.now.size in
    let in_row : c.loop-row.row < n = search rules in
    let w : ℕ = c.args.width in
    let word : ℕ = c.args.word in
    let row : ℕ = c.loop-row.row in
    let targets : List ℕ = c.row_at.result.now in
    let others : List ℕ = c.row_at-other_targets.result.now in
    let refused : c.are_answered.result ≡ false = search rules in
    let kept : ℕ = bit_not w64 (bit_and (get_or others word 0) c.own_answers-themselves.result) in (
      λ told. absurd (false≢true told),
      λ all.
          let every : (j : ℕ) → HasBit (bit_and (get_or targets word 0) kept ∷ []) j → IsTargetAnswered (Holds c.args.order.now.pairs) (HasBit others) (word * 64 + j) = λ j bit.
          let below = bit_below (bit_and (get_or targets word 0) kept) j bit in
          let in_word : (word * 64 + j) / 64 ≡ word = omega (arith, below) in
          let arc : HasArc c.args.arcs.now n w row (word * 64 + j) =
          (row_marks c.args.arcs.now targets n w row c.requires.arcs in_row c.row_at.ensures.bits c.row_at.ensures.outside (word * 64 + j)).0
          (bit_in_row targets word j (kept_bit (get_or targets word 0) kept j bit)) in
          let (u, other, rel) = all row (word * 64 + j) in_word arc in
          (u, (row_marks c.args.other_arcs.now others n w row c.requires.other_arcs in_row c.row_at-other_targets.ensures.bits c.row_at-other_targets.ensures.outside u).1 other, rel) in
          absurd (false≢true (sym refused ∙ c.are_answered.ensures.1 every)),
    )

pub loop-row-preserved : goal.loop-row-preserved
loop-row-preserved c = λ s t below in_word arc.
    let n : ℕ = c.args.order.now.size in
    let in_row : c.loop-row.row < n = search rules in
    let w : ℕ = c.args.width in
    let word : ℕ = c.args.word in
    let row : ℕ = c.loop-row.row in
    let targets : List ℕ = c.row_at.result.now in
    let others : List ℕ = c.row_at-other_targets.result.now in
    let S : ℕ → ℕ → Type 0 = Holds c.args.order.now.pairs in
    let told : c.are_answered.result ≡ true = search rules in
    let fits : get_or others word 0 < 2 ^ 64 = search rules in
    let own_fits : c.own_answers-themselves.result < 2 ^ 64 = search rules in
    elim (cases_eq s row) [
      | inl e ↦
          let here : HasArc c.args.arcs.now n w row t = subst (λ k. HasArc c.args.arcs.now n w k t) e arc in
          let bit : HasBit targets t = (row_marks c.args.arcs.now targets n w row c.requires.arcs in_row c.row_at.ensures.bits c.row_at.ensures.outside t).1 here in
          let (u, other, rel) = word_answered S targets others word c.own_answers-themselves.result fits own_fits c.own_answers-themselves.ensures (c.are_answered.ensures.0 told) t in_word bit in
          let answer : IsTargetAnswered S (HasArc c.args.other_arcs.now n w row) t = (u, (row_marks c.args.other_arcs.now others n w row c.requires.other_arcs in_row c.row_at-other_targets.ensures.bits c.row_at-other_targets.ensures.outside u).0 other, rel) in
          subst (λ k. IsTargetAnswered S (HasArc c.args.other_arcs.now n w k) t) (sym e) answer
      | inr other ↦ c.loop-row.invariant s t (omega arith) in_word arc
    ]

pub returns : goal.returns
returns c = (λ told s t in_word arc. c.loop-row.invariant s t (omega (arith, arc.0)) in_word arc, λ all. refl)
