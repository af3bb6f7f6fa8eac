use Rattle.std.proofs.Common.{◌≡◌, ℕ, ◌+◌, ◌<◌, false, length, refl, subst, sym, ap, ◌∙◌, arith}
use Rattle.auto_core.specs.Rows.{HasBit, bit_of}
use Rattle.auto_core.specs.Game.{Holds}
use Rattle.auto_core.specs.Graph.{Graph}
use Rattle.graph_rows.specs.Block.{block_graph}
use Rattle.graph_rows.specs.Prints.{is_past, joined_pairs, picked_source, picked_target}
use Rattle.graph_rows.proofs.PrintLemmas.{own_more, rest_kept, rest_set, unmarked}
use Rattle.graph_rows.proofs.prints.mark_picked.Goals as goal
use Rattle.graph_rows.proofs.prints.mark_picked.Goals.{then-has_picked, else-has_picked, then-answers_pair, else-answers_pair}

pub loop-j-init : goal.loop-j-init
loop-j-init c = (
  λ i bit. absurd (unmarked i (subst (λ l. HasBit l i) c.requires.own bit)),
  λ i below. absurd (omega arith),
  ap length c.requires.own,
  ap length c.requires.answered,
)

pub loop-j-preserved : goal.loop-j-preserved
loop-j-preserved c =
    let n : ℕ = c.args.order.now.size in
    let g : Graph = block_graph n c.args.g.now in
    let j : ℕ = c.loop-j.j in
    let P : ℕ → Type 0 = λ i. joined_pairs g (is_past i) (picked_source n i) (picked_target n i) in
    let Q : ℕ → Type 0 = λ i. (u : ℕ) → joined_pairs g (is_past i) (picked_source n i) u → Holds c.args.order.now.pairs (picked_target n i) u → ⊥ in
    let answered_not : c.answers_pair.result ≡ false → Q j = λ no u has rel.
    c.answers_pair.ensures no u (subst (λ s. joined_pairs g (is_past j) s u) (sym (c.picked_source-p.ensures.is ∙ ap (λ k. picked_source k j) c.size-n.ensures.count)) has) (subst (λ t. Holds c.args.order.now.pairs t u) (sym (c.picked_target-q.ensures.is ∙ ap (λ k. picked_target k j) c.size-n.ensures.count)) rel) in
    let has_it : joined_pairs g (is_past j) c.picked_source-p.result c.picked_target-q.result → P j = λ has.
    subst (λ t. joined_pairs g (is_past j) (picked_source n j) t) (c.picked_target-q.ensures.is ∙ ap (λ k. picked_target k j) c.size-n.ensures.count)
    (subst (λ s. joined_pairs g (is_past j) s c.picked_target-q.result) (c.picked_source-p.ensures.is ∙ ap (λ k. picked_source k j) c.size-n.ensures.count) has) in
    let own : (i : ℕ) → HasBit c.if-has_picked.own i → P i =
    elim c.if-has_picked.branch [
      | then-has_picked w ↦
          subst (λ l. (i : ℕ) → HasBit l i → P i) (sym w.own-is)
          (own_more P c.loop-j.own w.set_bit.new.row j (has_it (c.has_picked.ensures w.if-has_picked.true)) w.set_bit.ensures.others c.loop-j.invariant.0)
      | else-has_picked w ↦ subst (λ l. (i : ℕ) → HasBit l i → P i) (sym w.own-is) c.loop-j.invariant.0
    ] in
    let answered : (i : ℕ) → i < j + 1 → bit_of c.if-answers_pair.answered i ≡ false → Q i =
    elim c.if-answers_pair.branch [
      | then-answers_pair w ↦
          subst (λ l. (i : ℕ) → i < j + 1 → bit_of l i ≡ false → Q i) (sym w.answered-is)
          (rest_set Q c.loop-j.answered w.set_bit-then-answers_pair.new.row j w.set_bit-then-answers_pair.ensures.here w.set_bit-then-answers_pair.ensures.others c.loop-j.invariant.1)
      | else-answers_pair w ↦
          subst (λ l. (i : ℕ) → i < j + 1 → bit_of l i ≡ false → Q i) (sym w.answered-is)
          (rest_kept Q c.loop-j.answered j (answered_not w.if-answers_pair.false) c.loop-j.invariant.1)
    ] in
    (own, answered, c.if-has_picked.auto.own ∙ c.loop-j.invariant.2, c.if-answers_pair.auto.answered ∙ c.loop-j.invariant.3)

pub returns-clause-own : goal.returns-clause-own
returns-clause-own c = λ x is j bit.
    let n : ℕ = c.args.order.now.size in
    (is_past j, picked_source n j, picked_target n j, (c.requires.some, refl, refl, refl), c.loop-j.invariant.0 j (subst (λ l. HasBit l j) (sym is) bit))

pub returns-clause-answered : goal.returns-clause-answered
returns-clause-answered c = λ x is j past p q within none asked u has rel.
    let n : ℕ = c.args.order.now.size in
    let g : Graph = block_graph n c.args.g.now in
    let S : ℕ → ℕ → Type 0 = Holds c.args.order.now.pairs in
    let (some, past_is, p_is, q_is) = asked in
    c.loop-j.invariant.1 j (omega (arith, within)) (subst (λ l. bit_of l j ≡ false) (sym is) none) u
    (subst (λ b. joined_pairs g b (picked_source n j) u) past_is (subst (λ s. joined_pairs g past s u) p_is has))
    (subst (λ t. S t u) q_is rel)
