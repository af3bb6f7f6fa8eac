use Rattle.std.proofs.Common.{◌≡◌, ◌↔◌, ℕ, ◌≤◌, ◌<◌, inl, inr, List, [], ◌∷◌, length, slice_index_or, false, refl, sym, ◌∙◌, subst, arith}
use Rattle.std.proofs.lemmas.Bool.{cases_eq, or_cases, or_parts, false≢true}
use Rattle.auto_core.specs.Graph.{Graph}
use Rattle.auto_core.specs.Reach.{HasArc}
use Rattle.auto_core.specs.Rows.{bit_of, HasBit}
use Rattle.graph_rows.specs.Block.{block_graph, joined_plane, width_of}
use Rattle.graph_rows.specs.Prints.{folded_bit, joined_pairs}
use Rattle.graph_rows.proofs.PrintLemmas.{not_set, one_word, row_arcs}
use Rattle.graph_rows.proofs.prints.mark_all.Goals as goal

pub loop-p-preserved : goal.loop-p-preserved
loop-p-preserved c =
    let n : ℕ = c.args.order.now.size in
    let p : ℕ = c.loop-p.p in
    let inv = c.loop-p.invariant in
    let row : List ℕ = c.row_at-row.result.now in
    let below : p < n = omega (arith, c.loop-p-test.true, c.size-n.ensures.count) in
    let few : n ≤ 64 = c.requires.few in
    let len : length row ≡ 1 = omega (arith, c.row_at-row.ensures.len, c.words_for.ensures, c.size-n.ensures.count) in
    let word : row ≡ slice_index_or row 0 0 ∷ [] = one_word row len in
    let arcs : (q : ℕ) → HasBit row q ↔ HasArc (joined_plane n c.args.g.now) n (width_of n) p q =
    row_arcs n c.args.g.now c.joined-joined.result.now row c.size-n.result c.words_for.result p c.requires.formed c.joined-joined.ensures c.size-n.ensures.count c.words_for.ensures below c.row_at-row.ensures.bits c.row_at-row.ensures.outside in
    record {
      own = λ j bit. elim (or_cases (bit_of c.loop-p.own j) (bit_of (c.turned.result ∷ []) j) (sym (c.add_bits.ensures j) ∙ bit)) [
        | inl was ↦ inv.own j was
        | inr new ↦
            let (q, has, at) = (c.turned.ensures j).0 new in
            let is = (arcs q).0 (subst (λ l. HasBit l q) (sym word) has) in
            (p, q, is.0, is.1, at, is)
      ];
      answered = λ other q earlier within none u has rel.
          let at : ℕ = folded_bit other q in
          let unset = or_parts (bit_of c.loop-p.answered at) (bit_of (c.turned-in-loop-p.result ∷ []) at) (sym (c.add_bits-in-loop-p.ensures at) ∙ none) in
          elim (cases_eq other p) [
            | inl same ↦
                let here = subst (λ z. HasArc (joined_plane n c.args.g.now) n (width_of n) z u) same has in
                let not_answered : bit_of (c.answered_states.result ∷ []) q ≡ false = not_set (bit_of (c.answered_states.result ∷ []) q) (λ is.
                false≢true (sym (subst (λ z. bit_of (c.turned-in-loop-p.result ∷ []) (folded_bit z q) ≡ false) same unset.1) ∙ (c.turned-in-loop-p.ensures (folded_bit p q)).1 (q, is, refl))) in
                c.answered_states.ensures q within not_answered u ((arcs u).1 here) rel
            | inr apart ↦ inv.answered other q (omega (arith, earlier, apart)) within unset.0 u has rel
          ];
      own_len = c.add_bits.auto.into ∙ inv.own_len;
      answered_len = c.add_bits-in-loop-p.auto.into ∙ inv.answered_len;
    }

pub returns-clause-answered : goal.returns-clause-answered
returns-clause-answered c = λ x is j past p q within none asked u has rel.
    let g : Graph = block_graph c.args.order.now.size c.args.g.now in
    let (few, left, right, past_is, at) = asked in
    c.loop-p.invariant.answered p q (omega (arith, left, c.loop-p-test.false, c.size-n.ensures.count)) right
    (subst (λ z. bit_of c.loop-p.answered z ≡ false) (sym at) (subst (λ l. bit_of l j ≡ false) (sym is) none)) u
    (subst (λ b. joined_pairs g b p u) past_is has) rel
