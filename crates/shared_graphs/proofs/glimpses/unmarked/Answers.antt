use Rattle.std.proofs.Common.{ℕ, [], ◌∷◌, inl, subst}
use Rattle.auto_core.specs.Rows.{HasBit}
use Rattle.graph_rows.specs.Block.{block_graph}
use Rattle.shared_graphs.proofs.GlimpseLemmas.{no_bit}
use Rattle.shared_graphs.proofs.glimpses.unmarked.Goals as goal

pub returns : goal.returns
returns c =
    let block = c.args.block.now in
    let P : ℕ → ℕ → Type 0 = λ n i. (q : ℕ) → HasBit (c.entered_word.result ∷ []) q → (block_graph n block).joined i q in
    record {
      entered = subst (λ i. P c.args.second.now.states i) c.initial.ensures.state (subst (λ n. P n c.initial.result) c.states.ensures.count c.entered_word.ensures);
      looping = λ q bit. absurd (no_bit q bit);
      row = inl c.new.ensures.items;
    }
