use Rattle.std.proofs.Common.{rules, arith, ◌≡◌, ◌*◌, ◌<◌, ◌≤◌, ℕ, zero, suc, length, sym, ◌∙◌}
use Rattle.graph_rows.specs.Block.{width_of}
use Rattle.shared_graphs.specs.Graphs.{FitsLetter, FitsStep}
use Rattle.shared_graphs.proofs.GraphsLemmas.{told_none}
use Rattle.shared_graphs.proofs.graphs.Graphs.new.Goals as goal

-- Blocks with words are those of graphs that have states.
has_states : (n size : ℕ) → 0 < size → size ≡ 2 * n * width_of n → 1 ≤ n
has_states zero size some is = omega arith
has_states (suc n) size some is = omega arith

pub returns-clause-stock : goal.returns-clause-stock
returns-clause-stock c = λ B keeping is.
    let letter_block : length c.in_ok-letter_block.letter_block.items ≡ c.words.result = search rules in
    record {
      some = has_states B.states c.words.result c.words.ensures.positive (c.words.ensures.words ∙ is);
      size = c.in_ok-new.ensures.words ∙ is;
      letter_block = letter_block ∙ c.words.ensures.words ∙ sym c.in_ok-new.ensures.words;
      letters = told_none (FitsLetter B keeping c.in_ok-new.field-0.items) c.in_ok-letters.letters.told.items c.in_ok-letters.ensures;
      steps = told_none (FitsStep B keeping c.in_ok-new.field-0.items) c.in_ok-steps.steps.told.items c.in_ok-steps.ensures;
    }
