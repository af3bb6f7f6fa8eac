use Rattle.std.proofs.Common.{length, sym, ap, ◌∙◌, arith}
use Rattle.shared_graphs.specs.Graphs.{AsTheyAre}
use Rattle.cert_check.specs.Supers.{block_len}
use Rattle.cert_check.proofs.SuperLemmas.{stock_at_first}
use Rattle.cert_check.proofs.elements.checked_elements.Goals as goal

pub fill-requires-clause-none : goal.fill-requires-clause-none
fill-requires-clause-none c = record {
  count = ap length c.new.ensures.items;
  size = ap length c.new-2.ensures.items;
  stock = stock_at_first c.args.mode c.args.second.now c.in_ok-new.field-0
      (c.in_ok-new.ensures.words ∙ c.new-pool.ensures.words ∙ c.words_in.ensures.words ∙ ap (block_len c.args.mode) c.states.ensures.count)
      (λ is. c.in_ok-new.ensures.stock c.args.second.now AsTheyAre (sym c.in_ok-new.ensures.words ∙ is));
  within = λ e lt. absurd (omega arith);
  each = λ e lt. absurd (omega arith);
}
