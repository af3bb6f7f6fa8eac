use Rattle.std.proofs.Common.{◌≡◌, inl, inr, length, sym, ◌∙◌}
use Rattle.std.proofs.lemmas.Bool.{true≢false}
use Rattle.lasso_reading.proofs.PartLemmas.{accepting_numbers, product_parts, product_reads}
use Rattle.lasso_reading.proofs.product.product_with.Goals as goal

pub of_parts-requires : goal.of_parts-requires
of_parts-requires c =
    let A = c.args.automaton.now in
    let pairs = c.expand_all.new.self.pairs.keys in
    let moves = c.expand_all.new.self.moves.items in
    let count : c.len-count.result ≡ length pairs = c.len-count.ensures.len in
    let numbers = accepting_numbers A pairs c.len-count.result c.deref-2.result.now count (c.deref-2.ensures.value ∙ c.in_ok-accepting.ensures) in
    elim c.in_ok-expand_all.ensures [
      | inl (on, whole, fits, (are, are_moves)) ↦
          rw (count, c.labels-labels.ensures.count, c.deref.ensures.value, numbers)
          (product_parts A c.args.classes.now c.args.prefix.now c.args.turn.now c.labels-labels.ensures.valid pairs moves are are_moves)
      | inr (off, many, are) ↦ absurd (true≢false (sym c.if-not-branch.false ∙ off))
    ]

pub returns-clause-reads : goal.returns-clause-reads
returns-clause-reads c =
    let A = c.args.automaton.now in
    let P = c.in_ok-product.product in
    let pairs = c.expand_all.new.self.pairs.keys in
    let moves = c.expand_all.new.self.moves.items in
    let count : c.len-count.result ≡ length pairs = c.len-count.ensures.len in
    let numbers = accepting_numbers A pairs c.len-count.result c.deref-2.result.now count (c.deref-2.ensures.value ∙ c.in_ok-accepting.ensures) in
    elim c.in_ok-expand_all.ensures [
      | inl (on, whole, fits, (are, are_moves)) ↦
          product_reads A c.args.classes.now c.args.prefix.now c.args.turn.now c.labels-labels.ensures.valid pairs moves are are_moves P
          (rw (count, c.labels-labels.ensures.count, c.deref.ensures.value, numbers) at c.in_ok-product.ensures) c.requires.turn
      | inr (off, many, are) ↦ absurd (true≢false (sym c.if-not-branch.false ∙ off))
    ]
