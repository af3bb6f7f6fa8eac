use Rattle.std.proofs.Common.{ℕ, ◌*◌, sym, ◌∙◌, arith}
use Rattle.delayed_game.proofs.BlockLemmas.{rest_cell, rest_fits}
use Rattle.delayed_game.proofs.blocks.write_words.Goals as goal

pub transpose-requires-clause-table : goal.transpose-requires-clause-table
transpose-requires-clause-table c =
    let first : ℕ = c.args.block * 64 in
    rest_fits c.args.fresh.now c.args.width first c.min-count.result c.args.places c.requires.fresh (omega (arith, c.min-count.ensures, c.requires.block))

pub returns : goal.returns
returns c = λ q j q_in j_in.
    let first : ℕ = c.args.block * 64 in
    let turned = c.transpose.ensures q j q_in j_in in
    let same = rest_cell c.args.fresh.now c.args.width first j q in
    let count = c.min-count.ensures in (
      λ cell. let is = turned.0 cell in let lt = is.0 in (omega arith, sym same ∙ is.1),
      λ is. let lt = is.0 in turned.1 (omega arith, same ∙ is.1),
    )
