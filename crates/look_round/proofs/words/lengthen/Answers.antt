use Rattle.std.proofs.Common.{◌<◌, slice_index_or, le_refl, sym, ◌∙◌, arith}
use Rattle.std.proofs.lemmas.Nat.{row_fits}
use Rattle.look_round.proofs.words.lengthen.Goals as goal

pub row_at-asked-requires : goal.row_at-asked-requires
row_at-asked-requires g c =
    let kind = slice_index_or c.args.kinds.now c.loop-kind.kind-index 0 in
    let fits = row_fits kind c.args.width c.args.automaton.now.states c.args.width (c.requires.kinds c.loop-kind.kind-index 0 c.loop-kind-test.true) (le_refl c.args.width) in
    let size = c.requires.size in
    omega arith

pub lengthen_by-count-requires-clause-asked : goal.lengthen_by-count-requires-clause-asked
lengthen_by-count-requires-clause-asked g c =
    let kind = slice_index_or c.args.kinds.now c.loop-kind.kind-index 0 in
    let kind_in : kind < c.args.automaton.now.states = c.requires.kinds c.loop-kind.kind-index 0 c.loop-kind-test.true in
    λ r near.
    let bits = c.row_at-asked.ensures.bits r near in
    let is = c.requires.matches kind r kind_in near in
    (λ bit. is.0 (sym bits ∙ bit), λ match. bits ∙ is.1 match)
