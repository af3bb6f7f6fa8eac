use Rattle.std.proofs.Common.{◌≡◌, ℕ, ◌<◌, slice_index, ap, sym, ◌∙◌}
use Rattle.auto_core.specs.Rows.{bit_of, cell_of}
use Rattle.look_round.proofs.kinds.write_matches.Goals as goal

pub returns-in-Some : goal.returns-in-Some
returns-in-Some g c =
    let A = c.args.automaton.now in
    let side = c.args.side.now in
    let p = c.args.p in
    let s : ℕ = slice_index c.args.kinds.now c.in-Some.i in
    let w = c.args.width in
    let found = c.in-Some.ensures in
    let joins = g.met.S.Side.joins side A in
    let s_in : s < p = c.requires.kinds c.in-Some.i 0 found.0 in
    λ q near.
    let same : bit_of c.copy_from_slice.new.self q ≡ cell_of c.args.table.now w s q = ap (λ row. bit_of row q) c.copy_from_slice.ensures.after ∙ c.row_at.ensures.bits q near in
    let row = c.requires.before s q s_in near in (
      λ h. let is = row.0 (sym same ∙ h) in (is.0, joins p s q found.1.0 is.1),
      λ is. same ∙ row.1 (is.0, joins s p q found.1.1 is.1),
    )
