use Rattle.std.proofs.Common.{ℕ, ◌^◌, ◌<◌, List, get_or, sym, ◌∙◌, rules}
use Rattle.std.proofs.Math.Facts.{Fits-lt-pow}
use Rattle.std.proofs.lemmas.Bool.{false≢true}
use Rattle.graph_rows.proofs.SameLemmas.{joined_same, past_same, planes_same}
use Rattle.graph_rows.proofs.block.same.Goals as goal

pub returns-then-are_equal : goal.returns-then-are_equal
returns-then-are_equal c =
    let n : ℕ = c.args.n in
    let g : List ℕ = c.args.g.now in
    let h : List ℕ = c.args.h.now in
    let g_fits : (k : ℕ) → get_or g k 0 < 2 ^ 64 = λ k. Fits-lt-pow (c.type_inv.g k) in
    let h_fits : (k : ℕ) → get_or h k 0 < 2 ^ 64 = λ k. Fits-lt-pow (c.type_inv.h k) in (
      λ told. planes_same n g h (search rules) (search rules),
      λ same. search (rules, past_same n g h c.requires.first c.requires.second g_fits h_fits same),
    )

pub returns-else-are_equal : goal.returns-else-are_equal
returns-else-are_equal c =
    let n : ℕ = c.args.n in
    let g : List ℕ = c.args.g.now in
    let h : List ℕ = c.args.h.now in
    let g_fits : (k : ℕ) → get_or g k 0 < 2 ^ 64 = λ k. Fits-lt-pow (c.type_inv.g k) in
    let h_fits : (k : ℕ) → get_or h k 0 < 2 ^ 64 = λ k. Fits-lt-pow (c.type_inv.h k) in (
      λ told. absurd (false≢true (sym c.if-are_equal.false ∙ told)),
      λ same. search (rules, joined_same n g h c.requires.first c.requires.second g_fits h_fits same),
    )
