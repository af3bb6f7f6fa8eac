use Rattle.std.proofs.Common.{◌≡◌, ◌↔◌, ◌*◌, ℕ, ◌<◌, ◌≤◌, false, List, IsTrue, arith, rules}
use Rattle.auto_core.specs.Rows.{bit_of, cell_of}
use Rattle.auto_core.specs.Reach.{HasArc, HasFlaggedCycle}
use Rattle.auto_laws.proofs.AppliedGraphLemmas.{lassos_are_cycles}
use Rattle.graph_rows.specs.Block.{width_of, joined_plane, past_plane}
use Rattle.graph_rows.proofs.ArcLemmas.{row_marks}
use Rattle.lasso_test.proofs.passing.passes.Goals as goal

pub returns-clause-told : goal.returns-clause-told
returns-clause-told c =
    let n : ℕ = c.args.n in
    let w : ℕ = width_of n in
    let g : List ℕ = c.args.g.now in
    let h : List ℕ = c.args.h.now in
    let i : ℕ = c.args.initial in
    let row : List ℕ = c.row_at-entered.result.now in
    let i_in : i < n = omega (arith, c.if-initial-n.false) in
    let cycles : IsTrue c.has_flagged_cycle.result ↔ HasFlaggedCycle (HasArc (joined_plane n h) n w) (HasArc (past_plane n h) n w) row = search rules in
    let inside : (q : ℕ) → q < w * 64 → bit_of row q ≡ cell_of (joined_plane n g) w i q = search rules in
    let outside : (q : ℕ) → w * 64 ≤ q → bit_of row q ≡ false = search rules in
    let law = lassos_are_cycles (joined_plane n g) (past_plane n g) (joined_plane n h) (past_plane n h) row n w i c.requires.second.within
    (row_marks (joined_plane n g) row n w i c.requires.first.joined i_in inside outside) in
    (λ told. law.1 (cycles.0 told), λ lasso. cycles.1 (law.0 lasso))
