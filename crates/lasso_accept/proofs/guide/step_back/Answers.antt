use Rattle.std.proofs.Common.{◌≡◌, ◌-◌, ◌*◌, ◌<◌, ℕ, List, sym, subst, ◌∙◌}
use Rattle.auto_core.specs.Rows.{bit_of, cell_of}
use Rattle.bit_rows.proofs.WordLemmas.{first_cell}
use Rattle.lasso_accept.proofs.GuideLemmas.{row_back}
use Rattle.lasso_accept.proofs.guide.step_back.Goals as goal

pub returns-clause-here : goal.returns-clause-here
returns-clause-here c = λ p p_in.
    let A = c.args.automaton.now in
    let w : ℕ = c.args.width in
    let table : List ℕ = c.args.table.now in
    let row : List ℕ = c.copy_from_slice.new.self in
    let out : List ℕ = c.write_row.new.table in
    let B : List ℕ → Type 0 = λ xs. (q : ℕ) → q < w * 64 → bit_of xs q ≡ cell_of table w c.args.at q in
    let back = row_back A c.requires.valid c.args.label w c.args.at table row c.clear_row.new.row out c.requires.room
    (subst B (sym c.copy_from_slice.ensures.after) c.row_at.ensures.bits) c.clear_row.ensures c.write_row.ensures.here p p_in in
    let same : cell_of c.write_row-2.new.table w (c.args.at - 1) p ≡ cell_of out w 0 p = c.write_row-2.ensures.here p p_in ∙ sym (first_cell out w p) in
    (λ h. back.0 (sym same ∙ h), λ h. same ∙ back.1 h)
