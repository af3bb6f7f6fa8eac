use Rattle.std.proofs.Common.{◌≡◌, ℕ, List, subst}
use Rattle.auto_core.specs.Reach.{HasArc, AreReached}
use Rattle.auto_core.proofs.ReachLemmas.{returned}
use Rattle.auto_core.proofs.reach.returns_to.Goals as goal

pub returns : goal.returns
returns c =
    let copied : c.copy_from_slice.new.self ≡ c.row_at.result.now = c.copy_from_slice.ensures.after in
    let R = HasArc c.args.any.now c.args.count c.args.width in
    let P : List ℕ → Type 0 = λ row. AreReached R row c.reach.new.marks in
    rw c.has_bit.ensures
    (returned c.args.any.now c.args.flagged.now c.args.count c.args.width c.args.at c.requires.flagged c.requires.place
    c.row_at.result.now c.reach.new.marks c.row_at.ensures.bits c.row_at.ensures.outside (subst P copied c.reach.ensures.reached))
