use Rattle.std.proofs.Common.{◌<◌, ℕ, true, sym, subst}
use Rattle.std.specs.Vec.{with_item}
use Rattle.auto_core.specs.Members.{Members, Gains}
use Rattle.auto_core.proofs.SetLemmas.{flagged, valid_set, flag_gained}
use Rattle.auto_core.proofs.state_set.StateSet.add.Goals as goal

pub returns-clause-members : goal.returns-clause-members
returns-clause-members c =
    let flags = c.self.inside.flags in
    let n : ℕ = c.self.inside.states in
    let q : ℕ = c.args.state in
    let P : Members → Type 0 = λ S. q < S.states in
    let q_in : q < n = subst P (sym c.self.view_is) c.requires in
    let T : Members → Type 0 = λ S. Gains S (record { states = n; members = flagged (with_item flags q true).items n }) q in
    subst T c.self.view_is (flag_gained flags.items n q c.self.invariant q_in)

pub returns-clause-valid : goal.returns-clause-valid
returns-clause-valid c = valid_set (with_item c.self.inside.flags c.args.state true).items c.self.inside.states
