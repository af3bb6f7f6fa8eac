use Rattle.std.proofs.Common.{◌≡◌, ◌==◌, ◌<◌, ◌↔◌, ℕ, false, IsTrue, Contains, get_or, sym, subst, arith}
use Rattle.std.specs.List.{list_any}
use Rattle.std.proofs.lemmas.Grind.{common_steps}
use Rattle.auto_core.specs.Members.{Members, IsSet}
use Rattle.auto_core.proofs.SetLemmas.{valid_set, flag_tells, flag_is}
use Rattle.auto_core.proofs.state_set.StateSet.has.Goals as goal

pub returns-clause-told : goal.returns-clause-told
returns-clause-told c =
    let flags = c.self.inside.flags.items in
    let n : ℕ = c.self.inside.states in
    let q : ℕ = c.args.state in
    let P : Members → Type 0 = λ S. q < S.states in
    let q_in : q < n = subst P (sym c.self.view_is) c.requires in
    let same : c.index.result.now ≡ get_or flags q false = grind (arith, common_steps) in
    let T : Members → Type 0 = λ S. IsTrue c.index.result.now ↔ Contains S.members q in
    subst T c.self.view_is (rw same (flag_tells flags n q q_in))

pub returns-clause-test : goal.returns-clause-test
returns-clause-test c =
    let flags = c.self.inside.flags.items in
    let n : ℕ = c.self.inside.states in
    let q : ℕ = c.args.state in
    let P : Members → Type 0 = λ S. q < S.states in
    let q_in : q < n = subst P (sym c.self.view_is) c.requires in
    let same : c.index.result.now ≡ get_or flags q false = grind (arith, common_steps) in
    let T : Members → Type 0 = λ S. c.index.result.now ≡ list_any (λ x. x == q) S.members in
    subst T c.self.view_is (rw same (flag_is flags n q q_in))

pub returns-clause-valid : goal.returns-clause-valid
returns-clause-valid c =
    let P : Members → Type 0 = λ S. IsSet S in
    subst P c.self.view_is (valid_set c.self.inside.flags.items c.self.inside.states)
