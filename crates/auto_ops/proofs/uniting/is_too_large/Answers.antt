use Rattle.std.proofs.Common.{◌<◌, ℕ, inr, subst}
use Rattle.std.proofs.lemmas.Bool.{ltb-true}
use Rattle.auto_ops.proofs.UnionLemmas.{union_many}
use Rattle.auto_ops.proofs.uniting.is_too_large.Goals as goal

pub returns-clause-yes : goal.returns-clause-yes
returns-clause-yes c = λ h.
    let A = c.args.first.now in
    let B = c.args.second.now in
    let many : 65536 < c.count_transitions.result = ltb-true 65536 c.count_transitions.result h in
    let P : ℕ → Type 0 = λ n. 65536 < n in
    inr (inr (union_many A B c.states.ensures.valid c.states-2.ensures.valid 65536 (subst P c.count_transitions.ensures many)))
