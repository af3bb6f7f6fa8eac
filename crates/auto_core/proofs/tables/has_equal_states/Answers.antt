use Rattle.std.proofs.Common.{◌≡◌, ◌-◌, arith, rules, get_or, ◌∙◌}
use Rattle.std.proofs.lemmas.List.{get_or_default}
use Rattle.auto_core.proofs.tables.has_equal_states.Goals as goal

pub returns-then-states-i-clause-found : goal.returns-then-states-i-clause-found
returns-then-states-i-clause-found c =
    let xs = c.args.states.now in
    let i = c.loop-i.i in
    let same : get_or xs (i - 1) 0 ≡ get_or xs i 0 = search rules in (
      i - 1,
      i,
      λ e. omega arith,
      omega arith,
      c.loop-i-test.true,
      λ d. get_or_default xs (i - 1) d 0 (omega arith) ∙ same ∙ get_or_default xs i 0 d c.loop-i-test.true,
    )
