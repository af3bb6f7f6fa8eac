use Rattle.std.proofs.Common.{◌-◌, sym, arith, get_or, ◌∙◌}
use Rattle.auto_core.specs.Automaton.{trans}
use Rattle.auto_core.proofs.Order.{same_trans}
use Rattle.std.proofs.lemmas.List.{get_or_default}
use Rattle.auto_core.proofs.tables.has_equal_neighbours.Goals as goal

pub returns-then-eq-clause-found : goal.returns-then-eq-clause-found
returns-then-eq-clause-found c =
    let xs = c.args.transitions.now in
    let i = c.loop-i.i in
    let same = same_trans (get_or xs (i - 1) (trans 0 0 0)) (get_or xs i (trans 0 0 0)) (sym c.if-eq.true ∙ c.eq.ensures) in (
      i - 1,
      i,
      λ e. omega arith,
      omega arith,
      c.loop-i-test.true,
      λ d. get_or_default xs (i - 1) d (trans 0 0 0) (omega arith) ∙ same ∙ get_or_default xs i (trans 0 0 0) d c.loop-i-test.true,
    )
