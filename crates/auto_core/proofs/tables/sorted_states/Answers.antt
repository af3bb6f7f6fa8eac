use Rattle.std.proofs.Common.{◌≡◌, ◌+◌, ◌≤◌, arith, rules, get_or, IsSorted, nat_cmp}
use Rattle.std.specs.List.Sorted.{IsPermutation}
use Rattle.std.proofs.lemmas.List.Sorted.{IsNonDecreasingBy-from_sort}
use Rattle.auto_core.proofs.Order.{repeat_back}
use Rattle.auto_core.specs.Automaton.{HasRepeat}
use Rattle.auto_core.proofs.tables.sorted_states.Goals as goal

pub returns-then-has_equal_states-clause-repeat : goal.returns-then-has_equal_states-clause-repeat
returns-then-has_equal_states-clause-repeat c = λ _.
    let same : IsPermutation c.args.states.now c.sort.new.self.items = search rules in
    let found : HasRepeat c.sort.new.self.items = search rules in
    repeat_back c.args.states.now c.sort.new.self.items same found

pub returns-clause-ascending : goal.returns-clause-ascending
returns-clause-ascending c = λ k k_in.
    let xs = c.sort.new.self.items in
    let sorted : IsSorted nat_cmp xs = search rules in
    let up : get_or xs k 0 ≤ get_or xs (k + 1) 0 = IsNonDecreasingBy-from_sort (λ x. x) xs sorted k (k + 1) 0 (omega arith) k_in in
    let apart : ¬ (get_or xs k 0 ≡ get_or xs (k + 1) 0) = search rules in
    omega arith
