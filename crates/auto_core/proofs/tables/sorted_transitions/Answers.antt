use Rattle.std.proofs.Common.{◌≡◌, ◌+◌, rules, get_or, false, subst}
use Rattle.std.specs.List.Sorted.{IsPermutation}
use Rattle.std.specs.Ordering.{is_lt}
use Rattle.auto_core.specs.contracts.parts.TransOrd.TheImpl.{cmp-value}
use Rattle.auto_core.proofs.Order.{rises, repeat_back, ascends}
use Rattle.auto_core.specs.Automaton.{HasRepeat, IsAscending, trans}
use Rattle.auto_core.proofs.tables.sorted_transitions.Goals as goal

pub returns-then-has_equal_neighbours-clause-repeat : goal.returns-then-has_equal_neighbours-clause-repeat
returns-then-has_equal_neighbours-clause-repeat c = λ _.
    let same : IsPermutation c.args.transitions.now c.sort.new.self.items = search rules in
    let found : HasRepeat c.sort.new.self.items = search rules in
    repeat_back c.args.transitions.now c.sort.new.self.items same found

pub returns-clause-ascending : goal.returns-clause-ascending
returns-clause-ascending c =
    ascends c.sort.new.self.items (λ k k_in.
    let d = trans 0 0 0 in
    let up : is_lt (cmp-value.it (get_or c.sort.new.self.items (k + 1) d) (get_or c.sort.new.self.items k d)) ≡ false = search rules in
    rises (get_or c.sort.new.self.items k d) (get_or c.sort.new.self.items (k + 1) d) up (search rules))

pub returns-then-is_ascending-clause-ascending : goal.returns-then-is_ascending-clause-ascending
returns-then-is_ascending-clause-ascending c = subst IsAscending c.deref.ensures.value (c.is_ascending.ensures c.if-is_ascending.true)
