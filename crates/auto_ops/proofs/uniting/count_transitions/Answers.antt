use Rattle.std.proofs.Common.{◌≡◌, ◌+◌, ℕ, length, map, ap, arith, length-append}
use Rattle.std.proofs.lemmas.List.{length-map}
use Rattle.auto_core.specs.Automaton.{Automaton}
use Rattle.auto_ops.specs.Union.{second_offset}
use Rattle.auto_ops.specs.UnionParts.{shifted, copied, first_moves, transitions_of_one, union_transitions}
use Rattle.auto_ops.proofs.uniting.count_transitions.Goals as goal

one_length : (A : Automaton) (offset : ℕ) → length (transitions_of_one A offset) ≡ length A.transitions + length (first_moves A)
one_length A offset =
    let e = length-append (map (shifted offset) A.transitions) (map (copied offset) (first_moves A)) in
    let f = length-map A.transitions (shifted offset) in
    let g = length-map (first_moves A) (copied offset) in
    omega arith

both_length : (A B : Automaton) → length (union_transitions A B) ≡ (length A.transitions + length (first_moves A)) + (length B.transitions + length (first_moves B))
both_length A B =
    let e = length-append (transitions_of_one A 1) (transitions_of_one B (second_offset A)) in
    let f = one_length A 1 in
    let g = one_length B (second_offset A) in
    omega arith

pub overflow_add-of_first : goal.overflow_add-of_first
overflow_add-of_first c = omega (arith, c.transitions.ensures.valid.few, c.count_first.ensures.few, ap length c.transitions.ensures.list)

pub overflow_add-of_second : goal.overflow_add-of_second
overflow_add-of_second c = omega (arith, c.transitions-2.ensures.valid.few, c.count_first-2.ensures.few, ap length c.transitions-2.ensures.list)

pub overflow_add-result : goal.overflow_add-result
overflow_add-result c =
    omega (arith, c.transitions.ensures.valid.few, c.count_first.ensures.few, ap length c.transitions.ensures.list, c.transitions-2.ensures.valid.few, c.count_first-2.ensures.few, ap length c.transitions-2.ensures.list)

pub returns : goal.returns
returns c =
    omega (arith, both_length c.args.first.now c.args.second.now, c.count_first.ensures.count, c.count_first-2.ensures.count, ap length c.transitions.ensures.list, ap length c.transitions-2.ensures.list)
