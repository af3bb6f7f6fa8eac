use Rattle.std.proofs.Common.{◌≡◌, ◌+◌, ◌≤◌, ◌&&◌, ◌++◌, ◌∷◌, [], ℕ, true, false, map, filter, get_or, sym, ap, ◌∙◌, arith}
use Rattle.std.specs.List.{range_with_len}
use Rattle.auto_core.specs.Automaton.{is_accepting}
use Rattle.auto_core.specs.Useful.{new_number}
use Rattle.useful_states.specs.KeptParts.{has}
use Rattle.useful_states.proofs.PartLemmas.{more_accepting}
use Rattle.useful_states.proofs.keeping.accepting_kept.Goals as goal
use Rattle.useful_states.proofs.keeping.accepting_kept.Goals.{then-stays_accepting+in_ok-push, else-stays_accepting}

pub loop-state-preserved : goal.loop-state-preserved
loop-state-preserved c =
    let A = c.args.automaton.now in
    let kept = c.args.kept.now.members in
    let n : ℕ = c.loop-state.state in
    let made = c.loop-state.made.items in
    let near : n ≤ A.states = omega arith in
    let number : get_or c.args.numbers.now n 0 ≡ new_number A kept n = c.requires.numbers.each n near in
    elim c.if-stays_accepting.branch as (λ _. c.if-stays_accepting.made.items ≡ map (new_number A kept) (filter (λ q. has kept q && is_accepting A q) (range_with_len 0 (n + 1)))) [
      | then-stays_accepting+in_ok-push w ↦
          more_accepting A kept n made c.if-stays_accepting.made.items true (sym w.if-stays_accepting.true ∙ c.stays_accepting.ensures) c.loop-state.invariant
          (ap (λ v. v.items) w.made-is ∙ w.in_ok-push.ensures.items ∙ ap (λ x. made ++ x ∷ []) number)
      | else-stays_accepting w ↦
          more_accepting A kept n made c.if-stays_accepting.made.items false (sym w.if-stays_accepting.false ∙ c.stays_accepting.ensures) c.loop-state.invariant
          (ap (λ v. v.items) w.made-is)
    ]
