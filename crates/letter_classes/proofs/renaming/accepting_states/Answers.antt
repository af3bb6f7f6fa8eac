use Rattle.std.proofs.Common.{◌≡◌, ◌+◌, ℕ, true, false, filter, sym, ap, ◌∙◌}
use Rattle.std.specs.List.{range_with_len}
use Rattle.auto_core.specs.Automaton.{is_accepting}
use Rattle.letter_classes.proofs.RenamingLemmas.{more_states}
use Rattle.letter_classes.proofs.renaming.accepting_states.Goals as goal
use Rattle.letter_classes.proofs.renaming.accepting_states.Goals.{then-accepting+in_ok-push, else-accepting}

pub loop-state-preserved : goal.loop-state-preserved
loop-state-preserved c =
    let A = c.args.automaton.now in
    let n : ℕ = c.loop-state.state in
    let made = c.loop-state.made.items in
    elim c.if-accepting.branch as (λ _. c.if-accepting.made.items ≡ filter (is_accepting A) (range_with_len 0 (n + 1))) [
      | then-accepting+in_ok-push w ↦
          more_states A n made c.if-accepting.made.items true (sym w.if-accepting.true ∙ c.accepting.ensures.test) c.loop-state.invariant
          (ap (λ v. v.items) w.made-is ∙ w.in_ok-push.ensures.items)
      | else-accepting w ↦
          more_states A n made c.if-accepting.made.items false (sym w.if-accepting.false ∙ c.accepting.ensures.test) c.loop-state.invariant
          (ap (λ v. v.items) w.made-is)
    ]
