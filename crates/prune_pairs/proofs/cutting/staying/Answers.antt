use Rattle.std.proofs.Common.{◌≡◌, ◌+◌, ◌++◌, ◌∷◌, [], ℕ, true, false, not, map, filter, get_or, sym, ap, ◌∙◌}
use Rattle.std.specs.List.{range_with_len}
use Rattle.auto_core.specs.Automaton.{trans_at, trans}
use Rattle.prune_pairs.specs.Staying.{stays_in}
use Rattle.prune_pairs.proofs.CutLemmas.{more_mapped}
use Rattle.prune_pairs.proofs.cutting.staying.Goals as goal
use Rattle.prune_pairs.proofs.cutting.staying.Goals.{then-not-is_listed+in_ok-push, else-not-is_listed}

pub loop-at-preserved : goal.loop-at-preserved
loop-at-preserved c =
    let A = c.args.automaton.now in
    let gone = c.args.gone.now in
    let n : ℕ = c.loop-at.at in
    let made = c.loop-at.made.items in
    let read : get_or c.transitions-transitions.result.now n (trans 0 0 0) ≡ trans_at A n = ap (λ l. get_or l n (trans 0 0 0)) c.transitions-transitions.ensures.list in
    elim c.if-not-is_listed.branch as (λ _. c.if-not-is_listed.made.items ≡ map (trans_at A) (filter (stays_in gone) (range_with_len 0 (n + 1)))) [
      | then-not-is_listed+in_ok-push w ↦
          more_mapped (trans_at A) (stays_in gone) n made c.if-not-is_listed.made.items true (ap not (sym w.if-not-is_listed.true ∙ c.is_listed.ensures)) c.loop-at.invariant
          (ap (λ v. v.items) w.made-is ∙ w.in_ok-push.ensures.items ∙ ap (λ x. made ++ x ∷ []) read)
      | else-not-is_listed w ↦
          more_mapped (trans_at A) (stays_in gone) n made c.if-not-is_listed.made.items false (ap not (sym w.if-not-is_listed.false ∙ c.is_listed.ensures)) c.loop-at.invariant
          (ap (λ v. v.items) w.made-is)
    ]
