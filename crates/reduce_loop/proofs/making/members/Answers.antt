use Rattle.std.proofs.Common.{◌≡◌, ◌+◌, ℕ, true, false, filter, sym, ◌∙◌, subst, arith}
use Rattle.std.specs.List.{range_with_len}
use Rattle.prune_pairs.proofs.CutLemmas.{more_numbers}
use Rattle.reduce_loop.proofs.MakingLemmas.{is_member, members_rise, same_as_members}
use Rattle.reduce_loop.proofs.making.members.Goals as goal
use Rattle.reduce_loop.proofs.making.members.Goals.{then-has+in_ok-push, else-has}

pub loop-state-preserved : goal.loop-state-preserved
loop-state-preserved c =
    let test = is_member c.args.set.now.members in
    let n : ℕ = c.loop-state.state in
    let made = c.loop-state.made in
    elim c.if-has.branch as (λ _. c.if-has.made ≡ filter test (range_with_len 0 (n + 1))) [
      | then-has+in_ok-push w ↦
          more_numbers test n made c.if-has.made true (sym w.if-has.true ∙ c.has.ensures.test) c.loop-state.invariant (w.made-is ∙ w.in_ok-push.ensures.ok)
      | else-has w ↦
          more_numbers test n made c.if-has.made false (sym w.if-has.false ∙ c.has.ensures.test) c.loop-state.invariant w.made-is
    ]

pub returns-clause-ascending : goal.returns-clause-ascending
returns-clause-ascending c =
    let S = c.args.set.now in
    let all : c.loop-state.state ≡ S.states = omega arith in
    members_rise S c.loop-state.made (subst (λ n. c.loop-state.made ≡ filter (is_member S.members) (range_with_len 0 n)) all c.loop-state.invariant)

pub returns-clause-members : goal.returns-clause-members
returns-clause-members c =
    let S = c.args.set.now in
    let all : c.loop-state.state ≡ S.states = omega arith in
    same_as_members S (λ q h. let lt = c.requires.below q h in omega arith) c.loop-state.made (subst (λ n. c.loop-state.made ≡ filter (is_member S.members) (range_with_len 0 n)) all c.loop-state.invariant)
