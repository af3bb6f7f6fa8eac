use Rattle.std.proofs.Common.{◌<◌, refl, arith}
use Rattle.reduce_loop.proofs.MakingLemmas.{useful_below}
use Rattle.reduce_loop.proofs.making.trim.Goals as goal

pub members-requires-clause-below : goal.members-requires-clause-below
members-requires-clause-below c = λ q h.
    let A = c.args.automaton.now in
    let lt : q < A.states = useful_below A c.args.mode c.in_ok-set.set.members c.states-states.ensures.valid c.in_ok-set.ensures.members q h in
    omega (arith, c.states-states.ensures.count)

pub returns-clause-entry : goal.returns-clause-entry
returns-clause-entry c =
    let set = c.in_ok-set.set in (
      c.in_ok-kept.kept,
      refl,
      record {
        ascending = c.in_ok-kept.ensures.ascending;
        useful = λ q. (
          λ h. (c.in_ok-set.ensures.members q).0 ((c.in_ok-kept.ensures.members q).0 h),
          λ h. (c.in_ok-kept.ensures.members q).1 ((c.in_ok-set.ensures.members q).1 h),
        );
      },
    )
