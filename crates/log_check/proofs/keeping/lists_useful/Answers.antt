use Rattle.std.proofs.Common.{◌<◌, arith}
use Rattle.log_check.proofs.ShapeLemmas.{useful_below}
use Rattle.log_check.proofs.keeping.lists_useful.Goals as goal

pub returns : goal.returns
returns c =
    let A = c.args.automaton.now in
    let same = c.in_ok-set.ensures.members in
    let useful = c.in_ok-needed.ensures.members in (
      λ told q h.
          let lt : q < A.states = useful_below A c.args.mode c.states.ensures.valid q h in
          (same q).0 (c.is_within.ensures.0 told q (omega (arith, c.states.ensures.count)) ((useful q).1 h)),
      λ all. c.is_within.ensures.1 (λ q lt h. (same q).1 (all q ((useful q).0 h))),
    )
