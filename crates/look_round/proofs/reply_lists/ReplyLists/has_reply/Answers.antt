use Rattle.std.proofs.Common.{ℕ, ◌<◌, List, All, Contains, sym, subst, arith}
use Rattle.look_round.proofs.reply_lists.ReplyLists.has_reply.Goals as goal

pub list-requires-clause-there : goal.list-requires-clause-there
list-requires-clause-there g c =
    let has = c.has.ensures c.if-has.true in
    c.requires.lists.there c.args.step.label c.args.step.to c.args.from has.0 c.requires.step c.requires.from has.1

pub one_has_bit-requires : goal.one_has_bit-requires
one_has_bit-requires g c =
    let has = c.has.ensures c.if-has.true in
    let each = c.requires.lists.each c.args.step.label c.args.step.to c.args.from has.0 c.requires.step c.requires.from has.1 in
    let below = subst (λ (l : List ℕ). All (λ r. r < c.args.automaton.now.states) l) (sym c.list.ensures) each.0 in
    record { below = λ k d k_in. let lt = below k d k_in in omega (arith, c.requires.row) }

pub returns-then-has : goal.returns-then-has
returns-then-has g c =
    let has = c.has.ensures c.if-has.true in
    let each = c.requires.lists.each c.args.step.label c.args.step.to c.args.from has.0 c.requires.step c.requires.from has.1 in (
      λ h.
          let (r, there, bit) = c.one_has_bit.ensures.0 h in
          (r, (each.1 r).0 (subst (λ (l : List ℕ). Contains l r) c.list.ensures there), bit),
      λ (r, reply, bit). c.one_has_bit.ensures.1 (r, subst (λ (l : List ℕ). Contains l r) (sym c.list.ensures) ((each.1 r).1 reply), bit),
    )
