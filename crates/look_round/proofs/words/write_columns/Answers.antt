use Rattle.std.proofs.Common.{inl, [], ◌∙◌, subst, arith}
use Rattle.look_round.specs.Words.{IsColumn}
use Rattle.look_round.proofs.words.write_columns.Goals as goal

pub walk_columns-count-requires-clause-columns : goal.walk_columns-count-requires-clause-columns
walk_columns-count-requires-clause-columns g c =
    let A = c.args.automaton.now in
    let s = c.args.side.now in
    let M = g.S.Side.goes s A in
    let ok = g.S.Side.matches s A in
    let w = c.args.width in
    let table = c.write_row.new.table in
    let width = c.requires.width in
    let first : IsColumn M ok A.states table w 0 = (
      [],
      λ q q_in. (
        λ cell. tt,
        λ any. c.write_row.ensures.here q (omega arith) ∙ (c.mark_below.ensures q).1 (inl (omega (arith, c.states.ensures.count))),
      ),
    ) in
    λ i i_in. subst (λ x. IsColumn M ok A.states table w x) (omega arith) first
