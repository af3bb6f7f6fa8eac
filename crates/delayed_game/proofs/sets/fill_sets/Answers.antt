use Rattle.std.proofs.Common.{◌≡◌, ◌*◌, ap, ◌∙◌, subst, arith}
use Rattle.std.proofs.lemmas.Nat.{row_fits}
use Rattle.delayed_game.specs.Before.{IsSetTable}
use Rattle.delayed_game.proofs.SetLemmas.{table_more}
use Rattle.delayed_game.proofs.sets.fill_sets.Goals as goal

pub loop-number-init : goal.loop-number-init
loop-number-init c = record {
  len = c.requires.sets ∙ ap (λ s. c.args.width * 256 * s) c.requires.stride;
  cells = λ k a q lt. absurd (omega arith);
}

pub write_row-requires-clause-row : goal.write_row-requires-clause-row
write_row-requires-clause-row c =
    omega (arith, row_fits c.loop-number.number c.args.stride (c.args.width * 256) c.args.stride c.loop-number-test.true (omega arith), c.loop-number.auto.sets, c.requires.sets)

pub loop-number-preserved : goal.loop-number-preserved
loop-number-preserved c =
    table_more c.args.automaton.now c.args.width c.loop-number.number c.args.stride c.loop-number.sets c.write_row.new.table c.mark_set.new.made c.clear_row.new.row c.requires.stride
    c.loop-number.invariant c.write_row.auto.table c.clear_row.ensures c.mark_set.ensures c.write_row.ensures.here c.write_row.ensures.others

pub returns : goal.returns
returns c =
    let all : c.loop-number.number ≡ c.args.width * 256 = omega (arith, c.loop-number-test.false, c.loop-number.auto.number-end) in
    subst (λ n. IsSetTable c.args.automaton.now c.args.width n c.loop-number.sets) all c.loop-number.invariant
