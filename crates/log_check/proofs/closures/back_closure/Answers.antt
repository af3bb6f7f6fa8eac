use Rattle.std.proofs.Common.{◌≡◌, ◌<◌, length, ap, arith}
use Rattle.std.proofs.lemmas.Bool.{cond-false, ne_eqb}
use Rattle.auto_core.specs.Pruning.{look_backward}
use Rattle.log_check.proofs.ClosureLemmas.{back_told, back_all}
use Rattle.log_check.proofs.closures.back_closure.Goals as goal

pub returns-in-4 : goal.returns-in-4
returns-in-4 c =
    let A = c.args.automaton.now in
    let looks : look_backward c.args.pair c.args.look ≡ 1 = ap (λ n. look_backward n c.args.look) c.in-4.is in
    let lt : 0 < length c.args.blocks.now = omega (arith, c.requires.count, c.requires.pair) in
    back_told A c.args.pair c.args.look 1 c.args.blocks.now c.index-blocks-0.result c.stable_closure.result
    (back_all c.args.pair c.args.blocks.now c.index-blocks-0.result (λ e. omega (arith, c.in-4.is)) lt c.index-blocks-0.is) looks (λ e. omega (arith, c.in-4.is)) c.stable_closure.ensures

pub returns-in_default : goal.returns-in_default
returns-in_default c =
    let A = c.args.automaton.now in
    let looks : look_backward c.args.pair c.args.look ≡ c.args.look = cond-false _ 1 c.args.look (ne_eqb c.args.pair 4 (λ e. omega arith)) in
    let lt : 0 < length c.args.blocks.now = omega (arith, c.requires.count, c.requires.pair) in
    back_told A c.args.pair c.args.look c.args.look c.args.blocks.now c.index-blocks-0-in_default.result c.stable_closure-in_default.result
    (back_all c.args.pair c.args.blocks.now c.index-blocks-0-in_default.result (λ e. omega arith) lt c.index-blocks-0-in_default.is) looks (λ e. omega arith) c.stable_closure-in_default.ensures
