use Rattle.std.proofs.Common.{◌≡◌, ◌<◌, inl, inr, length, ap, arith}
use Rattle.cert_value.specs.WellFormed.{blocks_due}
use Rattle.auto_core.specs.Pruning.{look_forward}
use Rattle.log_check.proofs.ClosureLemmas.{ahead_told, ahead_one, ahead_both, four_left}
use Rattle.log_check.proofs.closures.ahead_closure.Goals as goal

pub returns-in-1 : goal.returns-in-1
returns-in-1 c =
    let A = c.args.automaton.now in
    let looks : look_forward c.args.pair c.args.look ≡ c.args.look = ap (λ n. look_forward n c.args.look) c.in-1.is in
    let lt : 0 < length c.args.blocks.now = omega (arith, c.requires.count, c.requires.pair) in
    ahead_told A c.args.pair c.args.look c.args.look c.args.blocks.now c.index-blocks-0.result c.stable_closure.result
    (ahead_one c.args.pair c.args.blocks.now c.index-blocks-0.result c.in-1.is lt c.index-blocks-0.is) looks (λ e. omega (arith, c.in-1.is)) c.stable_closure.ensures

pub returns-in-3 : goal.returns-in-3
returns-in-3 c =
    let A = c.args.automaton.now in
    let looks : look_forward c.args.pair c.args.look ≡ 1 = ap (λ n. look_forward n c.args.look) c.in-3.is in
    let due : blocks_due c.args.pair ≡ 2 = ap blocks_due c.in-3.is in
    let lt : 1 < length c.args.blocks.now = omega (arith, c.requires.count) in
    ahead_told A c.args.pair c.args.look 1 c.args.blocks.now c.index-blocks-1.result c.stable_closure-in-3.result
    (ahead_both c.args.pair c.args.blocks.now c.index-blocks-1.result (inl c.in-3.is) lt c.index-blocks-1.is) looks (λ e. omega (arith, c.in-3.is)) c.stable_closure-in-3.ensures

pub returns-in_default : goal.returns-in_default
returns-in_default c =
    let A = c.args.automaton.now in
    let four : c.args.pair ≡ 4 = four_left c.args.pair c.requires.pair (λ e. omega arith) (λ e. omega arith) (λ e. omega arith) in
    let looks : look_forward c.args.pair c.args.look ≡ c.args.look = ap (λ n. look_forward n c.args.look) four in
    let due : blocks_due c.args.pair ≡ 2 = ap blocks_due four in
    let lt : 1 < length c.args.blocks.now = omega (arith, c.requires.count) in
    ahead_told A c.args.pair c.args.look c.args.look c.args.blocks.now c.index-blocks-1-in_default.result c.stable_closure-in_default.result
    (ahead_both c.args.pair c.args.blocks.now c.index-blocks-1-in_default.result (inr four) lt c.index-blocks-1-in_default.is) looks (λ e. omega arith) c.stable_closure-in_default.ensures
