use Rattle.std.proofs.Common.{◌≡◌, ℕ, ◌+◌, ◌-◌, ◌*◌, ◌^◌, ◌<◌, ◌≤◌, get_or, arith, lit<, add-one}
use Rattle.std.proofs.Math.Nat.{pow-le-pow_right, pow-suc}
use Rattle.std.proofs.lemmas.List.Folds.{list_all_more}
use Rattle.std.proofs.lemmas.Int.Digits.{digits_value_more}
use Rattle.std.proofs.lemmas.Str.{digit_value_digit}
use Rattle.std.proofs.lemmas.Bool.Decides.{nat_tests}
use Rattle.std.specs.Char.{digit_value}
use Rattle.auto_core.specs.Digits.{is_digit}
use Rattle.cert_line.proofs.shapes.number_of.Goals as goal

below : (i v : ℕ) → i < 9 → v < 10 ^ i → v < 100000000
below i v few small =
    let p : 10 ^ i ≤ 10 ^ 8 = pow-le-pow_right {n = 10} (lit< tt) {i = i} {j = 8} (omega arith) in
    let q : 10 ^ i ≤ 100000000 = p in
    omega arith

step : (v d i : ℕ) → v < 10 ^ i → d ≤ 9 → v * 10 + d < 10 ^ (i + 1)
step v d i h k = rw (add-one, pow-suc) (omega arith)

pub overflow_mul-value : goal.overflow_mul-value
overflow_mul-value c =
    let b = below c.loop-byte.byte-index c.loop-byte.value (omega arith) c.loop-byte.invariant.small in
    omega arith

pub overflow_add-value : goal.overflow_add-value
overflow_add-value c =
    let b = below c.loop-byte.byte-index c.loop-byte.value (omega arith) c.loop-byte.invariant.small in
    omega arith

pub loop-byte-preserved : goal.loop-byte-preserved
loop-byte-preserved c =
    let i = c.loop-byte.byte-index in
    let token = c.args.token.now in
    let more = list_all_more is_digit token i 0 c.loop-byte-test.true in
    let value = digits_value_more 10 token i c.loop-byte-test.true in
    let digit : digit_value (get_or token i 0) + 48 ≡ get_or token i 0 = digit_value_digit (get_or token i 0) (omega arith, omega arith) in
    record {
      digits = grind (arith, nat_tests);
      so_far = omega arith;
      small = step c.loop-byte.value (get_or token i 0 - 48) i c.loop-byte.invariant.small (omega arith);
    }
