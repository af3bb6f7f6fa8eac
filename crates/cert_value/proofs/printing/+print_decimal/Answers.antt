use Rattle.std.proofs.Common.{◌≡◌, ◌^◌, ◌<◌, ◌++◌, ◌∷◌, [], ◌+◌, ◌/◌, ◌%◌, decimal, arith, append_assoc}
use Rattle.std.proofs.lemmas.Fmt.{decimal_step_wide, decimal_digit}
use Rattle.std.proofs.lemmas.Grind.{common_steps}
use Rattle.cert_value.proofs.printing.+print_decimal.Goals as goal
use Rattle.cert_value.proofs.printing.+print_decimal.Goals.{then-number-ge10+in_ok-print_decimal, else-number-ge10}

pub returns : goal.returns
returns t c =
    let n = c.args.number in
    elim c.if-number-ge10.branch [
      | then-number-ge10+in_ok-print_decimal w ↦
          let few : n < 10 ^ 64 = omega arith in
          let e : decimal n ≡ decimal (n / 10) ++ ((48 + n % 10) ∷ []) = decimal_step_wide n w.if-number-ge10.true few in
          let f = append_assoc c.args.out.now (decimal (n / 10)) ((48 + n % 10) ∷ []) in
          grind (arith, common_steps)
      | else-number-ge10 w ↦
          let e : decimal n ≡ (48 + n) ∷ [] = decimal_digit n w.if-number-ge10.false in
          grind (arith, common_steps)
    ]
