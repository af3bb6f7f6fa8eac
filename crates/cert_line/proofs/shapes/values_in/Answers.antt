use Rattle.std.proofs.Common.{◌≡◌, ◌+◌, ◌-◌, ◌∷◌, [], ◌++◌, suc, map, take, ap, sym, ◌∙◌, append_assoc, arith}
use Rattle.cert_line.specs.Shapes.{value}
use Rattle.cert_line.proofs.shapes.values_in.Goals as goal

pub loop-value-preserved : goal.loop-value-preserved
loop-value-preserved c =
    let n = c.args.count in
    let i = c.loop-value._value in
    let values = c.loop-value.values in
    let t = c.in-Some.token.now in
    let ts = c.next.new.self in
    let rest = take (n - (i + 1)) (map value ts) in
    let test = c.loop-value-test.true in
    let e : n - i ≡ suc (n - (i + 1)) = omega (arith, test) in
    ap (λ x. x ++ rest) c.in_ok-push.ensures.ok
    ∙ append_assoc values (c.value.result ∷ []) rest
    ∙ ap (λ v. values ++ v ∷ rest) c.value.ensures
    ∙ ap (λ k. values ++ take k (map value (t ∷ ts))) (sym e)
    ∙ ap (λ xs. values ++ take (n - i) (map value xs)) (sym c.in-Some.ensures.token)
    ∙ c.loop-value.invariant
