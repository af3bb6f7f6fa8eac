use Rattle.std.proofs.Common.{◌≡◌, List, ℕ, rules}
use Rattle.cert_check.proofs.SuperLemmas.{sets_alike}
use Rattle.cert_check.proofs.blocks.subsumes_set.Goals as goal

pub returns-then-x-y : goal.returns-then-x-y
returns-then-x-y c = λ A B v w size s t.
    let S : List (ℕ × ℕ) = c.args.order.now.pairs in
    let x = c.args.x.now in
    let y = c.args.y.now in
    let same : x.to ≡ y.to = search rules in
    let alike = sets_alike A B S x y c.args.set.now c.args.other.now v w s t in
    (λ told. alike.0 (same, c.covers.ensures.0 told), λ is. c.covers.ensures.1 (alike.1 is).1)
