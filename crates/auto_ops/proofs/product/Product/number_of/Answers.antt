use Rattle.std.proofs.Common.{◌≡◌, ◌<◌, List, length, sym, ap, subst, arith}
use Rattle.auto_core.specs.Outcome.{At}
use Rattle.auto_ops.specs.declared.product_states.ProductState.{ProductState}
use Rattle.auto_ops.proofs.ProductLemmas.{noted_there, at_end}
use Rattle.auto_ops.proofs.product.Product.number_of.Goals as goal

pub returns-then-number-len-clause-noted : goal.returns-then-number-len-clause-noted
returns-then-number-len-clause-noted c =
    let P : List ProductState → Type 0 = λ l. At l c.find-number.result c.args.product_state in
    let short : c.find-number.result < length c.deref.result.now = omega (arith, c.deref.ensures.len) in
    sym (noted_there c.args.self.now.product_states.items c.find-number.result c.args.product_state (subst P c.deref.ensures.value (c.find-number.ensures.found short)))

pub returns-clause-numbered : goal.returns-clause-numbered
returns-clause-numbered c =
    let P : List ProductState → Type 0 = λ l. At l c.find-number.result c.args.product_state in
    let whole : c.find-number.result ≡ length c.args.self.now.product_states.items = omega (arith, c.find-number.ensures.within, ap length c.deref.ensures.value, c.deref.ensures.len) in
    subst P (sym c.in_ok-push.ensures.items) (at_end c.args.self.now.product_states.items c.find-number.result c.args.product_state whole)
