use Rattle.std.proofs.Common.{◌≡◌, ◌-◌, ◌<◌, ◌++◌, ℕ, List, length, take, drop, get_or, Err, sym, ap, ◌∙◌, subst, arith}
use Rattle.std.specs.List.{flat_map}
use Rattle.std.proofs.lemmas.Result.{err_from_is_err_and}
use Rattle.auto_core.specs.Automaton.{trans}
use Rattle.auto_core.specs.declared.parts.Trans.{Trans}
use Rattle.auto_ops.specs.declared.fault.OpFault.{OpFault}
use Rattle.auto_ops.specs.Intersection.{ProductMove, moves_beside}
use Rattle.auto_ops.specs.UnderWay.{IsUnderWay, AreTooMany}
use Rattle.auto_ops.proofs.ProductLemmas.{flat_more, from_too_many, outgoing_part}
use Rattle.auto_ops.proofs.product.Product.add_from.Goals as goal

pub loop-at-preserved : goal.loop-at-preserved
loop-at-preserved c =
    let A = c.args.first.now in
    let B = c.args.second.now in
    let F = moves_beside c.args.mode A B c.args.product_state in
    let b : ℕ = c.outgoing-span.result.begin in
    let at : ℕ = c.loop-at.at in
    let s = c.outgoing-span.ensures.range in
    let fits = s.within in
    let within : at < length A.transitions = omega arith in
    let T : List Trans → Type 0 = λ ts. (ms : List ProductMove) → IsUnderWay A B ms c.loop-at.self.product_states.items c.loop-at.self.transitions.items → IsUnderWay A B (ms ++ F (get_or ts at (trans 0 0 0))) c.add_beside.new.self.product_states.items c.add_beside.new.self.transitions.items in
    let one = subst T c.transitions-transitions.ensures.list c.in_ok-add_beside.ensures.added in
    record {
      at = c.in_ok-add_beside.ensures.at;
      roomy = c.in_ok-add_beside.ensures.roomy;
      added = λ ms under.
          let P : List ProductMove → Type 0 = λ l. IsUnderWay A B l c.add_beside.new.self.product_states.items c.add_beside.new.self.transitions.items in
          subst P (sym (flat_more F ms A.transitions b at (trans 0 0 0) c.loop-at.auto.at within))
          (one (ms ++ flat_map F (take (at - b) (drop b A.transitions))) (c.loop-at.invariant.added ms under));
    }

pub returns-clause-added : goal.returns-clause-added
returns-clause-added c = λ ms under.
    let A = c.args.first.now in
    let B = c.args.second.now in
    let s = c.outgoing-span.ensures.range in
    let b : ℕ = c.outgoing-span.result.begin in
    let over : c.loop-at.at ≡ c.outgoing-span.result.end = omega (arith, s.is_range, c.loop-at.auto.at-end) in
    let F = moves_beside c.args.mode A B c.args.product_state in
    let P : List ProductMove → Type 0 = λ l. IsUnderWay A B (ms ++ l) c.loop-at.self.product_states.items c.loop-at.self.transitions.items in
    subst P (ap (λ n. flat_map F (take (n - b) (drop b A.transitions))) over ∙ ap (flat_map F) (sym (outgoing_part A c.args.product_state.first b c.outgoing-span.result.end s)))
    (c.loop-at.invariant.added ms under)

pub returns-in_err-add_beside-clause-too_large : goal.returns-in_err-add_beside-clause-too_large
returns-in_err-add_beside-clause-too_large c = λ ms under h.
    let A = c.args.first.now in
    let B = c.args.second.now in
    let F = moves_beside c.args.mode A B c.args.product_state in
    let b : ℕ = c.outgoing-span.result.begin in
    let at : ℕ = c.loop-at.at in
    let s = c.outgoing-span.ensures.range in
    let fits = s.within in
    let within : at < length A.transitions = omega arith in
    let p = err_from_is_err_and c.from_residual.result c.from_residual.ensures.1 in
    let is = ap (λ (e : OpFault). Err e) (sym p.2) ∙ sym p.1 ∙ h in
    let before = ms ++ flat_map F (take (at - b) (drop b A.transitions)) in
    let T : List Trans → Type 0 = λ ts. AreTooMany A B (before ++ F (get_or ts at (trans 0 0 0))) in
    from_too_many c.args.mode A B c.args.product_state b at c.outgoing-span.result.end ms c.loop-at.auto.at within s c.loop-at-test.true
    (subst T c.transitions-transitions.ensures.list (c.in_err-add_beside.ensures.too_large before (c.loop-at.invariant.added ms under) is))
