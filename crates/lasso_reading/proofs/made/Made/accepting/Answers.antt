use Rattle.std.proofs.Common.{◌≡◌, ◌+◌, ℕ, true, false, List, filter, sym, ap, ◌∙◌}
use Rattle.std.specs.List.{range_with_len}
use Rattle.auto_core.specs.Automaton.{is_accepting}
use Rattle.product_search.specs.Found.{pair_at}
use Rattle.lasso_reading.specs.Made.{accepts_at}
use Rattle.lasso_reading.proofs.PartLemmas.{more_passed}
use Rattle.lasso_reading.proofs.made.Made.accepting.Goals as goal
use Rattle.lasso_reading.proofs.made.Made.accepting.Goals.{then-accepting+in_ok-push, else-accepting}

pub loop-number-preserved : goal.loop-number-preserved
loop-number-preserved c =
    let A = c.args.automaton.now in
    let pairs = c.args.self.now.pairs.keys in
    let n : ℕ = c.loop-number.number in
    let made = c.loop-number.numbers.items in
    let told : c.accepting.result ≡ accepts_at A pairs n = c.accepting.ensures.test ∙ ap (λ (l : List (ℕ × ℕ)). is_accepting A (pair_at l n).0) c.as_slice.ensures.keys in
    elim c.if-accepting.branch as (λ _. c.if-accepting.numbers.items ≡ filter (accepts_at A pairs) (range_with_len 0 (n + 1))) [
      | then-accepting+in_ok-push w ↦
          more_passed (accepts_at A pairs) n made c.if-accepting.numbers.items true (sym w.if-accepting.true ∙ told) c.loop-number.invariant
          (ap (λ v. v.items) w.numbers-is ∙ w.in_ok-push.ensures.items)
      | else-accepting w ↦
          more_passed (accepts_at A pairs) n made c.if-accepting.numbers.items false (sym w.if-accepting.false ∙ told) c.loop-number.invariant
          (ap (λ v. v.items) w.numbers-is)
    ]
