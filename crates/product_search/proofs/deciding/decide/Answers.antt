use Rattle.std.proofs.Common.{sym, ◌∙◌, ◌≡◌, ℕ, length, inl, inr, arith}
use Rattle.std.proofs.lemmas.Bool.{true≢false}
use Rattle.product_search.specs.Found.{pair_at}
use Rattle.product_search.proofs.FoundLemmas.{same_pair}
use Rattle.product_search.proofs.WordLemmas.{first_stays}
use Rattle.product_search.proofs.DecideLemmas.{many_reached}
use Rattle.std.proofs.lemmas.Result.{IfOk-weaker}
use Rattle.product_search.specs.Decision.{HasAtMost}
use Rattle.product_search.proofs.deciding.decide.Goals as goal

pub returns-clause-few : goal.returns-clause-few
returns-clause-few c =
    let pairs = c.expand_all.new.self.pairs.keys in
    let (found, grows, ends) = c.in_ok-expand_all.ensures in
    elim ends [
      | inl (told, few, closed) ↦ IfOk-weaker c.answer.result (HasAtMost (length pairs)) (HasAtMost c.args.limit) (λ a within list is. let less = within list is in omega arith) c.answer.ensures.few
      | inr (off, many) ↦ absurd (true≢false (sym c.if-not-branch.false ∙ off))
    ]

pub answer-requires-clause-closed : goal.answer-requires-clause-closed
answer-requires-clause-closed c =
    let (found, grows, ends) = c.in_ok-expand_all.ensures in
    elim ends [
      | inl (told, few, closed) ↦ closed
      | inr (off, many) ↦ absurd (true≢false (sym c.if-not-branch.false ∙ off))
    ]

pub returns-then-not-branch-clause-limit : goal.returns-then-not-branch-clause-limit
returns-then-not-branch-clause-limit c = λ _.
    let A = c.args.first.now in
    let B = c.args.second.now in
    let pairs = c.expand_all.new.self.pairs.keys in
    let (found, grows, ends) = c.in_ok-expand_all.ensures in
    let start = first_stays (c.initial.result, c.initial-2.result) c.in_ok-found.found.pairs.keys pairs c.in_ok-found.ensures.pairs grows in
    let initial : ◌≡◌ {A = ℕ × ℕ} (pair_at pairs 0) (A.initial, B.initial) = start ∙ same_pair c.initial.result c.initial-2.result A.initial B.initial c.initial.ensures.state c.initial-2.ensures.state in
    elim ends [
      | inl (told, few, closed) ↦ absurd (true≢false (sym told ∙ c.if-not-branch.true))
      | inr (off, many) ↦ many_reached A B c.args.limit pairs c.expand_all.new.self.steps.items found initial many
    ]
