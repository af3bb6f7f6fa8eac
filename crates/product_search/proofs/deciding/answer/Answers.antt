use Rattle.std.proofs.Common.{◌≡◌, length, ap, ◌∙◌, arith}
use Rattle.product_search.proofs.DecideLemmas.{are_pairs, bad_step_of, included_of, reached_of, pairs_of}
use Rattle.product_search.proofs.deciding.answer.Goals as goal

pub of_pairs-requires-clause-pairs : goal.of_pairs-requires-clause-pairs
of_pairs-requires-clause-pairs c =
    let few = c.in_ok-count.ensures.1 in
    are_pairs c.args.first.now c.args.second.now c.args.found.now.pairs.keys c.args.found.now.steps.items c.requires.found (omega (arith, few, c.in_ok-count.ensures.0, c.len.ensures.len)) c.requires.closed

pub lasso_of-requires-clause-pairs : goal.lasso_of-requires-clause-pairs
lasso_of-requires-clause-pairs c =
    let few = c.in_ok-count.ensures.1 in
    are_pairs c.args.first.now c.args.second.now c.args.found.now.pairs.keys c.args.found.now.steps.items c.requires.found (omega (arith, few, c.in_ok-count.ensures.0, c.len.ensures.len)) c.requires.closed

pub lasso_of-requires-clause-step : goal.lasso_of-requires-clause-step
lasso_of-requires-clause-step c =
    let arcs = c.in_ok-arcs.arcs in
    (bad_step_of c.args.first.now c.args.second.now c.args.found.now.pairs.keys c.in_ok-count.count (c.in_ok-count.ensures.0 ∙ c.len.ensures.len) arcs.starts.items arcs.targets.items arcs.letters.items c.in_ok-arcs.ensures
    c.deref.result.now c.deref-2.result.now c.in_ok-numbers.numbers.items c.deref-3.result.now c.deref.ensures.value c.deref-2.ensures.value c.deref-3.ensures.value c.in_ok-numbers.ensures c.in-Some.bad c.in-Some.ensures.some).1

pub lasso_of-requires-clause-back : goal.lasso_of-requires-clause-back
lasso_of-requires-clause-back c =
    let arcs = c.in_ok-arcs.arcs in
    (bad_step_of c.args.first.now c.args.second.now c.args.found.now.pairs.keys c.in_ok-count.count (c.in_ok-count.ensures.0 ∙ c.len.ensures.len) arcs.starts.items arcs.targets.items arcs.letters.items c.in_ok-arcs.ensures
    c.deref.result.now c.deref-2.result.now c.in_ok-numbers.numbers.items c.deref-3.result.now c.deref.ensures.value c.deref-2.ensures.value c.deref-3.ensures.value c.in_ok-numbers.ensures c.in-Some.bad c.in-Some.ensures.some).2

pub returns-clause-included : goal.returns-clause-included
returns-clause-included c = λ answer is.
    let arcs = c.in_ok-arcs.arcs in
    let e = c.in_ok-ranked_pairs-in-None.ensures in
    included_of c.args.first.now c.args.second.now c.args.found.now.pairs.keys c.in_ok-count.count (c.in_ok-count.ensures.0 ∙ c.len.ensures.len) arcs.starts.items arcs.targets.items arcs.letters.items c.in_ok-arcs.ensures
    c.deref.result.now c.deref-2.result.now c.in_ok-numbers.numbers.items c.deref-3.result.now c.deref.ensures.value c.deref-2.ensures.value c.deref-3.ensures.value c.in_ok-numbers.ensures
    c.args.found.now.steps.items c.requires.found c.requires.initial c.requires.closed c.in-None.ensures.none c.requires.valid c.requires.deterministic c.requires.trimmed
    c.deref-in-None.result.now c.deref-in-None.ensures.value c.in_ok-ranked_pairs-in-None.field-0.items e.all e.only e.ascending answer (ap pairs_of is)

pub returns-clause-few : goal.returns-clause-few
returns-clause-few c = λ answer is.
    let size = c.in_ok-ranked_pairs-in-None.ensures.size in
    let same : length c.in_ok-ranked_pairs-in-None.field-0.items ≡ length answer.items = ap (λ a. length (pairs_of a)) is in
    omega arith

pub returns-clause-reached : goal.returns-clause-reached
returns-clause-reached c = λ answer is p q.
    let arcs = c.in_ok-arcs.arcs in
    let e = c.in_ok-ranked_pairs-in-None.ensures in
    reached_of c.args.first.now c.args.second.now c.args.found.now.pairs.keys c.in_ok-count.count (c.in_ok-count.ensures.0 ∙ c.len.ensures.len) arcs.starts.items arcs.targets.items arcs.letters.items c.in_ok-arcs.ensures
    c.deref.result.now c.deref-2.result.now c.in_ok-numbers.numbers.items c.deref-3.result.now c.deref.ensures.value c.deref-2.ensures.value c.deref-3.ensures.value c.in_ok-numbers.ensures
    c.args.found.now.steps.items c.requires.found c.requires.initial c.requires.closed c.in-None.ensures.none c.requires.deterministic
    c.deref-in-None.result.now c.deref-in-None.ensures.value c.in_ok-ranked_pairs-in-None.field-0.items e.all e.only answer (ap pairs_of is) p q
