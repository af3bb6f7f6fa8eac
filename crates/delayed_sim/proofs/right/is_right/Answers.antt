use Rattle.std.proofs.Common.{◌≡◌, ℕ, ◌↔◌, Option, Some, sym, ap, ◌∙◌, subst, arith}
use Rattle.std.specs.Prelude.{IsTrue}
use Rattle.std.proofs.lemmas.Bool.Decides.{nat_tests}
use Rattle.auto_core.specs.Automaton.{IsAccepting}
use Rattle.delayed_sim.specs.Rankings.{triple_at}
use Rattle.delayed_sim.specs.Right.{IsTripleRight}
use Rattle.delayed_sim.proofs.RightLemmas.{triple_range, unranked_right, zero_right, ranked_right}
use Rattle.delayed_sim.proofs.right.is_right.Goals as goal

pub accepting-requires : goal.accepting-requires
accepting-requires c =
    let range = triple_range c.args.delayed.now c.left-p.ensures.valid c.args.at c.requires.inside in
    omega (arith, range.1, c.left-p.ensures.state, c.requires.equal)

pub accepting-requires-in-Some-eq0 : goal.accepting-requires-in-Some-eq0
accepting-requires-in-Some-eq0 c =
    let range = triple_range c.args.delayed.now c.left-p.ensures.valid c.args.at c.requires.inside in
    omega (arith, range.2, c.right-q.ensures.state, c.requires.equal)

pub returns-then-not-accepting : goal.returns-then-not-accepting
returns-then-not-accepting c =
    let A = c.args.automaton.now in
    let X = c.args.delayed.now.triples in
    let t = triple_at X c.args.at in
    let r = c.is_answered_at.result in
    let accepting : IsTrue c.accepting.result ↔ IsAccepting A t.0 = subst (λ x. IsTrue c.accepting.result ↔ IsAccepting A x) c.left-p.ensures.state c.accepting.ensures.told in
    subst (λ (o : Option ℕ). IsTrue r ↔ IsTripleRight A X (t.0, t.1, t.2, o)) c.in-None.ensures.rank (unranked_right A X t.0 t.1 t.2 c.accepting.result r accepting c.is_answered_at.ensures c.if-not-accepting.true)

pub returns-then-accepting : goal.returns-then-accepting
returns-then-accepting c =
    let A = c.args.automaton.now in
    let X = c.args.delayed.now.triples in
    let t = triple_at X c.args.at in
    let r = c.is_answered_at-then-accepting.result in
    let accepting : IsTrue c.accepting-in-Some-eq0.result ↔ IsAccepting A t.2 = subst (λ x. IsTrue c.accepting-in-Some-eq0.result ↔ IsAccepting A x) c.right-q.ensures.state c.accepting-in-Some-eq0.ensures.told in
    let none : c.in-Some-eq0.field-0 ≡ 0 = grind (arith, nat_tests, c.in-Some-eq0.field-0-test) in
    let zero : Some 0 ≡ t.3 = ap (λ (k : ℕ). Some k) (sym none) ∙ c.in-Some-eq0.ensures.rank in
    subst (λ (o : Option ℕ). IsTrue r ↔ IsTripleRight A X (t.0, t.1, t.2, o)) zero (zero_right A X t.0 t.1 t.2 c.accepting-in-Some-eq0.result r accepting c.is_answered_at-then-accepting.ensures c.if-accepting.true)

pub returns-in-Some : goal.returns-in-Some
returns-in-Some c =
    let A = c.args.automaton.now in
    let X = c.args.delayed.now.triples in
    let t = triple_at X c.args.at in
    let r = c.is_answered_at-in-Some.result in
    let rank = c.in-Some.rank in
    let positive : rank ≡ 0 → ⊥ = λ e. grind (arith, nat_tests, e, c.in-Some.rank-test) in
    subst (λ (o : Option ℕ). IsTrue r ↔ IsTripleRight A X (t.0, t.1, t.2, o)) c.in-Some.ensures.rank (ranked_right A X t.0 t.1 t.2 r rank positive c.is_answered_at-in-Some.ensures)
