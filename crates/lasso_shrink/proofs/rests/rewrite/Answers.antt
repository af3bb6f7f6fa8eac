use Rattle.std.proofs.Common.{◌≡◌, ◌↔◌, ◌+◌, ◌-◌, ◌*◌, ◌<◌, ◌≤◌, ℕ, List, get_or, subst, arith, rules}
use Rattle.auto_core.specs.Automaton.{Automaton, Moves}
use Rattle.auto_core.specs.Rows.{HasCell}
use Rattle.lasso_shrink.proofs.PrefixLemmas.{AreRewritten, rewritten_first, rewritten_more}
use Rattle.lasso_shrink.proofs.rests.rewrite.Goals as goal

pub loop-at-init : goal.loop-at-init
loop-at-init c = rewritten_first c.args.automaton.now c.args.lasso.now.prefix c.args.lasso.now.turn c.args.place c.args.width c.args.first c.args.table.now c.requires.within c.requires.rests

pub loop-at-preserved : goal.loop-at-preserved
loop-at-preserved c =
    let A : Automaton = c.args.automaton.now in
    let u : List ℕ = c.args.lasso.now.prefix in
    let at : ℕ = c.loop-at.at - 1 in
    let next : c.loop-at.at ≡ at + 1 = search rules in
    let before : at < c.args.place = search rules in
    let room : A.states ≤ c.args.width * 64 = (let w = c.requires.width in omega (arith, w)) in
    let P : ℕ → Type 0 = λ k. AreRewritten A u c.args.lasso.now.turn c.args.place c.args.width c.args.first c.loop-at.table k in
    let H : List ℕ → Type 0 = λ w. (p : ℕ) → p < c.args.width * 64 → HasCell c.step_back.new.table c.args.width (c.args.first + at + 2 - 1) p
    ↔ ((r : ℕ) × Moves A p (get_or w at 0) r × HasCell c.loop-at.table c.args.width (c.args.first + at + 2) r) in
    let here : H u = subst H c.as_slice-prefix.ensures c.step_back.ensures.here in
    rewritten_more A u c.args.lasso.now.turn c.args.place c.args.width c.args.first at c.loop-at.table c.step_back.new.table room before c.requires.within c.requires.valid
    (subst P next c.loop-at.invariant) here c.step_back.ensures.others
