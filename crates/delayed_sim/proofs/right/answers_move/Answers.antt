use Rattle.std.proofs.Common.{◌≡◌, length, sym, ◌∙◌}
use Rattle.std.proofs.lemmas.Bool.{eqb-true}
use Rattle.delayed_sim.proofs.RightLemmas.{ahead_at_once}
use Rattle.delayed_sim.proofs.right.answers_move.Goals as goal

pub returns-then-is_empty : goal.returns-then-is_empty
returns-then-is_empty c =
    let none : length c.args.ahead.now ≡ 0 = eqb-true (length c.args.ahead.now) 0 (sym c.is_empty.ensures ∙ c.if-is_empty.true) in
    ahead_at_once c.args.automaton.now c.args.delayed.now.triples c.args.below c.args.ahead.now c.args.q c.args.step.label c.args.step.target c.is_answered.result none c.requires.label c.is_answered.ensures
