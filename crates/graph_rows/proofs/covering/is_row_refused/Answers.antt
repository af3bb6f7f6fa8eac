use Rattle.std.proofs.Common.{◌≡◌, ◌*◌, ◌^◌, ◌<◌, false, refl, sym, ◌∙◌, arith, rules}
use Rattle.std.proofs.lemmas.Bool.{false≢true}
use Rattle.auto_core.specs.Rows.{HasBit, HasCell}
use Rattle.graph_rows.proofs.covering.is_row_refused.Goals as goal

pub overflow_cast-target : goal.overflow_cast-target
overflow_cast-target c =
    let found : HasBit c.row_at-targets.result.now c.in-Some.target = search rules in
    let near : c.in-Some.target < c.args.width * 64 = search rules in
    let cell : HasCell c.args.joined.now c.args.width c.args.row c.in-Some.target = sym (c.row_at-targets.ensures.bits c.in-Some.target near) ∙ found in
    let is_state : c.in-Some.target < c.args.order.now.size = c.requires.joined.columns c.args.row c.in-Some.target c.requires.is_row near cell in
    let fits : c.in-Some.target < 2 ^ 32 = omega (arith, c.requires.states_fit) in
    search rules

pub returns-in-Some : goal.returns-in-Some
returns-in-Some c = λ refused.
    let found : HasBit c.row_at-targets.result.now c.in-Some.target = search rules in
    let near : c.in-Some.target < c.args.width * 64 = search rules in
    let cell : HasCell c.args.joined.now c.args.width c.args.row c.in-Some.target = sym (c.row_at-targets.ensures.bits c.in-Some.target near) ∙ found in
    let is_state : c.in-Some.target < c.args.order.now.size = c.requires.joined.columns c.args.row c.in-Some.target c.requires.is_row near cell in
    let not_answered : c.answers.result ≡ false = search rules in
    record {
      target = c.in-Some.target;
      arc = (c.requires.is_row, is_state, cell);
      none = λ u arc rel. false≢true (sym not_answered ∙ (c.answers.ensures.any refl).1 (u, arc, rel));
    }
