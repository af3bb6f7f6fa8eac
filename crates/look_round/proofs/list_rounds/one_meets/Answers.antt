use Rattle.std.proofs.Common.{ℕ, ◌*◌, ◌<◌, arith}
use Rattle.std.proofs.lemmas.List.Elements.{All-contains}
use Rattle.look_round.proofs.list_rounds.one_meets.Goals as goal

pub has_one-requires-clause-from : goal.has_one-requires-clause-from
has_one-requires-clause-from g c = λ q there.
    let below = All-contains (λ x. x < c.args.automaton.now.states) c.args.from.now q c.requires.from there in
    let width = c.requires.answers.width in
    omega arith

pub returns-then-has_row : goal.returns-then-has_row
returns-then-has_row g c =
    let has = c.has_row.ensures.0 c.if-has_row.true in
    let width = c.requires.answers.width in
    let each = c.requires.answers.each c.args.step.to has.0 c.args.step.label in
    let room : (q : ℕ) → q < c.args.automaton.now.states → q < c.args.answering.now.width * 64 = λ q q_in. omega arith in (
      λ h.
          let (q, there, cell) = c.has_one.ensures.0 h in
          let (r, go, match, is) = (each q has.1 (room q (All-contains (λ x. x < c.args.automaton.now.states) c.args.from.now q c.requires.from there))).0 cell in
          (r, (q, there, (go, match)), is),
      λ (r, (q, there, (go, match)), is).
          c.has_one.ensures.1 (q, there, (each q has.1 (room q (All-contains (λ x. x < c.args.automaton.now.states) c.args.from.now q c.requires.from there))).1 (r, go, match, is)),
    )
