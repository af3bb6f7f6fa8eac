use Rattle.std.proofs.Common.{ℕ, ◌%◌, ◌<◌, ◌↔◌, inl, inr, arith}
use Rattle.auto_core.specs.Automaton.{trans_at}
use Rattle.auto_core.specs.Rows.{HasCell}
use Rattle.auto_core.proofs.MoveLemmas.{move_in_range}
use Rattle.delayed_game.specs.Before.{LeadsToColumn}
use Rattle.delayed_game.proofs.blocks.note_letter.Goals as goal

pub returns : goal.returns
returns c = λ t q t_in near.
    let L = c.args.places.now in
    let A = c.args.automaton.now in
    let a : ℕ = c.args.label in
    let j : ℕ = (trans_at L t).target % 64 in
    let j_in : j < 64 = omega arith in
    let noted = c.note_turned.ensures t q t_in near in
    let turned = c.transpose.ensures j q j_in near in
    let found = c.find_columns.ensures q j j_in in
    let states = c.states-count.ensures.count in
    let row : HasCell c.transpose.new.turned c.args.width j q ↔ LeadsToColumn A c.args.words.now a j q = (
      λ cell. found.0 (turned.0 cell).1,
      λ leads. let q_in = (move_in_range A c.requires.valid q a leads.0 leads.1).0 in turned.1 (omega (arith, q_in), found.1 leads),
    ) in (
      λ cell. elim (noted.0 cell) [ inl first ↦ inl first | inr is ↦ inr (is.0, is.1, row.0 is.2) ],
      λ either. noted.1 (elim either [ inl first ↦ inl first | inr is ↦ inr (is.0, is.1, row.1 is.2) ]),
    )
