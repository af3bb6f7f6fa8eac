use Rattle.std.proofs.Common.{ℕ, ◌+◌, ◌*◌, inl, inr, length, sym, ◌∙◌, arith}
use Rattle.std.proofs.lemmas.Bool.{cases_lt, false≢true}
use Rattle.delayed_game.proofs.MendLemmas.{cell_inside, mended_more}
use Rattle.delayed_game.proofs.mending.mend_before.Goals as goal

pub loop-right-init : goal.loop-right-init
loop-right-init c =
    let w : ℕ = c.args.width in (
      record {
        keeps = λ a q a_in near leads. c.fill_row.ensures (a * w * 64 + q) (cell_inside a w q c.args.automaton.now.labels (length c.args.made.now) a_in near c.requires.made);
        clears = λ a q r near cell lt. absurd (omega arith);
      },
      omega arith,
    )

pub loop-right-preserved : goal.loop-right-preserved
loop-right-preserved c =
    let next = c.in-Some.ensures.found in
    let below = c.requires.lost c.in-Some.right next.here in
    (mended_more c.args.automaton.now c.args.lost.now c.args.ends.now c.loop-right.made c.clear_before.new.made c.args.width c.loop-right.at c.in-Some.right c.loop-right.invariant.0 next c.clear_before.ensures, omega arith)

pub returns-clause-keeps : goal.returns-clause-keeps
returns-clause-keeps c = c.loop-right.invariant.0.keeps

pub returns-clause-clears : goal.returns-clause-clears
returns-clause-clears c = λ a q r near cell bit go. elim (cases_lt r c.loop-right.at) [
  | inl before ↦ c.loop-right.invariant.0.clears a q r near cell before bit go
  | inr from ↦ absurd (false≢true (sym (c.in_default.ensures.none r from) ∙ bit))
]
