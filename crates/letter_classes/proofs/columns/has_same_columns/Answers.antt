use Rattle.std.proofs.Common.{ℕ, inl, inr}
use Rattle.std.proofs.lemmas.Bool.{cases_Bool, OnTrue_at, OnFalse_at}
use Rattle.letter_classes.proofs.ColumnLemmas.{same_columns, other_columns}
use Rattle.letter_classes.proofs.columns.has_same_columns.Goals as goal

pub returns : goal.returns
returns c =
    let A = c.args.automaton.now in
    let T = c.args.turned.now in
    let a : ℕ = c.args.first in
    let x : ℕ = c.args.second in
    let one = c.outgoing.result in
    let other = c.outgoing-2.result in (
      λ is. same_columns A T c.requires.turned a x one.begin one.end other.begin other.end c.outgoing.ensures.range c.outgoing-2.ensures.range (OnTrue_at is c.are_spans_alike.ensures.alike),
      λ h. elim (cases_Bool c.are_spans_alike.result) [
        | inl is ↦ is
        | inr apart ↦ absurd (other_columns A T c.requires.turned a x one.begin one.end other.begin other.end c.outgoing.ensures.range c.outgoing-2.ensures.range (OnFalse_at apart c.are_spans_alike.ensures.unlike) h)
      ],
    )
