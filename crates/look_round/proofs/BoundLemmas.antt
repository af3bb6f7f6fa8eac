-- What is left of the pairs that match, by columns of words, has each stable list inside.
use Rattle.std.proofs.Common.{ℕ, ◌*◌, ◌<◌, ◌≤◌, List, arith}
use Rattle.auto_core.specs.Game.{Holds}
use Rattle.bit_rel.specs.Relation.{Relation}
use Rattle.auto_laws.proofs.GameLemmas.{TellsMoves}
use Rattle.look_round.specs.Words.{AreColumns, AreMatches, HoldsTable, IsBound}
use Rattle.look_round.proofs.ColumnLemmas.{IsNarrowedBy}
use Rattle.look_round.proofs.HavingLemmas.{word_kept}

pub is_bound :
    (M : ℕ → ℕ → ℕ → Type 0) (ok : ℕ → ℕ → Type 0)
    → ((p q r : ℕ) → ok p q → ok q r → ok p r)
    → TellsMoves M
    → (n width : ℕ) (matches narrowed columns : List ℕ) (count : ℕ) (R : Relation)
    → n ≤ width * 64
    → AreMatches ok n matches width n
    → AreColumns M ok n columns width count
    → IsNarrowedBy matches narrowed n width columns count
    → HoldsTable narrowed n width R
    → IsBound M ok n R
is_bound M ok joins tells n width matches narrowed columns count R room rows are left holds = record {
  size = holds.size;
  valid = holds.valid;
  matching = λ p q held.
      let is = (holds.pairs p q).0 held in
      let cell = (left p is.0 q is.1).0 is.2 in
      let match = (rows p q is.0 is.1).0 cell.0 in
      (is.0, match.0, match.1);
  has_each = λ k some T below stable p q held.
      let lt = below p q held in
      let q_in : q < n = lt.1 in
      let near : q < width * 64 = omega arith in
      let cell = (rows p q lt.0 near).1 (q_in, (stable p q held).0) in
      (holds.pairs p q).1 (
        lt.0,
        near,
        (left p lt.0 q near).1 (
          cell,
          λ i i_in has.
              let column = are i i_in in
              (column.1 q q_in).1 (word_kept M ok joins tells (Holds T) k some stable p q held column.0 ((column.1 p lt.0).0 has)),
        ),
      );
}
