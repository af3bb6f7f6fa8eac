use Rattle.std.proofs.Common.{◌≡◌, ℕ, ◌-◌, ◌*◌, inl, inr, length, arith}
use Rattle.auto_core.specs.Rows.{HasBit}
use Rattle.auto_core.specs.Reach.{HasArc}
use Rattle.graph_rows.specs.Added.{FollowsFrom}
use Rattle.graph_rows.proofs.UnionLemmas.{words_added, halves_added}
use Rattle.graph_rows.proofs.unions.add_ends.Goals as goal

pub returns : goal.returns
returns g c =
    let w : ℕ = c.args.width in
    let h : ℕ = g.row.N in
    let row : ℕ = c.args.row in
    let F : ℕ → Type 0 = FollowsFrom (HasBit c.args.marks.now) (HasArc c.args.table.now c.args.count w) in
    let len : h * 64 ≡ length c.gather.new.low * 64 = omega arith in
    halves_added c.args.into.now c.add_words.new.table c.add_words-2.new.table w row h F c.requires.half c.requires.halves
    (words_added c.args.into.now c.add_words.new.table c.gather.new.low w row 0 (h * 64) F c.gather.ensures.low
    (λ i i_in. c.add_words.ensures.here i (omega (arith, i_in))) (λ q q_in beside. c.add_words.ensures.beside q q_in (elim beside [ inl low ↦ inl (omega (arith, low)) | inr high ↦ inr (omega (arith, high)) ]))
    c.add_words.ensures.others)
    (words_added c.add_words.new.table c.add_words-2.new.table c.gather.new.high w row ((w - h) * 64) (h * 64) F c.gather.ensures.high
    (λ i i_in. c.add_words-2.ensures.here i (omega (arith, i_in))) (λ q q_in beside. c.add_words-2.ensures.beside q q_in (elim beside [ inl low ↦ inl (omega (arith, low)) | inr high ↦ inr (omega (arith, high)) ]))
    c.add_words-2.ensures.others)
