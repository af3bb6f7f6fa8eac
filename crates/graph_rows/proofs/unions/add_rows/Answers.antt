use Rattle.std.proofs.Common.{◌≡◌, ℕ, ◌+◌, ◌*◌, ◌<◌, ◌≤◌, false, sym, ◌∙◌, arith, rules}
use Rattle.std.proofs.lemmas.Bool.{false≢true}
use Rattle.std.proofs.lemmas.Nat.{row_fits}
use Rattle.auto_core.specs.Rows.{HasBit, bit_of}
use Rattle.auto_core.specs.Reach.{HasArc}
use Rattle.graph_rows.specs.Added.{FollowsFrom}
use Rattle.graph_rows.proofs.AddedLemmas.{added_none, added_then, added_as, added_row}
use Rattle.graph_rows.proofs.ArcLemmas.{row_marks}
use Rattle.graph_rows.proofs.ExtensionLemmas.{Through, through_none, through_more, through_all}
use Rattle.graph_rows.proofs.unions.add_rows.Goals as goal

pub row_at-requires : goal.row_at-requires
row_at-requires c =
    let here : HasBit c.args.marks.now c.in-Some.middle = search rules in
    omega (arith, row_fits c.in-Some.middle c.args.width c.args.count c.args.width (c.requires.marks_below c.in-Some.middle here) (omega arith), c.requires.table.len)

pub loop-middle-init : goal.loop-middle-init
loop-middle-init c =
    let w : ℕ = c.args.width in
    let From : ℕ → Type 0 = HasBit c.args.marks.now in
    let R : ℕ → ℕ → Type 0 = HasArc c.args.table.now c.args.count w in (
      added_none w c.args.row (Through From 0 R) c.args.into.now (through_none From R),
      omega arith,
    )

pub loop-middle-preserved : goal.loop-middle-preserved
loop-middle-preserved c =
    let n : ℕ = c.args.count in
    let w : ℕ = c.args.width in
    let row : ℕ = c.args.row in
    let at : ℕ = c.loop-middle.at in
    let middle : ℕ = c.in-Some.middle in
    let From : ℕ → Type 0 = HasBit c.args.marks.now in
    let R : ℕ → ℕ → Type 0 = HasArc c.args.table.now n w in
    let here : HasBit c.args.marks.now middle = search rules in
    let from : at ≤ middle = search rules in
    let none : (k : ℕ) → at ≤ k → k < middle → bit_of c.args.marks.now k ≡ false = search rules in
    let near : middle < w * 64 = search rules in
    let middle_in : middle < n = c.requires.marks_below middle here in
    let marks = row_marks c.args.table.now c.row_at.result.now n w middle c.requires.table middle_in c.row_at.ensures.bits c.row_at.ensures.outside in
    let free : (k : ℕ) → at ≤ k → k < middle → From k → ⊥ = λ k k_from k_to has. false≢true (sym (none k k_from k_to) ∙ has) in (
      added_then w row (Through From at R) (R middle) (Through From (middle + 1) R) c.args.into.now c.loop-middle.into c.add_whole_row.new.table
          (λ q q_in. through_more From at middle R (R middle) from here free q (λ h. h, λ h. h))
          c.loop-middle.invariant.0
          (added_row w row (R middle) c.row_at.result.now c.loop-middle.into c.add_whole_row.new.table marks c.add_whole_row.ensures.here c.add_whole_row.ensures.others),
      omega arith,
    )

pub returns : goal.returns
returns c =
    let w : ℕ = c.args.width in
    let From : ℕ → Type 0 = HasBit c.args.marks.now in
    let R : ℕ → ℕ → Type 0 = HasArc c.args.table.now c.args.count w in
    let none : (k : ℕ) → c.loop-middle.at ≤ k → bit_of c.args.marks.now k ≡ false = search rules in
    added_as w c.args.row (Through From c.loop-middle.at R) (FollowsFrom From R) c.args.into.now c.loop-middle.into
    (λ q q_in. through_all From c.loop-middle.at R (λ k k_from has. false≢true (sym (none k k_from) ∙ has)) q) c.loop-middle.invariant.0
