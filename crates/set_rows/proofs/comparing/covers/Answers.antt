use Rattle.std.proofs.Common.{◌≡◌, ◌↔◌, ℕ, true, IsTrue, refl, arith, rules}
use Rattle.auto_core.specs.Game.{Holds}
use Rattle.auto_core.specs.Rows.{HasBit}
use Rattle.set_rows.specs.Sets.{IsBelow}
use Rattle.set_rows.proofs.SetLemmas.{covered_more, covered_all}
use Rattle.set_rows.proofs.comparing.covers.Goals as goal

pub loop-state-preserved : goal.loop-state-preserved
loop-state-preserved c =
    let S : ℕ → ℕ → Type 0 = Holds c.args.order.now.pairs in
    let told : IsTrue c.is_covered.result ↔ (HasBit c.args.row.now c.loop-state.state → IsBelow S c.args.other.now c.loop-state.state) = c.is_covered.ensures in
    let is : c.is_covered.result ≡ true = search rules in
    covered_more S c.args.row.now c.args.other.now c.loop-state.state c.loop-state.invariant (told.0 is)

pub returns : goal.returns
returns c = (
  λ told. covered_all (Holds c.args.order.now.pairs) c.args.order.now.size c.args.row.now c.args.other.now c.loop-state.state c.requires.row (omega arith) c.loop-state.invariant,
  λ all. refl,
)
