use Rattle.std.proofs.Common.{IfOk, ℕ, ◌≡◌, ◌↔◌, List, ◌∙◌, subst}
use Rattle.auto_core.specs.Rows.{HasBit}
use Rattle.auto_core.specs.Pairs.{set_after}
use Rattle.auto_core.specs.declared.parts.Mode.TheVariants.{Finite}
use Rattle.shared_graphs.specs.declared.graphs.Graphs.{Graphs}
use Rattle.shared_graphs.specs.Graphs.{block_at, HasNumber}
use Rattle.cert_check.specs.Supers.{IsLonger}
use Rattle.cert_check.proofs.SuperLemmas.{set_longer, if_ok_as}
use Rattle.cert_check.proofs.blocks.longer_set.Goals as goal

pub returns : goal.returns
returns c =
    let B = c.args.second.now in
    let old : Graphs = c.args.graphs.now in
    let new : Graphs = c.number_of.new.self in
    let n : ℕ = c.args.number in
    let a : ℕ = c.args.label in
    let row : List ℕ = c.in_ok-set.set.items in
    let from : c.block.result.now ≡ block_at old.graphs.items n = c.block.ensures in
    let after : (q : ℕ) → HasBit row q ↔ set_after B (HasBit (block_at old.graphs.items n)) a q =
    subst (λ (b : List ℕ). (q : ℕ) → HasBit row q ↔ set_after B (HasBit b) a q) from c.in_ok-set.ensures.members in
    if_ok_as c.number_of.result (HasNumber row old new) (IsLonger Finite B old new n a)
    (λ k has. set_longer B old new n a k row (c.number_of.ensures.pool.0 ∙ c.requires.stock) has c.in_ok-set.ensures.row after)
    (subst (λ (r : List ℕ). IfOk c.number_of.result (HasNumber r old new)) c.deref.ensures.value c.number_of.ensures.number)
