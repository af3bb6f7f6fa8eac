use Rattle.std.proofs.Common.{◌≡◌, ℕ, ◌<◌, None, length, sym, subst, arith}
use Rattle.std.proofs.lemmas.List.{get_or_default}
use Rattle.std.specs.declared.cmp.Ordering.TheVariants.{Equal}
use Rattle.delayed_sim.specs.declared.entries.Entry.{Entry}
use Rattle.delayed_sim.specs.Rankings.{triple_cmp}
use Rattle.delayed_sim.specs.Stored.{triple_of, no_entry}
use Rattle.delayed_sim.proofs.EntryLemmas.{found_equal}
use Rattle.delayed_sim.proofs.entries.is_at.Goals as goal

pub returns-in-Equal : goal.returns-in-Equal
returns-in-Equal c =
    let entries = c.args.entries.now in
    let n : ℕ = c.args.letters in
    let at : ℕ = c.args.at in
    let inside : at < length entries = omega (arith, c.if-entries-at.false) in
    let P : Entry → Type 0 = λ e. triple_cmp (triple_of n e) (c.args.left, c.args.ahead.now, c.args.right, None) ≡ Equal in
    λ _. found_equal n entries c.args.left c.args.ahead.now c.args.right at inside (subst P (get_or_default entries at _ no_entry inside) (sym c.in-Equal.ensures))
