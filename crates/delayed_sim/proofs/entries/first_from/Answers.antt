use Rattle.std.proofs.Common.{◌≡◌, ℕ, ◌+◌, ◌-◌, ◌/◌, ◌<◌, None, length, sym, subst, arith}
use Rattle.std.proofs.lemmas.Bool.{iff_false}
use Rattle.std.proofs.lemmas.List.{get_or_default}
use Rattle.std.specs.declared.cmp.Ordering.TheVariants.{Less}
use Rattle.delayed_sim.specs.declared.entries.Entry.{Entry}
use Rattle.delayed_sim.specs.Rankings.{Triple, triple_cmp}
use Rattle.delayed_sim.specs.Stored.{triple_of, no_entry}
use Rattle.delayed_sim.proofs.EntryLemmas.{first_upper, first_lower, first_found}
use Rattle.delayed_sim.proofs.entries.first_from.Goals as goal

pub halves-preserved-then-is_before : goal.halves-preserved-then-is_before
halves-preserved-then-is_before c =
    let entries = c.args.entries.now in
    let n : ℕ = c.args.letters in
    let low : ℕ = c.halves.low in
    let high : ℕ = c.halves.high in
    let m : ℕ = low + (high - low) / 2 in
    let within = c.halves.invariant.within in
    let below : m < high = omega (arith, c.halves-test.true) in
    let lt : m < length entries = omega arith in
    let key : Triple = (c.args.left, c.args.ahead.now, c.args.right, None) in
    let B : Entry → Type 0 = λ e. triple_cmp (triple_of n e) key ≡ Less in
    first_upper n entries key low high m c.requires.in_order c.halves.invariant (omega arith) below (subst B (get_or_default entries m _ no_entry lt) (c.is_before.ensures.0 c.if-is_before.true))

pub halves-preserved : goal.halves-preserved
halves-preserved c =
    let entries = c.args.entries.now in
    let n : ℕ = c.args.letters in
    let low : ℕ = c.halves.low in
    let high : ℕ = c.halves.high in
    let m : ℕ = low + (high - low) / 2 in
    let within = c.halves.invariant.within in
    let below : m < high = omega (arith, c.halves-test.true) in
    let lt : m < length entries = omega arith in
    let key : Triple = (c.args.left, c.args.ahead.now, c.args.right, None) in
    let B : Entry → Type 0 = λ e. triple_cmp (triple_of n e) key ≡ Less in
    let same = get_or_default entries m _ no_entry lt in
    first_lower n entries key low high m c.requires.in_order c.halves.invariant (omega arith) below (λ less. iff_false c.is_before.ensures c.if-is_before.false (subst B (sym same) less))

pub returns : goal.returns
returns c =
    first_found c.args.letters c.args.entries.now (c.args.left, c.args.ahead.now, c.args.right, None) c.halves.low c.halves.high c.halves.invariant
    (let upto = c.halves.invariant.upto in omega (arith, c.halves-test.false))
