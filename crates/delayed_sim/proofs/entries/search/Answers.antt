use Rattle.std.proofs.Common.{◌≡◌, ℕ, ◌+◌, ◌-◌, ◌/◌, ◌<◌, None, length, sym, subst, arith}
use Rattle.std.proofs.lemmas.List.{get_or_default}
use Rattle.std.specs.declared.cmp.Ordering.TheVariants.{Less, Equal, Greater}
use Rattle.delayed_sim.specs.declared.entries.Entry.{Entry}
use Rattle.delayed_sim.specs.Rankings.{Triple, triple_cmp}
use Rattle.delayed_sim.specs.Stored.{triple_of, no_entry, IsBetween}
use Rattle.delayed_sim.proofs.EntryLemmas.{between_upper, between_lower, found_equal}
use Rattle.delayed_sim.proofs.entries.search.Goals as goal

pub returns-in-Equal-clause-found : goal.returns-in-Equal-clause-found
returns-in-Equal-clause-found c =
    let entries = c.args.entries.now in
    let n : ℕ = c.args.letters in
    let low : ℕ = c.halves.low in
    let high : ℕ = c.halves.high in
    let m : ℕ = low + (high - low) / 2 in
    let within = c.halves.invariant.within in
    let lt : m < length entries = omega (arith, c.halves-test.true) in
    let P : Entry → Type 0 = λ e. triple_cmp (triple_of n e) (c.args.left, c.args.ahead.now, c.args.right, None) ≡ Equal in
    found_equal n entries c.args.left c.args.ahead.now c.args.right m lt (subst P (get_or_default entries m _ no_entry lt) (sym c.in-Equal.ensures))

pub halves-preserved-in-Less : goal.halves-preserved-in-Less
halves-preserved-in-Less c =
    let entries = c.args.entries.now in
    let n : ℕ = c.args.letters in
    let low : ℕ = c.halves.low in
    let high : ℕ = c.halves.high in
    let m : ℕ = low + (high - low) / 2 in
    let within = c.halves.invariant.within in
    let below : m < high = omega (arith, c.halves-test.true) in
    let lt : m < length entries = omega arith in
    let key : Triple = (c.args.left, c.args.ahead.now, c.args.right, None) in
    let P : Entry → Type 0 = λ e. triple_cmp (triple_of n e) key ≡ Less in
    between_upper n entries key low high m c.requires.in_order c.halves.invariant (omega arith) below (subst P (get_or_default entries m _ no_entry lt) (sym c.in-Less.ensures))

pub halves-preserved : goal.halves-preserved
halves-preserved c =
    let entries = c.args.entries.now in
    let n : ℕ = c.args.letters in
    let low : ℕ = c.halves.low in
    let high : ℕ = c.halves.high in
    let m : ℕ = low + (high - low) / 2 in
    let within = c.halves.invariant.within in
    let below : m < high = omega (arith, c.halves-test.true) in
    let lt : m < length entries = omega arith in
    let key : Triple = (c.args.left, c.args.ahead.now, c.args.right, None) in
    let P : Entry → Type 0 = λ e. triple_cmp (triple_of n e) key ≡ Greater in
    between_lower n entries key low high m c.requires.in_order c.halves.invariant (omega arith) below (subst P (get_or_default entries m _ no_entry lt) (sym c.in-Greater.ensures))

pub returns-clause-gap : goal.returns-clause-gap
returns-clause-gap c =
    let h = c.halves.invariant in
    let upto = h.upto in
    let met : c.halves.high ≡ c.halves.low = omega (arith, c.halves-test.false) in
    subst (λ i. IsBetween c.args.letters c.args.entries.now (c.args.left, c.args.ahead.now, c.args.right, None) c.halves.low i) met h
