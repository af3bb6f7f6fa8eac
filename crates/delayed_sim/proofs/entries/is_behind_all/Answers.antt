use Rattle.std.proofs.Common.{◌≡◌, ℕ, ◌-◌, ◌<◌, None, List, get_or, length, sym, ◌∙◌, subst, arith}
use Rattle.std.proofs.lemmas.Bool.{eqb-false}
use Rattle.std.proofs.lemmas.List.{get_or_default}
use Rattle.std.specs.declared.cmp.Ordering.TheVariants.{Less}
use Rattle.delayed_sim.specs.declared.entries.Entry.{Entry}
use Rattle.delayed_sim.specs.Rankings.{triple_cmp}
use Rattle.delayed_sim.specs.Stored.{triple_of, no_entry}
use Rattle.delayed_sim.proofs.EntryLemmas.{between_end}
use Rattle.delayed_sim.proofs.entries.is_behind_all.Goals as goal

pub returns : goal.returns
returns c = λ before.
    let entries = c.args.entries.now in
    let n : ℕ = c.args.letters in
    let e : Entry = c.args.entry.now in
    let last : ℕ = length entries - 1 in
    let inside : last < length entries = omega (arith, eqb-false (length entries) 0 (sym c.is_empty.ensures ∙ c.if-is_empty.false)) in
    let B : Entry → Type 0 = λ x. triple_cmp (triple_of n x) (e.left, c.ahead_of.result.now, e.right, None) ≡ Less in
    between_end n entries (triple_of n e) last c.requires.in_order (omega arith)
    (subst (λ (b : List ℕ). triple_cmp (triple_of n (get_or entries last no_entry)) (e.left, b, e.right, None) ≡ Less) c.ahead_of.ensures
    (subst B (get_or_default entries last _ no_entry inside) (c.is_before.ensures.0 before)))
