use Rattle.std.proofs.Common.{◌↔◌, ℕ, ◌+◌, List, take, get_or, sym, subst}
use Rattle.auto_core.specs.Automaton.{Automaton}
use Rattle.auto_core.specs.Pairs.{set_after}
use Rattle.auto_core.specs.Rows.{HasBit}
use Rattle.lasso_shrink.specs.Prefixes.{IsFront}
use Rattle.lasso_shrink.proofs.PrefixLemmas.{front_goes}
use Rattle.lasso_shrink.proofs.places.go_on.Goals as goal

pub returns : goal.returns
returns c =
    let A : Automaton = c.args.automaton.now in
    let u : List ℕ = c.args.lasso.now.prefix in
    let k : ℕ = c.args.place in
    let row : List ℕ = c.args.front.now in
    let next : List ℕ = c.write_after.new.out in
    let After : List ℕ → Type 0 = λ w. (q : ℕ) → HasBit next q ↔ set_after A (HasBit row) (get_or w k 0) q in
    let after : After u = subst After c.as_slice.ensures c.write_after.ensures.members in
    subst (IsFront A (take (k + 1) u)) (sym c.copy_from_slice.ensures.after)
    (front_goes A u row next k c.requires.place_in c.requires.front c.write_after.ensures.row after)
