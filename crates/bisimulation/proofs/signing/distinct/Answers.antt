use Rattle.std.proofs.Common.{◌≡◌, ℕ, List, Contains, eqb, sym, subst}
use Rattle.std.proofs.lemmas.List.Filters.{dedup_is}
use Rattle.std.proofs.lemmas.List.Kept.{Contains-dedup_nat, Contains-from_dedup}
use Rattle.std.proofs.lemmas.List.Sorted.{Contains-permutation, IsPermutation-sym}
use Rattle.std.proofs.lemmas.Map.Keys.{IsStrictlyIncreasing-dedup}
use Rattle.std.specs.List.{dedup}
use Rattle.std.specs.List.Sorted.{IsStrictlyIncreasing}
use Rattle.bisimulation.proofs.signing.distinct.Goals as goal

pub returns-clause-rising : goal.returns-clause-rising
returns-clause-rising c =
    let sorted : List ℕ = c.sort.new.self.items in
    let is : c.dedup.new.self.items ≡ dedup eqb sorted = dedup_is eqb sorted c.dedup.new.self.items c.dedup.ensures.filtered in
    subst IsStrictlyIncreasing (sym is) (IsStrictlyIncreasing-dedup sorted c.in_ok-sort.ensures.sorted)

pub returns-clause-same : goal.returns-clause-same
returns-clause-same c = λ q.
    let list : List ℕ = c.args.list.items in
    let sorted : List ℕ = c.sort.new.self.items in
    let is : c.dedup.new.self.items ≡ dedup eqb sorted = dedup_is eqb sorted c.dedup.new.self.items c.dedup.ensures.filtered in
    let P : List ℕ → Type 0 = λ l. Contains l q in
    let moved = c.in_ok-sort.ensures.permutation in (
      λ h. Contains-permutation sorted list q (IsPermutation-sym list sorted moved) (Contains-from_dedup eqb sorted q (subst P is h)),
      λ h. subst P (sym is) (Contains-dedup_nat sorted q (Contains-permutation list sorted q moved h)),
    )
