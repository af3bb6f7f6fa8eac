use Rattle.std.proofs.Common.{◌≡◌, List, Contains, sym, subst, arith}
use Rattle.std.proofs.lemmas.List.Filters.{dedup_is}
use Rattle.std.proofs.lemmas.List.Kept.{Contains-from_dedup}
use Rattle.std.proofs.lemmas.List.Sorted.{Contains-permutation, IsPermutation-sym}
use Rattle.std.specs.List.{dedup}
use Rattle.auto_core.specs.Automaton.{HasRepeat}
use Rattle.auto_core.specs.declared.parts.Trans.{Trans}
use Rattle.quotient.proofs.DistinctLemmas.{equal, distinct_once, distinct_has}
use Rattle.letter_classes.proofs.renaming.distinct.Goals as goal

pub returns-clause-once : goal.returns-clause-once
returns-clause-once c = λ r.
    let sorted : List Trans = c.sort.new.self.items in
    let is : c.dedup.new.self.items ≡ dedup equal sorted = dedup_is equal sorted c.dedup.new.self.items c.dedup.ensures.filtered in
    let P : List Trans → Type 0 = λ l. HasRepeat l in
    distinct_once sorted (λ k d lt. c.in_ok-sort.ensures.sorted k d (omega arith) lt) (subst P is r)

pub returns-clause-same : goal.returns-clause-same
returns-clause-same c = λ t.
    let list : List Trans = c.args.list.items in
    let sorted : List Trans = c.sort.new.self.items in
    let is : c.dedup.new.self.items ≡ dedup equal sorted = dedup_is equal sorted c.dedup.new.self.items c.dedup.ensures.filtered in
    let P : List Trans → Type 0 = λ l. Contains l t in
    let moved = c.in_ok-sort.ensures.permutation in (
      λ h. Contains-permutation sorted list t (IsPermutation-sym list sorted moved) (Contains-from_dedup equal sorted t (subst P is h)),
      λ h. subst P (sym is) (distinct_has sorted t (Contains-permutation list sorted t moved h)),
    )
