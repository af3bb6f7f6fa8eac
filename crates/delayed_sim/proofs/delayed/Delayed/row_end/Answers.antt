use Rattle.std.proofs.Common.{◌≡◌, ℕ, ◌<◌, ◌≤◌, List, length, subst}
use Rattle.delayed_sim.specs.declared.entries.Entry.{Entry}
use Rattle.std.specs.Cmp.Lexicographic.{slice_cmp}
use Rattle.std.specs.Ordering.{nat_cmp}
use Rattle.std.specs.declared.cmp.Ordering.TheVariants.{Less}
use Rattle.delayed_sim.specs.Rankings.{Ranking, IsRanking, row_key, triple_at}
use Rattle.delayed_sim.proofs.EntryLemmas.{IsRowEnd, valid_stored, row_same, row_next}
use Rattle.delayed_sim.proofs.delayed.Delayed.row_end.Goals as goal

pub returns-clause-same : goal.returns-clause-same
returns-clause-same c =
    let n = c.self.inside.letters in
    let entries : List Entry = c.self.inside.entries.items in
    let P : Ranking → Type 0 = λ R. (i : ℕ) → c.args.at ≤ i → i < c.row_end.result → row_key (triple_at R.triples i) ≡ row_key (triple_at R.triples c.args.at) in
    let end : IsRowEnd n entries c.args.at c.row_end.result = subst (λ es. IsRowEnd n es c.args.at c.row_end.result) c.deref.ensures.value (record { onward = c.row_end.ensures.onward; within = c.row_end.ensures.within; same = c.row_end.ensures.same; other = c.row_end.ensures.other }) in
    subst P c.self.view_is (row_same n entries c.args.at c.row_end.result end)

pub returns-clause-next : goal.returns-clause-next
returns-clause-next c =
    let n = c.self.inside.letters in
    let entries : List Entry = c.self.inside.entries.items in
    let P : Ranking → Type 0 = λ R. c.row_end.result < length R.triples → slice_cmp nat_cmp (row_key (triple_at R.triples c.args.at)) (row_key (triple_at R.triples c.row_end.result)) ≡ Less in
    let end : IsRowEnd n entries c.args.at c.row_end.result = subst (λ es. IsRowEnd n es c.args.at c.row_end.result) c.deref.ensures.value (record { onward = c.row_end.ensures.onward; within = c.row_end.ensures.within; same = c.row_end.ensures.same; other = c.row_end.ensures.other }) in
    subst P c.self.view_is (row_next n entries c.args.at c.row_end.result c.self.invariant.in_order end)

pub returns-clause-valid : goal.returns-clause-valid
returns-clause-valid c = subst IsRanking c.self.view_is (valid_stored c.self.inside c.self.invariant)
