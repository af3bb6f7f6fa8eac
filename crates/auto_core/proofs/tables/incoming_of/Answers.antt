use Rattle.std.proofs.Common.{◌≡◌, rules, sym, List, ℕ, subst, IsSorted, IfOk, Vec, Global}
use Rattle.auto_core.specs.Build.{AreArrivals}
use Rattle.std.proofs.lemmas.Result.{IfOk-weaker}
use Rattle.std.specs.List.Sorted.{IsPermutation}
use Rattle.auto_core.specs.contracts.tables.ArrivalOrd.TheImpl.{cmp-value}
use Rattle.auto_core.specs.declared.tables.Arrival.{Arrival}
use Rattle.auto_core.specs.Arrivals.{AreNumbered, arrival_numbers}
use Rattle.auto_core.proofs.TableLemmas.{arrivals_from_sorted}
use Rattle.auto_core.proofs.tables.incoming_of.Goals as goal

pub returns : goal.returns
returns c =
    let given : List Arrival = c.in_ok-arrivals.arrivals.items in
    let sorted : List Arrival = c.sort.new.self.items in
    let numbered : AreNumbered c.args.transitions.now given = search rules in
    let same : IsPermutation given sorted = search rules in
    let up : IsSorted cmp-value.it sorted = search rules in
    let Is : Vec ℕ Global → Type 0 = λ v. v.items ≡ arrival_numbers sorted in
    let ok : IfOk c.numbers_of.result Is = search rules in
    IfOk-weaker c.numbers_of.result Is (λ v. AreArrivals c.args.transitions.now v.items)
    (λ v e. let Q : List ℕ → Type 0 = λ xs. AreArrivals c.args.transitions.now xs in subst Q (sym e) (arrivals_from_sorted c.args.transitions.now given sorted numbered same up))
    ok
