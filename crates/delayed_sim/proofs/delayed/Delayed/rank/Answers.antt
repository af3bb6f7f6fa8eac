use Rattle.std.proofs.Common.{ℕ, List, subst, Some, sym}
use Rattle.std.specs.Prelude.{IfNone}
use Rattle.auto_core.specs.Delayed.{HasRank}
use Rattle.delayed_sim.specs.declared.entries.Entry.{Entry}
use Rattle.delayed_sim.specs.Rankings.{Ranking, IsRanking}
use Rattle.delayed_sim.specs.Stored.{entry_triples, IsTripleAt}
use Rattle.delayed_sim.proofs.EntryLemmas.{valid_stored, found_rank, found_default}
use Rattle.delayed_sim.proofs.delayed.Delayed.rank.Goals as goal

pub returns-in-Some-clause-none : goal.returns-in-Some-clause-none
returns-in-Some-clause-none c =
    let n = c.self.inside.letters in
    let entries : List Entry = c.self.inside.entries.items in
    let found : IsTripleAt n entries c.args.p c.args.ahead.now c.args.q c.in-Some.at = subst (λ es. IsTripleAt n es c.args.p c.args.ahead.now c.args.q c.in-Some.at) c.deref.ensures.value c.in-Some.ensures.found in
    let P : Ranking → Type 0 = λ R. IfNone c.index.result.now.rank ((r : ℕ) → HasRank R.triples c.args.ahead.now c.args.p c.args.q r → ⊥) in
    subst P c.self.view_is (found_rank n entries c.args.p c.args.ahead.now c.args.q c.in-Some.at c.index.result.now.rank c.self.invariant.in_order found (found_default entries c.in-Some.at c.index.result.now found.0 c.index.ensures))

pub returns-in-Some-clause-valid : goal.returns-in-Some-clause-valid
returns-in-Some-clause-valid c = subst IsRanking c.self.view_is (valid_stored c.self.inside c.self.invariant)

pub returns-in-None-clause-none : goal.returns-in-None-clause-none
returns-in-None-clause-none c =
    let n = c.self.inside.letters in
    let P : Ranking → Type 0 = λ R. (r : ℕ) → HasRank R.triples c.args.ahead.now c.args.p c.args.q r → ⊥ in
    subst P c.self.view_is
    (λ r h. c.in-None.ensures.none (Some r) (subst (λ es. HasRank (entry_triples n es) c.args.ahead.now c.args.p c.args.q r) (sym c.deref.ensures.value) h))

pub returns-in-None-clause-valid : goal.returns-in-None-clause-valid
returns-in-None-clause-valid c = subst IsRanking c.self.view_is (valid_stored c.self.inside c.self.invariant)
