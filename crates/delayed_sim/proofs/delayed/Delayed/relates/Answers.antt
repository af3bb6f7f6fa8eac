use Rattle.std.proofs.Common.{◌↔◌, false, Contains, subst, sym}
use Rattle.std.specs.Prelude.{IsTrue}
use Rattle.std.proofs.lemmas.Bool.{false≢true}
use Rattle.auto_core.specs.Delayed.{HoldsTriple}
use Rattle.delayed_sim.specs.Rankings.{Ranking, IsRanking}
use Rattle.delayed_sim.specs.Stored.{entry_triples}
use Rattle.delayed_sim.proofs.EntryLemmas.{valid_stored}
use Rattle.delayed_sim.proofs.delayed.Delayed.relates.Goals as goal

pub returns-in-Some-clause-valid : goal.returns-in-Some-clause-valid
returns-in-Some-clause-valid c = subst IsRanking c.self.view_is (valid_stored c.self.inside c.self.invariant)

pub returns-in-None-clause-told : goal.returns-in-None-clause-told
returns-in-None-clause-told c =
    let n = c.self.inside.letters in
    let P : Ranking → Type 0 = λ R. IsTrue false ↔ HoldsTriple R.triples c.args.ahead.now c.args.p c.args.q in
    subst P c.self.view_is (
      λ t. absurd (false≢true t),
      λ h. absurd (c.in-None.ensures.none h.0 (subst (λ es. Contains (entry_triples n es) (c.args.p, c.args.ahead.now, c.args.q, h.0)) (sym c.deref.ensures.value) h.1)),
    )

pub returns-in-None-clause-valid : goal.returns-in-None-clause-valid
returns-in-None-clause-valid c = subst IsRanking c.self.view_is (valid_stored c.self.inside c.self.invariant)
