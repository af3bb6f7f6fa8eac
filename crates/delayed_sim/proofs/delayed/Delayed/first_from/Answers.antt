use Rattle.std.proofs.Common.{None, List, subst}
use Rattle.delayed_sim.specs.declared.entries.Entry.{Entry}
use Rattle.delayed_sim.specs.Rankings.{Ranking, Triple, IsTripleFrom}
use Rattle.delayed_sim.specs.Stored.{IsFirstFrom}
use Rattle.delayed_sim.proofs.EntryLemmas.{first_triple}
use Rattle.delayed_sim.proofs.delayed.Delayed.first_from.Goals as goal

pub returns : goal.returns
returns c =
    let n = c.self.inside.letters in
    let entries : List Entry = c.self.inside.entries.items in
    let key : Triple = (c.args.p, c.args.ahead.now, c.args.q, None) in
    let P : Ranking → Type 0 = λ R. IsTripleFrom R.triples key c.first_from.result in
    subst P c.self.view_is (first_triple n entries key c.first_from.result (subst (λ es. IsFirstFrom n es key c.first_from.result) c.deref.ensures.value c.first_from.ensures))
