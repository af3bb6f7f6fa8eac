use Rattle.std.proofs.Common.{◌≡◌, ℕ, ◌<◌, length, sym, ap, ◌∙◌, subst}
use Rattle.std.specs.List.{remove}
use Rattle.auto_core.specs.Delayed.{RankedTriples, AreTriplesOf}
use Rattle.delayed_sim.specs.Rankings.{Ranking, AreTriplesInOrder}
use Rattle.delayed_sim.specs.Rounds.{without}
use Rattle.delayed_sim.specs.Stored.{entry_triples}
use Rattle.delayed_sim.proofs.EntryLemmas.{valid_stored}
use Rattle.delayed_sim.proofs.RoundLemmas.{triples_remove, range_without, order_without}
use Rattle.delayed_sim.proofs.delayed.Delayed.take_out.Goals as goal

pub invariant_of-self : goal.invariant_of-self
invariant_of-self c =
    let n : ℕ = c.self.inside.letters in
    let at : ℕ = c.args.at in
    let T = entry_triples n c.self.inside.entries.items in
    let at_in : at < length T = subst (λ (R : Ranking). at < length R.triples) (sym c.self.view_is) c.requires in
    let is : entry_triples n c.remove.new.self.items ≡ remove T at = ap (entry_triples n) c.remove.ensures.items ∙ triples_remove n c.self.inside.entries.items at in
    record {
      letters_from = c.self.invariant.letters_from;
      letters_upto = c.self.invariant.letters_upto;
      in_range = subst (AreTriplesOf c.self.inside.states c.self.inside.labels n) (sym is) (range_without c.self.inside.states c.self.inside.labels n T at at_in c.self.invariant.in_range);
      in_order = subst AreTriplesInOrder (sym is) (order_without T at at_in c.self.invariant.in_order);
    }

pub returns-clause-left : goal.returns-clause-left
returns-clause-left c =
    let n : ℕ = c.self.inside.letters in
    let at : ℕ = c.args.at in
    let T = entry_triples n c.self.inside.entries.items in
    let is : entry_triples n c.remove.new.self.items ≡ remove T at = ap (entry_triples n) c.remove.ensures.items ∙ triples_remove n c.self.inside.entries.items at in
    let ranking : RankedTriples → Ranking = λ X. record { states = c.self.inside.states; labels = c.self.inside.labels; letters = n; triples = X } in
    ap ranking is ∙ ap (λ (R : Ranking). without R at) c.self.view_is

pub returns-clause-valid : goal.returns-clause-valid
returns-clause-valid c = valid_stored (record { states = c.self.inside.states; labels = c.self.inside.labels; letters = c.self.inside.letters; entries = c.remove.new.self }) (invariant_of-self c)
