use Rattle.std.proofs.Common.{◌≡◌, ℕ, ◌<◌, Option, List, length, get_or, set, sym, ap, ◌∙◌, subst, arith}
use Rattle.std.specs.Vec.{with_item}
use Rattle.std.proofs.lemmas.List.{get_or_default}
use Rattle.auto_core.specs.Delayed.{RankedTriples, AreTriplesOf}
use Rattle.delayed_sim.specs.Rankings.{Ranking, AreTriplesInOrder, triple_at}
use Rattle.delayed_sim.specs.Rounds.{ranked_as, reranked}
use Rattle.delayed_sim.specs.Stored.{triple_of, entry_triples, no_entry}
use Rattle.delayed_sim.specs.declared.entries.Entry.{Entry}
use Rattle.delayed_sim.proofs.EntryLemmas.{valid_stored, entry_count}
use Rattle.delayed_sim.proofs.RoundLemmas.{triples_set, range_set, order_set}
use Rattle.delayed_sim.proofs.delayed.Delayed.set_rank.Goals as goal

-- the entry with another rank
abbrev with_rank : Entry → Option ℕ → Entry
with_rank e rank = record { left = e.left; ahead = e.ahead; right = e.right; rank = rank }

reranked_entries : (n : ℕ) (entries : List Entry) (at : ℕ) (e : Entry) (o : Option ℕ) → at < length entries → e ≡ get_or entries at e → entry_triples n (set entries at (with_rank e o)) ≡ set (entry_triples n entries) at (ranked_as (triple_at (entry_triples n entries) at) o)
reranked_entries n entries at e o at_in is =
    triples_set n entries at (with_rank e o) o at_in (ap (λ (x : Entry). ranked_as (triple_of n x) o) (is ∙ get_or_default entries at e no_entry at_in))

pub invariant_of-self : goal.invariant_of-self
invariant_of-self c =
    let n : ℕ = c.self.inside.letters in
    let at : ℕ = c.args.at in
    let o : Option ℕ = c.args.rank in
    let entries : List Entry = c.self.inside.entries.items in
    let e : Entry = c.index-entry.result.now in
    let T = entry_triples n entries in
    let at_in : at < length T = subst (λ (R : Ranking). at < length R.triples) (sym c.self.view_is) c.requires in
    let is = reranked_entries n entries at e o (omega (arith, entry_count n entries)) c.index-entry.ensures in
    record {
      letters_from = c.self.invariant.letters_from;
      letters_upto = c.self.invariant.letters_upto;
      in_range = subst (AreTriplesOf c.self.inside.states c.self.inside.labels n) (sym is) (range_set c.self.inside.states c.self.inside.labels n T at o at_in c.self.invariant.in_range);
      in_order = subst AreTriplesInOrder (sym is) (order_set T at o at_in c.self.invariant.in_order);
    }

pub returns-clause-ranked : goal.returns-clause-ranked
returns-clause-ranked c =
    let n : ℕ = c.self.inside.letters in
    let at : ℕ = c.args.at in
    let o : Option ℕ = c.args.rank in
    let entries : List Entry = c.self.inside.entries.items in
    let e : Entry = c.index-entry.result.now in
    let T = entry_triples n entries in
    let at_in : at < length T = subst (λ (R : Ranking). at < length R.triples) (sym c.self.view_is) c.requires in
    let is = reranked_entries n entries at e o (omega (arith, entry_count n entries)) c.index-entry.ensures in
    let ranking : RankedTriples → Ranking = λ X. record { states = c.self.inside.states; labels = c.self.inside.labels; letters = n; triples = X } in
    ap ranking is ∙ ap (λ (R : Ranking). reranked R at o) c.self.view_is

pub returns-clause-valid : goal.returns-clause-valid
returns-clause-valid c =
    valid_stored (record { states = c.self.inside.states; labels = c.self.inside.labels; letters = c.self.inside.letters; entries = with_item c.self.inside.entries c.args.at (with_rank c.index-entry.result.now c.args.rank) }) (invariant_of-self c)
