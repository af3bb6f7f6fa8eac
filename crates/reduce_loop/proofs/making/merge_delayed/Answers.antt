use Rattle.std.proofs.Common.{ℕ, refl}
use Rattle.auto_core.specs.Delayed.{AreStateRelated, letters_for}
use Rattle.auto_core.specs.Game.{Holds}
use Rattle.reduce_loop.proofs.DelayedLemmas.{classes_over, related_pairs}
use Rattle.reduce_loop.proofs.making.merge_delayed.Goals as goal

pub returns-clause-after : goal.returns-clause-after
returns-clause-after c =
    let ranks = c.in_ok-ranks.ensures in
    record {
      pairs = c.in_ok-rel.rel.pairs;
      classes = c.in_ok-joined.joined.classes;
      greatest = (
        c.in_ok-ranks.ranks.triples,
        ranks.greatest,
        related_pairs c.args.automaton.now c.args.sight.letters c.in_ok-ranks.ranks c.in_ok-rel.rel.pairs ranks.states ranks.labels ranks.letters ranks.greatest c.in_ok-rel.ensures.pairs,
      );
      joined = c.in_ok-joined.ensures.joined;
      quotient = c.in_ok-joined.ensures.quotient;
    }

pub returns-clause-entry : goal.returns-clause-entry
returns-clause-entry c =
    let A = c.args.automaton.now in
    let n : ℕ = c.args.sight.letters in
    let found = c.in_ok-ranks.ranks in
    let ranks = c.in_ok-ranks.ensures in
    let rel = c.in_ok-rel.rel in
    let same = related_pairs A n found rel.pairs ranks.states ranks.labels ranks.letters ranks.greatest c.in_ok-rel.ensures.pairs in (
      found,
      c.in_ok-joined.joined.classes,
      refl,
      record {
        valid = ranks.valid;
        on_states = ranks.states;
        on_labels = ranks.labels;
        announced = ranks.letters;
        greatest = ranks.greatest;
        joined = classes_over A.states (Holds rel.pairs) (AreStateRelated A.labels (letters_for A n) found.triples) c.in_ok-joined.joined.classes same c.in_ok-joined.ensures.joined;
      },
    )
