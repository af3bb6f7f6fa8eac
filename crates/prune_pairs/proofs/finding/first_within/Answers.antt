use Rattle.std.proofs.Common.{inl, inr, sym, ◌∙◌, subst, arith}
use Rattle.std.proofs.lemmas.Bool.{cases_lt, cases_eq, false≢true}
use Rattle.auto_core.specs.Game.{Holds}
use Rattle.auto_core.specs.Pruning.{IsBetterAt}
use Rattle.prune_pairs.proofs.finding.first_within.Goals as goal

pub returns-then-better-clause-some : goal.returns-then-better-clause-some
returns-then-better-clause-some c =
    let from = c.loop-by.auto.by in
    let test = c.loop-by-test.true in
    record {
      among = (omega arith, omega arith);
      holds = c.better.ensures.0 c.if-better.true;
      least = λ v among good. elim (cases_lt v c.loop-by.by) [ inl lt ↦ absurd (c.loop-by.invariant v among.0 lt good) | inr le ↦ le ];
    }

pub loop-by-preserved : goal.loop-by-preserved
loop-by-preserved c = λ u from lt good.
    let good_at = IsBetterAt c.args.automaton.now c.args.pair (Holds c.args.back.now.pairs) (Holds c.args.ahead.now.pairs) c.args.t in
    elim (cases_eq u c.loop-by.by) [
      | inl e ↦ false≢true (sym c.if-better.false ∙ c.better.ensures.1 (subst good_at e good))
      | inr other ↦ c.loop-by.invariant u from (omega arith) good
    ]
