use Rattle.std.proofs.Common.{ℕ, List, inl, inr, get_or, arith, sym, ◌∙◌, subst}
use Rattle.std.proofs.lemmas.Bool.{cases_eq}
use Rattle.std.proofs.lemmas.List.{get_or_default}
use Rattle.auto_core.specs.Automaton.{Moves}
use Rattle.bisimulation.proofs.finding.sources.Goals as goal

pub loop-i-preserved : goal.loop-i-preserved
loop-i-preserved c =
    let A = c.args.automaton.now in
    let states : List ℕ = c.args.states.now in
    let i : ℕ = c.loop-i.i in
    let e = c.in_ok-add_sources.ensures in (
      e.below,
      λ j p a lt move. elim (cases_eq j i) [
        | inl same ↦ e.sources p a (subst (λ (x : ℕ). Moves A p a (get_or states x 0)) same move)
        | inr apart ↦ e.more p (c.loop-i.invariant.1 j p a (omega arith) move)
      ],
    )

pub returns-clause-below : goal.returns-clause-below
returns-clause-below c = c.loop-i.invariant.0

pub returns-clause-sources : goal.returns-clause-sources
returns-clause-sources c = λ p a q h move.
    let A = c.args.automaton.now in
    let states : List ℕ = c.args.states.now in
    let (j, lt, is) = h in
    c.loop-i.invariant.1 j p a (omega (arith, c.loop-i-test.false)) (subst (Moves A p a) (sym (get_or_default states j 0 q lt ∙ is)) move)
