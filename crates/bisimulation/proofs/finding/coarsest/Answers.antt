use Rattle.std.proofs.Common.{◌≡◌, ℕ, List, length, Contains, sym, subst}
use Rattle.auto_core.specs.Quotient.{AreClassesOf}
use Rattle.bisimulation.proofs.NumberLemmas.{Joined}
use Rattle.bisimulation.proofs.RoundLemmas.{is_coarsest}
use Rattle.bisimulation.proofs.finding.coarsest.Goals as goal

pub start-requires-clause-all : goal.start-requires-clause-all
start-requires-clause-all c = λ p p_in. subst (λ l. Contains l p) (sym c.as_slice.ensures.keys) (c.in_ok-due.ensures.all p p_in)

pub returns-then-is_empty : goal.returns-then-is_empty
returns-then-is_empty c =
    let none : length c.loop-round.due.keys ≡ 0 = c.is_empty.ensures.0 c.if-is_empty.true in
    is_coarsest c.args.automaton.now c.states.ensures.valid c.loop-round.table.keys c.loop-round.due.keys c.loop-round.partition c.loop-round.invariant none c.in_ok-classes.classes
    (subst (λ (l : List ℕ). AreClassesOf (length l) (Joined l) c.in_ok-classes.classes) c.deref.ensures.value c.in_ok-classes.ensures)
