use Rattle.std.proofs.Common.{ℕ, ◌+◌, ◌<◌, sym, ◌∙◌, subst, arith}
use Rattle.std.proofs.lemmas.Bool.{false≢true}
use Rattle.more_accepting.specs.More.{AvoidsAcceptance}
use Rattle.useful_states.specs.declared.gathering.Gathered.{Gathered}
use Rattle.useful_states.specs.Gathering.{HoldsJust}
use Rattle.useful_states.proofs.GatherLemmas.{held_none, held_more, held_same, held_all}
use Rattle.more_accepting.proofs.AvoidLemmas.{cycle_avoids, avoids_on_cycle, avoiding_below}
use Rattle.more_accepting.proofs.making.avoiding.Goals as goal
use Rattle.more_accepting.proofs.making.avoiding.Goals.{then-is_on_cycle+in_ok-add, else-is_on_cycle}

pub loop-state-init : goal.loop-state-init
loop-state-init c =
    let Q : ℕ → Type 0 = λ n. HoldsJust n (λ q. ⊥) c.in_ok-gathered.gathered in
    held_none (AvoidsAcceptance c.args.automaton.now) c.args.automaton.now.states (λ q. ⊥) c.in_ok-gathered.gathered (λ q h. h) (subst Q c.states.ensures.count c.in_ok-gathered.ensures)

pub loop-state-preserved : goal.loop-state-preserved
loop-state-preserved c =
    let A = c.args.automaton.now in
    let P = AvoidsAcceptance A in
    let n : ℕ = c.loop-state.state in
    let g = c.loop-state.gathered in
    let Q : Gathered → Type 0 = λ h. HoldsJust A.states (λ q. (q < n + 1) × P q) h in
    elim c.if-is_on_cycle.branch as (λ _. Q c.if-is_on_cycle.gathered) [
      | then-is_on_cycle+in_ok-add w ↦ subst Q (sym w.gathered-is) (held_more P A.states n g w.add.new.self c.loop-state.invariant (cycle_avoids A c.in_ok-beside.beside c.in_ok-beside.ensures n (c.is_on_cycle.ensures.0 w.if-is_on_cycle.true)) w.in_ok-add.ensures)
      | else-is_on_cycle w ↦ subst Q (sym w.gathered-is) (held_same P A.states n g c.loop-state.invariant (λ is. false≢true (sym w.if-is_on_cycle.false ∙ c.is_on_cycle.ensures.1 (avoids_on_cycle A c.in_ok-beside.beside c.in_ok-beside.ensures n is))))
    ]

pub returns : goal.returns
returns c =
    let A = c.args.automaton.now in
    held_all (AvoidsAcceptance A) A.states c.loop-state.state c.loop-state.gathered
    (λ q is. let below = avoiding_below A c.states-state-end.ensures.valid q is in omega (arith, c.loop-state-test.false, c.states-state-end.ensures.count)) c.loop-state.invariant
