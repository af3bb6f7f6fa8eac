use Rattle.std.proofs.Common.{ℕ, ◌+◌, ◌<◌, sym, ◌∙◌, subst, arith}
use Rattle.std.proofs.lemmas.Bool.{false≢true}
use Rattle.auto_core.specs.Automaton.{IsAccepting}
use Rattle.useful_states.specs.declared.gathering.Gathered.{Gathered}
use Rattle.useful_states.specs.Gathering.{HoldsJust}
use Rattle.useful_states.proofs.GatherLemmas.{held_none, held_more, held_same, held_all}
use Rattle.useful_states.proofs.UsefulLemmas.{accepting_below}
use Rattle.useful_states.proofs.searching.accepting.Goals as goal
use Rattle.useful_states.proofs.searching.accepting.Goals.{then-accepting+in_ok-add, else-accepting}

pub loop-state-init : goal.loop-state-init
loop-state-init c =
    let P = IsAccepting c.args.automaton.now in
    let Q : ℕ → Type 0 = λ n. HoldsJust n (λ q. ⊥) c.in_ok-gathered.gathered in
    held_none P c.args.automaton.now.states (λ q. ⊥) c.in_ok-gathered.gathered (λ q h. h) (subst Q c.states.ensures.count c.in_ok-gathered.ensures)

pub loop-state-preserved : goal.loop-state-preserved
loop-state-preserved c =
    let P = IsAccepting c.args.automaton.now in
    let states : ℕ = c.args.automaton.now.states in
    let n : ℕ = c.loop-state.state in
    let g = c.loop-state.gathered in
    let Q : Gathered → Type 0 = λ h. HoldsJust states (λ q. (q < n + 1) × P q) h in
    elim c.if-accepting.branch as (λ _. Q c.if-accepting.gathered) [
      | then-accepting+in_ok-add w ↦ subst Q (sym w.gathered-is) (held_more P states n g w.add.new.self c.loop-state.invariant (c.accepting.ensures.told.0 w.if-accepting.true) w.in_ok-add.ensures)
      | else-accepting w ↦ subst Q (sym w.gathered-is) (held_same P states n g c.loop-state.invariant (λ is. false≢true (sym w.if-accepting.false ∙ c.accepting.ensures.told.1 is)))
    ]

pub returns : goal.returns
returns c =
    let A = c.args.automaton.now in
    held_all (IsAccepting A) A.states c.loop-state.state c.loop-state.gathered
    (λ q is. let below = accepting_below A c.states-state-end.ensures.valid q is in omega (arith, c.loop-state-test.false, c.states-state-end.ensures.count)) c.loop-state.invariant
