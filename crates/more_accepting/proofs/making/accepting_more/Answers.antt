use Rattle.std.proofs.Common.{ℕ, ◌+◌, ◌<◌, sym, ◌∙◌, subst, arith}
use Rattle.std.proofs.lemmas.Bool.{false≢true}
use Rattle.more_accepting.specs.More.{AcceptsMore}
use Rattle.useful_states.specs.declared.gathering.Gathered.{Gathered}
use Rattle.useful_states.specs.Gathering.{HoldsJust}
use Rattle.useful_states.proofs.GatherLemmas.{held_none, held_more, held_same, held_all}
use Rattle.more_accepting.proofs.AvoidLemmas.{accepting_below_more}
use Rattle.more_accepting.proofs.making.accepting_more.Goals as goal
use Rattle.more_accepting.proofs.making.accepting_more.Goals.{then-accepts+in_ok-add, else-accepts}

pub loop-state-init : goal.loop-state-init
loop-state-init c =
    let Q : ℕ → Type 0 = λ n. HoldsJust n (λ q. ⊥) c.in_ok-gathered.gathered in
    held_none (AcceptsMore c.args.automaton.now) c.args.automaton.now.states (λ q. ⊥) c.in_ok-gathered.gathered (λ q h. h) (subst Q c.states.ensures.count c.in_ok-gathered.ensures)

pub loop-state-preserved : goal.loop-state-preserved
loop-state-preserved c =
    let A = c.args.automaton.now in
    let P = AcceptsMore A in
    let n : ℕ = c.loop-state.state in
    let g = c.loop-state.gathered in
    let Q : Gathered → Type 0 = λ h. HoldsJust A.states (λ q. (q < n + 1) × P q) h in
    elim c.if-accepts.branch as (λ _. Q c.if-accepts.gathered) [
      | then-accepts+in_ok-add w ↦ subst Q (sym w.gathered-is) (held_more P A.states n g w.add.new.self c.loop-state.invariant (c.accepts.ensures.0 w.if-accepts.true) w.in_ok-add.ensures)
      | else-accepts w ↦ subst Q (sym w.gathered-is) (held_same P A.states n g c.loop-state.invariant (λ is. false≢true (sym w.if-accepts.false ∙ c.accepts.ensures.1 is)))
    ]

pub returns : goal.returns
returns c =
    let A = c.args.automaton.now in
    held_all (AcceptsMore A) A.states c.loop-state.state c.loop-state.gathered
    (λ q is. let below = accepting_below_more A c.states-state-end.ensures.valid q is in omega (arith, c.loop-state-test.false, c.states-state-end.ensures.count)) c.loop-state.invariant
