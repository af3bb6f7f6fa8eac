use Rattle.std.proofs.Common.{◌≡◌, ℕ, subst}
use Rattle.useful_states.specs.Gathering.{HasGained, HoldsJust}
use Rattle.useful_states.proofs.UsefulLemmas.{initial_and_after}
use Rattle.useful_states.proofs.searching.reached.Goals as goal

pub returns : goal.returns
returns c =
    let A = c.args.automaton.now in
    let P : ℕ → Type 0 = λ n. HoldsJust n (λ q. ⊥) c.in_ok-gathered.gathered in
    let Q : ℕ → Type 0 = λ n. HasGained (λ q. q ≡ n) c.in_ok-gathered.gathered c.add.new.self in
    initial_and_after A A.states c.in_ok-gathered.gathered c.add.new.self c.close.new.self (subst P c.states.ensures.count c.in_ok-gathered.ensures)
    (subst Q c.initial.ensures.state c.in_ok-add.ensures) c.in_ok-close.ensures
