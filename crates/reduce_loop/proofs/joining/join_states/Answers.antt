use Rattle.std.proofs.Common.{◌≡◌, ◌<◌, List, ℕ, sym, subst, arith}
use Rattle.auto_core.specs.Game.{Holds, Close}
use Rattle.auto_core.specs.Quotient.{AreClassesOf}
use Rattle.reduce_loop.proofs.joining.join_states.Goals as goal

pub classes-requires : goal.classes-requires
classes-requires c =
    let lt : c.args.automaton.now.initial < c.args.automaton.now.states = c.states-states.ensures.valid.initial_is_state in
    omega (arith, c.requires)

pub returns-clause-joined : goal.returns-clause-joined
returns-clause-joined c =
    let rel = c.args.rel.now in
    let J : ℕ → List ℕ → Type 0 = λ n l. AreClassesOf n (Close (Holds rel.pairs)) l in
    let joined : J rel.size c.in_ok-joined.joined = c.in_ok-joined.ensures.joined in
    let named : c.in_ok-classes.classes ≡ c.in_ok-joined.joined = c.in_ok-classes.ensures in
    subst (λ l. J c.args.automaton.now.states l) (sym named) (subst (λ n. J n c.in_ok-joined.joined) c.requires joined)
