use Rattle.std.proofs.Common.{◌↔◌, ◌<◌, ℕ, sym, subst}
use Rattle.auto_core.specs.Automaton.{Automaton}
use Rattle.auto_core.specs.Rows.{HasBit}
use Rattle.set_rows.specs.Sets.{IsRow}
use Rattle.lasso_accept.specs.Looping.{AcceptsLoopFrom}
use Rattle.lasso_accept.proofs.tails.Tails.accepts_lasso.Goals as goal

pub is_accepted-requires-clause-row : goal.is_accepted-requires-clause-row
is_accepted-requires-clause-row c = subst (IsRow c.args.automaton.now.states) (sym c.deref.ensures.value) c.in_ok-looping.ensures.row

pub is_accepted-requires-clause-loops : goal.is_accepted-requires-clause-loops
is_accepted-requires-clause-loops c =
    let A : Automaton = c.args.automaton.now in
    let loops : (p : ℕ) → HasBit c.in_ok-looping.looping.items p ↔ ((p < A.states) × AcceptsLoopFrom A c.args.lasso.now.turn p) =
    subst (λ w. (p : ℕ) → HasBit c.in_ok-looping.looping.items p ↔ ((p < A.states) × AcceptsLoopFrom A w p)) c.as_slice.ensures c.in_ok-looping.ensures.members in
    subst (λ l. (p : ℕ) → HasBit l p ↔ ((p < A.states) × AcceptsLoopFrom A c.args.lasso.now.turn p)) (sym c.deref.ensures.value) loops
