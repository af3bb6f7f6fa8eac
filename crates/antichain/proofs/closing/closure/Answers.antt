use Rattle.std.proofs.Common.{ℕ, ◌<◌, List, sym, subst}
use Rattle.auto_core.specs.Automaton.{Automaton}
use Rattle.antichain.specs.declared.family.Family.{Family}
use Rattle.antichain.specs.Kept.{entries_held}
use Rattle.antichain.proofs.TurnLemmas.{state_in_range, fits_together}
use Rattle.antichain.proofs.ClosureLemmas.{start_has, steps_have, dropped_have}
use Rattle.evidence.specs.declared.parts.Closure.{Closure}
use Rattle.antichain.proofs.ClosingLemmas.{closure_is}
use Rattle.antichain.proofs.closing.closure.Goals as goal

pub elements-requires : goal.elements-requires
elements-requires c =
    let A : Automaton = c.args.first.now in
    let B : Automaton = c.args.second.now in
    let S : List (ℕ × ℕ) = c.args.order.now.pairs in
    let f : Family = c.args.family.now in
    record {
      fits = fits_together A B S c.args.order.now.size f (entries_held A f) c.requires.order_size c.requires.whole;
      state = λ i h h_is. subst (λ m. h.state < m) (sym c.requires.whole.table_size) (state_in_range A B S c.requires.first_valid f i h c.requires.whole h_is);
      some = dropped_have A B S c.requires.closed.0 c.requires.first_valid c.requires.second_valid c.requires.greatest f c.requires.whole c.requires.closed.1;
    }

pub cover-requires-clause-some : goal.cover-requires-clause-some
cover-requires-clause-some c =
    start_has c.args.first.now c.args.second.now c.args.order.now.pairs c.requires.closed.0 c.requires.first_valid c.requires.second_valid c.requires.greatest c.args.family.now c.requires.whole c.requires.closed.1

pub steps-requires-clause-some : goal.steps-requires-clause-some
steps-requires-clause-some c =
    steps_have c.args.first.now c.args.second.now c.args.order.now.pairs c.requires.closed.0 c.requires.first_valid c.requires.second_valid c.requires.greatest c.args.family.now c.requires.whole c.requires.closed.1

pub returns : goal.returns
returns c =
    let closure : Closure = record { elements = c.in_ok-elements.field-0; cover = c.in_ok-cover.field-0; steps = c.in_ok-steps.field-0 } in
    closure_is c.args.first.now c.args.second.now c.args.order.now.pairs c.requires.closed.0 c.requires.first_valid c.requires.second_valid c.requires.greatest c.args.family.now c.requires.whole c.requires.closed.1
    closure c.in_ok-elements.ensures c.in_ok-cover.ensures c.in_ok-steps.ensures.lines c.in_ok-steps.ensures.each
