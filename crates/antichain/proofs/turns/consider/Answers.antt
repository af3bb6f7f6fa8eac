use Rattle.std.proofs.Common.{ℕ, ◌<◌, List, sym, subst}
use Rattle.auto_core.specs.Automaton.{Automaton}
use Rattle.auto_core.specs.Outcome.{Entry}
use Rattle.antichain.specs.declared.parts.Held.{Held}
use Rattle.antichain.specs.declared.family.Family.{Family}
use Rattle.evidence.specs.Entries.{entry_of}
use Rattle.antichain.specs.Kept.{IsPrepared, entries_held}
use Rattle.antichain.proofs.MeetLemmas.{none_at_all, first_subsumes}
use Rattle.antichain.proofs.TurnLemmas.{candidate_in_range, fits_together, come_past}
use Rattle.antichain.proofs.turns.consider.Goals as goal

pub least-requires-clause-state : goal.least-requires-clause-state
least-requires-clause-state c =
    subst (λ n. c.args.new.state < n) (sym c.requires.whole.table_size)
    (candidate_in_range c.args.first.now c.args.second.now c.args.order.now.pairs c.requires.first_valid (entries_held c.args.first.now c.args.family.now) c.requires.whole.origins c.args.new c.requires.candidate)

pub least-requires-clause-fits : goal.least-requires-clause-fits
least-requires-clause-fits c =
    let es : List Entry = entries_held c.args.first.now c.args.family.now in
    fits_together c.args.first.now c.args.second.now c.args.order.now.pairs c.args.order.now.size c.args.family.now es c.requires.order_size c.requires.whole

pub least-requires-clause-prepared : goal.least-requires-clause-prepared
least-requires-clause-prepared c = subst (λ n. IsPrepared n c.args.order.now.pairs c.args.new) (sym c.requires.order_size) c.requires.candidate.kept.prepared

pub admit-requires-clause-unmet : goal.admit-requires-clause-unmet
admit-requires-clause-unmet c =
    let A : Automaton = c.args.first.now in
    let B : Automaton = c.args.second.now in
    let S : List (ℕ × ℕ) = c.args.order.now.pairs in
    let f : Family = c.args.family.now in
    let h : Held = c.args.new in
    let es : List Entry = entries_held A f in
    let state_in = candidate_in_range A B S c.requires.first_valid es c.requires.whole.origins h c.requires.candidate in
    none_at_all A B S c.requires.greatest f es h (entry_of A es h.origin) c.requires.whole c.requires.candidate.kept state_in c.in-None.ensures

pub returns-in-Some : goal.returns-in-Some
returns-in-Some c = λ cs turn.
    let A : Automaton = c.args.first.now in
    let B : Automaton = c.args.second.now in
    let S : List (ℕ × ℕ) = c.args.order.now.pairs in
    let f : Family = c.args.family.now in
    let h : Held = c.args.new in
    let es : List Entry = entries_held A f in
    let state_in = candidate_in_range A B S c.requires.first_valid es c.requires.whole.origins h c.requires.candidate in
    come_past A B S c.args.limit f (entry_of A es h.origin) cs turn c.requires.whole c.requires.few
    (first_subsumes A B S c.requires.greatest f es h (entry_of A es h.origin) c.requires.whole c.requires.candidate.kept state_in c.in-Some._number c.in-Some.ensures)
