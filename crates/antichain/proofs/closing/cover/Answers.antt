use Rattle.std.proofs.Common.{◌≡◌, ℕ, ◌<◌, List, [], ◌∷◌, ◌++◌, sym, ap, ◌∙◌, subst}
use Rattle.auto_core.specs.Automaton.{Automaton}
use Rattle.auto_core.specs.Outcome.{Entry}
use Rattle.auto_core.specs.PairOutcome.{start_entry, pair_rules}
use Rattle.evidence.specs.Evidence.{AreLeastSubsumers}
use Rattle.evidence.proofs.StepLemmas.{one_subsumer}
use Rattle.antichain.specs.declared.parts.Held.{Held}
use Rattle.antichain.specs.declared.family.Family.{Family}
use Rattle.antichain.specs.Kept.{IsKept, IsPrepared, entries_held}
use Rattle.antichain.proofs.TurnLemmas.{fits_together, start_is_candidate, candidate_in_range}
use Rattle.antichain.proofs.ClosureLemmas.{has_coverer, coverer_is_least}
use Rattle.antichain.proofs.closing.cover.Goals as goal

pub coverer-requires-clause-state : goal.coverer-requires-clause-state
coverer-requires-clause-state c =
    let A : Automaton = c.args.first.now in
    let B : Automaton = c.args.second.now in
    let S : List (ℕ × ℕ) = c.args.order.now.pairs in
    let es : List Entry = entries_held A c.args.family.now in
    let h : Held = c.in_ok-start.start in
    subst (λ m. h.state < m) (sym c.requires.whole.table_size)
    (candidate_in_range A B S c.requires.first_valid es c.requires.whole.origins h (start_is_candidate A B S es h c.in_ok-start.ensures).0)

pub coverer-requires-clause-fits : goal.coverer-requires-clause-fits
coverer-requires-clause-fits c =
    fits_together c.args.first.now c.args.second.now c.args.order.now.pairs c.args.order.now.size c.args.family.now (entries_held c.args.first.now c.args.family.now) c.requires.order_size c.requires.whole

pub coverer-requires-clause-prepared : goal.coverer-requires-clause-prepared
coverer-requires-clause-prepared c =
    let h : Held = c.in_ok-start.start in
    let kept : IsKept c.args.second.now c.args.order.now.pairs h (start_entry c.args.first.now) = c.in_ok-start.ensures in
    subst (λ m. IsPrepared m c.args.order.now.pairs h) (sym c.requires.order_size) kept.prepared

pub coverer-requires-clause-some : goal.coverer-requires-clause-some
coverer-requires-clause-some c =
    let A : Automaton = c.args.first.now in
    let B : Automaton = c.args.second.now in
    let S : List (ℕ × ℕ) = c.args.order.now.pairs in
    let f : Family = c.args.family.now in
    let es : List Entry = entries_held A f in
    let h : Held = c.in_ok-start.start in
    let range = candidate_in_range A B S c.requires.first_valid es c.requires.whole.origins h (start_is_candidate A B S es h c.in_ok-start.ensures).0 in
    has_coverer A B c.args.order.now.pairs c.requires.greatest f es c.requires.whole h (start_entry A) c.in_ok-start.ensures range c.requires.some

pub returns : goal.returns
returns c =
    let A : Automaton = c.args.first.now in
    let B : Automaton = c.args.second.now in
    let S : List (ℕ × ℕ) = c.args.order.now.pairs in
    let f : Family = c.args.family.now in
    let es : List Entry = entries_held A f in
    let h : Held = c.in_ok-start.start in
    let range = candidate_in_range A B S c.requires.first_valid es c.requires.whole.origins h (start_is_candidate A B S es h c.in_ok-start.ensures).0 in
    let pushed : c.push.new.self ≡ c.new-cover.result ++ c.coverer.result ∷ [] = c.in_ok-push.ensures.ok in
    let cover_is : c.push.new.self ≡ c.coverer.result ∷ [] = pushed ∙ ap (λ l. l ++ c.coverer.result ∷ []) c.new-cover.ensures in
    let least = coverer_is_least A B c.args.order.now.pairs c.requires.greatest f es c.requires.whole h (start_entry A) c.in_ok-start.ensures range c.coverer.result c.coverer.ensures in
    subst (AreLeastSubsumers (pair_rules A B c.args.order.now.pairs) es (start_entry A ∷ [])) (sym cover_is) (one_subsumer (pair_rules A B c.args.order.now.pairs) es (start_entry A) c.coverer.result least)
