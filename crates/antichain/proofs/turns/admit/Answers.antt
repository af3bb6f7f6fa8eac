use Rattle.std.proofs.Common.{◌≡◌, ℕ, ◌<◌, List, [], ◌∷◌, ◌++◌, length, sym, ◌∙◌, subst, arith}
use Rattle.auto_core.specs.Automaton.{Automaton}
use Rattle.auto_core.specs.Outcome.{At, Entry, PassesBefore}
use Rattle.auto_core.specs.PairOutcome.{pair_rules}
use Rattle.auto_laws.proofs.PlaceLemmas.{at_new}
use Rattle.antichain.specs.declared.parts.Held.{Held}
use Rattle.antichain.specs.declared.parts.Fate.TheVariants as fates
use Rattle.antichain.specs.declared.family.Family.{Family}
use Rattle.evidence.specs.Entries.{entry_of}
use Rattle.antichain.specs.Kept.{IsFamily, IsPrepared, HasEntered, IsTold, entries_held}
use Rattle.antichain.proofs.EntriesLemmas.{entries_entered}
use Rattle.antichain.proofs.KeptLemmas.{entry_passes, entry_fails}
use Rattle.antichain.proofs.TurnLemmas.{candidate_in_range, fits_together, entered_whole, come_limit, come_in, told_passes, told_fails}
use Rattle.antichain.proofs.turns.admit.Goals as goal

pub fails-failing-requires-clause-state : goal.fails-failing-requires-clause-state
fails-failing-requires-clause-state c =
    candidate_in_range c.args.first.now c.args.second.now c.args.order.now.pairs c.requires.first_valid (entries_held c.args.first.now c.args.family.now) c.requires.whole.origins c.args.new c.requires.candidate

pub enter-requires-clause-state : goal.enter-requires-clause-state
enter-requires-clause-state c =
    subst (λ n. c.args.new.state < n) (sym c.requires.whole.table_size)
    (candidate_in_range c.args.first.now c.args.second.now c.args.order.now.pairs c.requires.first_valid (entries_held c.args.first.now c.args.family.now) c.requires.whole.origins c.args.new c.requires.candidate)

pub enter-requires-clause-fits : goal.enter-requires-clause-fits
enter-requires-clause-fits c =
    let es : List Entry = entries_held c.args.first.now c.args.family.now in
    fits_together c.args.first.now c.args.second.now c.args.order.now.pairs c.args.order.now.size c.args.family.now es c.requires.order_size c.requires.whole

pub enter-requires-clause-prepared : goal.enter-requires-clause-prepared
enter-requires-clause-prepared c = subst (λ n. IsPrepared n c.args.order.now.pairs c.args.new) (sym c.requires.order_size) c.requires.candidate.kept.prepared

pub returns-then-number-limit : goal.returns-then-number-limit
returns-then-number-limit c = λ cs turn.
    let A : Automaton = c.args.first.now in
    let B : Automaton = c.args.second.now in
    let S : List (ℕ × ℕ) = c.args.order.now.pairs in
    let old : Family = c.args.family.now in
    let now : Family = c.enter.new.self in
    let h : Held = c.args.new in
    let has : HasEntered S h old now = c.in_ok-enter.ensures in
    let family = entered_whole A B S c.requires.first_valid old now h c.requires.whole c.requires.candidate has in
    let count : c.len-number.result ≡ length old.held.items = c.len-number.ensures ∙ old.held.ok.0 in
    come_limit A B S c.args.limit old now h cs turn family has.held c.requires.whole.size c.requires.unmet (sym count ∙ c.if-number-limit.true)

pub returns-then-failing : goal.returns-then-failing
returns-then-failing c = λ cs turn.
    let A : Automaton = c.args.first.now in
    let B : Automaton = c.args.second.now in
    let S : List (ℕ × ℕ) = c.args.order.now.pairs in
    let old : Family = c.args.family.now in
    let now : Family = c.enter.new.self in
    let h : Held = c.args.new in
    let es : List Entry = entries_held A old in
    let x : Entry = entry_of A es h.origin in
    let has : HasEntered S h old now = c.in_ok-enter.ensures in
    let family : IsFamily A B S now (es ++ x ∷ []) = entered_whole A B S c.requires.first_valid old now h c.requires.whole c.requires.candidate has in
    let count : c.len-number.result ≡ length old.held.items = c.len-number.ensures ∙ old.held.ok.0 in
    let size : length old.held.items ≡ length es = c.requires.whole.size in
    let now_is : entries_held A now ≡ es ++ x ∷ [] = entries_entered A old now h has.held in
    let first = told_fails A B S c.requires.second_valid c.requires.greatest es x c.requires.unmet (entry_fails A B S h x c.requires.candidate.kept (c.fails-failing.ensures.fails c.if-failing.true)) in
    let told : IsTold A B S (es ++ x ∷ []) x (fates.Apart c.len-number.result) =
    (subst (λ k. At (es ++ x ∷ []) k x) (sym size ∙ sym count) (at_new es x), first) in
    let few = c.requires.few in
    let not_met : c.len-number.result ≡ c.args.limit → ⊥ = c.if-number-limit.false in
    come_in A B S c.args.limit old now h cs turn family has.held size c.requires.unmet (omega arith) (fates.Apart c.len-number.result)
    (subst (λ l. IsTold A B S l x (fates.Apart c.len-number.result)) (sym now_is) told)

pub returns : goal.returns
returns c = λ cs turn.
    let A : Automaton = c.args.first.now in
    let B : Automaton = c.args.second.now in
    let S : List (ℕ × ℕ) = c.args.order.now.pairs in
    let old : Family = c.args.family.now in
    let now : Family = c.enter.new.self in
    let h : Held = c.args.new in
    let es : List Entry = entries_held A old in
    let x : Entry = entry_of A es h.origin in
    let has : HasEntered S h old now = c.in_ok-enter.ensures in
    let family : IsFamily A B S now (es ++ x ∷ []) = entered_whole A B S c.requires.first_valid old now h c.requires.whole c.requires.candidate has in
    let count : c.len-number.result ≡ length old.held.items = c.len-number.ensures ∙ old.held.ok.0 in
    let size : length old.held.items ≡ length es = c.requires.whole.size in
    let now_is : entries_held A now ≡ es ++ x ∷ [] = entries_entered A old now h has.held in
    let told : PassesBefore (pair_rules A B S) (es ++ x ∷ []) x (length (es ++ x ∷ [])) =
    told_passes A B S es x (entry_passes A B S h x c.requires.candidate.kept (c.fails-failing.ensures.passes c.if-failing.false)) in
    let few = c.requires.few in
    let not_met : c.len-number.result ≡ c.args.limit → ⊥ = c.if-number-limit.false in
    come_in A B S c.args.limit old now h cs turn family has.held size c.requires.unmet (omega arith) fates.GoesOn
    (subst (λ l. PassesBefore (pair_rules A B S) l x (length l)) (sym now_is) told)
