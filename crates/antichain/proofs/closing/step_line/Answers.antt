use Rattle.std.proofs.Common.{◌≡◌, ℕ, ◌+◌, ◌<◌, ◌≤◌, List, [], ◌∷◌, ◌++◌, length, refl, sym, ap, ◌∙◌, subst, inl, inr, arith, length-append}
use Rattle.auto_core.specs.Automaton.{Automaton, IsOutgoing}
use Rattle.auto_core.specs.Outcome.{At, Entry, IsLeastSubsumer, next_entry}
use Rattle.auto_core.specs.PairOutcome.{pair_rules}
use Rattle.cert_value.specs.declared.types.StepLine.{StepLine}
use Rattle.auto_laws.proofs.PlaceLemmas.{at_same, at_within, at_cases, read_at}
use Rattle.antichain.specs.declared.parts.Held.{Held}
use Rattle.antichain.specs.declared.family.Family.{Family}
use Rattle.antichain.specs.Kept.{IsPrepared, entries_held}
use Rattle.antichain.proofs.TurnLemmas.{StandsFor, IsNext, stands_at, state_in_range, fits_together, next_stands}
use Rattle.evidence.proofs.StepLemmas.{step_is}
use Rattle.antichain.proofs.ClosureLemmas.{has_coverer, coverer_is_least}
use Rattle.antichain.proofs.closing.step_line.Goals as goal
use Rattle.antichain.proofs.closing.step_line.Goals.{In_ok-next}

-- The element of the line, and its extension, which the candidate is.
next_is : (c : goal.In_ok-next) → let es = entries_held c.args.first.now c.args.family.now in
    (x : StandsFor c.args.first.now c.args.second.now c.args.order.now.pairs es c.args.element c.index-from.result.now)
    × IsNext c.args.first.now c.args.second.now c.args.order.now.pairs es c.args.element c.loop-t.t x.entry c.in_ok-next.next
next_is c =
    let f : Family = c.args.family.now in
    let from : Held = c.index-from.result.now in
    let x = stands_at c.args.first.now c.args.second.now c.args.order.now.pairs f c.args.element from c.requires.whole c.requires.element c.index-from.ensures in (
      x,
      next_stands c.args.first.now c.args.second.now c.args.order.now.pairs c.requires.first_valid (entries_held c.args.first.now f) c.requires.whole.origins c.args.element c.loop-t.t from x.entry c.in_ok-next.next x.is x.kept
          c.outgoing-out.result.begin c.outgoing-out.result.end c.outgoing-out.ensures.range c.loop-t.auto.t c.loop-t-test.true (c.in_ok-next.ensures.candidate x.entry x.kept),
    )

pub outgoing-out-requires : goal.outgoing-out-requires
outgoing-out-requires c =
    let f : Family = c.args.family.now in
    let from : Held = c.index-from.result.now in
    let from_is : At f.held.items c.args.element from = read_at f.held.items c.args.element from from c.requires.element c.index-from.ensures in
    state_in_range c.args.first.now c.args.second.now c.args.order.now.pairs c.requires.first_valid f c.args.element from c.requires.whole from_is

pub loop-t-init : goal.loop-t-init
loop-t-init c =
    record {
      sets = c.requires.sets;
      size = (let e : c.outgoing-out.result.begin + 0 ≡ c.outgoing-out.result.begin = omega arith in ap (λ l. c.outgoing-out.result.begin + length l) c.new-by.ensures ∙ e);
      each = λ k j x is x_is. let within = at_within [] k j (subst (λ l. At l k j) c.new-by.ensures is) in absurd (omega arith);
    }

pub next_candidate-requires-clause-row : goal.next_candidate-requires-clause-row
next_candidate-requires-clause-row c =
    let f : Family = c.args.family.now in
    (stands_at c.args.first.now c.args.second.now c.args.order.now.pairs f c.args.element c.index-from.result.now c.requires.whole c.requires.element c.index-from.ensures).kept.prepared.row

pub coverer-requires : goal.coverer-requires
coverer-requires c =
    let S : List (ℕ × ℕ) = c.args.order.now.pairs in
    let f : Family = c.args.family.now in
    let h : Held = c.in_ok-next.next in
    let next = next_is (goal.at.coverer-requires c).In_ok-next in
    let x : Entry = next.0.entry in
    record {
      state = subst (λ m. h.state < m) (sym c.requires.whole.table_size) next.1.state_in;
      fits = fits_together c.args.first.now c.args.second.now S c.args.order.now.size f (entries_held c.args.first.now f) c.requires.order_size c.requires.whole;
      prepared = subst (λ m. IsPrepared m S h) (sym c.requires.order_size) next.1.kept.prepared;
      some = has_coverer c.args.first.now c.args.second.now S c.requires.greatest f (entries_held c.args.first.now f) c.requires.whole h (next_entry c.args.first.now c.args.element x c.loop-t.t) next.1.kept
          next.1.state_in (c.requires.some x c.loop-t.t next.0.is next.1.within next.1.leaves);
    }

pub loop-t-preserved : goal.loop-t-preserved
loop-t-preserved c =
    let A : Automaton = c.args.first.now in
    let B : Automaton = c.args.second.now in
    let S : List (ℕ × ℕ) = c.args.order.now.pairs in
    let f : Family = c.args.family.now in
    let es : List Entry = entries_held A f in
    let e : ℕ = c.args.element in
    let t : ℕ = c.loop-t.t in
    let found = next_is (goal.at.loop-t-preserved c).In_ok-next in
    let x : Entry = found.0.entry in
    let pushed : c.push.new.self ≡ c.loop-t.by ++ c.coverer.result ∷ [] = c.in_ok-push.ensures.ok in
    let least : IsLeastSubsumer (pair_rules A B S) es (next_entry A e x t) c.coverer.result =
    coverer_is_least A B S c.requires.greatest f es c.requires.whole c.in_ok-next.next (next_entry A e x t) found.1.kept found.1.state_in c.coverer.result c.coverer.ensures in
    let was : c.outgoing-out.result.begin + length c.loop-t.by ≡ t = c.loop-t.invariant.size in
    let more = length-append c.loop-t.by (c.coverer.result ∷ []) in
    let total = ap length pushed in
    record {
      sets = c.in_ok-next.ensures.sets;
      size = omega arith;
      each = λ k j y is y_is. elim (at_cases c.loop-t.by c.coverer.result k j (subst (λ l. At l k j) pushed is)) [
        | inl old ↦ c.loop-t.invariant.each k j y old y_is
        | inr new ↦
            let here : c.outgoing-out.result.begin + k ≡ t = ap (λ m. c.outgoing-out.result.begin + m) new.0 ∙ was in
            let one : x ≡ y = at_same es e x y found.0.is y_is in
            subst (λ m. IsLeastSubsumer (pair_rules A B S) es (next_entry A e y m) j) (sym here)
            (subst (λ z. IsLeastSubsumer (pair_rules A B S) es (next_entry A e z t) j) one
            (subst (λ m. IsLeastSubsumer (pair_rules A B S) es (next_entry A e x t) m) (sym new.1) least))
      ];
    }

pub returns-clause-step : goal.returns-clause-step
returns-clause-step c =
    let A : Automaton = c.args.first.now in
    let f : Family = c.args.family.now in
    let e : ℕ = c.args.element in
    let x = stands_at A c.args.second.now c.args.order.now.pairs f e c.index-from.result.now c.requires.whole c.requires.element c.index-from.ensures in
    let end : ℕ = c.outgoing-out.result.end in
    let begin : ℕ = c.outgoing-out.result.begin in
    let line : StepLine = record { element = e; by = c.loop-t.by } in
    let past : end ≤ c.loop-t.t = c.loop-t-test.false in
    let order : begin ≤ end = c.outgoing-out.ensures.range.is_range in
    let most : c.loop-t.t ≤ end = c.loop-t.auto.t-end order in
    let reached : c.loop-t.t ≡ end = omega arith in
    step_is (pair_rules A c.args.second.now c.args.order.now.pairs) A (entries_held A f) line x.entry begin end refl x.is (subst (λ p. IsOutgoing A p begin end) x.kept.state c.outgoing-out.ensures.range)
    (c.loop-t.invariant.size ∙ reached) (λ k j is. c.loop-t.invariant.each k j x.entry is x.is)
