use Rattle.std.proofs.Common.{ℕ, ◌≡◌, ◌<◌, ◌+◌, ◌-◌, List, true, false, length, slice_index, slice_index_or, refl, sym, ap, ◌∙◌, subst, arith, rules}
use Rattle.std.proofs.lemmas.Bool.{false≢true}
use Rattle.auto_core.specs.Automaton.{IsOutgoing, trans_at}
use Rattle.auto_core.specs.Graph.{WordArc, extended_arc, start_arc, arc_at}
use Rattle.cert_check.specs.Inclusion.{IsOver, element_arcs, extensions_of}
use Rattle.cert_check.specs.Supers.{held_arc, held_block}
use Rattle.cert_check.specs.declared.blocks.Numbered.{Numbered}
use Rattle.log_check.proofs.BlockLemmas.{below_more}
use Rattle.cert_check.proofs.SuperLemmas.{held_ends, extensions_count, extension_at, leaves_end}
use Rattle.cert_check.proofs.steps.covers_extensions.Goals as goal
use Rattle.cert_check.proofs.steps.covers_extensions.Goals.{After-outgoing-span, In-loop-i}

-- The arc of the element, and the transitions that leave it.
abbrev parent : goal.After-outgoing-span → WordArc
parent c = arc_at c.args.first.now (element_arcs c.args.first.now c.args.evidence.now.elements) c.args.step.now.element

out : (c : goal.After-outgoing-span) → IsOutgoing c.args.first.now (parent c).to c.outgoing-span.result.begin c.outgoing-span.result.end
out c =
    let stands = c.requires.supers.each c.args.step.now.element c.requires.element in
    subst (λ s. IsOutgoing c.args.first.now s c.outgoing-span.result.begin c.outgoing-span.result.end)
    (ap (λ (n : Numbered). n.arc.to) c.element-from.ensures ∙ ap (λ (z : WordArc). z.to) stands.arc) c.outgoing-span.ensures.range

in_reach : (c : goal.In-loop-i) → c.loop-i.i < c.outgoing-span.result.end - c.outgoing-span.result.begin
in_reach c =
    let same : length c.args.step.now.by ≡ c.outgoing-span.result.end - c.outgoing-span.result.begin = sym (ap length c.as_slice-by.ensures) ∙ c.if-by-span.false in
    omega (arith, c.loop-i-test.true, ap length c.as_slice-by.ensures, same)

pub outgoing-span-requires : goal.outgoing-span-requires
outgoing-span-requires c =
    let A = c.args.first.now in
    let j : ℕ = c.args.step.now.element in
    let x : WordArc = arc_at A (element_arcs A c.args.evidence.now.elements) j in
    subst (λ (n : Numbered). n.arc.to < A.states) (sym c.element-from.ensures)
    (held_ends c.args.mode A c.args.second.now (held_arc c.args.supers.now j) (held_block c.args.supers.now j) x c.states-states.ensures.valid (c.requires.supers.each j c.requires.element))

pub returns-then-by-span-clause-told : goal.returns-then-by-span-clause-told
returns-then-by-span-clause-told c =
    let path = (goal.at.returns-then-by-span-clause-told c).After-outgoing-span in (
      λ told. absurd (false≢true told),
      λ all. absurd (c.if-by-span.true (ap length c.as_slice-by.ensures ∙ all.count ∙ extensions_count c.args.first.now (parent path) c.outgoing-span.result.begin c.outgoing-span.result.end (out path))),
    )

pub is_over_extension-requires-clause-number : goal.is_over_extension-requires-clause-number
is_over_extension-requires-clause-number c =
    let at = goal.at.is_over_extension-requires-clause-number c in
    (leaves_end c.args.first.now (parent at.After-outgoing-span) c.outgoing-span.result.begin c.outgoing-span.result.end (out at.After-outgoing-span) c.loop-i.i (in_reach at.In-loop-i)).0

pub is_over_extension-requires-clause-leaves : goal.is_over_extension-requires-clause-leaves
is_over_extension-requires-clause-leaves c =
    let at = goal.at.is_over_extension-requires-clause-leaves c in
    (leaves_end c.args.first.now (parent at.After-outgoing-span) c.outgoing-span.result.begin c.outgoing-span.result.end (out at.After-outgoing-span) c.loop-i.i (in_reach at.In-loop-i)).1

pub returns-then-not-branch-clause-told : goal.returns-then-not-branch-clause-told
returns-then-not-branch-clause-told c =
    let path = (goal.at.returns-then-not-branch-clause-told c).After-outgoing-span in
    let lt = in_reach (goal.at.returns-then-not-branch-clause-told c).In-loop-i in
    let i : ℕ = c.loop-i.i in
    let longer : WordArc = extended_arc c.args.first.now (parent path) (trans_at c.args.first.now (c.outgoing-span.result.begin + i)) in
    let is : c.in_ok-is_over_extension.field-0 ≡ false = search rules in (
      λ told. absurd (false≢true told),
      λ all.
          let here : IsOver c.args.mode c.args.first.now c.args.second.now c.args.evidence.now (slice_index c.args.step.now.by i) longer =
          subst (IsOver c.args.mode c.args.first.now c.args.second.now c.args.evidence.now (slice_index c.args.step.now.by i)) (extension_at c.args.first.now (parent path) c.outgoing-span.result.begin c.outgoing-span.result.end (out path) i lt)
          (all.each i (subst (λ n. i < n) (sym (extensions_count c.args.first.now (parent path) c.outgoing-span.result.begin c.outgoing-span.result.end (out path))) lt)) in
          sym is ∙ c.in_ok-is_over_extension.ensures.told.1 (subst (λ (l : List ℕ). IsOver c.args.mode c.args.first.now c.args.second.now c.args.evidence.now (slice_index l i) longer) (sym c.as_slice-by.ensures) here),
    )

pub loop-i-preserved : goal.loop-i-preserved
loop-i-preserved c =
    let path = (goal.at.loop-i-preserved c).After-outgoing-span in
    let lt = in_reach (goal.at.loop-i-preserved c).In-loop-i in
    let by : List ℕ = c.args.step.now.by in
    let i : ℕ = c.loop-i.i in
    let longer : WordArc = extended_arc c.args.first.now (parent path) (trans_at c.args.first.now (c.outgoing-span.result.begin + i)) in
    let is : c.in_ok-is_over_extension.field-0 ≡ true = search rules in
    let here : IsOver c.args.mode c.args.first.now c.args.second.now c.args.evidence.now (slice_index by i) longer =
    subst (λ (l : List ℕ). IsOver c.args.mode c.args.first.now c.args.second.now c.args.evidence.now (slice_index l i) longer) c.as_slice-by.ensures (c.in_ok-is_over_extension.ensures.told.0 is) in (
      below_more (λ k. IsOver c.args.mode c.args.first.now c.args.second.now c.args.evidence.now (slice_index by k) (slice_index_or (extensions_of c.args.first.now (parent path)) k (start_arc c.args.first.now))) i c.loop-i.invariant.0
          (subst (IsOver c.args.mode c.args.first.now c.args.second.now c.args.evidence.now (slice_index by i)) (sym (extension_at c.args.first.now (parent path) c.outgoing-span.result.begin c.outgoing-span.result.end (out path) i lt)) here),
      c.in_ok-is_over_extension.ensures.supers,
      c.in_ok-is_over_extension.ensures.order,
    )

pub returns-clause-told : goal.returns-clause-told
returns-clause-told c =
    let path = (goal.at.returns-clause-told c).After-outgoing-span in
    let span : ℕ = c.outgoing-span.result.end - c.outgoing-span.result.begin in
    let count : length (extensions_of c.args.first.now (parent path)) ≡ span = extensions_count c.args.first.now (parent path) c.outgoing-span.result.begin c.outgoing-span.result.end (out path) in
    let same : length c.args.step.now.by ≡ span = sym (ap length c.as_slice-by.ensures) ∙ c.if-by-span.false in (
      λ told. record {
        count = same ∙ sym count;
        each = λ i lt. c.loop-i.invariant.0 i (omega (arith, lt, count, same, c.loop-i-test.false, ap length c.as_slice-by.ensures));
      },
      λ all. refl,
    )
