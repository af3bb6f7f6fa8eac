use Rattle.std.proofs.Common.{ℕ, ◌≡◌, ◌<◌, List, true, false, length, slice_index, slice_index_or, sym, ◌∙◌, subst, rules}
use Rattle.std.proofs.lemmas.Bool.{false≢true}
use Rattle.auto_core.specs.Automaton.{trans_at}
use Rattle.auto_core.specs.Graph.{base_arc, start_arc}
use Rattle.auto_core.specs.declared.parts.Mode.TheVariants.{Buchi}
use Rattle.auto_core.specs.declared.parts.Trans.{Trans}
use Rattle.cert_value.specs.declared.types.YesBody.{YesBody}
use Rattle.cert_check.specs.Inclusion.{IsOver, starts_of}
use Rattle.log_check.proofs.BlockLemmas.{below_more}
use Rattle.cert_check.proofs.SuperLemmas.{start_at, starts_count}
use Rattle.cert_check.proofs.covers.covers_letters.Goals as goal

pub returns-then-not-branch-clause-told : goal.returns-then-not-branch-clause-told
returns-then-not-branch-clause-told c =
    let A = c.args.first.now in
    let B = c.args.second.now in
    let E : YesBody = c.args.evidence.now in
    let t : ℕ = c.loop-t.t in
    let lt : t < length A.transitions = subst (λ (l : List Trans). t < length l) c.transitions-count.ensures.list c.loop-t-test.true in
    let is : c.in_ok-is_over_letter.field-0 ≡ false = search rules in (
      λ told. absurd (false≢true told),
      λ all.
          let here : IsOver Buchi A B E (slice_index E.cover t) (base_arc A (trans_at A t)) =
          subst (IsOver Buchi A B E (slice_index E.cover t)) (start_at A t lt) (all.each t (subst (λ n. t < n) (starts_count A) lt)) in
          let named : IsOver Buchi A B E (slice_index_or c.as_slice-cover.result.now t 0) (base_arc A (trans_at A t)) =
          subst (λ (l : List ℕ). IsOver Buchi A B E (slice_index l t) (base_arc A (trans_at A t))) (sym c.as_slice-cover.ensures) here in
          sym is ∙ c.in_ok-is_over_letter.ensures.told.1 named,
    )

pub loop-t-preserved : goal.loop-t-preserved
loop-t-preserved c =
    let A = c.args.first.now in
    let B = c.args.second.now in
    let E : YesBody = c.args.evidence.now in
    let t : ℕ = c.loop-t.t in
    let lt : t < length A.transitions = subst (λ (l : List Trans). t < length l) c.transitions-count.ensures.list c.loop-t-test.true in
    let is : c.in_ok-is_over_letter.field-0 ≡ true = search rules in
    let named : IsOver Buchi A B E (slice_index_or c.as_slice-cover.result.now t 0) (base_arc A (trans_at A t)) = c.in_ok-is_over_letter.ensures.told.0 is in
    let here : IsOver Buchi A B E (slice_index E.cover t) (base_arc A (trans_at A t)) =
    subst (λ (l : List ℕ). IsOver Buchi A B E (slice_index l t) (base_arc A (trans_at A t))) c.as_slice-cover.ensures named in (
      below_more (λ i. IsOver Buchi A B E (slice_index E.cover i) (slice_index_or (starts_of A) i (start_arc A))) t c.loop-t.invariant.0
          (subst (IsOver Buchi A B E (slice_index E.cover t)) (sym (start_at A t lt)) here),
      c.in_ok-is_over_letter.ensures.supers,
      c.in_ok-is_over_letter.ensures.order,
    )
