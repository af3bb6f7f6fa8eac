use Rattle.std.proofs.Common.{ℕ, ◌≡◌, ◌↔◌, IsTrue, List, [], ◌∷◌, length, slice_index, slice_index_or, refl, sym, ap, ◌∙◌, subst, arith}
use Rattle.auto_core.specs.Graph.{start_arc}
use Rattle.auto_core.specs.declared.parts.Mode.TheVariants.{Finite}
use Rattle.cert_value.specs.declared.types.YesBody.{YesBody}
use Rattle.cert_check.specs.Inclusion.{IsOver}
use Rattle.cert_check.proofs.SuperLemmas.{supers_grown, order_grown}
use Rattle.cert_check.proofs.covers.covers_start.Goals as goal

pub is_over-requires-clause-supers : goal.is_over-requires-clause-supers
is_over-requires-clause-supers c =
    supers_grown Finite c.args.first.now c.args.second.now c.args.evidence.now.elements (length c.args.evidence.now.elements) c.args.supers.now _ refl refl
    c.in_ok-start.ensures.stock c.in_ok-start.ensures.grown c.requires.supers

pub returns-clause-supers : goal.returns-clause-supers
returns-clause-supers c =
    supers_grown Finite c.args.first.now c.args.second.now c.args.evidence.now.elements (length c.args.evidence.now.elements) c.args.supers.now _ refl refl
    c.in_ok-start.ensures.stock c.in_ok-start.ensures.grown c.requires.supers

pub returns-clause-told : goal.returns-clause-told
returns-clause-told c =
    let A = c.args.first.now in
    let B = c.args.second.now in
    let E : YesBody = c.args.evidence.now in
    let count : length E.cover ≡ 1 = sym (ap length c.as_slice-cover.ensures) ∙ c.if-cover-ne1.false in
    let told : IsTrue c.is_over.result ↔ IsOver Finite A B E (slice_index E.cover 0) (start_arc A) =
    subst (λ (l : List ℕ). IsTrue c.is_over.result ↔ IsOver Finite A B E (slice_index l 0) (start_arc A)) c.as_slice-cover.ensures
    (c.is_over.ensures.told (start_arc A) c.in_ok-start.ensures.stands) in (
      λ is. record {
        count = count;
        each = λ i lt.
            let first : i ≡ 0 = omega arith in
            subst (λ k. IsOver Finite A B E (slice_index E.cover k) (slice_index_or (start_arc A ∷ []) k (start_arc A))) (sym first) (told.0 is);
      },
      λ all. told.1 (all.each 0 (omega arith)),
    )

pub is_over-requires-clause-order : goal.is_over-requires-clause-order
is_over-requires-clause-order c =
    order_grown c.args.second.now c.args.evidence.now c.args.supers.now.graphs.graphs.items c.start.new.graphs.graphs.items c.args.order.now c.in_ok-start.ensures.grown c.requires.order
