use Rattle.std.proofs.Common.{ℕ, ◌<◌, length, sym, ◌∙◌, subst, arith, inl, inr, rules}
use Rattle.std.proofs.lemmas.Bool.{cases_eq, false≢true}
use Rattle.auto_core.specs.Automaton.{Automaton}
use Rattle.auto_core.specs.declared.parts.Lasso.{Lasso}
use Rattle.lasso_shrink.specs.Shrinking.{lasso_without, LassoSeparates}
use Rattle.lasso_shrink.proofs.PrefixLemmas.{front_starts, in_prefix}
use Rattle.lasso_shrink.proofs.places.find_place.Goals as goal

pub returns-then-separates_without : goal.returns-then-separates_without
returns-then-separates_without c =
    let A : Automaton = c.args.first.now in
    let B : Automaton = c.args.second.now in
    let l : Lasso = c.args.lasso.now in
    let within : c.loop-place.place < length l.prefix = search rules in
    record {
      within = within;
      keeps = subst (LassoSeparates A B) (sym (in_prefix l c.loop-place.place within)) (c.separates_without.ensures.0 c.if-separates_without.true);
      first = c.loop-place.invariant.none;
    }

pub loop-place-init : goal.loop-place-init
loop-place-init c = record {
  front = front_starts c.args.first.now _ _ _ c.states.ensures.count c.initial.ensures.state c.write_one.ensures.row c.write_one.ensures.members;
  other_front = front_starts c.args.second.now _ _ _ c.states-2.ensures.count c.initial-2.ensures.state c.write_one-2.ensures.row c.write_one-2.ensures.members;
  next = c.requires.next_len;
  other_next = c.requires.other_next_len;
  none = λ k below. absurd (omega arith);
}

pub loop-place-preserved : goal.loop-place-preserved
loop-place-preserved c =
    let A : Automaton = c.args.first.now in
    let B : Automaton = c.args.second.now in
    let l : Lasso = c.args.lasso.now in
    let at : ℕ = c.loop-place.place in
    let within : at < length l.prefix = search rules in
    let P : ℕ → Type 0 = λ j. LassoSeparates A B (lasso_without l j) in
    record {
      front = c.go_on.ensures;
      other_front = c.go_on-in-loop-place.ensures;
      next = c.go_on.auto.next ∙ c.loop-place.invariant.next;
      other_next = c.go_on-in-loop-place.auto.next ∙ c.loop-place.invariant.other_next;
      none = λ k below apart.
          elim (cases_eq k at) [
            | inl same ↦
                false≢true (sym c.if-separates_without.false
                ∙ c.separates_without.ensures.1 (subst (LassoSeparates A B) (in_prefix l at within) (subst P same apart)))
            | inr other ↦ c.loop-place.invariant.none k (omega arith) apart
          ];
    }
