-- Refusals are one, and exclude a ranked product.
use Rattle.std.proofs.Common.{◌≡◌, ℕ, ◌+◌, List, Contains, inl, inr, sym, ap, ◌∙◌, subst, arith}
use Rattle.std.proofs.lemmas.Bool.{cases_lt}
use Rattle.std.proofs.lemmas.List.{get_or_default}
use Rattle.auto_core.specs.Automaton.{Automaton}
use Rattle.product_laws.specs.declared.RankedPair.{RankedPair}
use Rattle.ranked_product.specs.declared.checking.Refusal.{Refusal}
use Rattle.product_laws.specs.Ascending.{pair_at}
use Rattle.ranked_product.specs.Rules.{KeepsRules, BreaksRule, BreaksFirst}
use Rattle.ranked_product.specs.Laws.{BreakIsOne, ProductBreaksNone}

abbrev of : ℕ → ℕ → Refusal
of rule item = record { rule = rule; item = item }

same_refusal : (r s : Refusal) → r.rule ≡ s.rule → r.item ≡ s.item → r ≡ s
same_refusal r s rule item = ap (λ n. of n r.item) rule ∙ ap (λ n. of s.rule n) item

module _ (A B : Automaton) (pairs : List RankedPair) where
  breaks_or_keeps : (x : RankedPair) (rule : ℕ) → KeepsRules A B pairs x → BreaksRule A B pairs x rule → ⊥
  breaks_or_keeps x rule keeps (inl (is, no_states)) = no_states keeps.states
  breaks_or_keeps x rule keeps (inr (inl (is, states, no_moves))) = no_moves keeps.moves
  breaks_or_keeps x rule keeps (inr (inr (is, states, moves, no_ranks))) = no_ranks keeps.ranks

  one_rule : (x : RankedPair) (rule other : ℕ) → BreaksRule A B pairs x rule → BreaksRule A B pairs x other → rule ≡ other
  one_rule x rule other (inl (is, no_states)) (inl (same, not)) = is ∙ sym same
  one_rule x rule other (inl (is, no_states)) (inr (inl (same, states, not))) = absurd (no_states states)
  one_rule x rule other (inl (is, no_states)) (inr (inr (same, states, moves, not))) = absurd (no_states states)
  one_rule x rule other (inr (inl (is, states, no_moves))) (inl (same, not)) = absurd (not states)
  one_rule x rule other (inr (inl (is, states, no_moves))) (inr (inl (same, s, not))) = is ∙ sym same
  one_rule x rule other (inr (inl (is, states, no_moves))) (inr (inr (same, s, moves, not))) = absurd (no_moves moves)
  one_rule x rule other (inr (inr (is, states, moves, no_ranks))) (inl (same, not)) = absurd (not states)
  one_rule x rule other (inr (inr (is, states, moves, no_ranks))) (inr (inl (same, s, not))) = absurd (not moves)
  one_rule x rule other (inr (inr (is, states, moves, no_ranks))) (inr (inr (same, s, m, not))) = is ∙ sym same

  one_place : (p q rule other : ℕ) → BreaksFirst A B pairs p rule → BreaksFirst A B pairs q other → (p ≡ q) × (rule ≡ other)
  one_place p q rule other first second = elim (cases_lt p q) [
    | inl lt ↦ absurd (breaks_or_keeps (pair_at pairs p) rule (second.before p lt) first.here)
    | inr from ↦ elim (cases_lt q p) [
      | inl lt ↦ absurd (breaks_or_keeps (pair_at pairs q) other (first.before q lt) second.here)
      | inr to ↦
          let e : p ≡ q = omega arith in
          (e, one_rule (pair_at pairs q) rule other (subst (λ n. BreaksRule A B pairs (pair_at pairs n) rule) e first.here) second.here)
    ]
  ]

pub break_is_one : BreakIsOne
break_is_one A B pairs r s (inl (rule, item, no_det)) (inl (same, place, not)) = same_refusal r s (rule ∙ sym same) (item ∙ sym place)
break_is_one A B pairs r s (inl (rule, item, no_det)) (inr (inl (same, place, det, not))) = absurd (no_det det)
break_is_one A B pairs r s (inl (rule, item, no_det)) (inr (inr (det, starts, more))) = absurd (no_det det)
break_is_one A B pairs r s (inr (inl (rule, item, det, no_start))) (inl (same, place, not)) = absurd (not det)
break_is_one A B pairs r s (inr (inl (rule, item, det, no_start))) (inr (inl (same, place, d, not))) = same_refusal r s (rule ∙ sym same) (item ∙ sym place)
break_is_one A B pairs r s (inr (inl (rule, item, det, no_start))) (inr (inr (d, starts, more))) = absurd (no_start starts)
break_is_one A B pairs r s (inr (inr (det, starts, more))) (inl (same, place, not)) = absurd (not det)
break_is_one A B pairs r s (inr (inr (det, starts, more))) (inr (inl (same, place, d, not))) = absurd (not starts)
break_is_one A B pairs r s (inr (inr (det, starts, (p, item, first)))) (inr (inr (d, st, (q, place, second)))) =
    let one = one_place A B pairs p q r.rule s.rule first second in
    same_refusal r s one.1 (item ∙ ap (λ n. n + 1) one.0 ∙ sym place)

pub product_breaks_none : ProductBreaksNone
product_breaks_none A B pairs r (inl (rule, item, no_det)) product = no_det product.deterministic
product_breaks_none A B pairs r (inr (inl (rule, item, det, no_start))) product = no_start product.starts
product_breaks_none A B pairs r (inr (inr (det, starts, (p, item, first)))) product =
    let x = pair_at pairs p in
    let there : Contains pairs x = (p, first.within, get_or_default pairs p x (record { left = 0; right = 0; rank = 0 }) first.within) in
    breaks_or_keeps A B pairs x r.rule (record { states = product.states x there; moves = product.moves x there; ranks = product.ranks x there }) first.here
