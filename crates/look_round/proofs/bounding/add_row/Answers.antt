use Rattle.std.proofs.Common.{rules, ◌≡◌, ℕ, ◌+◌, ◌<◌, ◌↔◌, ◌⊎◌, inl, inr, List, sym, ◌∙◌, subst, arith}
use Rattle.std.proofs.lemmas.Bool.{cases_eq, cases_lt, false≢true}
use Rattle.auto_core.specs.Rows.{HasBit}
use Rattle.auto_core.specs.Game.{Holds}
use Rattle.bit_rel.specs.Relation.{Relation, Adds}
use Rattle.bit_rows.specs.Walks.{IsNextBit}
use Rattle.look_round.proofs.bounding.add_row.Goals as goal

-- the relation holds what it held and the pairs of p with the states of the row below `at`
abbrev HasAdded : Relation → Relation → ℕ → List ℕ → ℕ → Type 0
HasAdded old now p row at = (r s : ℕ) → Holds now.pairs r s ↔ (Holds old.pairs r s ⊎ ((r ≡ p) × (s < at) × HasBit row s))

one_added :
    (old now new : Relation) (p : ℕ) (row : List ℕ) (at q : ℕ)
    → HasAdded old now p row at
    → IsNextBit row at q
    → Adds now new p q
    → HasAdded old new p row (q + 1)
one_added old now new p row at q h next adds r s = (
  λ held. elim ((adds.pairs r s).0 held) [
    | inl was ↦ elim ((h r s).0 was) [
      | inl first ↦ inl first
      | inr is ↦ let lt = is.1 in let le = next.behind in inr (is.0, omega arith, is.2)
    ]
    | inr same ↦ let e = same.1 in inr (same.0, omega arith, subst (λ x. HasBit row x) (sym same.1) next.here)
  ],
  λ either. (adds.pairs r s).1 (elim either [
    | inl first ↦ inl ((h r s).1 (inl first))
    | inr is ↦ elim (cases_eq s q) [
      | inl e ↦ inr (is.0, e)
      | inr apart ↦ elim (cases_lt s at) [
        | inl before ↦ inl ((h r s).1 (inr (is.0, before, is.2)))
        | inr from ↦ let lt = is.1 in absurd (false≢true (sym (next.none_between s from (omega arith)) ∙ is.2))
      ]
    ]
  ]),
)

pub overflow_cast-q : goal.overflow_cast-q
overflow_cast-q c =
    let next = c.in-Some.ensures.found in
    let below = c.requires.row c.in-Some.q next.here in
    search rules

pub loop-q-preserved : goal.loop-q-preserved
loop-q-preserved c =
    let h = c.loop-q.invariant in
    let next = c.in-Some.ensures.found in
    let below = c.requires.row c.in-Some.q next.here in (
      c.set.ensures.pairs.size ∙ h.0,
      c.set.ensures.valid,
      omega arith,
      one_added c.args.rel.now c.loop-q.rel c.set.new.self c.args.p c.args.row.now c.loop-q.at c.in-Some.q h.3 next c.set.ensures.pairs,
    )

pub returns-clause-pairs : goal.returns-clause-pairs
returns-clause-pairs c = λ r s. (
  λ held. elim ((c.loop-q.invariant.3 r s).0 held) [ inl first ↦ inl first | inr is ↦ inr (is.0, is.2) ],
  λ either. (c.loop-q.invariant.3 r s).1 (elim either [
    | inl first ↦ inl first
    | inr is ↦ elim (cases_lt s c.loop-q.at) [
      | inl before ↦ inr (is.0, before, is.1)
      | inr from ↦ absurd (false≢true (sym (c.in_default.ensures.none s from) ∙ is.1))
    ]
  ]),
)
