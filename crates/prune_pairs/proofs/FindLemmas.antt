-- The least better transition, found where the candidates stand.
use Rattle.std.proofs.Common.{◌≡◌, Option, Some, None, IfNone, ℕ, ◌+◌, ◌<◌, ◌≤◌, false, inl, inr, List, length, get_or, sym, ap, ◌∙◌, arith}
use Rattle.std.proofs.lemmas.Bool.{cases_lt, cases_eq, false≢true}
use Rattle.auto_core.specs.Automaton.{Automaton, IsAutomaton, IsBefore, IsSuccessors, IsBelowPair, IsAbovePair, trans, trans_at}
use Rattle.auto_core.specs.Pruning.{AtSource, AtTarget, IsBetterAt}
use Rattle.auto_core.specs.Rows.{bit_of, HasBit}
use Rattle.auto_core.specs.declared.parts.Trans.{Trans}
use Rattle.bit_rows.specs.Walks.{IsNextBit}
use Rattle.prune_pairs.specs.Least.{IsLeastOf, HasNone, IsLeastBetter}

-- by pair 1 the sources are the same, by pair 2 the targets
pub same_source : (back : ℕ → ℕ → Type 0) (p q : ℕ) → AtSource 1 back p q → p ≡ q
same_source back p q h = elim h [
  | inl e ↦ e.1
  | inr h ↦ elim h [ inl e ↦ absurd (omega (arith, e.0)) | inr h ↦ elim h [ inl e ↦ absurd (omega (arith, e.0)) | inr e ↦ absurd (omega (arith, e.0)) ] ]
]

pub same_target : (ahead : ℕ → ℕ → Type 0) (p q : ℕ) → AtTarget 2 ahead p q → p ≡ q
same_target ahead p q h = elim h [
  | inl e ↦ absurd (omega (arith, e.0))
  | inr h ↦ elim h [ inl e ↦ e.1 | inr h ↦ elim h [ inl e ↦ absurd (omega (arith, e.0)) | inr e ↦ absurd (omega (arith, e.0)) ] ]
]

-- by the other pairs the backward relation holds the sources
held_source : (n : ℕ) (back : ℕ → ℕ → Type 0) (p q : ℕ) → 2 ≤ n → AtSource n back p q → back p q
held_source n back p q some h = elim h [
  | inl e ↦ absurd (omega (arith, e.0))
  | inr h ↦ elim h [ inl e ↦ e.1.0 | inr h ↦ elim h [ inl e ↦ e.1 | inr e ↦ e.1.0 ] ]
]

-- a transition out of p with the letter a is in the range of its successors
pub in_successors : (A : Automaton) (p a b e : ℕ) → IsSuccessors A p a b e → (v : ℕ) → v < length A.transitions → (trans_at A v).source ≡ p → (trans_at A v).label ≡ a → (b ≤ v) × (v < e)
in_successors A p a b e s v v_in source label = (
  elim (cases_lt v b) [ inl h ↦ let low = s.before v h in absurd (not_below (trans_at A v) p a source label low) | inr h ↦ h ],
  elim (cases_lt v e) [ inl h ↦ h | inr h ↦ let high = s.after v h v_in in absurd (not_above (trans_at A v) p a source label high) ],
)
  where
    not_below : (u : Trans) (p a : ℕ) → u.source ≡ p → u.label ≡ a → IsBelowPair u p a → ⊥
    not_below u p a same_source same_label h = omega arith

    not_above : (u : Trans) (p a : ℕ) → u.source ≡ p → u.label ≡ a → IsAbovePair u p a → ⊥
    not_above u p a same_source same_label h = omega arith

module _ (A : Automaton) (n : ℕ) (back ahead : ℕ → ℕ → Type 0) (t : ℕ) where
  abbrev IsGood : ℕ → Type 0
  IsGood = IsBetterAt A n back ahead t

  -- the least of the successors by the letter of t is the least out of their source
  pub least_out_of : (p a b e u : ℕ) → a ≡ (trans_at A t).label → IsSuccessors A p a b e → IsLeastOf (λ v. (b ≤ v) × (v < e)) IsGood u → IsLeastOf (λ v. (trans_at A v).source ≡ p) IsGood u
  least_out_of p a b e u letter s h = record {
    among = (s.inside u h.among.0 h.among.1).0;
    holds = h.holds;
    least = λ v source good. h.least v (in_successors A p a b e s v good.by source (sym good.better.label ∙ sym letter)) good;
  }

  pub none_out_of : (p a b e : ℕ) → a ≡ (trans_at A t).label → IsSuccessors A p a b e → HasNone (λ v. (b ≤ v) × (v < e)) IsGood → HasNone (λ v. (trans_at A v).source ≡ p) IsGood
  none_out_of p a b e letter s none v source good = none v (in_successors A p a b e s v good.by source (sym good.better.label ∙ sym letter)) good

  -- transitions with greater sources have greater numbers
  source_order : IsAutomaton A → (u v : ℕ) → u < length A.transitions → (trans_at A u).source < (trans_at A v).source → u ≤ v
  source_order valid u v u_in less = elim (cases_lt v u) [
    | inl lt ↦ absurd (not_before (trans_at A v) (trans_at A u) less (valid.in_order v u lt u_in))
    | inr le ↦ le
  ]
    where
      not_before : (x y : Trans) → y.source < x.source → IsBefore x y → ⊥
      not_before x y less h = omega arith

  -- The bits of the row are on the states to which the relation relates the source of t. Out of the states before the next bit there is no
  -- better one, if there is none out of those before `at`.
  none_before_next : 2 ≤ n → (row : List ℕ) (at q : ℕ) → ((p : ℕ) → back (trans_at A t).source p → HasBit row p) → IsNextBit row at q
      → ((v : ℕ) → (trans_at A v).source < at → IsGood v → ⊥) → (v : ℕ) → (trans_at A v).source < q → IsGood v → ⊥
  none_before_next some row at q bits next none v lt good =
      let p = (trans_at A v).source in
      elim (cases_lt p at) [
        | inl before ↦ none v before good
        | inr from ↦ false≢true (sym (next.none_between p from lt) ∙ bits p (held_source n back (trans_at A t).source p some good.better.source))
      ]

  -- the least better one out of the next of these states is the least
  pub least_of_next : 2 ≤ n → IsAutomaton A → (row : List ℕ) (at q u : ℕ) → ((p : ℕ) → back (trans_at A t).source p → HasBit row p) → IsNextBit row at q
      → ((v : ℕ) → (trans_at A v).source < at → IsGood v → ⊥) → IsLeastOf (λ v. (trans_at A v).source ≡ q) IsGood u → IsLeastBetter A n back ahead t u
  least_of_next some valid row at q u bits next none h = record {
    better = h.holds;
    least = λ v good. elim (cases_lt (trans_at A v).source q) [
      | inl lt ↦ absurd (none_before_next some row at q bits next none v lt good)
      | inr le ↦ elim (cases_eq (trans_at A v).source q) [
        | inl e ↦ h.least v e good
        | inr other ↦ source_order valid u v h.holds.by (let same = h.among in omega arith)
      ]
    ];
  }

  pub none_past_next : 2 ≤ n → (row : List ℕ) (at q : ℕ) → ((p : ℕ) → back (trans_at A t).source p → HasBit row p) → IsNextBit row at q
      → ((v : ℕ) → (trans_at A v).source < at → IsGood v → ⊥) → HasNone (λ v. (trans_at A v).source ≡ q) IsGood
      → (v : ℕ) → (trans_at A v).source < q + 1 → IsGood v → ⊥
  none_past_next some row at q bits next none here v upto good = elim (cases_eq (trans_at A v).source q) [
    | inl e ↦ here v e good
    | inr other ↦ none_before_next some row at q bits next none v (omega arith) good
  ]

  pub none_past_last : 2 ≤ n → (row : List ℕ) (at : ℕ) → ((p : ℕ) → back (trans_at A t).source p → HasBit row p) → ((i : ℕ) → at ≤ i → bit_of row i ≡ false)
      → ((v : ℕ) → (trans_at A v).source < at → IsGood v → ⊥) → (v : ℕ) → IsGood v → ⊥
  none_past_last some row at bits rest none v good =
      let p = (trans_at A v).source in
      elim (cases_lt p at) [
        | inl before ↦ none v before good
        | inr from ↦ false≢true (sym (rest p from) ∙ bits p (held_source n back (trans_at A t).source p some good.better.source))
      ]

-- a part of the transition that was read
pub letter_read : (A : Automaton) (ts : List Trans) (t : ℕ) → ts ≡ A.transitions → (get_or ts t (trans 0 0 0)).label ≡ (trans_at A t).label
letter_read A ts t is = ap (λ l. (get_or l t (trans 0 0 0)).label) is

pub source_read : (A : Automaton) (ts : List Trans) (t : ℕ) → ts ≡ A.transitions → (get_or ts t (trans 0 0 0)).source ≡ (trans_at A t).source
source_read A ts t is = ap (λ l. (get_or l t (trans 0 0 0)).source) is

pub target_read : (A : Automaton) (ts : List Trans) (t : ℕ) → ts ≡ A.transitions → (get_or ts t (trans 0 0 0)).target ≡ (trans_at A t).target
target_read A ts t is = ap (λ l. (get_or l t (trans 0 0 0)).target) is

-- what follows from what a clause says where there is no value
pub if_none_then : {X P Q : Type 0} (r : Option X) → IfNone r P → (P → Q) → IfNone r Q
if_none_then None h f = f h
if_none_then (Some x) h f = h
