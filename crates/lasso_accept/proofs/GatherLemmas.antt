-- What is gathered from the moves of a state with a letter.
use Rattle.std.proofs.Common.{◌≡◌, ◌↔◌, ◌⊎◌, ℕ, ◌+◌, ◌*◌, ◌<◌, ◌≤◌, inl, inr, Bool, true, false, ◌||◌, List, refl, sym, ap, ◌∙◌, subst, arith}
use Rattle.std.proofs.lemmas.Bool.{cases_eq, or_cases}
use Rattle.auto_core.specs.Automaton.{Automaton, Moves, IsSuccessors, trans_at}
use Rattle.auto_core.specs.Rows.{HasCell, cell_of, bit_of}
use Rattle.auto_core.proofs.MoveLemmas.{successor_moves, moves_in_successors}
use Rattle.lasso_accept.specs.Plane.{chosen}

-- Row `state` of the new table has, besides the old one's bits, those of the rows of the first targets.
pub record HasGathered (A : Automaton) (state width begin upto : ℕ) (marked plain old new : List ℕ) : Type 0 where
  pub here :
      (q : ℕ)
      → q < width * 64
      → HasCell new width state q
      ↔ (HasCell old width state q
      ⊎ ((t : ℕ) × (begin ≤ t) × (t < upto) × HasCell (chosen A marked plain (trans_at A t).target) width (trans_at A t).target q))
  pub others : (p q : ℕ) → q < width * 64 → ¬ (p ≡ state) → cell_of new width p q ≡ cell_of old width p q

pub gathered_none : (A : Automaton) (state width begin : ℕ) (marked plain old : List ℕ) → HasGathered A state width begin begin marked plain old old
gathered_none A state width begin marked plain old =
    record {
      here = λ q q_in. (λ h. inl h, λ h. elim h [ inl was ↦ was | inr (t, from, below, _) ↦ absurd (omega arith) ]);
      others = λ p q q_in n. refl;
    }

pub gathered_more :
    (A : Automaton) (state width begin t : ℕ) (marked plain old now new row : List ℕ)
    → begin ≤ t
    → HasGathered A state width begin t marked plain old now
    → ((q : ℕ) → q < width * 64 → bit_of row q ≡ cell_of (chosen A marked plain (trans_at A t).target) width (trans_at A t).target q)
    → ((q : ℕ) → q < width * 64 → cell_of new width state q ≡ (cell_of now width state q || bit_of row q))
    → ((p q : ℕ) → q < width * 64 → ¬ (p ≡ state) → cell_of new width p q ≡ cell_of now width p q)
    → HasGathered A state width begin (t + 1) marked plain old new
gathered_more A state width begin t marked plain old now new row from g is here others =
    record {
      here = λ q q_in. (
        λ h.
            elim (or_cases (cell_of now width state q) (bit_of row q) (sym (here q q_in) ∙ h)) [
              | inl before ↦
                  elim ((g.here q q_in).0 before) [
                    | inl was ↦ inl was
                    | inr (s, s_from, s_below, cell) ↦ inr (s, s_from, omega arith, cell)
                  ]
              | inr new_bit ↦ inr (t, from, omega arith, sym (is q q_in) ∙ new_bit)
            ],
        λ h.
            let was : HasCell now width state q → HasCell new width state q = λ k. here q q_in ∙ ap (λ b. b || bit_of row q) k in
            elim h [
              | inl old_bit ↦ was ((g.here q q_in).1 (inl old_bit))
              | inr (s, s_from, s_below, cell) ↦
                  elim (cases_eq s t) [
                    | inl e ↦
                        let P : ℕ → Type 0 = λ k. HasCell (chosen A marked plain (trans_at A k).target) width (trans_at A k).target q in
                        let bit : bit_of row q ≡ true = is q q_in ∙ subst P e cell in
                        here q q_in ∙ or_last (cell_of now width state q) (bit_of row q) bit
                    | inr n ↦ was ((g.here q q_in).1 (inr (s, s_from, omega arith, cell)))
                  ]
            ],
      );
      others = λ p q q_in n. others p q q_in n ∙ g.others p q q_in n;
    }
  where
    or_last : (a b : Bool) → b ≡ true → (a || b) ≡ true
    or_last true b h = refl
    or_last false b h = h

-- all the moves
pub gathered_all :
    (A : Automaton) (state label width begin end : ℕ) (marked plain old new : List ℕ)
    → IsSuccessors A state label begin end
    → HasGathered A state width begin end marked plain old new
    → (q : ℕ)
    → q < width * 64
    → HasCell new width state q
    ↔ (HasCell old width state q ⊎ ((r : ℕ) × Moves A state label r × HasCell (chosen A marked plain r) width r q))
gathered_all A state label width begin end marked plain old new s g q q_in = (
  λ h.
      elim ((g.here q q_in).0 h) [
        | inl was ↦ inl was
        | inr (t, from, below, cell) ↦ inr ((trans_at A t).target, successor_moves A state label begin end s t from below, cell)
      ],
  λ h.
      elim h [
        | inl was ↦ (g.here q q_in).1 (inl was)
        | inr (r, m, cell) ↦
            let (t, from, below, at) = moves_in_successors A state label begin end s r m in
            let P : ℕ → Type 0 = λ x. HasCell (chosen A marked plain x) width x q in
            (g.here q q_in).1 (inr (t, from, below, subst P (sym at) cell))
      ],
)
