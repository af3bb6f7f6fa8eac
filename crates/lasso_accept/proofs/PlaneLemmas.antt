-- The tables of the empty word, and of a word with a letter in front.
use Rattle.std.proofs.Common.{◌≡◌, ◌↔◌, ◌⊎◌, ℕ, ◌+◌, ◌*◌, ◌/◌, ◌<◌, ◌≤◌, inl, inr, Bool, true, false, ◌||◌, cond, List, [], ◌∷◌, ◌++◌, length, slice_index, refl, sym, ap, ◌∙◌, subst, arith}
use Rattle.std.proofs.lemmas.Bool.{cases_eq, cases_lt, cases_Bool, false≢true}
use Rattle.auto_core.specs.Automaton.{Automaton, IsAutomaton, Moves, is_accepting}
use Rattle.auto_core.specs.Run.{Run}
use Rattle.auto_core.specs.Rows.{HasCell, cell_of, bit_of}
use Rattle.auto_core.proofs.BitLemmas.{bit_past}
use Rattle.auto_core.proofs.MoveLemmas.{move_in_range}
use Rattle.auto_core.proofs.PathLemmas.{run_split}
use Rattle.auto_laws.proofs.PumpingLemmas.{run_in_range}
use Rattle.bit_rows.proofs.WordLemmas.{bit_of_zero_word}
use Rattle.lasso_accept.specs.Plane.{ArePlanes, chosen}

-- The first rows of the new table have what their moves with the letter gather; the others have nothing.
pub record HasPrepended (A : Automaton) (label width upto : ℕ) (marked plain new : List ℕ) : Type 0 where
  pub rows :
      (p q : ℕ)
      → p < upto
      → q < width * 64
      → HasCell new width p q ↔ ((r : ℕ) × Moves A p label r × HasCell (chosen A marked plain r) width r q)
  pub empty : (p q : ℕ) → upto ≤ p → q < width * 64 → cell_of new width p q ≡ false

pub prepended_none :
    (A : Automaton) (label width : ℕ) (marked plain new : List ℕ)
    → ((i : ℕ) → bit_of new i ≡ false)
    → HasPrepended A label width 0 marked plain new
prepended_none A label width marked plain new clear =
    record { rows = λ p q below q_in. absurd (omega arith); empty = λ p q from q_in. clear (p * width * 64 + q) }

pub prepended_more :
    (A : Automaton) (label width state : ℕ) (marked plain now new : List ℕ)
    → HasPrepended A label width state marked plain now
    → ((q : ℕ) → q < width * 64 → HasCell new width state q ↔ (HasCell now width state q ⊎ ((r : ℕ) × Moves A state label r × HasCell (chosen A marked plain r) width r q)))
    → ((p q : ℕ) → q < width * 64 → ¬ (p ≡ state) → cell_of new width p q ≡ cell_of now width p q)
    → HasPrepended A label width (state + 1) marked plain new
prepended_more A label width state marked plain now new h here others =
    record {
      rows = λ p q below q_in.
          elim (cases_eq p state) [
            | inl e ↦ (
              λ cell.
                  let P : ℕ → Type 0 = λ s. HasCell new width s q in
                  let Q : ℕ → Type 0 = λ s. (r : ℕ) × Moves A s label r × HasCell (chosen A marked plain r) width r q in
                  elim ((here q q_in).0 (subst P e cell)) [
                    | inl was ↦ absurd (false≢true (sym (h.empty state q (omega arith) q_in) ∙ was))
                    | inr found ↦ subst Q (sym e) found
                  ],
              λ found.
                  let P : ℕ → Type 0 = λ s. HasCell new width s q in
                  let Q : ℕ → Type 0 = λ s. (r : ℕ) × Moves A s label r × HasCell (chosen A marked plain r) width r q in
                  subst P (sym e) ((here q q_in).1 (inr (subst Q e found))),
            )
            | inr n ↦ (
              λ cell. (h.rows p q (omega arith) q_in).0 (sym (others p q q_in n) ∙ cell),
              λ found. others p q q_in n ∙ (h.rows p q (omega arith) q_in).1 found,
            )
          ];
      empty = λ p q from q_in. others p q q_in (λ e. omega arith) ∙ h.empty p q (omega arith) q_in;
    }

chosen_same : (A : Automaton) (table : List ℕ) (r : ℕ) → chosen A table table r ≡ table
chosen_same A table r = same (is_accepting A r)
  where
    same : (b : Bool) → cond b table table ≡ table
    same true = refl
    same false = refl

module _ (A : Automaton) (valid : IsAutomaton A) (label width : ℕ) (w any flagged new_any new_flagged : List ℕ)
    (planes : ArePlanes A w width any flagged)
    (any_len : length new_any ≡ A.states * width)
    (flagged_len : length new_flagged ≡ A.states * width)
    (by_any : HasPrepended A label width A.states any any new_any)
    (by_flag : HasPrepended A label width A.states any flagged new_flagged) where
  near : (q : ℕ) → q < A.states → q < width * 64
  near q q_in = let room = planes.any_table.room in omega arith

  any_cell : (p q : ℕ) → p < A.states → q < width * 64 → HasCell new_any width p q → (r : ℕ) × Moves A p label r × (r < A.states) × HasCell any width r q
  any_cell p q p_in q_in cell =
      let (r, m, found) = (by_any.rows p q p_in q_in).0 cell in
      let P : List ℕ → Type 0 = λ t. HasCell t width r q in
      (r, m, (move_in_range A valid p label r m).1, subst P (chosen_same A any r) found)

  -- where the move to r leads: accepting, and any run goes on, or not, and one with a flag does
  flagged_cell :
      (p q : ℕ)
      → p < A.states
      → q < width * 64
      → HasCell new_flagged width p q
      → (r : ℕ) × Moves A p label r × (r < A.states) × (((is_accepting A r ≡ true) × HasCell any width r q) ⊎ HasCell flagged width r q)
  flagged_cell p q p_in q_in cell =
      let (r, m, found) = (by_flag.rows p q p_in q_in).0 cell in
      let P : Bool → Type 0 = λ b. HasCell (cond b any flagged) width r q in (
        r,
        m,
        (move_in_range A valid p label r m).1,
        elim (cases_Bool (is_accepting A r)) [ inl yes_ ↦ inl (yes_, subst P yes_ found) | inr no_ ↦ inr (subst P no_ found) ],
      )

  prepended : ArePlanes A (label ∷ w) width new_any new_flagged
  prepended =
      record {
        any_table =
            record {
              len = any_len;
              room = planes.any_table.room;
              columns = λ p q p_in q_in cell. let (r, m, r_in, found) = any_cell p q p_in q_in cell in planes.any_table.columns r q r_in q_in found;
            };
        flagged_table =
            record {
              len = flagged_len;
              room = planes.any_table.room;
              columns = λ p q p_in q_in cell.
                  let (r, m, r_in, found) = flagged_cell p q p_in q_in cell in
                  elim found [
                    | inl here ↦ planes.any_table.columns r q r_in q_in here.1
                    | inr later ↦ planes.flagged_table.columns r q r_in q_in later
                  ];
            };
        any_runs = λ p q p_in q_in. (
          λ cell.
              let (r, m, r_in, found) = any_cell p q p_in (near q q_in) cell in
              let (later, run) = (planes.any_runs r q r_in q_in).0 found in
              (is_accepting A r || later, (r, later, m, run, refl)),
          λ (flag, (r, later, m, run, e)).
              let r_in = (move_in_range A valid p label r m).1 in
              let found = (planes.any_runs r q r_in q_in).1 (later, run) in
              let P : List ℕ → Type 0 = λ t. HasCell t width r q in
              (by_any.rows p q p_in (near q q_in)).1 (r, m, subst P (sym (chosen_same A any r)) found),
        );
        flagged_runs = λ p q p_in q_in. (
          λ cell.
              let (r, m, r_in, found) = flagged_cell p q p_in (near q q_in) cell in
              elim found [
                | inl here ↦
                    let (later, run) = (planes.any_runs r q r_in q_in).0 here.1 in
                    (r, later, m, run, sym (or_first (is_accepting A r) later here.0))
                | inr there ↦ (r, true, m, (planes.flagged_runs r q r_in q_in).0 there, sym (or_second (is_accepting A r)))
              ],
          λ (r, later, m, run, e).
              let r_in = (move_in_range A valid p label r m).1 in
              let P : Bool → Type 0 = λ b. HasCell (cond b any flagged) width r q in
              let Q : Bool → Type 0 = λ b. Run A r w q b in
              (by_flag.rows p q p_in (near q q_in)).1 (
                r,
                m,
                elim (cases_Bool (is_accepting A r)) [
                  | inl yes_ ↦ subst P (sym yes_) ((planes.any_runs r q r_in q_in).1 (later, run))
                  | inr no_ ↦
                      let is : later ≡ true = ap (λ b. b || later) (sym no_) ∙ sym e in
                      subst P (sym no_) ((planes.flagged_runs r q r_in q_in).1 (subst Q is run))
                ],
              ),
        );
      }
    where
      or_first : (a b : Bool) → a ≡ true → (a || b) ≡ true
      or_first a b h = ap (λ x. x || b) h

      or_second : (a : Bool) → (a || true) ≡ true
      or_second true = refl
      or_second false = refl

pub planes_prepended :
    (A : Automaton)
    → IsAutomaton A
    → (label width : ℕ) (w any flagged new_any new_flagged : List ℕ)
    → ArePlanes A w width any flagged
    → length new_any ≡ A.states * width
    → length new_flagged ≡ A.states * width
    → HasPrepended A label width A.states any any new_any
    → HasPrepended A label width A.states any flagged new_flagged
    → ArePlanes A (label ∷ w) width new_any new_flagged
planes_prepended = prepended

-- The first places of the table's diagonal are set, and nothing else.
pub record IsDiagonal (width upto : ℕ) (table : List ℕ) : Type 0 where
  pub set : (p : ℕ) → p < upto → HasCell table width p p
  pub only : (p q : ℕ) → q < width * 64 → HasCell table width p q → (p ≡ q) × (p < upto)

pub diagonal_none : (width : ℕ) (table : List ℕ) → ((i : ℕ) → bit_of table i ≡ false) → IsDiagonal width 0 table
diagonal_none width table clear =
    record { set = λ p below. absurd (omega arith); only = λ p q q_in h. absurd (false≢true (sym (clear (p * width * 64 + q)) ∙ h)) }

pub diagonal_more :
    (width state : ℕ) (now new : List ℕ)
    → state < width * 64
    → IsDiagonal width state now
    → cell_of new width state state ≡ true
    → ((r s : ℕ) → s < width * 64 → ¬ ((r ≡ state) × (s ≡ state)) → cell_of new width r s ≡ cell_of now width r s)
    → IsDiagonal width (state + 1) new
diagonal_more width state now new in_row d here others =
    record {
      set = λ p below.
          elim (cases_eq p state) [
            | inl e ↦ let P : ℕ → Type 0 = λ s. HasCell new width s s in subst P (sym e) here
            | inr n ↦ others p p (omega arith) (λ e. n e.0) ∙ d.set p (omega arith)
          ];
      only = λ p q q_in h.
          elim (cases_eq p state) [
            | inl e ↦
                elim (cases_eq q state) [
                  | inl f ↦ (e ∙ sym f, omega arith)
                  | inr n ↦ let old = d.only p q q_in (sym (others p q q_in (λ k. n k.1)) ∙ h) in let below = old.1 in (old.0, omega arith)
                ]
            | inr n ↦ let old = d.only p q q_in (sym (others p q q_in (λ k. n k.0)) ∙ h) in let below = old.1 in (old.0, omega arith)
          ];
    }

pub planes_empty :
    (A : Automaton) (width : ℕ) (any flagged : List ℕ)
    → A.states ≤ width * 64
    → length any ≡ A.states * width
    → length flagged ≡ A.states * width
    → IsDiagonal width A.states any
    → ((i : ℕ) → bit_of flagged i ≡ false)
    → ArePlanes A [] width any flagged
planes_empty A width any flagged room any_len flagged_len d clear =
    record {
      any_table = record { len = any_len; room = room; columns = λ p q p_in q_in h. let same = d.only p q q_in h in let e = same.0 in omega arith };
      flagged_table = record { len = flagged_len; room = room; columns = λ p q p_in q_in h. absurd (false≢true (sym (clear (p * width * 64 + q)) ∙ h)) };
      any_runs = λ p q p_in q_in. (
        λ h. (false, ((d.only p q (omega arith) h).0, refl)),
        λ (flag, (e, f)). let P : ℕ → Type 0 = λ s. HasCell any width p s in subst P e (d.set p p_in),
      );
      flagged_runs = λ p q p_in q_in. (
        λ h. absurd (false≢true (sym (clear (p * width * 64 + q)) ∙ h)),
        λ (e, f). absurd (false≢true (sym f)),
      );
    }

-- A row whose words are zero has no bit.
pub no_bits : (row : List ℕ) → ((k : ℕ) → k < length row → slice_index row k ≡ 0) → (i : ℕ) → bit_of row i ≡ false
no_bits row zeros i = elim (cases_lt (i / 64) (length row)) [ inl in_row ↦ bit_of_zero_word row i (zeros (i / 64) in_row) | inr past ↦ bit_past row i past ]

-- Where the tables of a word join no states, they are those of every word that it ends.
pub planes_end :
    (A : Automaton)
    → IsAutomaton A
    → (x w : List ℕ) (width : ℕ) (any flagged : List ℕ)
    → ArePlanes A w width any flagged
    → ((i : ℕ) → bit_of any i ≡ false)
    → ArePlanes A (x ++ w) width any flagged
planes_end A valid x w width any flagged planes clear =
    let no_cell : (p q : ℕ) → HasCell any width p q → ⊥ = λ p q cell. false≢true (sym (clear (p * width * 64 + q)) ∙ cell) in
    let no_run : (p q : ℕ) (flag : Bool) → p < A.states → q < A.states → Run A p (x ++ w) q flag → ⊥ =
    λ p q flag p_in q_in run.
    let cut = run_split A p x w q flag run in
    let middle_in = run_in_range A valid p x cut.middle cut.first_flag p_in cut.first in
    no_cell cut.middle q ((planes.any_runs cut.middle q middle_in q_in).1 (cut.second_flag, cut.second)) in
    record {
      any_table = planes.any_table;
      flagged_table = planes.flagged_table;
      any_runs = λ p q p_in q_in. (λ cell. absurd (no_cell p q cell), λ (flag, run). absurd (no_run p q flag p_in q_in run));
      flagged_runs = λ p q p_in q_in. (
        λ cell. absurd (no_cell p q ((planes.any_runs p q p_in q_in).1 (true, (planes.flagged_runs p q p_in q_in).0 cell))),
        λ run. absurd (no_run p q true p_in q_in run),
      );
    }
