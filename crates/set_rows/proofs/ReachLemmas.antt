-- The set of a word, letter by letter.
use Rattle.std.proofs.Common.{◌≡◌, ◌↔◌, ℕ, Bool, false, ◌||◌, List, [], ◌∷◌, refl, subst}
use Rattle.auto_core.specs.Automaton.{Automaton, is_accepting}
use Rattle.auto_core.specs.Run.{Run}
use Rattle.auto_core.specs.Pairs.{set_of, set_after}
use Rattle.auto_core.specs.Rows.{HasBit}

-- The states that the rest of the word leads to from a member of the row.
abbrev pub led_to : Automaton → List ℕ → List ℕ → ℕ → Type 0
led_to A row rest q = (p : ℕ) × HasBit row p × (flag : Bool) × Run A p rest q flag

-- The row is that of what came so far: the rest leads from it to just what the whole word leads to.
abbrev pub IsUnderWay : Automaton → List ℕ → List ℕ → List ℕ → Type 0
IsUnderWay A word row rest = (q : ℕ) → set_of A word q ↔ led_to A row rest q

pub begins : (A : Automaton) (word row : List ℕ) → ((q : ℕ) → HasBit row q ↔ (q ≡ A.initial)) → IsUnderWay A word row word
begins A word row one q = (
  λ (flag, run). (A.initial, (one A.initial).1 refl, flag, run),
  λ (p, has, flag, run). (flag, subst (λ s. Run A s word q flag) ((one p).0 has) run),
)

pub goes_on : (A : Automaton) (word row next : List ℕ) (a : ℕ) (rest : List ℕ) → ((q : ℕ) → HasBit next q ↔ set_after A (HasBit row) a q) → IsUnderWay A word row (a ∷ rest) → IsUnderWay A word next rest
goes_on A word row next a rest after before q = (
  λ is.
      let (p, has, flag, (r, later, move, run, e)) = (before q).0 is in
      (r, (after r).1 (p, has, move), later, run),
  λ (r, has, later, run).
      let (p, in_row, move) = (after r).0 has in
      (before q).1 (p, in_row, is_accepting A r || later, (r, later, move, run, refl)),
)

pub ends : (A : Automaton) (word row : List ℕ) → IsUnderWay A word row [] → (q : ℕ) → HasBit row q ↔ set_of A word q
ends A word row before q = (
  λ has. (before q).1 (q, has, false, (refl, refl)),
  λ is. let (p, has, flag, (same, e)) = (before q).0 is in subst (HasBit row) same has,
)
