-- There is a cross relation to be written.
use Rattle.std.proofs.Common.{◌≡◌, ℕ, zero, suc, ◌+◌, ◌<◌, ◌≤◌, ◌⊎◌, inl, inr, List, [], ◌∷◌, ◌++◌, length, map, refl, subst, arith}
use Rattle.cert_value.specs.declared.types.Row.{Row}
use Rattle.cert_line.specs.Lines.{joined_runs}
use Rattle.auto_laws.proofs.DecisionLemmas.{decide_held}
use Rattle.auto_laws.proofs.GreatestLemmas.{greatest_across_is_there}
use Rattle.log_check.specs.Rows.{HoldsFrom, AreRights, AreRows}
use Rattle.log_check.proofs.RowLemmas.{rights_none, rights_more, rights_same, rows_none, rows_more, rows_same}
use Rattle.cert_text.specs.declared.cross.Cross.{Cross}
use Rattle.cross_sim.specs.Cross.{HoldsGreatestAcross}
use Rattle.cross_sim.specs.Written.{GreatestCrossIsThere}
use Rattle.cross_sim.proofs.CrossLemmas.{raise, raised, raised_lowers}
use Rattle.cross_sim.proofs.WrittenLemmas.{cross_made}

rights_there : (S : List (ℕ × ℕ)) (n left i : ℕ) → (rights : List ℕ) × AreRights (HoldsFrom S n i) left rights
rights_there S n left zero = ([], rights_none S n left)
rights_there S n left (suc i) =
    let (rights, are) = rights_there S n left i in
    let next : i + 1 ≡ suc i = omega arith in
    elim (decide_held S left (n + i)) [
      | inl held ↦ (rights ++ i ∷ [], subst (λ m. AreRights (HoldsFrom S n m) left (rights ++ i ∷ [])) next (rights_more S n left i rights are held))
      | inr lacks ↦ (rights, subst (λ m. AreRights (HoldsFrom S n m) left rights) next (rights_same S n left i rights are lacks))
    ]

none_or_some : (ns : List ℕ) → (length ns ≡ 0) ⊎ (0 < length ns)
none_or_some [] = inl refl
none_or_some (n ∷ ns) = inr (omega arith)

rows_there : (S : List (ℕ × ℕ)) (n count : ℕ) → count ≤ 1000000000 → (i : ℕ) → i ≤ 1000000000 → (rows : List Row) × AreRows (HoldsFrom S n count) i rows
rows_there S n count small zero few = ([], rows_none (HoldsFrom S n count))
rows_there S n count small (suc i) few =
    let (rows, are) = rows_there S n count small i (omega arith) in
    let (found, rights) = rights_there S n i count in
    let next : i + 1 ≡ suc i = omega arith in
    let row : Row = record { left = i; runs = joined_runs found } in
    elim (none_or_some found) [
      | inl none ↦ (rows, subst (λ m. AreRows (HoldsFrom S n count) m rows) next (rows_same (HoldsFrom S n count) i rows found are rights none))
      | inr some ↦ (
        rows ++ row ∷ [],
        subst (λ m. AreRows (HoldsFrom S n count) m (rows ++ row ∷ [])) next
            (rows_more (HoldsFrom S n count) i rows row found (omega arith) (λ q h. let lt = h.0 in omega arith) are refl refl rights some),
      )
    ]

pub greatest_cross_is_there : GreatestCrossIsThere
greatest_cross_is_there pair look first second labels upto =
    let A = pair.first in
    let B = pair.second in
    let (S, g) = greatest_across_is_there A B look in
    let R = map (raise A.states) S in
    let greatest : HoldsGreatestAcross A B look R = record { across = S; is_greatest = g; pairs = raised_lowers A.states S R (raised A.states S) } in
    let (rows, are) = rows_there R A.states B.states (omega arith) A.states (omega arith) in
    let cross : Cross = record { first_states = A.states; second_states = B.states; labels = length pair.labels; look = look; rows = rows } in
    (cross, cross_made pair look R cross first second labels upto (refl, refl, refl) refl greatest are)
