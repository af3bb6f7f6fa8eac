-- Lassos with more turns before their cycle, and with more turns in it.
use Rattle.std.proofs.Common.{◌≡◌, ℕ, zero, suc, ◌+◌, ◌*◌, ◌≤◌, Bool, true, false, ◌||◌, List, [], ◌∷◌, ◌++◌, length, refl, sym, ap, ◌∙◌, subst, arith, append_assoc, length-append}
use Rattle.std.proofs.lemmas.Bool.{false≢true}
use Rattle.std.proofs.lemmas.List.{append-nil}
use Rattle.auto_core.specs.Automaton.{Automaton}
use Rattle.auto_core.specs.Run.{Run, repeated}
use Rattle.auto_core.specs.Accept.{AcceptsLasso}
use Rattle.auto_core.proofs.PathLemmas.{run_join, run_split}
use Rattle.auto_laws.proofs.PumpingLemmas.{repeated-times}

-- A run on u and k turns of v, and from its end a flagged cycle of m turns.
pub record Loops (A : Automaton) (u v : List ℕ) (k m : ℕ) : Type 0 where
  pub state : ℕ
  pub flag : Bool
  pub enters : Run A A.initial (u ++ repeated v k) state flag
  pub cycles : Run A state (repeated v m) state true

pub loops_of : (A : Automaton) (u v : List ℕ) (h : AcceptsLasso A u v) → Loops A u v h.before h.turns
loops_of A u v h = record { state = h.state; flag = h.flag; enters = h.enters; cycles = h.cycles }

pub accepts_by : (A : Automaton) (u v : List ℕ) (k m : ℕ) → 1 ≤ m → Loops A u v k m → AcceptsLasso A u v
accepts_by A u v k m some h = record { before = k; turns = m; state = h.state; flag = h.flag; enters = h.enters; some_turn = some; cycles = h.cycles }

repeated_end : (v : List ℕ) (n : ℕ) → repeated v n ++ v ≡ v ++ repeated v n
repeated_end v zero = sym (append-nil v)
repeated_end v (suc n) = append_assoc v (repeated v n) v ∙ ap (λ l. v ++ l) (repeated_end v n)

or_swapped : (a b : Bool) → true ≡ (a || b) → (b || a) ≡ true
or_swapped true true h = refl
or_swapped true false h = refl
or_swapped false true h = refl
or_swapped false false h = sym h

-- One turn of the cycle goes before it.
pub turn_before : (A : Automaton) (u v : List ℕ) (k m : ℕ) → 1 ≤ m → Loops A u v k m → Loops A u v (suc k) m
turn_before A u v k zero some h = absurd (omega arith)
turn_before A u v k (suc n) some h =
    let c = run_split A h.state v (repeated v n) h.state true h.cycles in
    let word : (u ++ repeated v k) ++ v ≡ u ++ repeated v (suc k) = append_assoc u (repeated v k) v ∙ ap (λ l. u ++ l) (repeated_end v k) in
    let back : Run A c.middle (repeated v n ++ v) c.middle (c.second_flag || c.first_flag) =
    run_join A c.middle (repeated v n) h.state c.second_flag v c.middle c.first_flag c.second c.first in
    record {
      state = c.middle;
      flag = h.flag || c.first_flag;
      enters = subst (λ l. Run A A.initial l c.middle (h.flag || c.first_flag)) word (run_join A A.initial (u ++ repeated v k) h.state h.flag v c.middle c.first_flag h.enters c.first);
      cycles = subst (λ b. Run A c.middle (repeated v (suc n)) c.middle b) (or_swapped c.first_flag c.second_flag c.is)
          (subst (λ l. Run A c.middle l c.middle (c.second_flag || c.first_flag)) (repeated_end v n) back);
    }

pub turns_before : (A : Automaton) (u v : List ℕ) (j k m : ℕ) → 1 ≤ m → Loops A u v k m → Loops A u v (j + k) m
turns_before A u v zero k m some h = let e : k ≡ 0 + k = omega arith in subst (λ n. Loops A u v n m) e h
turns_before A u v (suc j) k m some h =
    let e : suc (j + k) ≡ suc j + k = omega arith in
    subst (λ n. Loops A u v n m) e (turn_before A u v (j + k) m some (turns_before A u v j k m some h))

again : (A : Automaton) (p : ℕ) (x : List ℕ) (n : ℕ) → Run A p x p true → Run A p (repeated x (suc n)) p true
again A p x zero run = run_join A p x p true [] p false run (refl, refl)
again A p x (suc n) run = run_join A p x p true (repeated x (suc n)) p true run (again A p x n run)

-- The cycle is gone round c times.
pub more_turns : (A : Automaton) (u v : List ℕ) (k m c : ℕ) → 1 ≤ c → Loops A u v k m → Loops A u v k (m * c)
more_turns A u v k m zero some h = absurd (omega arith)
more_turns A u v k m (suc n) some h = record {
  state = h.state;
  flag = h.flag;
  enters = h.enters;
  cycles = subst (λ l. Run A h.state l h.state true) (repeated-times v m (suc n)) (again A h.state (repeated v m) n h.cycles);
}

none_repeated : (n : ℕ) → repeated [] n ≡ []
none_repeated zero = refl
none_repeated (suc n) = none_repeated n

-- A flagged cycle reads a letter.
pub loop_has_letters : (A : Automaton) (p : ℕ) (v : List ℕ) (m : ℕ) → Run A p (repeated v m) p true → 1 ≤ length v
loop_has_letters A p [] m run =
    let none : Run A p [] p true = subst (λ l. Run A p l p true) (none_repeated m) run in
    absurd (false≢true (sym none.1))
loop_has_letters A p (a ∷ v) m run = omega arith

-- So the word before a cycle has letters if a turn is before it.
pub entry_has_letters : (u v : List ℕ) (k : ℕ) → 1 ≤ length v → 1 ≤ length (u ++ repeated v (suc k))
entry_has_letters u v k some = omega (arith, length-append u (v ++ repeated v k), length-append v (repeated v k))
