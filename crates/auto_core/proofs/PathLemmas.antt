-- Paths by any moves, and runs of an automaton as paths: length, end, join, split.
use Rattle.std.proofs.Common.{◌≡◌, ℕ, zero, suc, ◌⊎◌, Bool, true, false, ◌||◌, List, [], ◌∷◌, ◌++◌, length, Contains, ◌==◌, refl, sym, ap, ◌∙◌, subst, inl, inr, arith}
use Rattle.std.specs.List.{list_any}
use Rattle.std.proofs.lemmas.Bool.{eq-eqb, eqb-true, or_cases, or_left, or_right, false≢true}
use Rattle.auto_core.specs.Automaton.{Automaton, IsAccepting, is_accepting}
use Rattle.auto_core.specs.Run.{Run, PathBy, Path, end_of, some_accepting}
use Rattle.auto_core.specs.RunLaws.{CutPath, CutRun, PathOfRun}

-- Membership, one element at a time.
pub Contains-here : {X : Type 0} (x y : X) (xs : List X) → x ≡ y → Contains (x ∷ xs) y
Contains-here x y xs e = (zero, omega arith, e)

pub Contains-later : {X : Type 0} (x y : X) (xs : List X) → Contains xs y → Contains (x ∷ xs) y
Contains-later x y xs h = let lt = h.1 in (suc h.0, omega arith, h.2)

pub Contains-cons_cases : {X : Type 0} (x y : X) (xs : List X) → Contains (x ∷ xs) y → (x ≡ y) ⊎ Contains xs y
Contains-cons_cases x y xs (zero, lt, e) = inl e
Contains-cons_cases x y xs (suc k, lt, e) = inr (k, omega arith, e)

pub none_in_nil : {X : Type 0} (y : X) → Contains [] y → ⊥
none_in_nil y h = let lt = h.1 in omega arith

-- The test for a number in a list, against membership.
pub Contains-from_test : (xs : List ℕ) (q : ℕ) → list_any (λ x. x == q) xs ≡ true → Contains xs q
Contains-from_test [] q h = absurd (false≢true h)
Contains-from_test (x ∷ xs) q h = elim (or_cases (x == q) (list_any (λ y. y == q) xs) h) [
  | inl here ↦ Contains-here x q xs (eqb-true x q here)
  | inr later ↦ Contains-later x q xs (Contains-from_test xs q later)
]

pub test_from_Contains : (xs : List ℕ) (q : ℕ) → Contains xs q → list_any (λ x. x == q) xs ≡ true
test_from_Contains [] q h = absurd (none_in_nil q h)
test_from_Contains (x ∷ xs) q h = elim (Contains-cons_cases x q xs h) [
  | inl here ↦ or_left (x == q) (list_any (λ y. y == q) xs) (eq-eqb x q here)
  | inr later ↦ or_right (x == q) (list_any (λ y. y == q) xs) (test_from_Contains xs q later)
]

pub accepting_from_test : (A : Automaton) (q : ℕ) → is_accepting A q ≡ true → IsAccepting A q
accepting_from_test A q h = Contains-from_test A.accepting q h

pub test_from_accepting : (A : Automaton) (q : ℕ) → IsAccepting A q → is_accepting A q ≡ true
test_from_accepting A q h = test_from_Contains A.accepting q h

-- The end of a path, and whether it passes an accepting state, over two parts.
pub end_of-append : (p : ℕ) (ps qs : List ℕ) → end_of p (ps ++ qs) ≡ end_of (end_of p ps) qs
end_of-append p [] qs = refl
end_of-append p (q ∷ ps) qs = end_of-append q ps qs

pub or-assoc : (a b c : Bool) → (a || (b || c)) ≡ ((a || b) || c)
or-assoc true b c = refl
or-assoc false b c = refl

pub some_accepting-append : (A : Automaton) (ps qs : List ℕ) → some_accepting A (ps ++ qs) ≡ (some_accepting A ps || some_accepting A qs)
some_accepting-append A [] qs = refl
some_accepting-append A (q ∷ ps) qs =
    ap (λ b. is_accepting A q || b) (some_accepting-append A ps qs) ∙ or-assoc (is_accepting A q) (some_accepting A ps) (some_accepting A qs)

-- A path has one state for each letter.
pub length-path : (M : ℕ → ℕ → ℕ → Type 0) (p : ℕ) (w ps : List ℕ) → PathBy M p w ps → length ps ≡ length w
length-path M p [] [] h = refl
length-path M p [] (q ∷ ps) h = absurd h
length-path M p (a ∷ w) [] h = absurd h
length-path M p (a ∷ w) (q ∷ ps) h = let e = length-path M q w ps h.1 in omega arith

pub path_join : (M : ℕ → ℕ → ℕ → Type 0) (p : ℕ) (w x ps qs : List ℕ) → PathBy M p w ps → PathBy M (end_of p ps) x qs → PathBy M p (w ++ x) (ps ++ qs)
path_join M p [] x [] qs h k = k
path_join M p [] x (q ∷ ps) qs h k = absurd h
path_join M p (a ∷ w) x [] qs h k = absurd h
path_join M p (a ∷ w) x (q ∷ ps) qs h k = (h.0, path_join M q w x ps qs h.1 k)

pub path_split : (M : ℕ → ℕ → ℕ → Type 0) (p : ℕ) (w x rs : List ℕ) → PathBy M p (w ++ x) rs → CutPath M p w x rs
path_split M p [] x rs h = record { front = []; back = rs; is = refl; first = tt; second = h }
path_split M p (a ∷ w) x [] h = absurd h
path_split M p (a ∷ w) x (q ∷ rs) h =
    let c = path_split M q w x rs h.1 in
    record { front = q ∷ c.front; back = c.back; is = ap (λ z. q ∷ z) c.is; first = (h.0, c.first); second = c.second }

-- Runs and paths.
pub run_of_path : (A : Automaton) (p : ℕ) (w ps : List ℕ) → Path A p w ps → Run A p w (end_of p ps) (some_accepting A ps)
run_of_path A p [] [] h = (refl, refl)
run_of_path A p [] (q ∷ ps) h = absurd h
run_of_path A p (a ∷ w) [] h = absurd h
run_of_path A p (a ∷ w) (q ∷ ps) h = (q, some_accepting A ps, h.0, run_of_path A q w ps h.1, refl)

pub path_of_run : (A : Automaton) (p : ℕ) (w : List ℕ) (q : ℕ) (flag : Bool) → Run A p w q flag → PathOfRun A p w q flag
path_of_run A p [] q flag h = ([], tt, h.0, sym h.1)
path_of_run A p (a ∷ w) q flag (next, later, move, rest, e) =
    let r = path_of_run A next w q later rest in
    (next ∷ r.0, (move, r.1), r.2, ap (λ b. is_accepting A next || b) r.3 ∙ sym e)

pub run_from_path : (A : Automaton) (p : ℕ) (w : List ℕ) (q : ℕ) (flag : Bool) → PathOfRun A p w q flag → Run A p w q flag
run_from_path A p w q flag (ps, path, ends, marks) =
    subst (λ r. Run A p w r flag) ends (subst (λ b. Run A p w (end_of p ps) b) marks (run_of_path A p w ps path))

pub run_join : (A : Automaton) (p : ℕ) (w : List ℕ) (q : ℕ) (flag : Bool) (x : List ℕ) (r : ℕ) (more : Bool) → Run A p w q flag → Run A q x r more → Run A p (w ++ x) r (flag || more)
run_join A p [] q flag x r more (e, n) k = subst (λ b. Run A p x r (b || more)) (sym n) (subst (λ s. Run A s x r more) (sym e) k)
run_join A p (a ∷ w) q flag x r more (next, later, move, rest, e) k =
    (next, later || more, move, run_join A next w q later x r more rest k, ap (λ b. b || more) e ∙ sym (or-assoc (is_accepting A next) later more))

pub run_split : (A : Automaton) (p : ℕ) (w x : List ℕ) (r : ℕ) (flag : Bool) → Run A p (w ++ x) r flag → CutRun A p w x r flag
run_split A p [] x r flag h = record { middle = p; first_flag = false; second_flag = flag; first = (refl, refl); second = h; is = refl }
run_split A p (a ∷ w) x r flag (next, later, move, rest, e) =
    let c = run_split A next w x r later rest in
    record {
      middle = c.middle;
      first_flag = is_accepting A next || c.first_flag;
      second_flag = c.second_flag;
      first = (next, c.first_flag, move, c.first, refl);
      second = c.second;
      is = e ∙ ap (λ b. is_accepting A next || b) c.is ∙ or-assoc (is_accepting A next) c.first_flag c.second_flag;
    }
