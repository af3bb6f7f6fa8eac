-- Runs as paths, and how both join and split: the words and the laws.
use Rattle.std.specs.Prelude.{◌≡◌, ℕ, ◌↔◌, Bool, ◌||◌, List, ◌++◌}
use Rattle.auto_core.specs.Automaton.{Automaton, Moves}
use Rattle.auto_core.specs.Run.{Run, PathBy, Path, end_of, some_accepting}

-- A path on the word that has the end and the flag of a run.
abbrev pub PathOfRun : Automaton → ℕ → List ℕ → ℕ → Bool → Type 0
PathOfRun A p w q flag =
    (ps : List ℕ) × Path A p w ps × (end_of p ps ≡ q) × (some_accepting A ps ≡ flag)

-- The path from p through the states rs, cut after the word w: the rest goes on from there on x.
pub record CutPath (M : ℕ → ℕ → ℕ → Type 0) (p : ℕ) (w x rs : List ℕ) : Type 0 where
  pub front : List ℕ
  pub back : List ℕ
  pub is : rs ≡ front ++ back
  pub first : PathBy M p w front
  pub second : PathBy M (end_of p front) x back

-- The run from p on w and then x, cut between them; its flag is the 'or' of the parts' flags.
pub record CutRun (A : Automaton) (p : ℕ) (w x : List ℕ) (r : ℕ) (flag : Bool) : Type 0 where
  pub middle : ℕ
  pub first_flag : Bool
  pub second_flag : Bool
  pub first : Run A p w middle first_flag
  pub second : Run A middle x r second_flag
  pub is : flag ≡ (first_flag || second_flag)

-- A run is a path with that end and that flag.
abbrev pub RunsArePaths : Type 0
RunsArePaths =
    (A : Automaton) (p : ℕ) (w : List ℕ) (q : ℕ) (flag : Bool)
    → Run A p w q flag ↔ PathOfRun A p w q flag

-- A run on w to q and a run on x from q join to a run on both, past an accepting state where either
-- is.
abbrev pub RunsJoin : Type 0
RunsJoin = (A : Automaton) (p : ℕ) (w : List ℕ) (q : ℕ) (flag : Bool) (x : List ℕ) (r : ℕ)
    (more : Bool) → Run A p w q flag → Run A q x r more → Run A p (w ++ x) r (flag || more)

-- A run on w and then x splits between them.
abbrev pub RunsSplit : Type 0
RunsSplit =
    (A : Automaton) (p : ℕ) (w x : List ℕ) (r : ℕ) (flag : Bool) → Run A p (w ++ x) r flag
    → CutRun A p w x r flag

-- A path on w and a path on x from its end join to a path on both.
abbrev pub PathsJoin : Type 0
PathsJoin =
    (A : Automaton) (p : ℕ) (w x ps qs : List ℕ) → Path A p w ps → Path A (end_of p ps) x qs
    → Path A p (w ++ x) (ps ++ qs)

-- A path on w and then x splits between them.
abbrev pub PathsSplit : Type 0
PathsSplit =
    (A : Automaton) (p : ℕ) (w x rs : List ℕ) → Path A p (w ++ x) rs → CutPath (Moves A) p w x rs
