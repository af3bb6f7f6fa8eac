-- From paths of B that follow the paths of A to lassos and words that B accepts where A does.
use Rattle.std.proofs.Common.{◌≡◌, ℕ, zero, suc, ◌+◌, ◌*◌, ◌<◌, ◌≤◌, true, List, [], ◌∷◌, ◌++◌, length, refl, sym, ap, ◌∙◌, subst, inl, inr, arith, le_refl, le-mul_of_pos_right, append_assoc, mul-pos}
use Rattle.std.proofs.lemmas.Bool.{or_cases, or_left, or_right, false≢true}
use Rattle.auto_core.specs.Automaton.{Automaton, IsAutomaton, IsAccepting, is_accepting}
use Rattle.auto_core.specs.Run.{Run, Path, end_of, some_accepting, repeated}
use Rattle.auto_core.specs.Accept.{AcceptsLasso, Includes}
use Rattle.auto_core.specs.Game.{Chain, AllMatched, MatchesForward}
use Rattle.auto_core.specs.Automaton.{Moves}
use Rattle.auto_core.specs.declared.parts.Mode.TheVariants.{Buchi, Finite}
use Rattle.auto_laws.specs.Pumping.{RunsPast}
use Rattle.auto_laws.specs.Transfer.{AcceptsWithin, AllMatchedWithin, FollowsFromStart, FollowsWithin}
use Rattle.auto_core.proofs.PathLemmas.{length-path, path_join, path_split, path_of_run, run_of_path, end_of-append, accepting_from_test, test_from_accepting}
use Rattle.auto_laws.proofs.MatchLemmas.{matched_end}
use Rattle.auto_laws.proofs.PumpingLemmas.{pumping, reblock, repeated-times, length-repeated}

-- A path that comes back to its start goes on and on.
pub path_repeated : (A : Automaton) (p : ℕ) (y cs : List ℕ) → Path A p y cs → end_of p cs ≡ p → (n : ℕ) → Path A p (repeated y n) (repeated cs n) × (end_of p (repeated cs n) ≡ p)
path_repeated A p y cs h e zero = (tt, refl)
path_repeated A p y cs h e (suc n) =
    let r = path_repeated A p y cs h e n in (
      path_join (Moves A) p y (repeated y n) cs (repeated cs n) h (subst (λ s. Path A s (repeated y n) (repeated cs n)) (sym e) r.0),
      end_of-append p cs (repeated cs n) ∙ ap (λ s. end_of s (repeated cs n)) e ∙ r.1,
    )

-- Accepting within d places, in a front that is longer than d.
soon_found : (B : Automaton) (d : ℕ) (xs later : List ℕ) → d < length xs → AcceptsWithin B d (xs ++ later) → some_accepting B xs ≡ true
soon_found B d [] later lt h = absurd (omega arith)
soon_found B zero (x ∷ xs) later lt h = or_left (is_accepting B x) (some_accepting B xs) (test_from_accepting B x h)
soon_found B (suc d) (x ∷ xs) later lt h = elim h [
  | inl here ↦ or_left (is_accepting B x) (some_accepting B xs) (test_from_accepting B x here)
  | inr soon ↦ or_right (is_accepting B x) (some_accepting B xs) (soon_found B d xs later (omega arith) soon)
]

-- If A's list passes an accepting state, B's does in a front that is at least d longer.
within_accepting : (A B : Automaton) (d : ℕ) (cs es xs later : List ℕ) → AllMatchedWithin A B d (cs ++ es) (xs ++ later) → length cs + d ≤ length xs → some_accepting A cs ≡ true → some_accepting B xs ≡ true
within_accepting A B d [] es xs later h long t = absurd (false≢true t)
within_accepting A B d (c ∷ cs) es [] later h long t = absurd (omega arith)
within_accepting A B d (c ∷ cs) es (x ∷ xs) later h long t = elim (or_cases (is_accepting A c) (some_accepting A cs) t) [
  | inl here ↦ soon_found B d (x ∷ xs) later (omega arith) (h.0 (accepting_from_test A c here))
  | inr rest ↦ or_right (is_accepting B x) (some_accepting B xs) (within_accepting A B d cs es xs later h.1 (omega arith) rest)
]

within_rest : (A B : Automaton) (d : ℕ) (cs es xs later : List ℕ) → length cs ≡ length xs → AllMatchedWithin A B d (cs ++ es) (xs ++ later) → AllMatchedWithin A B d es later
within_rest A B d [] es [] later e h = h
within_rest A B d [] es (x ∷ xs) later e h = absurd (omega arith)
within_rest A B d (c ∷ cs) es [] later e h = absurd (omega arith)
within_rest A B d (c ∷ cs) es (x ∷ xs) later e h = within_rest A B d cs es xs later (omega arith) h.1

-- Matched at each place is matched with no delay.
pub matched_within : (A B : Automaton) (ps qs : List ℕ) → AllMatched (MatchesForward A B) ps qs → AllMatchedWithin A B 0 ps qs
matched_within A B [] [] h = tt
matched_within A B [] (q ∷ qs) h = absurd h
matched_within A B (p ∷ ps) [] h = absurd h
matched_within A B (p ∷ ps) (q ∷ qs) h = (h.0, matched_within A B ps qs h.1)

-- B's path on n blocks z, each with a state of A's first part cs accepting, is a chain of runs past accepting states.
blocks : (A B : Automaton) (d : ℕ) (z cs es : List ℕ) → some_accepting A cs ≡ true → length cs + d ≤ length z → length (cs ++ es) ≡ length z →
    (n q : ℕ) (qs : List ℕ) → Path B q (repeated z n) qs → AllMatchedWithin A B d (repeated (cs ++ es) n) qs → (r : ℕ) × Chain (RunsPast B z) n q r
blocks A B d z cs es marked long same zero q qs path match = (q, refl)
blocks A B d z cs es marked long same (suc n) q qs path match =
    let cut = path_split (Moves B) q z (repeated z n) qs path in
    let size : length cut.front ≡ length z = length-path (Moves B) q z cut.front cut.first in
    let whole : AllMatchedWithin A B d ((cs ++ es) ++ repeated (cs ++ es) n) (cut.front ++ cut.back) = subst (λ l. AllMatchedWithin A B d ((cs ++ es) ++ repeated (cs ++ es) n) l) cut.is match in
    let split : AllMatchedWithin A B d (cs ++ (es ++ repeated (cs ++ es) n)) (cut.front ++ cut.back) =
    subst (λ l. AllMatchedWithin A B d l (cut.front ++ cut.back)) (append_assoc cs es (repeated (cs ++ es) n)) whole in
    let past : some_accepting B cut.front ≡ true = within_accepting A B d cs (es ++ repeated (cs ++ es) n) cut.front cut.back split (omega arith) marked in
    let rest : AllMatchedWithin A B d (repeated (cs ++ es) n) cut.back = within_rest A B d (cs ++ es) (repeated (cs ++ es) n) cut.front cut.back (omega arith) whole in
    let goes_on = blocks A B d z cs es marked long same n (end_of q cut.front) cut.back cut.second rest in
    (goes_on.0, (end_of q cut.front, subst (λ b. Run B q z (end_of q cut.front) b) past (run_of_path B q z cut.front cut.first), goes_on.1))

some_in_nil : (A : Automaton) (cs : List ℕ) → some_accepting A cs ≡ true → 1 ≤ length cs
some_in_nil A [] h = absurd (false≢true h)
some_in_nil A (c ∷ cs) h = omega arith

-- Where A goes to p on w and comes back to p on y past an accepting state, B has the lasso whose loop is d + 1 turns of y.
followed_lasso : (A B : Automaton) (d : ℕ) → IsAutomaton B → FollowsWithin A B d → (w ps y cs : List ℕ) → Path A A.initial w ps →
    Path A (end_of A.initial ps) y cs → end_of (end_of A.initial ps) cs ≡ end_of A.initial ps → some_accepting A cs ≡ true → AcceptsLasso B w (repeated y (suc d))
followed_lasso A B d valid follows w ps y cs enters turn back marked =
    let p : ℕ = end_of A.initial ps in
    let z : List ℕ = repeated y (suc d) in
    let zs : List ℕ = repeated cs (suc d) in
    let n : ℕ = B.states in
    let block = path_repeated A p y cs turn back (suc d) in
    let many = path_repeated A p z zs block.0 block.1 n in
    let followed = follows (w ++ repeated z n) (ps ++ repeated zs n) (path_join (Moves A) A.initial w (repeated z n) ps (repeated zs n) enters many.0) in
    let cut = path_split (Moves B) B.initial w (repeated z n) followed.0 followed.1 in
    let size_a = length-path (Moves A) A.initial w ps enters in
    let size_b = length-path (Moves B) B.initial w cut.front cut.first in
    let size_y = length-path (Moves A) p y cs turn in
    let size_z = length-path (Moves A) p z zs block.0 in
    let whole : AllMatchedWithin A B d (ps ++ repeated zs n) (cut.front ++ cut.back) = subst (λ l. AllMatchedWithin A B d (ps ++ repeated zs n) l) cut.is followed.2 in
    let rest : AllMatchedWithin A B d (repeated zs n) cut.back = within_rest A B d ps (repeated zs n) cut.front cut.back (omega arith) whole in
    let long : length cs + d ≤ length z = longer cs y d size_y (some_in_nil A cs marked) in
    let chain = blocks A B d z cs (repeated cs d) marked long size_z n (end_of B.initial cut.front) cut.back cut.second rest in
    pumping B valid w z (end_of B.initial cut.front) (some_accepting B cut.front) n chain.0 (run_of_path B B.initial w cut.front cut.first) (le_refl n) chain.1
  where
    longer : (xs ys : List ℕ) (k : ℕ) → length xs ≡ length ys → 1 ≤ length xs → length xs + k ≤ length (repeated ys (suc k))
    longer xs ys k e h =
        let size = length-repeated ys (suc k) in
        let some : 0 < length ys = omega arith in
        let more : k ≤ k * length ys = le-mul_of_pos_right k some in
        let turn : length ys * suc k ≡ length ys + k * length ys = omega arith in
        omega arith

pub delayed_transfer : (A B : Automaton) (d : ℕ) → IsAutomaton B → FollowsWithin A B d → Includes A B Buchi
delayed_transfer A B d valid follows u v h =
    let w : List ℕ = u ++ repeated v h.before in
    let y : List ℕ = repeated v h.turns in
    let entry = path_of_run A A.initial w h.state h.flag h.enters in
    let turn = path_of_run A h.state y h.state true h.cycles in
    let at : h.state ≡ end_of A.initial entry.0 = sym entry.2 in
    let lasso = followed_lasso A B d valid follows w entry.0 y turn.0 entry.1
    (subst (λ s. Path A s y turn.0) at turn.1) (subst (λ s. end_of s turn.0 ≡ s) at turn.2) turn.3 in
    let many : 1 ≤ h.turns * suc d = mul-pos h.some_turn (omega arith) in
    reblock B u v h.before (h.turns * suc d) many (subst (λ l. AcceptsLasso B w l) (repeated-times v h.turns (suc d)) lasso)

pub follows_within : (A B : Automaton) → FollowsFromStart A B → FollowsWithin A B 0
follows_within A B follows w ps path = let r = follows w ps path in (r.0, r.1, matched_within A B ps r.0 r.2)

pub transfer : (A B : Automaton) → IsAutomaton B → FollowsFromStart A B → Includes A B Buchi
transfer A B valid follows = delayed_transfer A B 0 valid (follows_within A B follows)

pub transfer_words : (A B : Automaton) → MatchesForward A B A.initial B.initial → FollowsFromStart A B → Includes A B Finite
transfer_words A B start follows w h =
    let path = path_of_run A A.initial w h.state h.flag h.run in
    let r = follows w path.0 path.1 in
    record {
      state = end_of B.initial r.0;
      flag = some_accepting B r.0;
      run = run_of_path B B.initial w r.0 r.1;
      ends = matched_end (MatchesForward A B) A.initial B.initial path.0 r.0 start r.2 (subst (IsAccepting A) (sym path.2) h.ends);
    }
