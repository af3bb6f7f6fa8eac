-- Runs of the product are runs that read the lasso, and the other way round.
use Rattle.std.specs.Prelude.{slice_index}
use Rattle.std.proofs.Common.{◌≡◌, ℕ, zero, suc, ◌+◌, ◌*◌, ◌<◌, ◌≤◌, Bool, true, ◌||◌, List, [], ◌∷◌, ◌++◌, length, take, refl, sym, ap, ◌∙◌, subst, arith, append_assoc, length-append, le_refl}
use Rattle.std.proofs.lemmas.List.{map-append}
use Rattle.auto_core.specs.Automaton.{Automaton, Moves, is_accepting}
use Rattle.auto_core.specs.Run.{Run, repeated}
use Rattle.auto_core.specs.Accept.{AcceptsLasso}
use Rattle.auto_core.specs.Game.{Chain}
use Rattle.auto_core.specs.Quotient.{class_of}
use Rattle.auto_core.proofs.PathLemmas.{run_join, accepting_from_test, test_from_accepting}
use Rattle.auto_core.proofs.MemberLemmas.{same_bool}
use Rattle.auto_core.proofs.MoveLemmas.{move_in_range}
use Rattle.auto_laws.specs.Pumping.{RunsPast}
use Rattle.auto_laws.proofs.PumpingLemmas.{repeated-add, repeated-times, pumping, reblock}
use Rattle.map_laws.specs.Maps.{classes_in}
use Rattle.lasso_reading.specs.Words.{SpellSame}
use Rattle.lasso_reading.specs.Reading.{next_position, IsReadingProduct, ProductReadsJust}
use Rattle.lasso_reading.proofs.WordLemmas.{loops_of, loops_times, first_more, enough, has_turn, times_more}
use Rattle.lasso_reading.proofs.SpellLemmas.{parts_same, map_lasso, front_first, spelled, after, length-spelled, spelled_join, spelled_front, spelled_is}

length-classes : (classes w : List ℕ) → length (classes_in classes w) ≡ length w
length-classes classes [] = refl
length-classes classes (a ∷ w) = ap (λ n. suc n) (length-classes classes w)

module _ (A P : Automaton) (classes cu cv : List ℕ) (n : ℕ) (pair : ℕ → ℕ × ℕ) (some : 1 ≤ length cv) (product : IsReadingProduct A classes cu cv n pair P) where
  accepts_alike : (x : ℕ) → x < n → is_accepting P x ≡ is_accepting A (pair x).0
  accepts_alike x lt = same_bool (is_accepting P x) (is_accepting A (pair x).0)
      (λ h. test_from_accepting A (pair x).0 ((product.accepting x lt).0 (accepting_from_test P x h)))
      (λ h. test_from_accepting P x ((product.accepting x lt).1 (accepting_from_test A (pair x).0 h)))

  target_below : (x a y : ℕ) → Moves P x a y → y < n
  target_below x a y move = subst (λ m. y < m) product.states (move_in_range P product.valid x a y move).1

  -- A run of the product is one of A, and spells the lasso from its position on.
  run_down : (x : ℕ) (w : List ℕ) (y : ℕ) (flag : Bool) → x < n → Run P x w y flag → (y < n) × Run A (pair x).0 w (pair y).0 flag × (classes_in classes w ≡ spelled cu cv (pair x).1 (length w))
  run_down x [] y flag lt (e, f) = (subst (λ m. m < n) e lt, (ap (λ m. (pair m).0) e, f), refl)
  run_down x (a ∷ w) y flag lt (next, later, move, rest, is) =
      let next_in = target_below x a next move in
      let (reads, class, position) = product.sound x a next move in
      let (y_in, run, spells) = run_down next w y later next_in rest in (
        y_in,
        ((pair next).0, later, reads, run, is ∙ ap (λ b. b || later) (accepts_alike next next_in)),
        ap (λ c. c ∷ classes_in classes w) class ∙ ap (λ l. slice_index (cu ++ cv) (pair x).1 ∷ l) (spells ∙ ap (λ i. spelled cu cv i (length w)) position),
      )

  -- A run of A that spells the lasso from the pair's position on is one of the product.
  run_up : (x : ℕ) (w : List ℕ) (q : ℕ) (flag : Bool) → x < n → Run A (pair x).0 w q flag → classes_in classes w ≡ spelled cu cv (pair x).1 (length w) →
      (y : ℕ) × (y < n) × Run P x w y flag × ((pair y).0 ≡ q) × ((pair y).1 ≡ after cu cv (pair x).1 (length w))
  run_up x [] q flag lt (e, f) spells = (x, lt, (refl, f), e, refl)
  run_up x (a ∷ w) q flag lt (next, later, move, rest, is) spells =
      let head : class_of classes a ≡ slice_index (cu ++ cv) (pair x).1 = cc in
      let tail : classes_in classes w ≡ spelled cu cv (next_position cu cv (pair x).1) (length w) = cc in
      let (z, z_is, step) = product.full x a (next, next_position cu cv (pair x).1) lt (move, head, refl) in
      let z_in = target_below x a z step in
      let state : (pair z).0 ≡ next = ap (λ (k : ℕ × ℕ). k.0) z_is in
      let position : (pair z).1 ≡ next_position cu cv (pair x).1 = ap (λ (k : ℕ × ℕ). k.1) z_is in
      let (y, y_in, run, ends, behind) = run_up z w q later z_in (subst (λ p. Run A p w q later) (sym state) rest) (tail ∙ ap (λ i. spelled cu cv i (length w)) (sym position)) in (
        y,
        y_in,
        (z, later, step, run, is ∙ ap (λ b. b || later) (ap (is_accepting A) (sym state) ∙ sym (accepts_alike z z_in))),
        ends,
        behind ∙ ap (λ i. after cu cv i (length w)) position,
      )

  initial_in : P.initial < n
  initial_in = subst (λ m. P.initial < m) product.states product.valid.initial_is_state

  initial_state : (pair P.initial).0 ≡ A.initial
  initial_state = ap (λ (k : ℕ × ℕ). k.0) product.initial

  initial_position : (pair P.initial).1 ≡ 0
  initial_position = ap (λ (k : ℕ × ℕ). k.1) product.initial

  -- ---- what the product accepts

  module _ (u v : List ℕ) (h : AcceptsLasso P u v) where
    enters_in : (h.state < n) × Run A (pair P.initial).0 (u ++ repeated v h.before) (pair h.state).0 h.flag × (classes_in classes (u ++ repeated v h.before) ≡ spelled cu cv (pair P.initial).1 (length (u ++ repeated v h.before)))
    enters_in = run_down P.initial (u ++ repeated v h.before) h.state h.flag initial_in h.enters

    first_accepts : AcceptsLasso A u v
    first_accepts = record {
      before = h.before;
      turns = h.turns;
      state = (pair h.state).0;
      flag = h.flag;
      enters = subst (λ p. Run A p (u ++ repeated v h.before) (pair h.state).0 h.flag) initial_state enters_in.1;
      some_turn = h.some_turn;
      cycles = (run_down h.state (repeated v h.turns) h.state true enters_in.0 h.cycles).1;
    }

    -- A run on as many turns as one likes spells the lasso.
    spells_long : (t : ℕ) → classes_in classes (u ++ repeated v (h.before + h.turns * suc t)) ≡ spelled cu cv 0 (length (u ++ repeated v (h.before + h.turns * suc t)))
    spells_long t =
        let loops = loops_times P (u ++ repeated v h.before) (repeated v h.turns) (suc t) (omega arith) (loops_of P u v h) in
        let whole = run_join P P.initial (u ++ repeated v h.before) loops.state loops.flag (repeated (repeated v h.turns) (suc t)) loops.state true loops.enters loops.cycles in
        let word : (u ++ repeated v h.before) ++ repeated (repeated v h.turns) (suc t) ≡ u ++ repeated v (h.before + h.turns * suc t) =
        append_assoc u (repeated v h.before) (repeated (repeated v h.turns) (suc t))
        ∙ ap (λ l. u ++ (repeated v h.before ++ l)) (repeated-times v h.turns (suc t))
        ∙ ap (λ l. u ++ l) (sym (repeated-add v h.before (h.turns * suc t))) in
        let spells = (run_down P.initial ((u ++ repeated v h.before) ++ repeated (repeated v h.turns) (suc t)) loops.state (loops.flag || true) initial_in whole).2 in
        let Q : List ℕ → Type 0 = λ l. classes_in classes l ≡ spelled cu cv 0 (length l) in
        subst Q word (spells ∙ ap (λ i. spelled cu cv i (length ((u ++ repeated v h.before) ++ repeated (repeated v h.turns) (suc t)))) initial_position)

    spells_same : SpellSame (classes_in classes u) (classes_in classes v) cu cv
    spells_same t =
        let some_v = has_turn P u v h in
        let size = length-classes classes v in
        let j : ℕ = h.before + h.turns * suc t in
        let far : t ≤ h.turns * suc t = let more = times_more h.turns (suc t) h.some_turn in omega arith in
        let long : t ≤ length (u ++ repeated v j) = omega (arith, far, enough u v j (has_turn P u v h), length-append u (repeated v j)) in
        sym (first_more (classes_in classes u) (classes_in classes v) t j (omega arith) (omega arith))
        ∙ ap (take t) (sym (map_lasso (class_of classes) u v j) ∙ spells_long t)
        ∙ spelled_front cu cv 0 t (length (u ++ repeated v j)) long
        ∙ spelled_is cu cv some t

  -- ---- what is read is accepted

  module _ (u v : List ℕ) (h : AcceptsLasso A u v) (same : SpellSame (classes_in classes u) (classes_in classes v) cu cv) where
    some_v : 1 ≤ length (classes_in classes v)
    some_v = let size = length-classes classes v in let turn = has_turn A u v h in omega arith

    -- Each front of the lasso spells the lasso of classes.
    fronts : (j : ℕ) → classes_in classes (u ++ repeated v j) ≡ spelled cu cv 0 (length (u ++ repeated v j))
    fronts j =
        let is = map_lasso (class_of classes) u v j in
        let size : length (classes_in classes u ++ repeated (classes_in classes v) j) ≡ length (u ++ repeated v j) = ap length (sym is) ∙ length-classes classes (u ++ repeated v j) in
        is
        ∙ front_first (classes_in classes u) (classes_in classes v) j some_v
        ∙ same (length (classes_in classes u ++ repeated (classes_in classes v) j))
        ∙ sym (spelled_is cu cv some (length (classes_in classes u ++ repeated (classes_in classes v) j)))
        ∙ ap (spelled cu cv 0) size

    abbrev V : List ℕ
    V = repeated v h.turns

    -- From the pair on each number of cycles spells the lasso.
    abbrev Goes : ℕ → Type 0
    Goes x = (s : ℕ) → classes_in classes (repeated V s) ≡ spelled cu cv (pair x).1 (length (repeated V s))

    -- Both parts of what is spelled from a position on.
    spells_parts : (i : ℕ) (w z : List ℕ) → classes_in classes (w ++ z) ≡ spelled cu cv i (length (w ++ z)) → (classes_in classes w ≡ spelled cu cv i (length w)) × (classes_in classes z ≡ spelled cu cv (after cu cv i (length w)) (length z))
    spells_parts i w z spells =
        parts_same (classes_in classes w) (classes_in classes z) (spelled cu cv i (length w)) (spelled cu cv (after cu cv i (length w)) (length z))
        (length-classes classes w ∙ sym (length-spelled cu cv i (length w)))
        (sym (classes_append w z) ∙ spells ∙ ap (spelled cu cv i) (length-append w z) ∙ spelled_join cu cv i (length w) (length z))
      where
        classes_append : (w z : List ℕ) → classes_in classes (w ++ z) ≡ classes_in classes w ++ classes_in classes z
        classes_append w z = map-append (class_of classes) w z

    chain_up : (t x : ℕ) → x < n → (pair x).0 ≡ h.state → Goes x → (y : ℕ) × Chain (RunsPast P V) t x y
    chain_up zero x lt state goes = (x, refl)
    chain_up (suc t) x lt state goes =
        let first = (spells_parts (pair x).1 V [] (goes 1)).0 in
        let (z, z_in, run, there, behind) = run_up x V h.state true lt (subst (λ p. Run A p V h.state true) (sym state) h.cycles) first in
        let goes_on : Goes z = λ s. (spells_parts (pair x).1 V (repeated V s) (goes (suc s))).1 ∙ ap (λ i. spelled cu cv i (length (repeated V s))) (sym behind) in
        let (y, rest) = chain_up t z z_in there goes_on in
        (y, (z, run, rest))

    second_accepts : AcceptsLasso P u v
    second_accepts =
        let U : List ℕ = u ++ repeated v h.before in
        let at_start : Run A (pair P.initial).0 (u ++ repeated v h.before) h.state h.flag = subst (λ p. Run A p (u ++ repeated v h.before) h.state h.flag) (sym initial_state) h.enters in
        let (x, x_in, enters, there, behind) = run_up P.initial (u ++ repeated v h.before) h.state h.flag initial_in at_start
        (fronts h.before ∙ ap (λ i. spelled cu cv i (length (u ++ repeated v h.before))) (sym initial_position)) in
        let goes : Goes x = λ s.
        let word : u ++ repeated v (h.before + h.turns * s) ≡ (u ++ repeated v h.before) ++ repeated V s =
        ap (λ l. u ++ l) (repeated-add v h.before (h.turns * s) ∙ ap (λ l. repeated v h.before ++ l) (sym (repeated-times v h.turns s))) ∙ sym (append_assoc u (repeated v h.before) (repeated V s)) in
        let Q : List ℕ → Type 0 = λ l. classes_in classes l ≡ spelled cu cv 0 (length l) in
        (spells_parts 0 (u ++ repeated v h.before) (repeated V s) (subst Q word (fronts (h.before + h.turns * s)))).1
        ∙ ap (λ i. spelled cu cv i (length (repeated V s))) (sym (behind ∙ ap (λ i. after cu cv i (length (u ++ repeated v h.before))) initial_position)) in
        let (y, chain) = chain_up P.states x x_in there goes in
        reblock P u v h.before h.turns h.some_turn (pumping P product.valid (u ++ repeated v h.before) V x h.flag P.states y enters (le_refl P.states) chain)

pub reads_just : ProductReadsJust
reads_just A P classes cu cv n pair some product u v = (
  λ h. (first_accepts A P classes cu cv n pair some product u v h, spells_same A P classes cu cv n pair some product u v h),
  λ (h, same). second_accepts A P classes cu cv n pair some product u v h same,
)
