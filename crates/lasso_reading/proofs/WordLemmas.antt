-- The first letters of lassos, cycles whose start is moved on, and lassos that spell the same.
use Rattle.std.proofs.Common.{◌≡◌, ℕ, zero, suc, ◌+◌, ◌-◌, ◌*◌, ◌≤◌, Bool, true, false, ◌||◌, List, [], ◌∷◌, ◌++◌, length, take, drop, refl, sym, ap, ◌∙◌, subst, arith, append_assoc, append-nil, length-append}
use Rattle.std.proofs.Math.Nat.{mul_comm}
use Rattle.std.proofs.Math.Seq.{take-append_seam, drop-append_seam}
use Rattle.std.proofs.lemmas.Bool.{false≢true}
use Rattle.std.proofs.lemmas.List.{take-append-le}
use Rattle.auto_core.specs.Automaton.{Automaton, is_accepting}
use Rattle.auto_core.specs.Run.{Run, repeated}
use Rattle.auto_core.specs.Accept.{AcceptsLasso}
use Rattle.auto_core.proofs.PathLemmas.{run_join}
use Rattle.auto_laws.proofs.PumpingLemmas.{repeated-add, repeated-times, length-repeated, reblock}
use Rattle.lasso_reading.specs.Words.{first_letters, SpellSame, SpelledAlikeAcceptedAlike}

-- ---- first letters

pub times_more : (c n : ℕ) → 1 ≤ c → n ≤ c * n
times_more zero n some = absurd (omega (arith, some))
times_more (suc c) n some = omega arith

pub enough : (u v : List ℕ) (n : ℕ) → 1 ≤ length v → n ≤ length (u ++ repeated v n)
enough u v n some = omega (arith, length-append u (repeated v n), length-repeated v n, times_more (length v) n some)

-- More turns do not change the first letters.
pub first_more : (u v : List ℕ) (n j : ℕ) → 1 ≤ length v → n ≤ j → take n (u ++ repeated v j) ≡ first_letters u v n
first_more u v n j some upto =
    let e : n + (j - n) ≡ j = omega arith in
    let all : u ++ repeated v j ≡ (u ++ repeated v n) ++ repeated v (j - n) =
    ap (λ k. u ++ repeated v k) (sym e) ∙ ap (λ l. u ++ l) (repeated-add v n (j - n)) ∙ sym (append_assoc u (repeated v n) (repeated v (j - n))) in
    ap (take n) all ∙ take-append-le n (u ++ repeated v n) (repeated v (j - n)) (enough u v n some)

-- Nor do some turns in the prefix, or some taken as one.
pub longer_first : (u v : List ℕ) (k n : ℕ) → 1 ≤ length v → first_letters (u ++ repeated v k) v n ≡ first_letters u v n
longer_first u v k n some =
    let all : (u ++ repeated v k) ++ repeated v n ≡ u ++ repeated v (k + n) = append_assoc u (repeated v k) (repeated v n) ∙ ap (λ l. u ++ l) (sym (repeated-add v k n)) in
    ap (take n) all ∙ first_more u v n (k + n) some (omega arith)

pub repeated_first : (u v : List ℕ) (e n : ℕ) → 1 ≤ length v → 1 ≤ e → first_letters u (repeated v e) n ≡ first_letters u v n
repeated_first u v e n some more = ap (λ l. take n (u ++ l)) (repeated-times v e n) ∙ first_more u v n (e * n) some (times_more e n more)

rotate_repeated : (a : ℕ) (w : List ℕ) (n : ℕ) → a ∷ repeated (w ++ a ∷ []) n ≡ repeated (a ∷ w) n ++ a ∷ []
rotate_repeated a w zero = refl
rotate_repeated a w (suc n) =
    ap (λ l. a ∷ l) (append_assoc w (a ∷ []) (repeated (w ++ a ∷ []) n))
    ∙ ap (λ l. a ∷ (w ++ l)) (rotate_repeated a w n)
    ∙ ap (λ l. a ∷ l) (sym (append_assoc w (repeated (a ∷ w) n) (a ∷ [])))

-- Nor does a letter of the loop that comes into the prefix.
rotated_first : (u : List ℕ) (a : ℕ) (w : List ℕ) (n : ℕ) → first_letters (u ++ a ∷ []) (w ++ a ∷ []) n ≡ first_letters u (a ∷ w) n
rotated_first u a w n =
    let all : (u ++ a ∷ []) ++ repeated (w ++ a ∷ []) n ≡ (u ++ repeated (a ∷ w) n) ++ a ∷ [] =
    append_assoc u (a ∷ []) (repeated (w ++ a ∷ []) n) ∙ ap (λ l. u ++ l) (rotate_repeated a w n) ∙ sym (append_assoc u (repeated (a ∷ w) n) (a ∷ [])) in
    ap (take n) all ∙ take-append-le n (u ++ repeated (a ∷ w) n) (a ∷ []) (enough u (a ∷ w) n (omega arith))

pub own_first : (u v : List ℕ) → first_letters u v (length u) ≡ u
own_first u v = take-append_seam u (repeated v (length u))

-- Prefixes of one length are the same where the same is spelled.
pub same_fronts : (u v x y : List ℕ) → SpellSame u v x y → length u ≡ length x → u ≡ x
same_fronts u v x y same size = sym (own_first u v) ∙ same (length u) ∙ ap (first_letters x y) size ∙ own_first x y

-- ---- cycles

-- A run on the prefix, and from its end one on the loop that leads back to it, past an accepting state.
pub record Loops (A : Automaton) (u v : List ℕ) : Type 0 where
  pub state : ℕ
  pub flag : Bool
  pub enters : Run A A.initial u state flag
  pub cycles : Run A state v state true

module _ (A : Automaton) where
  pub loops_of : (u v : List ℕ) (h : AcceptsLasso A u v) → Loops A (u ++ repeated v h.before) (repeated v h.turns)
  loops_of u v h = record { state = h.state; flag = h.flag; enters = h.enters; cycles = h.cycles }

  pub loops_accepted : (u v : List ℕ) → Loops A u v → AcceptsLasso A u v
  loops_accepted u v l = record {
    before = 0;
    turns = 1;
    state = l.state;
    flag = l.flag;
    enters = subst (λ w. Run A A.initial w l.state l.flag) (sym (append-nil u)) l.enters;
    some_turn = omega arith;
    cycles = subst (λ w. Run A l.state w l.state true) (sym (append-nil v)) l.cycles;
  }

  cycle_times : (p : ℕ) (v : List ℕ) → Run A p v p true → (n : ℕ) → Run A p (repeated v (suc n)) p true
  cycle_times p v cycle zero = run_join A p v p true [] p false cycle (refl, refl)
  cycle_times p v cycle (suc n) = run_join A p v p true (repeated v (suc n)) p true cycle (cycle_times p v cycle n)

  pub loops_times : (u v : List ℕ) (n : ℕ) → 1 ≤ n → Loops A u v → Loops A u (repeated v n)
  loops_times u v zero some l = absurd (omega (arith, some))
  loops_times u v (suc n) some l = record { state = l.state; flag = l.flag; enters = l.enters; cycles = cycle_times l.state v l.cycles n }

  or_turned : (b c : Bool) → true ≡ (b || c) → (c || (b || false)) ≡ true
  or_turned true true is = refl
  or_turned true false is = refl
  or_turned false true is = refl
  or_turned false false is = sym is

  -- The first letter of the loop comes into the prefix.
  rotated : (u : List ℕ) (a : ℕ) (w : List ℕ) → Loops A u (a ∷ w) → Loops A (u ++ a ∷ []) (w ++ a ∷ [])
  rotated u a w l =
      let (next, later, move, rest, is) = l.cycles in
      let one : Run A l.state (a ∷ []) next (is_accepting A next || false) = (next, false, move, (refl, refl), refl) in record {
        state = next;
        flag = l.flag || (is_accepting A next || false);
        enters = run_join A A.initial u l.state l.flag (a ∷ []) next (is_accepting A next || false) l.enters one;
        cycles = subst (λ f. Run A next (w ++ a ∷ []) next f) (or_turned (is_accepting A next) later is) (run_join A next w l.state later (a ∷ []) next (is_accepting A next || false) rest one);
      }

  -- What is left where d letters have come into the prefix.
  pub record Rotated (u v : List ℕ) (d : ℕ) : Type 0 where
    pub prefix : List ℕ
    pub turn : List ℕ
    pub loops : Loops A prefix turn
    pub longer : length prefix ≡ length u + d
    pub as_long : length turn ≡ length v
    pub same : SpellSame prefix turn u v

  rotated_once : (u v : List ℕ) → 1 ≤ length v → Loops A u v → Rotated u v 1
  rotated_once u [] some l = absurd (omega (arith, some))
  rotated_once u (a ∷ w) some l = record {
    prefix = u ++ a ∷ [];
    turn = w ++ a ∷ [];
    loops = rotated u a w l;
    longer = length-append u (a ∷ []);
    as_long = let e = length-append w (a ∷ []) in omega arith;
    same = rotated_first u a w;
  }

  pub rotations : (u v : List ℕ) (d : ℕ) → 1 ≤ length v → Loops A u v → Rotated u v d
  rotations u v zero some l = record { prefix = u; turn = v; loops = l; longer = omega arith; as_long = refl; same = λ n. refl }
  rotations u v (suc d) some l =
      let before = rotations u v d some l in
      let len = before.as_long in
      let lon = before.longer in
      let once = rotated_once before.prefix before.turn (omega arith) before.loops in
      let len_on = once.as_long in
      let lon_on = once.longer in record {
        prefix = once.prefix;
        turn = once.turn;
        loops = once.loops;
        longer = omega arith;
        as_long = omega arith;
        same = λ n. once.same n ∙ before.same n;
      }

  nil_repeated : (n : ℕ) → repeated [] n ≡ []
  nil_repeated zero = refl
  nil_repeated (suc n) = nil_repeated n

  -- The loop of an accepted lasso has a letter.
  pub has_turn : (u v : List ℕ) → AcceptsLasso A u v → 1 ≤ length v
  has_turn u [] h = let none = subst (λ w. Run A h.state w h.state true) (nil_repeated h.turns) h.cycles in absurd (false≢true (sym none.1))
  has_turn u (a ∷ v) h = omega arith

length_times : (v : List ℕ) (n : ℕ) → 1 ≤ length v → 1 ≤ n → 1 ≤ length (repeated v n)
length_times v n some more = omega (arith, length-repeated v n, times_more (length v) n some)

module _ (A : Automaton) (u v x y : List ℕ) (some_y : 1 ≤ length y) (same : SpellSame u v x y) (h : AcceptsLasso A u v) where
  some_v : 1 ≤ length v
  some_v = has_turn A u v h

  -- The run is on U, and from there on V again and again.
  abbrev U : List ℕ
  U = u ++ repeated v h.before

  abbrev V : List ℕ
  V = repeated v h.turns

  some_turn : 1 ≤ length V
  some_turn = length_times v h.turns some_v h.some_turn

  -- So many turns of y end behind U, and one more block of them is as long as some turns of V.
  abbrev X : List ℕ
  X = x ++ repeated y (length V * length U)

  long_enough : length U ≤ length X
  long_enough =
      let one = times_more (length V) (length U) some_turn in
      let two = times_more (length y) (length V * length U) some_y in
      omega (arith, length-append x (repeated y (length V * length U)), length-repeated y (length V * length U))

  moved : Rotated A U V (length X - length U)
  moved = rotations A U V (length X - length U) some_turn (loops_of A u v h)

  spelled : SpellSame moved.prefix moved.turn x y
  spelled n = moved.same n ∙ repeated_first U v h.turns n some_v h.some_turn ∙ longer_first u v h.before n some_v ∙ same n

  spelled_X : SpellSame moved.prefix moved.turn X y
  spelled_X n = spelled n ∙ sym (longer_first x y (length V * length U) n some_y)

  front : moved.prefix ≡ X
  front = same_fronts moved.prefix moved.turn X y spelled_X (omega (arith, moved.longer, long_enough))

  some_moved : 1 ≤ length moved.turn
  some_moved = omega (arith, moved.as_long, some_turn)

  as_long : length (moved.prefix ++ repeated moved.turn (length y)) ≡ length (X ++ repeated y (length V))
  as_long =
      let times : length moved.turn * length y ≡ length y * length V = ap (λ n. n * length y) moved.as_long ∙ mul_comm (length V) (length y) in
      length-append moved.prefix (repeated moved.turn (length y))
      ∙ ap (λ n. n + length (repeated moved.turn (length y))) (ap length front)
      ∙ ap (λ n. length X + n) (length-repeated moved.turn (length y) ∙ times ∙ sym (length-repeated y (length V)))
      ∙ sym (length-append X (repeated y (length V)))

  ends : moved.prefix ++ repeated moved.turn (length y) ≡ X ++ repeated y (length V)
  ends = same_fronts (moved.prefix ++ repeated moved.turn (length y)) moved.turn (X ++ repeated y (length V)) y
      (λ n. longer_first moved.prefix moved.turn (length y) n some_moved ∙ spelled_X n ∙ sym (longer_first X y (length V) n some_y)) as_long

  turn : repeated moved.turn (length y) ≡ repeated y (length V)
  turn =
      let e : X ++ repeated moved.turn (length y) ≡ X ++ repeated y (length V) = ap (λ l. l ++ repeated moved.turn (length y)) (sym front) ∙ ends in
      sym (drop-append_seam X (repeated moved.turn (length y))) ∙ ap (drop (length X)) e ∙ drop-append_seam X (repeated y (length V))

  at_front : Loops A X (repeated y (length V))
  at_front = subst (λ p. Loops A p (repeated y (length V))) front (subst (λ t. Loops A moved.prefix t) turn (loops_times A moved.prefix moved.turn (length y) some_y moved.loops))

  alike : AcceptsLasso A x y
  alike = reblock A x y (length V * length U) (length V) some_turn (loops_accepted A X (repeated y (length V)) at_front)

pub accepted_alike : SpelledAlikeAcceptedAlike
accepted_alike A u v x y some_y same h = alike A u v x y some_y same h
