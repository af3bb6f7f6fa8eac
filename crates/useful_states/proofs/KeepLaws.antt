-- Runs of an automaton and of one that keeps some of its states.
use Rattle.std.proofs.Common.{◌≡◌, ℕ, zero, suc, ◌+◌, ◌<◌, ◌≤◌, inl, inr, Bool, true, false, cond, ◌||◌, ◌==◌, List, [], ◌∷◌, ◌++◌, length, Contains, refl, sym, ap, ◌∙◌, subst, arith, length-append}
use Rattle.std.specs.List.{list_any}
use Rattle.std.proofs.lemmas.Bool.{cases_lt, cases_eq, false≢true, eq-eqb, or_left, or_right, cases_Bool}
use Rattle.auto_core.specs.Automaton.{Automaton, Moves, IsAccepting, is_accepting}
use Rattle.auto_core.specs.Run.{Run, repeated}
use Rattle.auto_core.specs.Accept.{AcceptsLasso, AcceptsWord}
use Rattle.auto_core.specs.Useful.{Reaches, IsGoal, IsUseful, count_below, stays, new_number, IsKeptPart}
use Rattle.auto_core.specs.declared.parts.Mode.TheVariants.{Buchi, Finite}
use Rattle.auto_core.proofs.PathLemmas.{Contains-from_test, test_from_Contains, accepting_from_test, test_from_accepting, run_join}
use Rattle.auto_core.proofs.MemberLemmas.{same_bool}
use Rattle.auto_core.proofs.SetLemmas.{same_automaton}
use Rattle.useful_states.specs.Laws.{KeptAcceptsNoMore, KeptAcceptsTheSame, TrimmedAcceptsTheSame, KeptIsOne, TrimmedIsOne}

-- ---- counting

pub count_upto : (test : ℕ → Bool) (m n : ℕ) → m ≤ n → count_below test m ≤ count_below test n
count_upto test m zero h = let e : m ≡ 0 = omega arith in subst (λ k. count_below test k ≤ 0) (sym e) (omega arith)
count_upto test m (suc n) h = elim (cases_eq m (suc n)) [
  | inl e ↦ subst (λ k. count_below test k ≤ count_below test (suc n)) (sym e) (omega arith)
  | inr apart ↦ let before = count_upto test m n (omega arith) in omega arith
]

pub count_rises : (test : ℕ → Bool) (m n : ℕ) → m < n → test m ≡ true → count_below test m < count_below test n
count_rises test m n lt is =
    let one : count_below test (suc m) ≡ count_below test m + 1 = ap (λ b. count_below test m + cond b 1 0) is in
    let up = count_upto test (suc m) n (omega arith) in
    omega arith

pub count_tells : (test : ℕ → Bool) (m n : ℕ) → test m ≡ true → test n ≡ true → count_below test m ≡ count_below test n → m ≡ n
count_tells test m n m_is n_is same = elim (cases_eq m n) [
  | inl e ↦ e
  | inr apart ↦ elim (cases_lt m n) [
    | inl lt ↦ absurd (omega (arith, count_rises test m n lt m_is))
    | inr le ↦ absurd (omega (arith, count_rises test n m (omega arith) n_is))
  ]
]

pub count_within : (test : ℕ → Bool) (n : ℕ) → count_below test n ≤ n
count_within test zero = omega arith
count_within test (suc n) = let before = count_within test n in omega (arith, one (test n))
  where
    one : (b : Bool) → cond b 1 0 ≤ 1
    one true = omega arith
    one false = omega arith

pub kept_stays : (A : Automaton) (kept : List ℕ) (q : ℕ) → Contains kept q → stays A kept q ≡ true
kept_stays A kept q h = or_left (list_any (λ x. x == q) kept) (q == A.initial) (test_from_Contains kept q h)

pub initial_stays : (A : Automaton) (kept : List ℕ) → stays A kept A.initial ≡ true
initial_stays A kept = or_right (list_any (λ x. x == A.initial) kept) (A.initial == A.initial) (eq-eqb A.initial A.initial refl)

-- ---- reaching

pub reach_itself : (A : Automaton) (p : ℕ) → Reaches A p p
reach_itself A p = ([], false, (refl, refl))

pub reach_on : (A : Automaton) (p q r : ℕ) → Reaches A p q → Reaches A q r → Reaches A p r
reach_on A p q r (w, f, first) (x, g, second) = (w ++ x, f || g, run_join A p w q f x r g first second)

pub reach_move : (A : Automaton) (p a q : ℕ) → Moves A p a q → Reaches A p q
reach_move A p a q m = (a ∷ [], is_accepting A q || false, (q, false, m, (refl, refl), refl))

-- a run past an accepting state, cut there
record Past (A : Automaton) (p q : ℕ) : Type 0 where
  pub marked : ℕ
  pub front : List ℕ
  pub flag : Bool
  pub comes : Run A p front marked flag
  pub moves : 1 ≤ length front
  pub accepts : IsAccepting A marked
  pub goes : Reaches A marked q

past : (A : Automaton) (p : ℕ) (w : List ℕ) (q : ℕ) → Run A p w q true → Past A p q
past A p [] q (e, f) = absurd (false≢true (sym f))
past A p (a ∷ w) q (next, later, move, rest, is) = elim (cases_Bool (is_accepting A next)) [
  | inl marked ↦ record {
    marked = next;
    front = a ∷ [];
    flag = is_accepting A next || false;
    comes = (next, false, move, (refl, refl), refl);
    moves = omega arith;
    accepts = accepting_from_test A next marked;
    goes = (w, later, rest);
  }
  | inr plain ↦
      let flag : later ≡ true = ap (λ b. b || later) (sym plain) ∙ sym is in
      let more = past A next w q (subst (λ b. Run A next w q b) flag rest) in
      record {
        marked = more.marked;
        front = a ∷ more.front;
        flag = is_accepting A next || more.flag;
        comes = (next, more.flag, move, more.comes, refl);
        moves = omega arith;
        accepts = more.accepts;
        goes = more.goes;
      }
]

-- a cycle past an accepting state has one that lies on a cycle
goal_of : (A : Automaton) (p : ℕ) (w : List ℕ) → Run A p w p true → (g : ℕ) × IsGoal A Buchi g × Reaches A p g × Reaches A g p
goal_of A p w run =
    let c = past A p w p run in
    let (x, f, back) = c.goes in
    let some = c.moves in (
      c.marked,
      (c.accepts, (x ++ c.front, f || c.flag, omega (arith, length-append x c.front), run_join A c.marked x p f c.front c.marked c.flag back c.comes)),
      (c.front, c.flag, c.comes),
      c.goes,
    )

-- ---- runs of both

module _ (A B : Automaton) (kept : List ℕ) (k : IsKeptPart A kept B) where
  -- states that stay have numbers of their own
  number_tells : (r s : ℕ) → stays A kept r ≡ true → stays A kept s ≡ true → new_number A kept r ≡ new_number A kept s → r ≡ s
  number_tells r s = count_tells (stays A kept) r s

  accepts_same : (s : ℕ) → Contains kept s → is_accepting B (new_number A kept s) ≡ is_accepting A s
  accepts_same s s_kept = same_bool _ _
      (λ h.
      let (r, r_kept, acc, e) = (k.accepting (new_number A kept s)).0 (accepting_from_test B (new_number A kept s) h) in
      let same : r ≡ s = number_tells r s (kept_stays A kept r r_kept) (kept_stays A kept s s_kept) (sym e) in
      test_from_accepting A s (subst (λ x. IsAccepting A x) same acc))
      (λ h. test_from_accepting B (new_number A kept s) ((k.accepting (new_number A kept s)).1 (s, s_kept, accepting_from_test A s h, refl)))

  -- a run among the new numbers is one among the old
  run_back : (r : ℕ) (w : List ℕ) (q : ℕ) (flag : Bool) → stays A kept r ≡ true → Run B (new_number A kept r) w q flag → (s : ℕ) × (stays A kept s ≡ true) × (new_number A kept s ≡ q) × Run A r w s flag
  run_back r [] q flag st (e, f) = (r, st, e, (refl, f))
  run_back r (a ∷ w) q flag st (next, later, move, rest, is) =
      let (r', s, r_kept, s_kept, m, r_is, next_is) = (k.moves (new_number A kept r) a next).0 move in
      let same : r' ≡ r = number_tells r' r (kept_stays A kept r' r_kept) st (sym r_is) in
      let (t, t_st, t_is, run) = run_back s w q later (kept_stays A kept s s_kept) (subst (λ x. Run B x w q later) next_is rest) in
      let marks : is_accepting B next ≡ is_accepting A s = ap (is_accepting B) next_is ∙ accepts_same s s_kept in
      (t, t_st, t_is, (s, later, subst (λ x. Moves A x a s) same m, run, is ∙ ap (λ b. b || later) marks))

  no_more_lassos : (u v : List ℕ) → AcceptsLasso B u v → AcceptsLasso A u v
  no_more_lassos u v acc =
      let (s, s_st, s_is, enters) = run_back A.initial (u ++ repeated v acc.before) acc.state acc.flag (initial_stays A kept) (subst (λ x. Run B x (u ++ repeated v acc.before) acc.state acc.flag) k.initial acc.enters) in
      let (t, t_st, t_is, cycles) = run_back s (repeated v acc.turns) acc.state true s_st (subst (λ x. Run B x (repeated v acc.turns) acc.state true) (sym s_is) acc.cycles) in
      let same : t ≡ s = number_tells t s t_st s_st (t_is ∙ sym s_is) in
      record {
        before = acc.before;
        turns = acc.turns;
        state = s;
        flag = acc.flag;
        enters = enters;
        some_turn = acc.some_turn;
        cycles = subst (λ x. Run A s (repeated v acc.turns) x true) same cycles;
      }

  no_more_words : (w : List ℕ) → AcceptsWord B w → AcceptsWord A w
  no_more_words w acc =
      let (s, s_st, s_is, run) = run_back A.initial w acc.state acc.flag (initial_stays A kept) (subst (λ x. Run B x w acc.state acc.flag) k.initial acc.run) in
      let (r, r_kept, r_acc, e) = (k.accepting acc.state).0 acc.ends in
      let same : r ≡ s = number_tells r s (kept_stays A kept r r_kept) s_st (sym e ∙ sym s_is) in
      record { state = s; flag = acc.flag; run = run; ends = subst (λ x. IsAccepting A x) same r_acc }

  -- a run through kept states, to a state that reaches g
  run_kept :
      (g : ℕ)
      → ((q : ℕ) → Reaches A A.initial q → Reaches A q g → Contains kept q)
      → (p : ℕ) (w : List ℕ) (q : ℕ) (flag : Bool)
      → Reaches A A.initial p
      → Reaches A q g
      → Run A p w q flag
      → Run B (new_number A kept p) w (new_number A kept q) flag
  run_kept g has p [] q flag from to (e, f) = (ap (new_number A kept) e, f)
  run_kept g has p (a ∷ w) q flag from to (next, later, move, rest, is) =
      let next_from = reach_on A A.initial p next from (reach_move A p a next move) in
      let next_to = reach_on A next q g (w, later, rest) to in
      let next_kept = has next next_from next_to in
      let p_kept = has p from (reach_on A p next g (reach_move A p a next move) next_to) in (
        new_number A kept next,
        later,
        (k.moves (new_number A kept p) a (new_number A kept next)).1 (p, next, p_kept, next_kept, move, refl, refl),
        run_kept g has next w q later next_from to rest,
        is ∙ ap (λ b. b || later) (sym (accepts_same next next_kept)),
      )

  same_lassos : ((q : ℕ) → IsUseful A Buchi q → Contains kept q) → (u v : List ℕ) → AcceptsLasso A u v → AcceptsLasso B u v
  same_lassos useful u v acc =
      let (g, is_goal, to, back) = goal_of A acc.state (repeated v acc.turns) acc.cycles in
      let has : (q : ℕ) → Reaches A A.initial q → Reaches A q g → Contains kept q = λ q from there. useful q (record { reached = from; goal = g; reaches = there; is_goal = is_goal }) in
      let from : Reaches A A.initial acc.state = (u ++ repeated v acc.before, acc.flag, acc.enters) in
      record {
        before = acc.before;
        turns = acc.turns;
        state = new_number A kept acc.state;
        flag = acc.flag;
        enters = subst (λ x. Run B x (u ++ repeated v acc.before) (new_number A kept acc.state) acc.flag) (sym k.initial)
            (run_kept g has A.initial (u ++ repeated v acc.before) acc.state acc.flag (reach_itself A A.initial) to acc.enters);
        some_turn = acc.some_turn;
        cycles = run_kept g has acc.state (repeated v acc.turns) acc.state true from to acc.cycles;
      }

  same_words : ((q : ℕ) → IsUseful A Finite q → Contains kept q) → (w : List ℕ) → AcceptsWord A w → AcceptsWord B w
  same_words useful w acc =
      let has : (q : ℕ) → Reaches A A.initial q → Reaches A q acc.state → Contains kept q = λ q from there. useful q (record { reached = from; goal = acc.state; reaches = there; is_goal = acc.ends }) in
      let here = has acc.state (w, acc.flag, acc.run) (reach_itself A acc.state) in
      record {
        state = new_number A kept acc.state;
        flag = acc.flag;
        run = subst (λ x. Run B x w (new_number A kept acc.state) acc.flag) (sym k.initial)
            (run_kept acc.state has A.initial w acc.state acc.flag (reach_itself A A.initial) (reach_itself A acc.state) acc.run);
        ends = (k.accepting (new_number A kept acc.state)).1 (acc.state, here, acc.ends, refl);
      }

-- ---- the laws

pub accepts_no_more : KeptAcceptsNoMore
accepts_no_more A B kept Buchi k = λ u v acc. no_more_lassos A B kept k u v acc
accepts_no_more A B kept Finite k = λ w acc. no_more_words A B kept k w acc

pub accepts_the_same : KeptAcceptsTheSame
accepts_the_same A B kept Buchi useful k = ((λ u v acc. same_lassos A B kept k useful u v acc), accepts_no_more A B kept Buchi k)
accepts_the_same A B kept Finite useful k = ((λ w acc. same_words A B kept k useful w acc), accepts_no_more A B kept Finite k)

pub trimmed_the_same : TrimmedAcceptsTheSame
trimmed_the_same A B mode (kept, are, k) = accepts_the_same A B kept mode (λ q h. (are q).1 h) k

pub kept_one : KeptIsOne
kept_one A B C kept k l =
    same_automaton B C k.valid l.valid (k.states ∙ sym l.states) (k.labels ∙ sym l.labels) (k.initial ∙ sym l.initial)
    (λ p a q. (λ h. (l.moves p a q).1 ((k.moves p a q).0 h), λ h. (k.moves p a q).1 ((l.moves p a q).0 h)))
    (λ p. (λ h. (l.accepting p).1 ((k.accepting p).0 h), λ h. (k.accepting p).1 ((l.accepting p).0 h)))

-- lists with the same members keep the same
count_same : (f g : ℕ → Bool) → ((q : ℕ) → f q ≡ g q) → (n : ℕ) → count_below f n ≡ count_below g n
count_same f g same zero = refl
count_same f g same (suc n) = rw (count_same f g same n, same n) refl

module _ (A : Automaton) (kept other : List ℕ) (to : (q : ℕ) → Contains kept q → Contains other q) (from : (q : ℕ) → Contains other q → Contains kept q) where
  stays_same : (q : ℕ) → stays A kept q ≡ stays A other q
  stays_same q = ap (λ b. b || q == A.initial) (same_bool _ _
      (λ h. test_from_Contains other q (to q (Contains-from_test kept q h)))
      (λ h. test_from_Contains kept q (from q (Contains-from_test other q h))))

  number_same : (q : ℕ) → new_number A kept q ≡ new_number A other q
  number_same q = count_same (stays A kept) (stays A other) stays_same q

  pub kept_by_members : (B : Automaton) → IsKeptPart A kept B → IsKeptPart A other B
  kept_by_members B k = record {
    valid = k.valid;
    states = k.states ∙ count_same (stays A kept) (stays A other) stays_same A.states;
    labels = k.labels;
    initial = k.initial ∙ number_same A.initial;
    moves = λ p a q. (
      λ h.
          let (r, s, r_kept, s_kept, m, r_is, s_is) = (k.moves p a q).0 h in
          (r, s, to r r_kept, to s s_kept, m, r_is ∙ number_same r, s_is ∙ number_same s),
      λ (r, s, r_kept, s_kept, m, r_is, s_is). (k.moves p a q).1 (r, s, from r r_kept, from s s_kept, m, r_is ∙ sym (number_same r), s_is ∙ sym (number_same s)),
    );
    accepting = λ p. (
      λ h. let (r, r_kept, acc, r_is) = (k.accepting p).0 h in (r, to r r_kept, acc, r_is ∙ number_same r),
      λ (r, r_kept, acc, r_is). (k.accepting p).1 (r, from r r_kept, acc, r_is ∙ sym (number_same r)),
    );
  }

pub trimmed_one : TrimmedIsOne
trimmed_one A B C mode (kept, are, k) (other, these, l) =
    kept_one A B C other (kept_by_members A kept other (λ q h. (these q).1 ((are q).0 h)) (λ q h. (are q).1 ((these q).0 h)) B k) l
