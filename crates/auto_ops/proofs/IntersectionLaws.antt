-- Runs of an intersection and of the two automata.
use Rattle.std.proofs.Common.{◌≡◌, ℕ, zero, suc, ◌+◌, ◌*◌, ◌≤◌, inl, inr, Bool, true, false, not, cond, ◌||◌, List, [], ◌∷◌, ◌++◌, map, refl, sym, ap, ◌∙◌, subst, arith, le_refl, mul-pos}
use Rattle.std.proofs.lemmas.Bool.{false≢true, cases_Bool, or_cases, or_parts, or_from, or_left, or_right}
use Rattle.auto_core.specs.Automaton.{Automaton, Moves, IsAccepting, is_accepting}
use Rattle.auto_core.specs.Run.{Run, repeated}
use Rattle.auto_core.specs.Accept.{AcceptsLasso, AcceptsWord}
use Rattle.auto_core.specs.Game.{Chain}
use Rattle.auto_core.specs.Outcome.{At}
use Rattle.auto_core.specs.declared.parts.Mode.{Mode}
use Rattle.auto_core.specs.declared.parts.Mode.TheVariants.{Buchi, Finite}
use Rattle.auto_core.proofs.PathLemmas.{accepting_from_test, test_from_accepting, run_join}
use Rattle.auto_laws.specs.Pumping.{RunsPast}
use Rattle.auto_laws.proofs.PumpingLemmas.{pumping, reblock, repeated-add}
use Rattle.auto_ops.specs.declared.product_states.ProductState.{ProductState}
use Rattle.auto_ops.specs.Intersection.{product_state, start_of, awaits_after, GoesBeside, IsAcceptingProductState, ProductMove, IsIntersection, same_product_state, moves_from}
use Rattle.auto_ops.specs.Laws.{IntersectionOfLassos, IntersectionOfWords}
use Rattle.auto_ops.proofs.CycleLemmas.{Loops, loops_of, turns_before, more_turns}
use Rattle.auto_ops.proofs.SightLemmas.{at_member, place_of, at_one, seen_start}

module _ (mode : Mode) (A B C : Automaton) (k : IsIntersection mode A B C) where
  start_named : At k.product_states C.initial (start_of A B)
  start_named =
      let P : List ProductState → Type 0 = λ l. At l 0 (start_of A B) in
      let here : At k.product_states 0 (start_of A B) = subst P (sym k.numbered.in_order) (seen_start same_product_state (start_of A B) (map (λ (m : ProductMove). m.target) (moves_from mode A B k.product_states))) in
      subst (λ i. At k.product_states i (start_of A B)) (sym k.initial) here

  -- each move of both is one of the intersection
  goes_on : (p : ℕ) (t : ProductState) (a : ℕ) (u : ProductState) → At k.product_states p t → GoesBeside mode A B t a u → (q : ℕ) × At k.product_states q u × Moves C p a q
  goes_on p t a u at_t goes =
      let (n, by) = (k.numbered.reached t).0 (at_member k.product_states p t at_t) in
      let (q, at_u) = place_of k.product_states u ((k.numbered.reached u).1 (suc n, (t, a, by, goes))) in
      (q, at_u, (k.moves p a q).1 (t, u, at_t, at_u, goes))

  -- and the other way round
  comes_from : (p : ℕ) (t : ProductState) (a q : ℕ) → At k.product_states p t → Moves C p a q → (u : ProductState) × At k.product_states q u × GoesBeside mode A B t a u
  comes_from p t a q at_t m =
      let (s, u, at_s, at_u, goes) = (k.moves p a q).0 m in
      let P : ProductState → Type 0 = λ x. GoesBeside mode A B x a u in
      (u, at_u, subst P (at_one k.product_states p s t at_s at_t) goes)

  accepts_at : (p : ℕ) (t : ProductState) → At k.product_states p t → IsAccepting C p → IsAcceptingProductState mode A B t
  accepts_at p t at_t acc =
      let (s, at_s, both) = (k.accepting p).0 acc in
      let P : ProductState → Type 0 = λ x. IsAcceptingProductState mode A B x in
      subst P (at_one k.product_states p s t at_s at_t) both

  is_accepting_at : (p : ℕ) (t : ProductState) → At k.product_states p t → IsAcceptingProductState mode A B t → IsAccepting C p
  is_accepting_at p t at_t both = (k.accepting p).1 (t, at_t, both)

-- ---- lassos

-- Runs of both automata that go with one of the intersection from t to u. Once an accepting state of the second is awaited, and none comes,
-- it stays awaited and no state of the intersection is accepting.
record Projected (A B : Automaton) (t u : ProductState) (w : List ℕ) (flag : Bool) : Type 0 where
  pub one : Bool
  pub two : Bool
  pub first : Run A t.first w u.first one
  pub second : Run B t.second w u.second two
  pub marks : flag ≡ true → one ≡ true
  pub keeps : awaits_after Buchi A B t ≡ true → two ≡ false → awaits_after Buchi A B u ≡ true
  pub passes : flag ≡ true → two ≡ false → awaits_after Buchi A B u ≡ true
  pub never : awaits_after Buchi A B t ≡ true → two ≡ false → flag ≡ true → ⊥

module _ (A B C : Automaton) (k : IsIntersection Buchi A B C) where
  abbrev awaits : ProductState → Bool
  awaits t = awaits_after Buchi A B t

  -- an awaited state of the second is awaited on if none comes
  awaited_on : (n : ProductState) → n.awaits_second ≡ true → is_accepting B n.second ≡ false → awaits n ≡ true
  awaited_on n h plain = ap (λ b. cond b (not (is_accepting B n.second)) (is_accepting A n.first)) h ∙ ap not plain

  first_awaited : (n : ProductState) → n.awaits_second ≡ false → awaits n ≡ is_accepting A n.first
  first_awaited n h = ap (λ b. cond b (not (is_accepting B n.second)) (is_accepting A n.first)) h

  second_comes : (n : ProductState) → n.awaits_second ≡ true → is_accepting B n.second ≡ true → awaits n ≡ false
  second_comes n h acc = ap (λ b. cond b (not (is_accepting B n.second)) (is_accepting A n.first)) h ∙ ap not acc

  -- what an accepting state of the intersection is
  accepting_is : (p : ℕ) (t : ProductState) → At k.product_states p t → is_accepting C p ≡ true → (is_accepting A t.first ≡ true) × (t.awaits_second ≡ false)
  accepting_is p t at_t h =
      let both = accepts_at Buchi A B C k p t at_t (accepting_from_test C p h) in
      (test_from_accepting A t.first both.0, both.1)

  accepting_by : (p : ℕ) (t : ProductState) → At k.product_states p t → is_accepting A t.first ≡ true → t.awaits_second ≡ false → is_accepting C p ≡ true
  accepting_by p t at_t acc first = test_from_accepting C p (is_accepting_at Buchi A B C k p t at_t (accepting_from_test A t.first acc, first))

  project : (p : ℕ) (w : List ℕ) (q : ℕ) (flag : Bool) (t : ProductState) → At k.product_states p t → Run C p w q flag → (u : ProductState) × At k.product_states q u × Projected A B t u w flag
  project p [] q flag t at_t (e, f) = (
    t,
    subst (λ x. At k.product_states x t) e at_t,
    record {
      one = false;
      two = false;
      first = (refl, refl);
      second = (refl, refl);
      marks = λ h. sym f ∙ h;
      keeps = λ h _. h;
      passes = λ h _. absurd (false≢true (sym f ∙ h));
      never = λ _ _ h. false≢true (sym f ∙ h);
    },
  )
  project p (a ∷ w) q flag t at_t (next, later, m, rest, e) =
      let (n, at_n, goes) = comes_from Buchi A B C k p t a next at_t m in
      let (u, at_u, j) = project next w q later n at_n rest in (
        u,
        at_u,
        record {
          one = is_accepting A n.first || j.one;
          two = is_accepting B n.second || j.two;
          first = (n.first, j.one, goes.first, j.first, refl);
          second = (n.second, j.two, goes.second, j.second, refl);
          marks = λ h. elim (or_cases (is_accepting C next) later (sym e ∙ h)) [
            | inl here ↦ or_left (is_accepting A n.first) j.one (accepting_is next n at_n here).0
            | inr after ↦ or_right (is_accepting A n.first) j.one (j.marks after)
          ];
          keeps = λ h none.
              let (plain, more) = or_parts (is_accepting B n.second) j.two none in
              j.keeps (awaited_on n (goes.awaits ∙ h) plain) more;
          passes = λ h none.
              let (plain, more) = or_parts (is_accepting B n.second) j.two none in
              elim (or_cases (is_accepting C next) later (sym e ∙ h)) [
                | inl here ↦ let (acc, first) = accepting_is next n at_n here in j.keeps (first_awaited n first ∙ acc) more
                | inr after ↦ j.passes after more
              ];
          never = λ h none marked.
              let (plain, more) = or_parts (is_accepting B n.second) j.two none in
              let second : n.awaits_second ≡ true = goes.awaits ∙ h in
              elim (or_cases (is_accepting C next) later (sym e ∙ marked)) [
                | inl here ↦ false≢true (sym (accepting_is next n at_n here).1 ∙ second)
                | inr after ↦ j.never (awaited_on n second plain) more after
              ];
        },
      )

  lassos_from : (u v : List ℕ) → AcceptsLasso C u v → AcceptsLasso A u v × AcceptsLasso B u v
  lassos_from u v h =
      let (t, at_t, j) = project C.initial (u ++ repeated v h.before) h.state h.flag (start_of A B) (start_named Buchi A B C k) h.enters in
      let (s, at_s, c) = project h.state (repeated v h.turns) h.state true t at_t h.cycles in
      let back : s ≡ t = at_one k.product_states h.state s t at_s at_t in
      let marked : c.one ≡ true = c.marks refl in
      let met : c.two ≡ true = elim (cases_Bool c.two) [
        | inl is ↦ is
        | inr none ↦
            let P : ProductState → Type 0 = λ x. awaits x ≡ true in
            absurd (c.never (subst P back (c.passes refl none)) none refl)
      ] in
      let F : ProductState → Type 0 = λ x. Run A t.first (repeated v h.turns) x.first c.one in
      let G : ProductState → Type 0 = λ x. Run B t.second (repeated v h.turns) x.second c.two in (
        record {
          before = h.before;
          turns = h.turns;
          state = t.first;
          flag = j.one;
          enters = j.first;
          some_turn = h.some_turn;
          cycles = subst (λ b. Run A t.first (repeated v h.turns) t.first b) marked (subst F back c.first);
        },
        record {
          before = h.before;
          turns = h.turns;
          state = t.second;
          flag = j.two;
          enters = j.second;
          some_turn = h.some_turn;
          cycles = subst (λ b. Run B t.second (repeated v h.turns) t.second b) met (subst G back c.second);
        },
      )

-- A run of the intersection that goes with runs of both automata. If it passes no accepting state, and no accepting state of the second is
-- awaited at first, then none of the first comes and none of the second is awaited; and after one of the second none is awaited.
record Zipped (A B C : Automaton) (product_states : List ProductState) (p : ℕ) (t : ProductState) (w : List ℕ) (p1 : ℕ) (one : Bool) (q1 : ℕ) (two : Bool) : Type 0 where
  pub end : ℕ
  pub product_state_there : ProductState
  pub flag : Bool
  pub at_end : At product_states end product_state_there
  pub first_is : product_state_there.first ≡ p1
  pub second_is : product_state_there.second ≡ q1
  pub run : Run C p w end flag
  pub rests : awaits_after Buchi A B t ≡ false → flag ≡ false → (one ≡ false) × (awaits_after Buchi A B product_state_there ≡ false)
  pub turns : two ≡ true → flag ≡ false → awaits_after Buchi A B product_state_there ≡ false

module _ (A B C : Automaton) (k : IsIntersection Buchi A B C) where
  zip : (w : List ℕ) (p : ℕ) (t : ProductState) → At k.product_states p t → (p1 : ℕ) (one : Bool) (q1 : ℕ) (two : Bool) → Run A t.first w p1 one → Run B t.second w q1 two → Zipped A B C k.product_states p t w p1 one q1 two
  zip [] p t at_t p1 one q1 two (e, f) (g, h) = record {
    end = p;
    product_state_there = t;
    flag = false;
    at_end = at_t;
    first_is = e;
    second_is = g;
    run = (refl, refl);
    rests = λ rest _. (f, rest);
    turns = λ met _. absurd (false≢true (sym h ∙ met));
  }
  zip (a ∷ w) p t at_t p1 one q1 two (n1, l1, m1, r1, e1) (n2, l2, m2, r2, e2) =
      let n = product_state n1 n2 (awaits_after Buchi A B t) in
      let goes : GoesBeside Buchi A B t a n = record { first = m1; second = m2; awaits = refl } in
      let (next, at_n, move) = goes_on Buchi A B C k p t a n at_t goes in
      let j = zip w next n at_n p1 l1 q1 l2 r1 r2 in
      record {
        end = j.end;
        product_state_there = j.product_state_there;
        flag = is_accepting C next || j.flag;
        at_end = j.at_end;
        first_is = j.first_is;
        second_is = j.second_is;
        run = (next, j.flag, move, j.run, refl);
        rests = λ rest none.
            let (plain, more) = or_parts (is_accepting C next) j.flag none in
            let quiet : is_accepting A n1 ≡ false = unmarked next n at_n rest plain in
            let (still, end_rests) = j.rests (first_awaited A B C k n rest ∙ quiet) more in
            (e1 ∙ or_from (is_accepting A n1) l1 quiet still, end_rests);
        turns = λ met none.
            let (plain, more) = or_parts (is_accepting C next) j.flag none in
            elim (or_cases (is_accepting B n2) l2 (sym e2 ∙ met)) [
              | inl here ↦ elim (cases_Bool (awaits_after Buchi A B t)) [
                | inl second ↦ (j.rests (second_comes A B C k n second here) more).1
                | inr first ↦ (j.rests (first_awaited A B C k n first ∙ unmarked next n at_n first plain) more).1
              ]
              | inr after ↦ j.turns after more
            ];
      }
    where
      unmarked : (x : ℕ) (n : ProductState) → At k.product_states x n → n.awaits_second ≡ false → is_accepting C x ≡ false → is_accepting A n.first ≡ false
      unmarked x n at_n first plain = elim (cases_Bool (is_accepting A n.first)) [
        | inl acc ↦ absurd (false≢true (sym plain ∙ accepting_by A B C k x n at_n acc first))
        | inr quiet ↦ quiet
      ]

  -- two turns pass an accepting state
  two_turns : (x : List ℕ) (P Q : ℕ) → Run A P x P true → Run B Q x Q true → (p : ℕ) (t : ProductState) → At k.product_states p t → t.first ≡ P → t.second ≡ Q
      → (q : ℕ) × (u : ProductState) × At k.product_states q u × (u.first ≡ P) × (u.second ≡ Q) × Run C p (x ++ x) q true
  two_turns x P Q first second p t at_t at_P at_Q =
      let j = zip x p t at_t P true Q true (subst (λ s. Run A s x P true) (sym at_P) first) (subst (λ s. Run B s x Q true) (sym at_Q) second) in
      let i = zip x j.end j.product_state_there j.at_end P true Q true (subst (λ s. Run A s x P true) (sym j.first_is) first) (subst (λ s. Run B s x Q true) (sym j.second_is) second) in
      let marked : (j.flag || i.flag) ≡ true = elim (cases_Bool j.flag) [
        | inl is ↦ or_left j.flag i.flag is
        | inr none ↦ elim (cases_Bool i.flag) [
          | inl is ↦ or_right j.flag i.flag is
          | inr nothing ↦ absurd (false≢true (sym (i.rests (j.turns refl none) nothing).0))
        ]
      ] in
      (i.end, i.product_state_there, i.at_end, i.first_is, i.second_is, subst (λ b. Run C p (x ++ x) i.end b) marked (run_join C p x j.end j.flag x i.end i.flag j.run i.run))

  turn_on : (x : List ℕ) (P Q : ℕ) → Run A P x P true → Run B Q x Q true → (n p : ℕ) (t : ProductState) → At k.product_states p t → t.first ≡ P → t.second ≡ Q
      → (q : ℕ) × Chain (RunsPast C (x ++ x)) n p q
  turn_on x P Q first second zero p t at_t at_P at_Q = (p, refl)
  turn_on x P Q first second (suc n) p t at_t at_P at_Q =
      let (r, u, at_u, u_P, u_Q, run) = two_turns x P Q first second p t at_t at_P at_Q in
      let (q, chain) = turn_on x P Q first second n r u at_u u_P u_Q in
      (q, (r, run, chain))

  lassos_beside : (u v : List ℕ) (m n : ℕ) → 1 ≤ n → Loops A u v m n → Loops B u v m n → AcceptsLasso C u v
  lassos_beside u v m n some a b =
      let w = u ++ repeated v m in
      let x = repeated v n in
      let j = zip w C.initial (start_of A B) (start_named Buchi A B C k) a.state a.flag b.state b.flag a.enters b.enters in
      let (q, chain) = turn_on x a.state b.state a.cycles b.cycles C.states j.end j.product_state_there j.at_end j.first_is j.second_is in
      let pumped : AcceptsLasso C w (x ++ x) = pumping C k.valid w (x ++ x) j.end j.flag C.states q j.run (le_refl C.states) chain in
      reblock C u v m (n + n) (omega arith) (subst (λ l. AcceptsLasso C w l) (sym (repeated-add v n n)) pumped)

  lassos_into : (u v : List ℕ) → AcceptsLasso A u v → AcceptsLasso B u v → AcceptsLasso C u v
  lassos_into u v a b =
      let one = more_turns A u v (b.before + a.before) a.turns b.turns b.some_turn (turns_before A u v b.before a.before a.turns a.some_turn (loops_of A u v a)) in
      let two = more_turns B u v (a.before + b.before) b.turns a.turns a.some_turn (turns_before B u v a.before b.before b.turns b.some_turn (loops_of B u v b)) in
      let order : a.before + b.before ≡ b.before + a.before = omega arith in
      let count : b.turns * a.turns ≡ a.turns * b.turns = omega arith in
      lassos_beside u v (b.before + a.before) (a.turns * b.turns) (mul-pos a.some_turn b.some_turn) one
      (subst (λ i. Loops B u v i (a.turns * b.turns)) order (subst (λ i. Loops B u v (a.before + b.before) i) count two))

pub intersection_lassos : IntersectionOfLassos
intersection_lassos A B C k u v = (lassos_from A B C k u v, λ h. lassos_into A B C k u v h.0 h.1)

-- ---- words

module _ (A B C : Automaton) (k : IsIntersection Finite A B C) where
  both_run : (p : ℕ) (w : List ℕ) (q : ℕ) (flag : Bool) (t : ProductState) → At k.product_states p t → Run C p w q flag
      → (u : ProductState) × At k.product_states q u × ((one : Bool) × Run A t.first w u.first one) × ((two : Bool) × Run B t.second w u.second two)
  both_run p [] q flag t at_t (e, f) = (t, subst (λ x. At k.product_states x t) e at_t, (false, (refl, refl)), (false, (refl, refl)))
  both_run p (a ∷ w) q flag t at_t (next, later, m, rest, e) =
      let (n, at_n, goes) = comes_from Finite A B C k p t a next at_t m in
      let (u, at_u, (one, first), (two, second)) = both_run next w q later n at_n rest in
      (u, at_u, (is_accepting A n.first || one, (n.first, one, goes.first, first, refl)), (is_accepting B n.second || two, (n.second, two, goes.second, second, refl)))

  beside : (w : List ℕ) (p : ℕ) (t : ProductState) → At k.product_states p t → (p1 : ℕ) (one : Bool) (q1 : ℕ) (two : Bool) → Run A t.first w p1 one → Run B t.second w q1 two
      → (q : ℕ) × (u : ProductState) × (flag : Bool) × At k.product_states q u × (u.first ≡ p1) × (u.second ≡ q1) × Run C p w q flag
  beside [] p t at_t p1 one q1 two (e, f) (g, h) = (p, t, false, at_t, e, g, (refl, refl))
  beside (a ∷ w) p t at_t p1 one q1 two (n1, l1, m1, r1, e1) (n2, l2, m2, r2, e2) =
      let n = product_state n1 n2 false in
      let goes : GoesBeside Finite A B t a n = record { first = m1; second = m2; awaits = refl } in
      let (next, at_n, move) = goes_on Finite A B C k p t a n at_t goes in
      let (q, u, flag, at_u, first, second, run) = beside w next n at_n p1 l1 q1 l2 r1 r2 in
      (q, u, is_accepting C next || flag, at_u, first, second, (next, flag, move, run, refl))

  words_from : (w : List ℕ) → AcceptsWord C w → AcceptsWord A w × AcceptsWord B w
  words_from w h =
      let (u, at_u, (one, first), (two, second)) = both_run C.initial w h.state h.flag (start_of A B) (start_named Finite A B C k) h.run in
      let both = accepts_at Finite A B C k h.state u at_u h.ends in (
        record { state = u.first; flag = one; run = first; ends = both.0 },
        record { state = u.second; flag = two; run = second; ends = both.1 },
      )

  words_into : (w : List ℕ) → AcceptsWord A w → AcceptsWord B w → AcceptsWord C w
  words_into w a b =
      let (q, u, flag, at_u, first, second, run) = beside w C.initial (start_of A B) (start_named Finite A B C k) a.state a.flag b.state b.flag a.run b.run in
      record {
        state = q;
        flag = flag;
        run = run;
        ends = is_accepting_at Finite A B C k q u at_u (subst (IsAccepting A) (sym first) a.ends, subst (IsAccepting B) (sym second) b.ends);
      }

pub intersection_words : IntersectionOfWords
intersection_words A B C k w = (words_from A B C k w, λ h. words_into A B C k w h.0 h.1)
