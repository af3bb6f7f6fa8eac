-- Runs of a union and of the two automata.
use Rattle.std.proofs.Common.{◌≡◌, ℕ, suc, ◌+◌, ◌<◌, ◌≤◌, ◌⊎◌, inl, inr, Bool, true, false, ◌||◌, List, [], ◌∷◌, ◌++◌, length, refl, sym, ap, ◌∙◌, subst, arith}
use Rattle.std.proofs.lemmas.Bool.{false≢true}
use Rattle.std.proofs.lemmas.List.Elements.{All-contains}
use Rattle.auto_core.specs.Automaton.{Automaton, IsAutomaton, Moves, IsAccepting, is_accepting}
use Rattle.auto_core.specs.Run.{Run, repeated}
use Rattle.auto_core.specs.Accept.{AcceptsLasso, AcceptsWord}
use Rattle.auto_core.specs.declared.parts.Mode.{Mode}
use Rattle.auto_core.specs.declared.parts.Mode.TheVariants.{Buchi, Finite}
use Rattle.auto_core.proofs.PathLemmas.{accepting_from_test, test_from_accepting}
use Rattle.auto_core.proofs.MoveLemmas.{move_in_range}
use Rattle.auto_core.proofs.MemberLemmas.{same_bool}
use Rattle.auto_ops.specs.Union.{IsUnion, second_offset}
use Rattle.auto_ops.specs.Laws.{UnionOfLassos, UnionOfWords}
use Rattle.auto_ops.proofs.CycleLemmas.{loops_of, accepts_by, turn_before, loop_has_letters, entry_has_letters}

accepting_below : (A : Automaton) → IsAutomaton A → (q : ℕ) → IsAccepting A q → q < A.states
accepting_below A valid q h = All-contains (λ x. x < A.states) A.accepting q valid.accepting_in_range h

-- A with its states shifted by the offset is a part of U, and U's state 0 moves as A's initial state does.
pub record IsPart (A U : Automaton) (offset : ℕ) : Type 0 where
  pub some : 1 ≤ offset
  pub forward : (r a s : ℕ) → Moves A r a s → Moves U (offset + r) a (offset + s)
  pub starts : (a s : ℕ) → Moves A A.initial a s → Moves U 0 a (offset + s)
  pub back : (r a q : ℕ) → r < A.states → Moves U (offset + r) a q → (s : ℕ) × Moves A r a s × (q ≡ offset + s)
  pub same : (r : ℕ) → r < A.states → is_accepting U (offset + r) ≡ is_accepting A r

-- a run of U from the start that ends in that part
abbrev Comes : Automaton → ℕ → List ℕ → ℕ → Bool → Type 0
Comes A offset w q flag = (s : ℕ) × (q ≡ offset + s) × (s < A.states) × Run A A.initial w s flag

module _ (A U : Automaton) (offset : ℕ) (valid : IsAutomaton A) (part : IsPart A U offset) where
  into : (r : ℕ) (w : List ℕ) (s : ℕ) (flag : Bool) → r < A.states → Run A r w s flag → Run U (offset + r) w (offset + s) flag
  into r [] s flag r_in (e, f) = (ap (λ x. offset + x) e, f)
  into r (a ∷ w) s flag r_in (next, later, m, rest, e) =
      let next_in = (move_in_range A valid r a next m).1 in
      (offset + next, later, part.forward r a next m, into next w s later next_in rest, e ∙ ap (λ b. b || later) (sym (part.same next next_in)))

  from_start : (w : List ℕ) (s : ℕ) (flag : Bool) → 1 ≤ length w → Run A A.initial w s flag → Run U 0 w (offset + s) flag
  from_start [] s flag some run = absurd (omega arith)
  from_start (a ∷ w) s flag some (next, later, m, rest, e) =
      let next_in = (move_in_range A valid A.initial a next m).1 in
      (offset + next, later, part.starts a next m, into next w s later next_in rest, e ∙ ap (λ b. b || later) (sym (part.same next next_in)))

  out_of : (r : ℕ) (w : List ℕ) (q : ℕ) (flag : Bool) → r < A.states → Run U (offset + r) w q flag → (s : ℕ) × (q ≡ offset + s) × (s < A.states) × Run A r w s flag
  out_of r [] q flag r_in (e, f) = (r, sym e, r_in, (refl, f))
  out_of r (a ∷ w) q flag r_in (next, later, m, rest, e) =
      let (n, move, is) = part.back r a next r_in m in
      let n_in = (move_in_range A valid r a n move).1 in
      let (s, ends, s_in, run) = out_of n w q later n_in (subst (λ x. Run U x w q later) is rest) in
      let same : is_accepting U next ≡ is_accepting A n = ap (is_accepting U) is ∙ part.same n n_in in
      (s, ends, s_in, (n, later, move, run, e ∙ ap (λ b. b || later) same))

  comes : (a s : ℕ) (w : List ℕ) (next q : ℕ) (later flag : Bool) → Moves A A.initial a s → next ≡ offset + s → Run U next w q later → flag ≡ (is_accepting U next || later) → Comes A offset (a ∷ w) q flag
  comes a s w next q later flag m is rest e =
      let s_in = (move_in_range A valid A.initial a s m).1 in
      let (r, ends, r_in, run) = out_of s w q later s_in (subst (λ x. Run U x w q later) is rest) in
      let same : is_accepting U next ≡ is_accepting A s = ap (is_accepting U) is ∙ part.same s s_in in
      (r, ends, r_in, (s, later, m, run, e ∙ ap (λ b. b || later) same))

  -- a cycle in the part is one of A
  lasso_of : (u v : List ℕ) (k m q : ℕ) (flag : Bool) → 1 ≤ m → Comes A offset (u ++ repeated v k) q flag → Run U q (repeated v m) q true → AcceptsLasso A u v
  lasso_of u v k m q flag some (s, is, s_in, enters) cycle =
      let (r, ends, r_in, run) = out_of s (repeated v m) q true s_in (subst (λ x. Run U x (repeated v m) q true) is cycle) in
      let e : r ≡ s = omega arith in
      record { before = k; turns = m; state = s; flag = flag; enters = enters; some_turn = some; cycles = subst (λ x. Run A s (repeated v m) x true) e run }

  lasso_in : U.initial ≡ 0 → (u v : List ℕ) → AcceptsLasso A u v → AcceptsLasso U u v
  lasso_in start u v h =
      let k = h.before in
      let h1 = turn_before A u v k h.turns h.some_turn (loops_of A u v h) in
      let letters = entry_has_letters u v k (loop_has_letters A h.state v h.turns h.cycles) in
      let state_in : h1.state < A.states = state_below (u ++ repeated v (suc k)) A.initial h1.state h1.flag valid.initial_is_state h1.enters in
      accepts_by U u v (suc k) h.turns h.some_turn (record {
        state = offset + h1.state;
        flag = h1.flag;
        enters = subst (λ x. Run U x (u ++ repeated v (suc k)) (offset + h1.state) h1.flag) (sym start) (from_start (u ++ repeated v (suc k)) h1.state h1.flag letters h1.enters);
        cycles = into h1.state (repeated v h.turns) h1.state true state_in h1.cycles;
      })
    where
      state_below : (w : List ℕ) (p q : ℕ) (flag : Bool) → p < A.states → Run A p w q flag → q < A.states
      state_below [] p q flag p_in (e, f) = subst (λ x. x < A.states) e p_in
      state_below (a ∷ w) p q flag p_in (next, later, m, rest, e) = state_below w next q later (move_in_range A valid p a next m).1 rest

  word_of : (w : List ℕ) (q : ℕ) (flag : Bool) → Comes A offset w q flag → IsAccepting U q → AcceptsWord A w
  word_of w q flag (s, is, s_in, run) ends =
      let acc : is_accepting A s ≡ true = sym (part.same s s_in) ∙ ap (is_accepting U) (sym is) ∙ test_from_accepting U q ends in
      record { state = s; flag = flag; run = run; ends = accepting_from_test A s acc }

  word_in : U.initial ≡ 0 → (IsAccepting A A.initial → IsAccepting U 0) → (w : List ℕ) → AcceptsWord A w → AcceptsWord U w
  word_in start at_once [] h =
      let first : IsAccepting A A.initial = subst (IsAccepting A) (sym h.run.0) h.ends in
      record { state = 0; flag = false; run = (start, refl); ends = at_once first }
  word_in start at_once (a ∷ w) h =
      let s_in = accepting_below A valid h.state h.ends in
      let some : 1 ≤ length (a ∷ w) = omega arith in
      record {
        state = offset + h.state;
        flag = h.flag;
        run = subst (λ x. Run U x (a ∷ w) (offset + h.state) h.flag) (sym start) (from_start (a ∷ w) h.state h.flag some h.run);
        ends = accepting_from_test U (offset + h.state) (part.same h.state s_in ∙ test_from_accepting A h.state h.ends);
      }

module _ (mode : Mode) (A B U : Automaton) (a_valid : IsAutomaton A) (b_valid : IsAutomaton B) (k : IsUnion mode A B U) where
  first_part : IsPart A U 1
  first_part = record {
    some = omega arith;
    forward = λ r a s m. (k.moves (1 + r) a (1 + s)).1 (inl (r, s, m, inl refl, refl));
    starts = λ a s m. (k.moves 0 a (1 + s)).1 (inl (A.initial, s, m, inr (refl, refl), refl));
    back = λ r a q r_in m. elim ((k.moves (1 + r) a q).0 m) [
      | inl (t, s, move, from, is) ↦ elim from [
        | inl e ↦ let same : t ≡ r = omega arith in (s, subst (λ x. Moves A x a s) same move, is)
        | inr z ↦ let e : 1 + r ≡ 0 = z.0 in absurd (omega arith)
      ]
      | inr (t, s, move, from, is) ↦ elim from [
        | inl e ↦ absurd (omega arith)
        | inr z ↦ let e : 1 + r ≡ 0 = z.0 in absurd (omega arith)
      ]
    ];
    same = λ r r_in. same_bool (is_accepting U (1 + r)) (is_accepting A r)
        (λ h. elim ((k.accepting (1 + r)).0 (accepting_from_test U (1 + r) h)) [
          | inl (t, acc, e) ↦ let same : t ≡ r = omega arith in test_from_accepting A r (subst (IsAccepting A) same acc)
          | inr other ↦ elim other [
            | inl (t, acc, e) ↦ absurd (omega arith)
            | inr z ↦ let e : 1 + r ≡ 0 = z.0 in absurd (omega arith)
          ]
        ])
        (λ h. test_from_accepting U (1 + r) ((k.accepting (1 + r)).1 (inl (r, accepting_from_test A r h, refl))));
  }

  second_part : IsPart B U (second_offset A)
  second_part = record {
    some = omega arith;
    forward = λ r a s m. (k.moves (second_offset A + r) a (second_offset A + s)).1 (inr (r, s, m, inl refl, refl));
    starts = λ a s m. (k.moves 0 a (second_offset A + s)).1 (inr (B.initial, s, m, inr (refl, refl), refl));
    back = λ r a q r_in m. elim ((k.moves (second_offset A + r) a q).0 m) [
      | inl (t, s, move, from, is) ↦ elim from [
        | inl e ↦ let t_in = (move_in_range A a_valid t a s move).0 in absurd (omega arith)
        | inr z ↦ let e : second_offset A + r ≡ 0 = z.0 in absurd (omega arith)
      ]
      | inr (t, s, move, from, is) ↦ elim from [
        | inl e ↦ let same : t ≡ r = omega arith in (s, subst (λ x. Moves B x a s) same move, is)
        | inr z ↦ let e : second_offset A + r ≡ 0 = z.0 in absurd (omega arith)
      ]
    ];
    same = λ r r_in. same_bool (is_accepting U (second_offset A + r)) (is_accepting B r)
        (λ h. elim ((k.accepting (second_offset A + r)).0 (accepting_from_test U (second_offset A + r) h)) [
          | inl (t, acc, e) ↦ let t_in = accepting_below A a_valid t acc in absurd (omega arith)
          | inr other ↦ elim other [
            | inl (t, acc, e) ↦ let same : t ≡ r = omega arith in test_from_accepting B r (subst (IsAccepting B) same acc)
            | inr z ↦ let e : second_offset A + r ≡ 0 = z.0 in absurd (omega arith)
          ]
        ])
        (λ h. test_from_accepting U (second_offset A + r) ((k.accepting (second_offset A + r)).1 (inr (inl (r, accepting_from_test B r h, refl)))));
  }

  -- a run from the start has read nothing, or is in one of the parts
  leaves_start : (w : List ℕ) (q : ℕ) (flag : Bool) → Run U 0 w q flag
      → ((w ≡ []) × (q ≡ 0) × (flag ≡ false)) ⊎ Comes A 1 w q flag ⊎ Comes B (second_offset A) w q flag
  leaves_start [] q flag (e, f) = inl (refl, sym e, f)
  leaves_start (a ∷ w) q flag (next, later, m, rest, e) = elim ((k.moves 0 a next).0 m) [
    | inl (t, s, move, from, is) ↦ elim from [
      | inl bad ↦ absurd (omega arith)
      | inr z ↦ inr (inl (comes A U 1 a_valid first_part a s w next q later flag (subst (λ x. Moves A x a s) z.1 move) is rest e))
    ]
    | inr (t, s, move, from, is) ↦ elim from [
      | inl bad ↦ absurd (omega arith)
      | inr z ↦ inr (inr (comes B U (second_offset A) b_valid second_part a s w next q later flag (subst (λ x. Moves B x a s) z.1 move) is rest e))
    ]
  ]

  -- no cycle goes through the start
  no_way_back : (w : List ℕ) → Run U 0 w 0 true → ⊥
  no_way_back w run = elim (leaves_start w 0 true run) [
    | inl none ↦ false≢true (sym none.2)
    | inr more ↦ elim more [
      | inl one ↦ let e : 0 ≡ 1 + one.0 = one.1 in omega arith
      | inr two ↦ let e : 0 ≡ second_offset A + two.0 = two.1 in omega arith
    ]
  ]

  lasso_from : (u v : List ℕ) → AcceptsLasso U u v → AcceptsLasso A u v ⊎ AcceptsLasso B u v
  lasso_from u v h =
      let w = u ++ repeated v h.before in
      elim (leaves_start w h.state h.flag (subst (λ x. Run U x w h.state h.flag) k.initial h.enters)) [
        | inl none ↦ absurd (no_way_back (repeated v h.turns)
            (subst (λ x. Run U x (repeated v h.turns) x true) none.1 h.cycles))
        | inr more ↦ elim more [
          | inl one ↦ inl (lasso_of A U 1 a_valid first_part u v h.before h.turns h.state h.flag h.some_turn one h.cycles)
          | inr two ↦ inr (lasso_of B U (second_offset A) b_valid second_part u v h.before h.turns h.state h.flag h.some_turn two h.cycles)
        ]
      ]

  word_from : (w : List ℕ) → AcceptsWord U w → AcceptsWord A w ⊎ AcceptsWord B w
  word_from w h = elim (leaves_start w h.state h.flag (subst (λ x. Run U x w h.state h.flag) k.initial h.run)) [
    | inl none ↦ at_once none.0 ((k.accepting 0).0 (subst (IsAccepting U) none.1 h.ends))
    | inr more ↦ elim more [
      | inl one ↦ inl (word_of A U 1 a_valid first_part w h.state h.flag one h.ends)
      | inr two ↦ inr (word_of B U (second_offset A) b_valid second_part w h.state h.flag two h.ends)
    ]
  ]
    where
      nothing_read : (X : Automaton) → w ≡ [] → IsAccepting X X.initial → AcceptsWord X w
      nothing_read X e acc = subst (AcceptsWord X) (sym e) (record { state = X.initial; flag = false; run = (refl, refl); ends = acc })

      at_once : w ≡ []
          → (((r : ℕ) × IsAccepting A r × (0 ≡ 1 + r)) ⊎ ((r : ℕ) × IsAccepting B r × (0 ≡ second_offset A + r)) ⊎ ((◌≡◌ {A = ℕ} 0 0) × ((mode ≡ Finite) × (IsAccepting A A.initial ⊎ IsAccepting B B.initial))))
          → AcceptsWord A w ⊎ AcceptsWord B w
      at_once e (inl (r, acc, bad)) = absurd (omega arith)
      at_once e (inr (inl (r, acc, bad))) = absurd (omega arith)
      at_once e (inr (inr (z, (finite, inl acc)))) = inl (nothing_read A e acc)
      at_once e (inr (inr (z, (finite, inr acc)))) = inr (nothing_read B e acc)

pub union_lassos : UnionOfLassos
union_lassos A B U a_valid b_valid k u v = (
  lasso_from Buchi A B U a_valid b_valid k u v,
  λ h. elim h [
    | inl one ↦ lasso_in A U 1 a_valid (first_part Buchi A B U a_valid b_valid k) k.initial u v one
    | inr two ↦ lasso_in B U (second_offset A) b_valid (second_part Buchi A B U a_valid b_valid k) k.initial u v two
  ],
)

pub union_words : UnionOfWords
union_words A B U a_valid b_valid k w = (
  word_from Finite A B U a_valid b_valid k w,
  λ h. elim h [
    | inl one ↦ word_in A U 1 a_valid (first_part Finite A B U a_valid b_valid k) k.initial
        (λ acc. (k.accepting 0).1 (inr (inr (refl, (refl, inl acc))))) w one
    | inr two ↦ word_in B U (second_offset A) b_valid (second_part Finite A B U a_valid b_valid k) k.initial
        (λ acc. (k.accepting 0).1 (inr (inr (refl, (refl, inr acc))))) w two
  ],
)
