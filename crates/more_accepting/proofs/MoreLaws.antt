-- The laws of accepting more.
use Rattle.std.proofs.Common.{◌≡◌, ℕ, zero, suc, ◌≤◌, ◌||◌, inl, inr, Bool, true, false, List, [], ◌∷◌, ◌++◌, length, refl, sym, ap, ◌∙◌, subst, arith}
use Rattle.std.proofs.lemmas.Bool.{cases_Bool, or_cases, or_parts, false≢true}
use Rattle.std.proofs.lemmas.List.{length-append}
use Rattle.std.proofs.Math.Bool.{or-true}
use Rattle.auto_core.specs.Accept.{Includes}
use Rattle.auto_core.specs.Automaton.{Automaton, IsAccepting, is_accepting}
use Rattle.auto_core.specs.Game.{Chain, Close}
use Rattle.auto_core.specs.Run.{Run, repeated}
use Rattle.auto_core.specs.Useful.{Reaches}
use Rattle.auto_core.specs.declared.parts.Mode.TheVariants.{Buchi}
use Rattle.auto_core.proofs.PathLemmas.{run_join, accepting_from_test, test_from_accepting}
use Rattle.auto_core.proofs.SetLemmas.{same_automaton}
use Rattle.more_accepting.specs.More.{MovesBeside, AvoidsAcceptance, AreJoined, IsMoreAccepting}
use Rattle.more_accepting.specs.Laws.{MoreAcceptingIsSame, MoreAcceptingIsOne, MoreAcceptingStays}
use Rattle.more_accepting.proofs.AvoidLemmas.{reaches_itself, reaches_next, reaches_on, reaches_beside}

-- ---- runs past no accepting state

module _ (A : Automaton) where
  -- A run to an accepting state passes one.
  ends_accepting : (p : ℕ) (w : List ℕ) (q : ℕ) (flag : Bool) → 1 ≤ length w → Run A p w q flag → IsAccepting A q → flag ≡ true
  ends_accepting p [] q flag some run acc = absurd (omega (arith, some))
  ends_accepting p (a ∷ []) q flag some (next, later, move, (e, at_end), is) acc = is ∙ ap (λ b. b || later) (ap (is_accepting A) e ∙ test_from_accepting A q acc)
  ends_accepting p (a ∷ b ∷ w) q flag some (next, later, move, rest, is) acc =
      is ∙ ap (λ l. is_accepting A next || l) (ends_accepting next (b ∷ w) q later (omega arith) rest acc) ∙ or-true (is_accepting A next)

  fails : (p : ℕ) → is_accepting A p ≡ false → IsAccepting A p → ⊥
  fails p is acc = false≢true (sym is ∙ test_from_accepting A p acc)

  run_beside : (p : ℕ) (w : List ℕ) (q : ℕ) (flag : Bool) → (IsAccepting A p → ⊥) → Run A p w q flag → flag ≡ false → Close (MovesBeside A) p q
  run_beside p [] q flag not_p (e, is) none = (zero, e)
  run_beside p (a ∷ w) q flag not_p (next, later, move, rest, is) none =
      let parts = or_parts (is_accepting A next) later (sym is ∙ none) in
      let (n, way) = run_beside next w q later (fails next parts.0) rest parts.1 in
      (suc n, (next, (a, move, not_p, fails next parts.0), way))

  -- A cycle that passes no accepting state avoids acceptance.
  avoids_by_run : (q : ℕ) (w : List ℕ) (flag : Bool) → 1 ≤ length w → Run A q w q flag → flag ≡ false → AvoidsAcceptance A q
  avoids_by_run q [] flag some run none = absurd (omega (arith, some))
  avoids_by_run q (a ∷ w) flag some (next, later, move, rest, is) none =
      let parts = or_parts (is_accepting A next) later (sym is ∙ none) in
      let not_q : IsAccepting A q → ⊥ = λ acc. false≢true (sym none ∙ ends_accepting q (a ∷ w) q flag some (next, later, move, rest, is) acc) in
      (next, (a, move, not_q, fails next parts.0), run_beside next w q later (fails next parts.0) rest parts.1)

-- ---- runs of both

or_up : (a b c d : Bool) → (a ≡ true → c ≡ true) → (b ≡ true → d ≡ true) → (a || b) ≡ true → (c || d) ≡ true
or_up true b c d f g t = ap (λ x. x || d) (f refl)
or_up false b c d f g t = ap (λ x. c || x) (g t) ∙ or-true c

module _ (A B : Automaton) (m : IsMoreAccepting A B) where
  lifted : (p : ℕ) (w : List ℕ) (q : ℕ) (flag : Bool) → Run A p w q flag → (more : Bool) × Run B p w q more × (flag ≡ true → more ≡ true)
  lifted p [] q flag (e, is) = (flag, (e, is), λ t. t)
  lifted p (a ∷ w) q flag (next, later, move, rest, is) =
      let (more, run, up) = lifted next w q later rest in (
        is_accepting B next || more,
        (next, more, (m.moves p a next).1 move, run, refl),
        λ t. or_up (is_accepting A next) later (is_accepting B next) more (λ u. test_from_accepting B next ((m.accepting next).1 (inl (accepting_from_test A next u)))) up (sym is ∙ t),
      )

  lowered : (p : ℕ) (w : List ℕ) (q : ℕ) (flag : Bool) → Run B p w q flag → (less : Bool) × Run A p w q less
  lowered p [] q flag (e, is) = (flag, (e, is))
  lowered p (a ∷ w) q flag (next, later, move, rest, is) =
      let (less, run) = lowered next w q later rest in (is_accepting A next || less, (next, less, (m.moves p a next).0 move, run, refl))

  -- The run passes this state, which accepts in B.
  record Passes (p : ℕ) (w : List ℕ) (r : ℕ) : Type 0 where
    front : List ℕ
    back : List ℕ
    at : ℕ
    first : Bool
    second : Bool
    is : front ++ back ≡ w
    some : 1 ≤ length front
    accepts : IsAccepting B at
    to : Run A p front at first
    on : Run A at back r second

  passes : (p : ℕ) (w : List ℕ) (r : ℕ) (flag : Bool) → Run B p w r flag → flag ≡ true → Passes p w r
  passes p [] r flag (e, is) yes_flag = absurd (false≢true (sym is ∙ yes_flag))
  passes p (a ∷ w) r flag (next, later, move, rest, is) yes_flag =
      let low = (m.moves p a next).0 move in
      elim (or_cases (is_accepting B next) later (sym is ∙ yes_flag)) [
        | inl here ↦
            let (less, run) = lowered next w r later rest in
            record {
              front = a ∷ [];
              back = w;
              at = next;
              first = is_accepting A next || false;
              second = less;
              is = refl;
              some = omega arith;
              accepts = accepting_from_test B next here;
              to = (next, false, low, (refl, refl), refl);
              on = run;
            }
        | inr beyond ↦
            let h = passes next w r later rest beyond in
            record {
              front = a ∷ h.front;
              back = h.back;
              at = h.at;
              first = is_accepting A next || h.first;
              second = h.second;
              is = ap (λ l. a ∷ l) h.is;
              some = omega arith;
              accepts = h.accepts;
              to = (next, h.first, low, h.to, refl);
              on = h.on;
            }
      ]

  -- A closed run that passes an accepting state of B passes one of A.
  cycles : (p : ℕ) (w : List ℕ) → Run B p w p true → Run A p w p true
  cycles p w run =
      let h = passes p w p true run refl in
      let whole = run_join A p h.front h.at h.first h.back p h.second h.to h.on in
      let turned = run_join A h.at h.back p h.second h.front h.at h.first h.on h.to in
      let all : (h.first || h.second) ≡ true → Run A p w p true = λ t. subst (λ x. Run A p x p true) h.is (subst (λ f. Run A p (h.front ++ h.back) p f) t whole) in
      elim (cases_Bool (h.first || h.second)) [
        | inl t ↦ all t
        | inr f ↦
            let parts = or_parts h.first h.second f in
            elim ((m.accepting h.at).0 h.accepts) [
              | inl acc ↦ absurd (false≢true (sym parts.0 ∙ ends_accepting A p h.front h.at h.first h.some h.to acc))
              | inr (below, throughout) ↦ absurd (throughout h.at (reaches_itself A h.at, reaches_itself A h.at)
                  (avoids_by_run A h.at (h.back ++ h.front) (h.second || h.first) (omega (arith, length-append h.back h.front, h.some)) turned (ap (λ b. b || h.first) parts.1 ∙ parts.0)))
            ]
      ]

  up : Includes A B Buchi
  up u v acc =
      let enters = lifted A.initial (u ++ repeated v acc.before) acc.state acc.flag acc.enters in
      let around = lifted acc.state (repeated v acc.turns) acc.state true acc.cycles in
      record {
        before = acc.before;
        turns = acc.turns;
        state = acc.state;
        flag = enters.0;
        enters = subst (λ s. Run B s (u ++ repeated v acc.before) acc.state enters.0) (sym m.initial) enters.1;
        some_turn = acc.some_turn;
        cycles = subst (λ f. Run B acc.state (repeated v acc.turns) acc.state f) (around.2 refl) around.1;
      }

  down : Includes B A Buchi
  down u v acc =
      let enters = lowered B.initial (u ++ repeated v acc.before) acc.state acc.flag acc.enters in
      record {
        before = acc.before;
        turns = acc.turns;
        state = acc.state;
        flag = enters.0;
        enters = subst (λ s. Run A s (u ++ repeated v acc.before) acc.state enters.0) m.initial enters.1;
        some_turn = acc.some_turn;
        cycles = cycles acc.state (repeated v acc.turns) acc.cycles;
      }

  -- ---- making it again

  reaches_up : (p q : ℕ) → Reaches A p q → Reaches B p q
  reaches_up p q (w, flag, run) = let (more, higher, _) = lifted p w q flag run in (w, more, higher)

  module _ (q : ℕ) (avoids : AvoidsAcceptance A q) where
    accepts_not : (s : ℕ) → AreJoined A s q → (IsAccepting A s → ⊥) → IsAccepting B s → ⊥
    accepts_not s joined not_s acc = elim ((m.accepting s).0 acc) [ inl was ↦ not_s was | inr (s_in, throughout) ↦ throughout q joined avoids ]

    -- The way back to q does not accept in B either.
    stays_beside : (n s : ℕ) → Reaches A q s → Chain (MovesBeside A) n s q → Chain (MovesBeside B) n s q
    stays_beside zero s from e = e
    stays_beside (suc n) s from (r, (a, move, not_s, not_r), rest) =
        let back = reaches_beside A n r q rest in
        let next = reaches_next A s a r move in
        let on = reaches_on A q s r from next in (
          r,
          (a, (m.moves s a r).1 move, accepts_not s (reaches_on A s r q next back, from) not_s, accepts_not r (back, on) not_r),
          stays_beside n r on rest,
        )

    still_avoids : AvoidsAcceptance B q
    still_avoids =
        let (r, step, (n, way)) = avoids in
        let both = stays_beside (suc n) q (reaches_itself A q) (r, step, way) in
        (both.0, both.1, (n, both.2))

  again : IsMoreAccepting B B
  again = record {
    valid = m.valid;
    states = refl;
    labels = refl;
    initial = refl;
    moves = λ p a q. (λ h. h, λ h. h);
    accepting = λ p. (
      λ h. inl h,
      λ h. elim h [
        | inl acc ↦ acc
        | inr (p_in, throughout) ↦
            (m.accepting p).1 (inr (omega (arith, p_in, m.states), λ q joined avoids. throughout q (reaches_up p q joined.0, reaches_up q p joined.1) (still_avoids q avoids)))
      ],
    );
  }

pub more_same : MoreAcceptingIsSame
more_same A B m = (up A B m, down A B m)

pub more_one : MoreAcceptingIsOne
more_one A B C k l =
    same_automaton B C k.valid l.valid (k.states ∙ sym l.states) (k.labels ∙ sym l.labels) (k.initial ∙ sym l.initial)
    (λ p a q. (λ h. (l.moves p a q).1 ((k.moves p a q).0 h), λ h. (k.moves p a q).1 ((l.moves p a q).0 h)))
    (λ p. (λ h. (l.accepting p).1 ((k.accepting p).0 h), λ h. (k.accepting p).1 ((l.accepting p).0 h)))

pub more_stays : MoreAcceptingStays
more_stays A B m = again A B m
