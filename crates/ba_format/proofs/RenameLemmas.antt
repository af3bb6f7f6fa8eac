-- Two automata that differ in their states' numbers alone accept the same.
use Rattle.std.proofs.Common.{◌≡◌, ℕ, Bool, true, ◌||◌, List, [], ◌∷◌, ◌++◌, refl, sym, ap, subst, ◌∙◌}
use Rattle.auto_core.specs.Automaton.{Automaton, Moves, IsAccepting, is_accepting}
use Rattle.auto_core.specs.Run.{Run, repeated}
use Rattle.auto_core.specs.Accept.{AcceptsLasso, AcceptsWord, Same}
use Rattle.auto_core.specs.declared.parts.Mode.{Mode}
use Rattle.auto_core.specs.declared.parts.Mode.TheVariants.{Buchi, Finite}
use Rattle.auto_core.proofs.Accepting.{Contains-from_test, test-from_Contains}

-- B is A with state p of those in P renamed f p.
pub record IsRenaming (A B : Automaton) (f : ℕ → ℕ) (P : ℕ → Type 0) : Type 0 where
  pub first : P A.initial
  pub initial : B.initial ≡ f A.initial
  pub stays : (p a q : ℕ) → P p → Moves A p a q → P q
  pub there : (p a q : ℕ) → P p → Moves A p a q → Moves B (f p) a (f q)
  pub back : (p a z : ℕ) → P p → Moves B (f p) a z → (q : ℕ) × (z ≡ f q) × Moves A p a q
  pub accepts : (q : ℕ) → P q → is_accepting B (f q) ≡ is_accepting A q
  pub tells : (p q : ℕ) → P p → P q → f p ≡ f q → p ≡ q

module _ (A B : Automaton) (f : ℕ → ℕ) (P : ℕ → Type 0) (r : IsRenaming A B f P) where
  run_there : (p : ℕ) (w : List ℕ) (q : ℕ) (flag : Bool) → P p → Run A p w q flag → Run B (f p) w (f q) flag × P q
  run_there p [] q flag h (e, fl) = ((ap f e, fl), subst P e h)
  run_there p (a ∷ w) q flag h (next, later, move, rest, fl) =
      let here = r.stays p a next h move in
      let on = run_there next w q later here rest in
      ((f next, later, r.there p a next h move, on.0, fl ∙ ap (λ b. b || later) (sym (r.accepts next here))), on.1)

  run_back : (p : ℕ) (w : List ℕ) (z : ℕ) (flag : Bool) → P p → Run B (f p) w z flag → (q : ℕ) × (z ≡ f q) × P q × Run A p w q flag
  run_back p [] z flag h (e, fl) = (p, sym e, h, (refl, fl))
  run_back p (a ∷ w) z flag h (next, later, move, rest, fl) =
      let step = r.back p a next h move in
      let here = r.stays p a step.0 h step.2 in
      let on = run_back step.0 w z later here (subst (λ n. Run B n w z later) step.1 rest) in
      (on.0, on.1, on.2, (step.0, later, step.2, on.3, fl ∙ ap (λ n. is_accepting B n || later) step.1 ∙ ap (λ b. b || later) (r.accepts step.0 here)))

  accepting_there : (q : ℕ) → P q → IsAccepting A q → IsAccepting B (f q)
  accepting_there q h c = Contains-from_test B.accepting (f q) (r.accepts q h ∙ test-from_Contains A.accepting q c)

  accepting_back : (q : ℕ) → P q → IsAccepting B (f q) → IsAccepting A q
  accepting_back q h c = Contains-from_test A.accepting q (sym (r.accepts q h) ∙ test-from_Contains B.accepting (f q) c)

  lasso_there : (u v : List ℕ) → AcceptsLasso A u v → AcceptsLasso B u v
  lasso_there u v l =
      let enter = run_there A.initial (u ++ repeated v l.before) l.state l.flag r.first l.enters in
      record {
        before = l.before;
        turns = l.turns;
        state = f l.state;
        flag = l.flag;
        enters = subst (λ n. Run B n (u ++ repeated v l.before) (f l.state) l.flag) (sym r.initial) enter.0;
        some_turn = l.some_turn;
        cycles = (run_there l.state (repeated v l.turns) l.state true enter.1 l.cycles).0;
      }

  lasso_back : (u v : List ℕ) → AcceptsLasso B u v → AcceptsLasso A u v
  lasso_back u v l =
      let enter = run_back A.initial (u ++ repeated v l.before) l.state l.flag r.first (subst (λ n. Run B n (u ++ repeated v l.before) l.state l.flag) r.initial l.enters) in
      let q = enter.0 in
      let cycle = run_back q (repeated v l.turns) (f q) true enter.2 (subst (λ n. Run B n (repeated v l.turns) n true) enter.1 l.cycles) in
      let same = r.tells q cycle.0 enter.2 cycle.2 cycle.1 in
      record {
        before = l.before;
        turns = l.turns;
        state = q;
        flag = l.flag;
        enters = enter.3;
        some_turn = l.some_turn;
        cycles = subst (λ n. Run A q (repeated v l.turns) n true) (sym same) cycle.3;
      }

  word_there : (w : List ℕ) → AcceptsWord A w → AcceptsWord B w
  word_there w a =
      let run = run_there A.initial w a.state a.flag r.first a.run in
      record { state = f a.state; flag = a.flag; run = subst (λ n. Run B n w (f a.state) a.flag) (sym r.initial) run.0; ends = accepting_there a.state run.1 a.ends }

  word_back : (w : List ℕ) → AcceptsWord B w → AcceptsWord A w
  word_back w a =
      let run = run_back A.initial w a.state a.flag r.first (subst (λ n. Run B n w a.state a.flag) r.initial a.run) in
      record { state = run.0; flag = a.flag; run = run.3; ends = accepting_back run.0 run.2 (subst (IsAccepting B) run.1 a.ends) }

  pub renamed_same : (mode : Mode) → Same A B mode
  renamed_same Buchi = (lasso_there, lasso_back)
  renamed_same Finite = (word_there, word_back)
