-- A ranked product includes: along a turn of A's loop B accepts or the rank falls, so after some turns B accepts.
use Rattle.std.proofs.Common.{◌≡◌, ℕ, zero, suc, ◌+◌, ◌<◌, ◌≤◌, ◌⊎◌, Bool, true, false, ◌||◌, List, [], ◌∷◌, ◌++◌, refl, sym, subst, inl, inr, arith, le_refl, append-nil}
use Rattle.std.proofs.lemmas.Bool.{or_cases, or_left, or_right, false≢true}
use Rattle.auto_core.specs.Automaton.{Automaton, Moves, IsAutomaton, is_accepting}
use Rattle.auto_core.specs.Run.{Run, Path, end_of, some_accepting, repeated}
use Rattle.auto_core.specs.Accept.{AcceptsLasso, Includes}
use Rattle.auto_core.specs.Game.{Chain}
use Rattle.auto_core.specs.declared.parts.Mode.TheVariants.{Buchi}
use Rattle.auto_core.proofs.PathLemmas.{path_of_run, run_join, accepting_from_test, test_from_accepting}
use Rattle.auto_laws.proofs.PumpingLemmas.{chain_repeats, run_in_range, repeated-add, reblock}
use Rattle.product_laws.specs.declared.RankedPair.{RankedPair}
use Rattle.product_laws.specs.Ranked.{HasRank, RankGoesOn, IsRankedProduct}
use Rattle.product_laws.specs.Laws.{RankedProductIncludes}

module _ (A B : Automaton) (pairs : List RankedPair) (product : IsRankedProduct A B pairs) where
  abbrev Ranked : ℕ → ℕ → ℕ → Type 0
  Ranked p q rank = HasRank pairs p q rank

  -- What the rank has come to: B has accepted, or it has not grown, and has fallen if A has accepted.
  abbrev Came : Bool → Bool → ℕ → ℕ → Type 0
  Came left right before after = (right ≡ true) ⊎ ((after ≤ before) × (left ≡ true → after < before))

  -- Each move has its answer.
  answer : (p q rank a r : ℕ) → Ranked p q rank → Moves A p a r → (s : ℕ) × (after : ℕ) × Moves B q a s × Ranked r s after × RankGoesOn A B rank r s after
  answer p q rank a r there move =
      let x : RankedPair = record { left = p; right = q; rank = rank } in
      let one = product.moves x there a r move in
      let s : ℕ = one.0 in
      let found : (k : ℕ) × Ranked r s k = one.2 in
      (s, found.0, one.1, found.1, product.ranks x there a r move s found.0 one.1 found.1)

  -- Along a path B accepts, or the rank does not grow, and falls if A accepts.
  follow : (p : ℕ) (w ps : List ℕ) (q rank : ℕ) → Path A p w ps → Ranked p q rank →
      (t : ℕ) × (after : ℕ) × (flag : Bool) × Run B q w t flag × Ranked (end_of p ps) t after × Came (some_accepting A ps) flag rank after
  follow p [] [] q rank path there = (q, rank, false, (refl, refl), there, inr (le_refl rank, λ on. absurd (false≢true on)))
  follow p [] (r ∷ ps) q rank path there = absurd path
  follow p (a ∷ w) [] q rank path there = absurd path
  follow p (a ∷ w) (r ∷ ps) q rank path there =
      let one = answer p q rank a r there path.0 in
      let s : ℕ = one.0 in
      let next : ℕ = one.1 in
      let rest = follow r w ps s next path.1 one.3 in
      let after : ℕ = rest.1 in
      let goes : Came (some_accepting A ps) rest.2 next after = rest.5 in (
        rest.0,
        after,
        is_accepting B s || rest.2,
        (s, rest.2, one.2, rest.3, refl),
        rest.4,
        elim one.4 [
          | inl here ↦ inl (or_left (is_accepting B s) rest.2 (test_from_accepting B s here))
          | inr (low, less) ↦ elim goes [
            | inl later ↦ inl (or_right (is_accepting B s) rest.2 later)
            | inr (lower, falls) ↦ inr (
              omega arith,
              λ marked. elim (or_cases (is_accepting A r) (some_accepting A ps) marked) [
                | inl now ↦ let lt : next < rank = less (accepting_from_test A r now) in omega arith
                | inr later ↦ let lt : after < next = falls later in omega arith
              ],
            )
          ]
        ],
      )

  -- Round a walk of A past an accepting state: after some turns B has accepted.
  module _ (p : ℕ) (y ps : List ℕ) (path : Path A p y ps) (closes : end_of p ps ≡ p) (marked : some_accepting A ps ≡ true) where
    abbrev Turn : ℕ → ℕ → Type 0
    Turn s t = (m : ℕ) × (1 ≤ m) × Run B s (repeated y m) t true

    once : (q rank : ℕ) → Ranked p q rank → (t : ℕ) × (after : ℕ) × (flag : Bool) × Run B q y t flag × Ranked p t after × ((flag ≡ true) ⊎ (after < rank))
    once q rank there =
        let r = follow p y ps q rank path there in (
          r.0,
          r.1,
          r.2,
          r.3,
          subst (λ x. Ranked x r.0 r.1) closes r.4,
          elim r.5 [ inl on ↦ inl on | inr (low, falls) ↦ inr (falls marked) ],
        )

    one_turn : (q t : ℕ) → Run B q y t true → Turn q t
    one_turn q t run = (1, omega arith, subst (λ l. Run B q l t true) (sym (append-nil y)) run)

    turn_more : (q t s : ℕ) (flag : Bool) → Run B q y t flag → Turn t s → Turn q s
    turn_more q t s flag run (m, some, more) =
        (suc m, omega arith, subst (λ b. Run B q (y ++ repeated y m) s b) (or_right flag true refl) (run_join B q y t flag (repeated y m) s true run more))

    turn : (k q rank : ℕ) → Ranked p q rank → rank ≤ k → (t : ℕ) × (after : ℕ) × Turn q t × Ranked p t after
    turn zero q rank there most =
        let one = once q rank there in
        elim one.5 [
          | inl on ↦ (one.0, one.1, one_turn q one.0 (subst (λ b. Run B q y one.0 b) on one.3), one.4)
          | inr less ↦ absurd (omega arith)
        ]
    turn (suc k) q rank there most =
        let one = once q rank there in
        elim one.5 [
          | inl on ↦ (one.0, one.1, one_turn q one.0 (subst (λ b. Run B q y one.0 b) on one.3), one.4)
          | inr less ↦
              let more = turn k one.0 one.1 one.4 (omega arith) in
              (more.0, more.1, turn_more q one.0 more.0 one.2 one.3 more.2, more.3)
        ]

    turns : (n q rank : ℕ) → Ranked p q rank → (t : ℕ) × Chain Turn n q t
    turns zero q rank there = (q, refl)
    turns (suc n) q rank there =
        let one = turn rank q rank there (le_refl rank) in
        let more = turns n one.0 one.1 one.3 in
        (more.0, (one.0, one.2, more.1))

    run_of_turns : (n q t : ℕ) → Chain Turn n q t → (m : ℕ) × (flag : Bool) × (n ≤ m) × Run B q (repeated y m) t flag × (1 ≤ n → flag ≡ true)
    run_of_turns zero q t c = (0, false, le_refl 0, (c, refl), λ some. absurd (omega arith))
    run_of_turns (suc n) q t (s, (m, some, run), c) =
        let more = run_of_turns n s t c in
        let long : n ≤ more.0 = more.2 in (
          m + more.0,
          true,
          omega arith,
          subst (λ l. Run B q l t true) (sym (repeated-add y m more.0)) (run_join B q (repeated y m) s true (repeated y more.0) t more.1 run more.3),
          λ first. refl,
        )

    lasso : IsAutomaton B → (u : List ℕ) (q rank : ℕ) (flag : Bool) → Run B B.initial u q flag → Ranked p q rank → AcceptsLasso B u y
    lasso valid u q rank flag enters there =
        let below : q < B.states = run_in_range B valid B.initial u q flag valid.initial_is_state enters in
        let many = turns B.states q rank there in
        let again = chain_repeats Turn B.states (λ s t lt turn. run_in_range B valid s (repeated y turn.0) t true lt turn.2) B.states q many.0 (le_refl B.states) below many.1 in
        let front = run_of_turns again.1 q again.0 again.3 in
        let round = run_of_turns again.2 again.0 again.0 again.5 in
        let some : 1 ≤ again.2 = again.4 in
        let long : again.2 ≤ round.0 = round.2 in
        record {
          before = front.0;
          turns = round.0;
          state = again.0;
          flag = flag || front.1;
          enters = run_join B B.initial u q flag (repeated y front.0) again.0 front.1 enters front.3;
          some_turn = omega arith;
          cycles = subst (λ b. Run B again.0 (repeated y round.0) again.0 b) (round.4 some) round.3;
        }

  included : IsAutomaton B → Includes A B Buchi
  included valid u v h =
      let front = path_of_run A A.initial (u ++ repeated v h.before) h.state h.flag h.enters in
      let round = path_of_run A h.state (repeated v h.turns) h.state true h.cycles in
      let starts : (k : ℕ) × Ranked A.initial B.initial k = product.starts in
      let enters = follow A.initial (u ++ repeated v h.before) front.0 B.initial starts.0 front.1 starts.1 in
      let at : Ranked h.state enters.0 enters.1 = subst (λ x. Ranked x enters.0 enters.1) front.2 enters.4 in
      reblock B u v h.before h.turns h.some_turn
      (lasso h.state (repeated v h.turns) round.0 round.1 round.2 round.3 valid (u ++ repeated v h.before) enters.0 enters.1 enters.2 enters.3 at)

pub ranked_product_includes : RankedProductIncludes
ranked_product_includes A B pairs valid product = included A B pairs product valid
