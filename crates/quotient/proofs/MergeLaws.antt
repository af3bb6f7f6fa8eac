-- Runs of an automaton and of its quotient.
use Rattle.std.proofs.Common.{◌≡◌, ℕ, ◌<◌, ◌≤◌, inl, inr, Bool, true, false, ◌||◌, List, [], ◌∷◌, ◌++◌, refl, sym, ap, ◌∙◌, subst, arith, reverse}
use Rattle.std.proofs.lemmas.Bool.{cases_lt, or_cases, or_left, or_right}
use Rattle.std.proofs.lemmas.List.{reverse-reverse}
use Rattle.std.proofs.lemmas.List.Elements.{All-contains}
use Rattle.auto_core.specs.Automaton.{Automaton, IsAutomaton, Moves, IsAccepting, is_accepting}
use Rattle.auto_core.specs.Run.{Run, PathBy, Path, end_of, repeated}
use Rattle.auto_core.specs.Accept.{AcceptsLasso, AcceptsWord}
use Rattle.auto_core.specs.Game.{BackwardMoves, MatchesForward, MatchesBackward, AllMatched, StableForward, StableBackward}
use Rattle.auto_core.specs.Quotient.{class_of, IsQuotient, RelatesMembers}
use Rattle.auto_core.specs.declared.parts.Mode.TheVariants.{Buchi, Finite}
use Rattle.auto_core.proofs.PathLemmas.{accepting_from_test, test_from_accepting}
use Rattle.auto_core.proofs.MoveLemmas.{move_in_range}
use Rattle.auto_core.proofs.SetLemmas.{same_automaton}
use Rattle.auto_laws.specs.Paths.{turned}
use Rattle.auto_laws.specs.Games.{IsFollowed}
use Rattle.auto_laws.specs.Transfer.{FollowsFromStart}
use Rattle.auto_laws.proofs.MatchLemmas.{forward_trans, backward_trans, matched_trans, matched_weaker}
use Rattle.auto_laws.proofs.TurnLemmas.{path_turned, end_of-turned, turned-turned, matched_turned}
use Rattle.auto_laws.proofs.AppliedLemmas.{followed_forward, followed_backward}
use Rattle.auto_laws.proofs.TransferLemmas.{transfer, transfer_words}
use Rattle.quotient.specs.Laws.{QuotientAcceptsMore, ForwardQuotientIsSame, BackwardQuotientIsSame, QuotientIsOne}

-- ---- a path through classes has a path through states, from any member of its first class

module _ (M : ℕ → ℕ → ℕ → Type 0) (ok : ℕ → ℕ → Type 0) (joins : (p q r : ℕ) → ok p q → ok q r → ok p r)
    (IsState : ℕ → Type 0) (class : ℕ → ℕ) (stays : (p a q : ℕ) → M p a q → IsState p × IsState q)
    (same : (p q : ℕ) → IsState p → IsState q → class p ≡ class q → ok p q × ((w ps : List ℕ) → PathBy M p w ps → IsFollowed M ok q w ps)) where
  -- a move of a member of the one class leads to a member of the other
  abbrev pub ClassMoves : ℕ → ℕ → ℕ → Type 0
  ClassMoves c a d = (p q : ℕ) × M p a q × (c ≡ class p) × (d ≡ class q)

  -- the state matches each member of the class
  abbrev pub Stands : ℕ → ℕ → Type 0
  Stands c x = (y : ℕ) → IsState y → c ≡ class y → ok y x

  pub member_stands : (c x : ℕ) → IsState x → c ≡ class x → Stands c x
  member_stands c x st e = λ y y_st f. (same y x y_st st (sym f ∙ e)).0

  pub represented : (c : ℕ) (w cs : List ℕ) → PathBy ClassMoves c w cs → (x : ℕ) → IsState x → c ≡ class x → (xs : List ℕ) × PathBy M x w xs × AllMatched Stands cs xs
  represented c [] [] h x st e = ([], tt, tt)
  represented c [] (d ∷ cs) h x st e = absurd h
  represented c (a ∷ w) [] h x st e = absurd h
  represented c (a ∷ w) (d ∷ cs) ((p, q, m, c_is, d_is), rest) x st e =
      let states = stays p a q m in
      let (ys, path, stand) = represented d w cs rest q states.1 d_is in
      let (xs, goes, matched) = (same p x states.0 st (sym c_is ∙ e)).1 (a ∷ w) (q ∷ ys) (m, path) in
      (xs, goes, matched_trans Stands ok Stands (λ b y z s o u u_st f. joins u y z (s u u_st f) o) (d ∷ cs) (q ∷ ys) xs (member_stands d q states.1 d_is, stand) matched)

path_as : (M N : ℕ → ℕ → ℕ → Type 0) → ((p a q : ℕ) → M p a q → N p a q) → (p : ℕ) (w ps : List ℕ) → PathBy M p w ps → PathBy N p w ps
path_as M N f p [] [] h = tt
path_as M N f p [] (q ∷ ps) h = absurd h
path_as M N f p (a ∷ w) [] h = absurd h
path_as M N f p (a ∷ w) (q ∷ ps) h = (f p a q h.0, path_as M N f q w ps h.1)

pub accepting_below : (A : Automaton) → IsAutomaton A → (q : ℕ) → IsAccepting A q → q < A.states
accepting_below A valid q h = All-contains (λ x. x < A.states) A.accepting q valid.accepting_in_range h

end_below : (B : Automaton) → IsAutomaton B → (p : ℕ) (w ps : List ℕ) → p < B.states → Path B p w ps → end_of p ps < B.states
end_below B valid p [] [] p_in h = p_in
end_below B valid p [] (q ∷ ps) p_in h = absurd h
end_below B valid p (a ∷ w) [] p_in h = absurd h
end_below B valid p (a ∷ w) (q ∷ ps) p_in h = end_below B valid q w ps (move_in_range B valid p a q h.0).1 h.1

module _ (A B : Automaton) (classes : List ℕ) (valid : IsAutomaton A) (k : IsQuotient A classes B) where
  IsMember : ℕ → Type 0
  IsMember q = q < A.states

  moves_stay : (p a q : ℕ) → Moves A p a q → (p < A.states) × (q < A.states)
  moves_stay p a q m = let r = move_in_range A valid p a q m in (r.0, r.1)

  module _ (S : List (ℕ × ℕ)) (n : ℕ) (some : 1 ≤ n) (related : RelatesMembers A classes S) where
    followed : StableForward A n S → FollowsFromStart B A
    followed stable w ps path =
        let rep = represented (Moves A) (MatchesForward A A) (forward_trans A A A) (λ q. q < A.states) (class_of classes) moves_stay
        (λ p q p_in q_in e. followed_forward A n S some stable p q (related p q p_in q_in e))
        B.initial w ps (path_as (Moves B) _ (λ c a d m. (k.moves c a d).0 m) B.initial w ps path) A.initial valid.initial_is_state k.initial in (
          rep.0,
          rep.1,
          matched_weaker _ (MatchesForward B A) (λ c x s acc. let (y, y_acc, c_is) = (k.accepting c).0 acc in s y (accepting_below A valid y y_acc) c_is y_acc) ps rep.0 rep.2,
        )

    first_matches : StableForward A n S → MatchesForward B A B.initial A.initial
    first_matches stable acc =
        let (y, y_acc, c_is) = (k.accepting B.initial).0 acc in
        (followed_forward A n S some stable y A.initial (related y A.initial (accepting_below A valid y y_acc) valid.initial_is_state (sym c_is ∙ k.initial))).0 y_acc

    -- what every member of a class asks, backward
    abbrev Asked : ℕ → ℕ → Type 0
    Asked c x = (y : ℕ) → y < A.states → c ≡ class_of classes y → MatchesBackward A A y x

    followed_back : StableBackward A n S → FollowsFromStart B A
    followed_back stable w ps path =
        let c = end_of B.initial ps in
        let turns = turned B.initial ps in
        let same = λ (p q : ℕ) (p_in : p < A.states) (q_in : q < A.states) (e : class_of classes p ≡ class_of classes q). followed_backward A n S some stable p q (related p q p_in q_in e) in
        let (x, x_in, c_is) = (k.states c).0 (end_below B k.valid B.initial w ps k.valid.initial_is_state path) in
        let back : PathBy (BackwardMoves B) c (reverse w) turns = path_turned (Moves B) B.initial w ps path in
        let stay : (p a q : ℕ) → BackwardMoves A p a q → (p < A.states) × (q < A.states) = λ p a q m. let r = moves_stay q a p m in (r.1, r.0) in
        let rep = represented (BackwardMoves A) (MatchesBackward A A) (backward_trans A A A) (λ q. q < A.states) (class_of classes) stay same
        c (reverse w) turns
        (path_as (BackwardMoves B) _ (λ d a e m. let (p, q, move, e_is, d_is) = (k.moves e a d).0 m in (q, p, move, d_is, e_is)) c (reverse w) turns back) x x_in c_is in
        let xs = rep.0 in
        let here : Asked c x = member_stands (BackwardMoves A) (MatchesBackward A A) (backward_trans A A A) (λ q. q < A.states) (class_of classes) stay same c x x_in c_is in
        let whole : AllMatched Asked (end_of c turns ∷ turned c turns) (end_of x xs ∷ turned x xs) = matched_turned Asked c x turns xs (here, rep.2) in
        let first : Asked B.initial (end_of x xs) = subst (λ b. Asked b (end_of x xs)) (end_of-turned B.initial ps) whole.0 in
        let start : end_of x xs ≡ A.initial = (first A.initial valid.initial_is_state k.initial).1 refl in
        let rest : AllMatched Asked ps (turned x xs) = subst (λ l. AllMatched Asked l (turned x xs)) (turned-turned B.initial ps) whole.1 in
        let goes : Path A (end_of x xs) (reverse (reverse w)) (turned x xs) = path_turned (BackwardMoves A) x (reverse w) xs rep.1 in (
          turned x xs,
          subst (λ b. Path A b w (turned x xs)) start (subst (λ l. Path A (end_of x xs) l (turned x xs)) (reverse-reverse w) goes),
          matched_weaker Asked (MatchesForward B A) (λ d z s acc. let (y, y_acc, d_is) = (k.accepting d).0 acc in (s y (accepting_below A valid y y_acc) d_is).0 y_acc) ps (turned x xs) rest,
        )

    first_matches_back : StableBackward A n S → MatchesForward B A B.initial A.initial
    first_matches_back stable acc =
        let (y, y_acc, c_is) = (k.accepting B.initial).0 acc in
        (followed_backward A n S some stable y A.initial (related y A.initial (accepting_below A valid y y_acc) valid.initial_is_state (sym c_is ∙ k.initial))).0.0 y_acc

-- ---- runs of A have images

module _ (A B : Automaton) (classes : List ℕ) (k : IsQuotient A classes B) where
  accepts_too : (q : ℕ) → is_accepting A q ≡ true → is_accepting B (class_of classes q) ≡ true
  accepts_too q h = test_from_accepting B (class_of classes q) ((k.accepting (class_of classes q)).1 (q, accepting_from_test A q h, refl))

  image : (p : ℕ) (w : List ℕ) (q : ℕ) (flag : Bool) → Run A p w q flag → (more : Bool) × Run B (class_of classes p) w (class_of classes q) more × (flag ≡ true → more ≡ true)
  image p [] q flag (e, f) = (false, (ap (class_of classes) e, refl), λ t. sym f ∙ t)
  image p (a ∷ w) q flag (next, later, m, rest, is) =
      let (more, run, gives) = image next w q later rest in (
        is_accepting B (class_of classes next) || more,
        (class_of classes next, more, (k.moves (class_of classes p) a (class_of classes next)).1 (p, next, m, refl, refl), run, refl),
        λ t.
            elim (or_cases (is_accepting A next) later (sym is ∙ t)) [
              | inl here ↦ or_left (is_accepting B (class_of classes next)) more (accepts_too next here)
              | inr after ↦ or_right (is_accepting B (class_of classes next)) more (gives after)
            ],
      )

  more_lassos : (u v : List ℕ) → AcceptsLasso A u v → AcceptsLasso B u v
  more_lassos u v acc =
      let (f, enters, _) = image A.initial (u ++ repeated v acc.before) acc.state acc.flag acc.enters in
      let (g, cycles, gives) = image acc.state (repeated v acc.turns) acc.state true acc.cycles in
      record {
        before = acc.before;
        turns = acc.turns;
        state = class_of classes acc.state;
        flag = f;
        enters = subst (λ x. Run B x (u ++ repeated v acc.before) (class_of classes acc.state) f) (sym k.initial) enters;
        some_turn = acc.some_turn;
        cycles = subst (λ b. Run B (class_of classes acc.state) (repeated v acc.turns) (class_of classes acc.state) b) (gives refl) cycles;
      }

  more_words : (w : List ℕ) → AcceptsWord A w → AcceptsWord B w
  more_words w acc =
      let (f, run, _) = image A.initial w acc.state acc.flag acc.run in
      record {
        state = class_of classes acc.state;
        flag = f;
        run = subst (λ x. Run B x w (class_of classes acc.state) f) (sym k.initial) run;
        ends = (k.accepting (class_of classes acc.state)).1 (acc.state, acc.ends, refl);
      }

-- ---- the laws

pub accepts_more : QuotientAcceptsMore
accepts_more A B classes Buchi k = λ u v acc. more_lassos A B classes k u v acc
accepts_more A B classes Finite k = λ w acc. more_words A B classes k w acc

pub forward_same : ForwardQuotientIsSame
forward_same A B classes n S Buchi valid some stable related k =
    (accepts_more A B classes Buchi k, transfer B A valid (followed A B classes valid k S n some related stable))
forward_same A B classes n S Finite valid some stable related k =
    (accepts_more A B classes Finite k, transfer_words B A (first_matches A B classes valid k S n some related stable) (followed A B classes valid k S n some related stable))

pub backward_same : BackwardQuotientIsSame
backward_same A B classes n S Buchi valid some stable related k =
    (accepts_more A B classes Buchi k, transfer B A valid (followed_back A B classes valid k S n some related stable))
backward_same A B classes n S Finite valid some stable related k =
    (accepts_more A B classes Finite k, transfer_words B A (first_matches_back A B classes valid k S n some related stable) (followed_back A B classes valid k S n some related stable))

below_same : (m n : ℕ) → ((c : ℕ) → c < m → c < n) → ((c : ℕ) → c < n → c < m) → m ≡ n
below_same m n to from = elim (cases_lt m n) [
  | inl lt ↦ absurd (omega (arith, from m lt))
  | inr le ↦ elim (cases_lt n m) [ inl lt ↦ absurd (omega (arith, to n lt)) | inr ge ↦ omega arith ]
]

pub quotient_one : QuotientIsOne
quotient_one A B C classes k l =
    same_automaton B C k.valid l.valid
    (below_same B.states C.states (λ c h. (l.states c).1 ((k.states c).0 h)) (λ c h. (k.states c).1 ((l.states c).0 h)))
    (k.labels ∙ sym l.labels) (k.initial ∙ sym l.initial)
    (λ p a q. (λ h. (l.moves p a q).1 ((k.moves p a q).0 h), λ h. (k.moves p a q).1 ((l.moves p a q).0 h)))
    (λ p. (λ h. (l.accepting p).1 ((k.accepting p).0 h), λ h. (k.accepting p).1 ((l.accepting p).0 h)))
