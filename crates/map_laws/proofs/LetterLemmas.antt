-- Automata over classes of letters.
use Rattle.std.proofs.Common.{◌≡◌, ℕ, zero, suc, ◌<◌, ◌≤◌, Bool, true, ◌||◌, List, [], ◌∷◌, ◌++◌, map, Contains, ◌==◌, refl, sym, ap, ◌∙◌, subst, arith}
use Rattle.std.proofs.lemmas.List.{map-append, append-nil}
use Rattle.std.specs.List.{list_any}
use Rattle.auto_core.specs.Automaton.{Automaton, IsAutomaton, Moves, is_accepting}
use Rattle.auto_core.specs.Run.{Run, repeated}
use Rattle.auto_core.specs.Accept.{AcceptsLasso, AcceptsWord}
use Rattle.auto_core.specs.Quotient.{class_of}
use Rattle.auto_core.specs.declared.parts.Mode.TheVariants.{Buchi, Finite}
use Rattle.auto_core.proofs.MoveLemmas.{move_in_range}
use Rattle.auto_laws.proofs.PumpingLemmas.{reblock}
use Rattle.map_laws.specs.Maps.{CarriesOverBy, JoinsEqualColumns, classes_in, IsWordOver, IsRenamed}
use Rattle.map_laws.specs.Laws.{ClassesAreAccepted, ClassesTellTheSame, IsLassoOfClasses, LettersAreFound, InclusionOverClasses, SeparationOverClasses, SeparationByLetters}
use Rattle.map_laws.proofs.MapLemmas.{map-repeated, images_accepted, images_of_words}

-- ---- words over the labels

over_more : (n a : ℕ) (w : List ℕ) → a < n → IsWordOver n w → IsWordOver n (a ∷ w)
over_more n a w a_in h zero d lt = a_in
over_more n a w a_in h (suc k) d lt = h k d (omega arith)

over_first : (n a : ℕ) (w : List ℕ) → IsWordOver n (a ∷ w) → a < n
over_first n a w h = h zero a (omega arith)

over_rest : (n a : ℕ) (w : List ℕ) → IsWordOver n (a ∷ w) → IsWordOver n w
over_rest n a w h k d lt = h (suc k) d (omega arith)

over_join : (n : ℕ) (u v : List ℕ) → IsWordOver n u → IsWordOver n v → IsWordOver n (u ++ v)
over_join n [] v g h = h
over_join n (a ∷ u) v g h = over_more n a (u ++ v) (over_first n a u g) (over_join n u v (over_rest n a u g) h)

over_front : (n : ℕ) (u v : List ℕ) → IsWordOver n (u ++ v) → IsWordOver n u
over_front n [] v h = λ k d lt. absurd (omega arith)
over_front n (a ∷ u) v h = over_more n a u (over_first n a (u ++ v) h) (over_front n u v (over_rest n a (u ++ v) h))

over_repeated : (n : ℕ) (v : List ℕ) (k : ℕ) → IsWordOver n v → IsWordOver n (repeated v k)
over_repeated n v zero h = λ k d lt. absurd (omega arith)
over_repeated n v (suc k) h = over_join n v (repeated v k) h (over_repeated n v k h)

run_over : (A : Automaton) → IsAutomaton A → (p : ℕ) (w : List ℕ) (q : ℕ) (flag : Bool) → Run A p w q flag → IsWordOver A.labels w
run_over A valid p [] q flag h = λ k d lt. absurd (omega arith)
run_over A valid p (a ∷ w) q flag (next, later, m, rest, is) = over_more A.labels a w (move_in_range A valid p a next m).2 (run_over A valid next w q later rest)

loop_over : (A : Automaton) → IsAutomaton A → (v : List ℕ) (n p q : ℕ) (flag : Bool) → 1 ≤ n → Run A p (repeated v n) q flag → IsWordOver A.labels v
loop_over A valid v zero p q flag some run = absurd (omega arith)
loop_over A valid v (suc n) p q flag some run = over_front A.labels v (repeated v n) (run_over A valid p (v ++ repeated v n) q flag run)

-- ---- from letters to classes

module _ (A C : Automaton) (classes : List ℕ) (k : IsRenamed A classes C) where
  over_classes : CarriesOverBy A C (class_of classes) (λ q. q)
  over_classes = record {
    initial = k.initial;
    moves = λ p a q m. (k.moves p (class_of classes a) q).1 (a, m, refl);
    accepting = λ q h. subst (λ l. Contains l q) (sym k.accepting) h;
  }

  same_test : (q : ℕ) → is_accepting C q ≡ is_accepting A q
  same_test q = ap (λ l. list_any (λ x. x == q) l) k.accepting

  -- a run over classes is one on letters of these classes
  letters_of : (p : ℕ) (cw : List ℕ) (q : ℕ) (flag : Bool) → Run C p cw q flag → (w : List ℕ) × (classes_in classes w ≡ cw) × Run A p w q flag
  letters_of p [] q flag h = ([], refl, h)
  letters_of p (c ∷ cw) q flag (next, later, m, rest, is) =
      let (a, move, c_is) = (k.moves p c next).0 m in
      let (w, reads, run) = letters_of next cw q later rest in (
        a ∷ w,
        ap (λ x. x ∷ classes_in classes w) (sym c_is) ∙ ap (λ l. c ∷ l) reads,
        (next, later, move, run, is ∙ ap (λ b. b || later) (same_test next)),
      )

  -- a run over classes of a word is one on the word, if letters of one class have the same moves
  on_letters : JoinsEqualColumns A classes → IsAutomaton A → (p : ℕ) (w : List ℕ) (q : ℕ) (flag : Bool) → IsWordOver A.labels w → Run C p (classes_in classes w) q flag → Run A p w q flag
  on_letters joins valid p [] q flag over h = h
  on_letters joins valid p (a ∷ w) q flag over (next, later, m, rest, is) =
      let (b, move, same) = (k.moves p (class_of classes a) next).0 m in
      let a_in = over_first A.labels a w over in
      let b_in = (move_in_range A valid p b next move).2 in
      let here : Moves A p a next = (joins a b a_in b_in same p next).1 move in
      (next, later, here, on_letters joins valid next w q later (over_rest A.labels a w over) rest, is ∙ ap (λ b. b || later) (same_test next))

  lasso_on_letters : JoinsEqualColumns A classes → IsAutomaton A → (u v : List ℕ) → IsWordOver A.labels u → IsWordOver A.labels v → AcceptsLasso C (classes_in classes u) (classes_in classes v) → AcceptsLasso A u v
  lasso_on_letters joins valid u v u_over v_over acc =
      let f = class_of classes in
      let way : map f (u ++ repeated v acc.before) ≡ map f u ++ repeated (map f v) acc.before =
      map-append f u (repeated v acc.before) ∙ ap (λ l. map f u ++ l) (map-repeated f v acc.before) in
      let enters = subst (λ l. Run C C.initial l acc.state acc.flag) (sym way) acc.enters in
      let cycles = subst (λ l. Run C acc.state l acc.state true) (sym (map-repeated f v acc.turns)) acc.cycles in
      record {
        before = acc.before;
        turns = acc.turns;
        state = acc.state;
        flag = acc.flag;
        enters = on_letters joins valid A.initial (u ++ repeated v acc.before) acc.state acc.flag
            (over_join A.labels u (repeated v acc.before) u_over (over_repeated A.labels v acc.before v_over))
            (subst (λ x. Run C x (map f (u ++ repeated v acc.before)) acc.state acc.flag) k.initial enters);
        some_turn = acc.some_turn;
        cycles = on_letters joins valid acc.state (repeated v acc.turns) acc.state true (over_repeated A.labels v acc.turns v_over) cycles;
      }

  word_on_letters : JoinsEqualColumns A classes → IsAutomaton A → (w : List ℕ) → IsWordOver A.labels w → AcceptsWord C (classes_in classes w) → AcceptsWord A w
  word_on_letters joins valid w over acc = record {
    state = acc.state;
    flag = acc.flag;
    run = on_letters joins valid A.initial w acc.state acc.flag over (subst (λ x. Run C x (classes_in classes w) acc.state acc.flag) k.initial acc.run);
    ends = subst (λ l. Contains l acc.state) k.accepting acc.ends;
  }

  lasso_of_letters : (cu cv : List ℕ) → AcceptsLasso C cu cv → (u v : List ℕ) × IsLassoOfClasses A classes cu cv u v
  lasso_of_letters cu cv acc =
      let (u, u_reads, enters) = letters_of C.initial (cu ++ repeated cv acc.before) acc.state acc.flag acc.enters in
      let (v, v_reads, cycles) = letters_of acc.state (repeated cv acc.turns) acc.state true acc.cycles in (
        u,
        v,
        record {
          before = acc.before;
          turns = acc.turns;
          some_turn = acc.some_turn;
          prefix = u_reads;
          turn = v_reads;
          accepted = record {
            before = 0;
            turns = 1;
            state = acc.state;
            flag = acc.flag;
            enters = subst (λ l. Run A A.initial l acc.state acc.flag) (sym (append-nil u)) (subst (λ x. Run A x u acc.state acc.flag) k.initial enters);
            some_turn = omega arith;
            cycles = subst (λ l. Run A acc.state l acc.state true) (sym (append-nil v)) cycles;
          };
        },
      )

  word_of_letters : (cw : List ℕ) → AcceptsWord C cw → (w : List ℕ) × (classes_in classes w ≡ cw) × AcceptsWord A w
  word_of_letters cw acc =
      let (w, reads, run) = letters_of C.initial cw acc.state acc.flag acc.run in (
        w,
        reads,
        record {
          state = acc.state;
          flag = acc.flag;
          run = subst (λ x. Run A x w acc.state acc.flag) k.initial run;
          ends = subst (λ l. Contains l acc.state) k.accepting acc.ends;
        },
      )

pub classes_accepted : ClassesAreAccepted
classes_accepted A C classes k u v acc = images_accepted A C (class_of classes) (λ q. q) (over_classes A C classes k) u v acc

pub tell_the_same : ClassesTellTheSame
tell_the_same B D classes valid joins k u v u_over v_over = (classes_accepted B D classes k u v, lasso_on_letters B D classes k joins valid u v u_over v_over)

pub letters_found : LettersAreFound
letters_found A C classes k cu cv acc = lasso_of_letters A C classes k cu cv acc

-- a lasso of classes that the letters' lasso reads as
read_back : (A D : Automaton) (classes cu cv u v : List ℕ) → IsLassoOfClasses A classes cu cv u v → AcceptsLasso D (classes_in classes u) (classes_in classes v) → AcceptsLasso D cu cv
read_back A D classes cu cv u v is acc =
    reblock D cu cv is.before is.turns is.some_turn
    (subst (λ l. AcceptsLasso D (cu ++ repeated cv is.before) l) is.turn (subst (λ l. AcceptsLasso D l (classes_in classes v)) is.prefix acc))

pub included_over_classes : InclusionOverClasses
included_over_classes A B C D classes Buchi valid second labels joins k l = (
  λ included cu cv acc.
      let (u, v, is) = lasso_of_letters A C classes k cu cv acc in
      read_back A D classes cu cv u v is (classes_accepted B D classes l u v (included u v is.accepted)),
  λ included u v acc.
      let u_over = over_front A.labels u (repeated v acc.before) (run_over A valid A.initial (u ++ repeated v acc.before) acc.state acc.flag acc.enters) in
      let v_over = loop_over A valid v acc.turns acc.state acc.state true acc.some_turn acc.cycles in
      lasso_on_letters B D classes l joins second u v (subst (λ n. IsWordOver n u) labels u_over) (subst (λ n. IsWordOver n v) labels v_over)
      (included (classes_in classes u) (classes_in classes v) (classes_accepted A C classes k u v acc)),
)
included_over_classes A B C D classes Finite valid second labels joins k l = (
  λ included cw acc.
      let (w, reads, word) = word_of_letters A C classes k cw acc in
      subst (λ x. AcceptsWord D x) reads (images_of_words B D (class_of classes) (λ q. q) (over_classes B D classes l) w (included w word)),
  λ included w acc.
      let over = run_over A valid A.initial w acc.state acc.flag acc.run in
      word_on_letters B D classes l joins second w (subst (λ n. IsWordOver n w) labels over)
      (included (classes_in classes w) (images_of_words A C (class_of classes) (λ q. q) (over_classes A C classes k) w acc)),
)

pub separated_over_classes : SeparationOverClasses
separated_over_classes A B C D classes k l cu cv apart =
    let (u, v, is) = lasso_of_letters A C classes k cu cv apart.0 in
    (u, v, is, (is.accepted, λ acc. apart.1 (read_back A D classes cu cv u v is (classes_accepted B D classes l u v acc))))

pub separated_by_letters : SeparationByLetters
separated_by_letters A B D classes l u v acc rejected = (acc, λ b. rejected (classes_accepted B D classes l u v b))
