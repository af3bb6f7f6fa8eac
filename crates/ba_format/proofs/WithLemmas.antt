-- An automaton over labels that begin with its own, and that what a written automaton's text reads as accepts what it does.
use Rattle.std.proofs.Common.{◌≡◌, ℕ, zero, suc, ◌+◌, ◌^◌, ◌<◌, ◌≤◌, Bool, true, false, not, cond, List, [], ◌∷◌, ◌++◌, length, map, filter, get_or, Contains, refl, sym, ◌∙◌, ap, subst, arith}
use Rattle.std.specs.List.{list_any}
use Rattle.std.proofs.lemmas.List.{length-append}
use Rattle.std.proofs.lemmas.List.Elements.{All-contains}
use Rattle.std.specs.List.Sorted.{IsPermutation}
use Rattle.std.proofs.lemmas.List.Sorted.{IsPermutation-refl}
use Rattle.auto_core.specs.declared.parts.Trans.{Trans}
use Rattle.auto_core.specs.Automaton.{Automaton, IsAutomaton, IsInRange, trans}
use Rattle.auto_core.specs.Accept.{Includes, Same}
use Rattle.auto_core.specs.declared.parts.Mode.{Mode}
use Rattle.auto_core.specs.declared.parts.Mode.TheVariants.{Buchi, Finite}
use Rattle.ba_format.specs.declared.parts.Limits.{Limits}
use Rattle.ba_format.specs.declared.parts.Named.{Named}
use Rattle.ba_format.specs.declared.parts.Joined.{Joined}
use Rattle.ba_format.specs.Joining.{joined_labels, relabelled, IsRelabelled, IsJoined}
use Rattle.ba_format.specs.Laws.{IsWritable}
use Rattle.ba_format.specs.Reading.{Reads}
use Rattle.ba_format.specs.Sight.{same_text, place_in, AreDifferent}
use Rattle.ba_format.specs.Writing.{written}
use Rattle.ba_format.proofs.BackLemmas.{written_reads_back}
use Rattle.ba_format.proofs.LawLemmas.{contains_first, contains_later}
use Rattle.ba_format.proofs.RenameLemmas.{IsRenaming, renamed_same}
use Rattle.ba_format.proofs.SightLemmas.{same_text-refl, same_text-equal}
use Rattle.ba_format.proofs.JoinedReadLemmas.{valid_with}

-- ---- the first labels keep their numbers

differs : (text other : List ℕ) → (other ≡ text → ⊥) → same_text text other ≡ false
differs text other h = by (same_text text other) refl
  where
    by : (b : Bool) → same_text text other ≡ b → b ≡ false
    by true e = absurd (h (sym (same_text-equal text other e)))
    by false e = refl

number_here : (labels more : List (List ℕ)) (a : ℕ) → AreDifferent labels → a < length labels → place_in same_text (labels ++ more) (get_or labels a []) ≡ a
number_here [] more a different lt = absurd (omega arith)
number_here (x ∷ xs) more zero different lt = ap (λ b. cond (not b) (1 + place_in same_text (xs ++ more) x) 0) (same_text-refl x)
number_here (x ∷ xs) more (suc k) different lt =
    let text = get_or xs k [] in
    let other : same_text text x ≡ false = differs text x (different zero (suc k) [] (omega arith) lt) in
    let rest = number_here xs more k (λ i j d short within. different (suc i) (suc j) d (omega arith) (omega arith)) (omega arith) in
    let step = ap (λ b. cond (not b) (1 + place_in same_text (xs ++ more) text) 0) other in
    let sum : 1 + place_in same_text (xs ++ more) text ≡ suc k = omega (arith, rest) in
    step ∙ sum

map_itself : (f : Trans → Trans) (ts : List Trans) → ((t : Trans) → Contains ts t → f t ≡ t) → map f ts ≡ ts
map_itself f [] h = refl
map_itself f (t ∷ ts) h = λ i. h t (contains_first t ts) i ∷ map_itself f ts (λ u c. h u (contains_later t ts u c)) i

-- ---- an automaton with more labels

abbrev pub with_labels : Automaton → ℕ → Automaton
with_labels A n = record { states = A.states; labels = n; initial = A.initial; transitions = A.transitions; accepting = A.accepting }

pub same_with : (A : Automaton) (n : ℕ) (m : Mode) → Same A (with_labels A n) m
same_with A n m = renamed_same A (with_labels A n) (λ q. q) (λ q. Unit {0}) renaming m
  where
    renaming : IsRenaming A (with_labels A n) (λ q. q) (λ q. Unit {0})
    renaming = record {
      first = tt;
      initial = refl;
      stays = λ p a q h m. tt;
      there = λ p a q h m. m;
      back = λ p a z h m. (z, refl, m);
      accepts = λ q h. refl;
      tells = λ p q hp hq e. e;
    }

-- over labels that begin with its own it is that automaton
module _ (A : Automaton) (labels more : List (List ℕ)) (valid : IsAutomaton A) (few : A.labels ≤ length labels) (different : AreDifferent labels) where
  relabelled_itself : (t : Trans) → Contains A.transitions t → relabelled labels (labels ++ more) t ≡ t
  relabelled_itself t c =
      let range = All-contains (IsInRange A.states A.labels) A.transitions t valid.in_range c in
      let label = number_here labels more t.label different (omega (arith, range.2)) in
      λ i. trans t.source (label i) t.target

  pub built_with : (n : ℕ) → n ≡ length (labels ++ more) → A.labels ≤ n → n < 2 ^ 32 → IsRelabelled A labels (labels ++ more) (with_labels A n)
  built_with n is within fits = record {
    valid = valid_with A n valid within fits;
    states_given = refl;
    labels_given = is;
    initial_given = refl;
    transitions_given =
        let same = map_itself (relabelled labels (labels ++ more)) A.transitions relabelled_itself in
        subst (λ ts. IsPermutation ts A.transitions) (sym same) (IsPermutation-refl A.transitions);
    accepting_given = IsPermutation-refl A.accepting;
  }

pub includes_then : (m : Mode) (A B C : Automaton) → Includes A B m → Includes B C m → Includes A C m
includes_then Buchi A B C first second = λ u v h. second u v (first u v h)
includes_then Finite A B C first second = λ w h. second w (first w h)

-- ---- the text of an automaton that can be written

module _ (labels : List (List ℕ)) (C : Automaton) (m : Mode) (writable : IsWritable C labels) (limits : Limits) (again : Named) (joined : Joined) (back : Reads (written C labels) limits again)
    (all : joined.labels ≡ joined_labels labels again.labels) (few : length joined.labels < 2 ^ 32) (second : IsRelabelled again.auto again.labels joined.labels joined.second)
  where
    abbrev further : List (List ℕ)
    further = filter (λ label. not (list_any (same_text label) labels)) again.labels

    all_count : length joined.labels ≡ length (labels ++ further)
    all_count = ap length all

    within_all : C.labels ≤ length joined.labels
    within_all = omega (arith, writable.all_named, all_count, length-append labels further)

    abbrev beside : Joined
    beside = record { first = with_labels C (length joined.labels); second = joined.second; labels = joined.labels }

    beside_joined : IsJoined (record { auto = C; names = []; labels = labels }) again beside
    beside_joined = record {
      labels = all;
      first =
          subst (λ l. IsRelabelled C labels l (with_labels C (length joined.labels))) (sym all)
          (built_with C labels further writable.valid writable.all_named writable.different (length joined.labels) all_count within_all few);
      second = second;
    }

    -- what it reads as accepts the same
    pub written_same : Same C joined.second m
    written_same =
        let n = length joined.labels in
        let last : Same (with_labels C n) joined.second m = written_reads_back C labels [] limits again beside m writable back beside_joined in
        let own = same_with C n m in
        (includes_then m C (with_labels C n) joined.second own.0 last.0, includes_then m joined.second (with_labels C n) C last.1 own.1)
