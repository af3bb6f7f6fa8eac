-- `empty`: the made automaton accepts nothing, and the read one stays as it is.
use Rattle.std.proofs.Common.{◌≡◌, ℕ, ◌≤◌, ◌^◌, true, List, [], zero, suc, ◌∷◌, ◌++◌, length, map, filter, not, Contains, None, refl, sym, ◌∙◌, ap, subst, arith, append-nil}
use Rattle.std.specs.List.{list_any}
use Rattle.std.specs.List.Sorted.{IsPermutation}
use Rattle.std.proofs.lemmas.List.Sorted.{Contains-permutation, IsPermutation-sym}
use Rattle.auto_core.specs.Automaton.{Automaton}
use Rattle.auto_core.specs.Accept.{AcceptsLasso, AcceptsWord, Includes}
use Rattle.auto_core.specs.Build.{IsBuilt}
use Rattle.auto_core.specs.Run.{Run, repeated}
use Rattle.auto_core.specs.declared.parts.Trans.{Trans}
use Rattle.auto_core.specs.declared.parts.Mode.{Mode}
use Rattle.auto_core.specs.declared.parts.Mode.TheVariants.{Buchi, Finite}
use Rattle.ba_format.specs.declared.parts.Limits.{Limits}
use Rattle.ba_format.specs.declared.parts.Named.{Named}
use Rattle.ba_format.specs.declared.parts.Joined.{Joined}
use Rattle.ba_format.specs.Faults.{fault_of}
use Rattle.ba_format.specs.Joining.{IsJoined, relabelled}
use Rattle.ba_format.specs.Reading.{Reads}
use Rattle.ba_format.specs.Sight.{same_text}
use Rattle.ba_format.proofs.LawLemmas.{contains_first, joins_as_one}
use Rattle.rabit_frame.specs.declared.files.TheConstants.{FIRST_LIMITS, SECOND_LIMITS}
use Rattle.rabit_cli.specs.Empty.{empty_text, AcceptsNothing, emptiness}
use Rattle.ba_format.proofs.OwnLemmas.{stays_itself}
use Rattle.rabit_cli.proofs.PairLemmas.{can_decide}
use Rattle.rabit_cli.proofs.PropertyLemmas.{IsDecidable}

-- the text is short, and has no fault
pub empty_is_short : length empty_text ≤ 2 ^ 24
empty_is_short = let eight : length empty_text ≡ 8 = refl in omega arith

pub empty_has_no_fault : fault_of empty_text SECOND_LIMITS ≡ None
empty_has_no_fault = refl

no_member : {X : Type 0} (x : X) → Contains [] x → ⊥
no_member x has = let lt = has.1 in omega arith

-- ---- without transitions nothing is accepted, but for the empty word

module _ (A : Automaton) (still : (t : Trans) → Contains A.transitions t → ⊥) where
  no_flag : (w : List ℕ) (p q : ℕ) → Run A p w q true → ⊥
  no_flag [] p q run = absurd (let f = run.1 in cc)
  no_flag (a ∷ w) p q (next, later, move, rest, e) = still _ move

  no_lasso : (u v : List ℕ) → AcceptsLasso A u v → ⊥
  no_lasso u v accepts = no_flag (repeated v accepts.turns) accepts.state accepts.state accepts.cycles

  no_word : (Contains A.accepting A.initial → ⊥) → (w : List ℕ) → AcceptsWord A w → ⊥
  no_word first w accepts = go w accepts.run
    where
      go : (w : List ℕ) → Run A A.initial w accepts.state accepts.flag → ⊥
      go [] run = first (subst (Contains A.accepting) (sym run.0) accepts.ends)
      go (a ∷ w) (next, later, move, rest, e) = still _ move

-- ---- what the text reads as

only_first : (q : ℕ) → q ≡ 0 → Contains (1 ∷ []) q → ⊥
only_first q first (zero, lt, e) = omega arith
only_first q first (suc k, lt, e) = omega arith

none_in : (ts : List Trans) → ((t : Trans) → Contains ts t → ⊥) → ts ≡ []
none_in [] none = refl
none_in (t ∷ ts) none = absurd (none t (contains_first t ts))

module _ (limits : Limits) (named : Named) (made : Reads empty_text limits named) where
  built : IsBuilt 2 0 0 [] (1 ∷ []) named.auto
  built = made.reading.auto

  no_move : (t : Trans) → Contains named.auto.transitions t → ⊥
  no_move t has = no_member t (Contains-permutation named.auto.transitions [] t (IsPermutation-sym [] named.auto.transitions built.transitions_given) has)

  none_there : named.auto.transitions ≡ []
  none_there = none_in named.auto.transitions no_move

  -- its accepting state is another than its initial one
  accepting_is_other : (q : ℕ) → q ≡ 0 → Contains named.auto.accepting q → ⊥
  accepting_is_other q first has = only_first q first (Contains-permutation named.auto.accepting (1 ∷ []) q (IsPermutation-sym (1 ∷ []) named.auto.accepting built.accepting_given) has)

  pub accepts_nothing : (m : Mode) → AcceptsNothing m named.auto
  accepts_nothing Buchi = no_lasso named.auto no_move
  accepts_nothing Finite = no_word named.auto no_move (accepting_is_other named.auto.initial built.initial_given)

-- ---- the joined automata

module _ (bytes : List ℕ) (one other : Named) (pair : Joined) (read : Reads bytes FIRST_LIMITS one) (made : Reads empty_text SECOND_LIMITS other) (joined : IsJoined one other pair) where
  other_labels : other.labels ≡ []
  other_labels = made.reading.labels

  pub empty_labels : pair.labels ≡ one.labels
  empty_labels = joined.labels ∙ ap (λ ls. one.labels ++ filter (λ l. not (list_any (same_text l) one.labels)) ls) other_labels ∙ append-nil one.labels

  first_stays : pair.first ≡ one.auto
  first_stays = stays_itself bytes FIRST_LIMITS one read pair.labels pair.first empty_labels joined.first

  still : (t : Trans) → Contains pair.second.transitions t → ⊥
  still t has =
      let given : IsPermutation [] pair.second.transitions = subst (λ ts. IsPermutation (map (relabelled other.labels pair.labels) ts) pair.second.transitions) (none_there SECOND_LIMITS other made) joined.second.transitions_given in
      no_member t (Contains-permutation pair.second.transitions [] t (IsPermutation-sym [] pair.second.transitions given) has)

  first_rejects : Contains pair.second.accepting pair.second.initial → ⊥
  first_rejects has =
      let first : pair.second.initial ≡ 0 = joined.second.initial_given ∙ (built SECOND_LIMITS other made).initial_given in
      let there = Contains-permutation pair.second.accepting other.auto.accepting pair.second.initial (IsPermutation-sym other.auto.accepting pair.second.accepting joined.second.accepting_given) has in
      accepting_is_other SECOND_LIMITS other made pair.second.initial first there

  empty_holds : (m : Mode) → Includes pair.first pair.second m → AcceptsNothing m one.auto
  empty_holds Buchi includes = λ u v accepts. no_lasso pair.second still u v (includes u v (subst (λ A. AcceptsLasso A u v) (sym first_stays) accepts))
  empty_holds Finite includes = λ w accepts. no_word pair.second still first_rejects w (includes w (subst (λ A. AcceptsWord A w) (sym first_stays) accepts))

pub emptiness_decidable : IsDecidable emptiness
emptiness_decidable = record {
  one_pair = λ one other x y p q. joins_as_one one other x y p q;
  valid = λ one other pair joined. (joined.first.valid, joined.second.valid);
  can = λ one other pair first second joined. can_decide one other pair first second joined;
  labels = λ bytes one other pair read made joined. empty_labels bytes one other pair read made joined;
  holds = λ bytes one other pair read made joined. empty_holds bytes one other pair read made joined;
  lasso = λ bytes one other pair read made joined l apart. subst (λ A. AcceptsLasso A l.prefix l.turn) (first_stays bytes one other pair read made joined) apart.0;
  word = λ bytes one other pair read made joined w apart. subst (λ A. AcceptsWord A w) (first_stays bytes one other pair read made joined) apart.0;
}
