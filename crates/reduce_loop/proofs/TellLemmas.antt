-- The text of a trimmed automaton tells the automaton but for the numbers of its labels.
use Rattle.std.proofs.Common.{◌≡◌, ℕ, suc, ◌^◌, ◌<◌, ◌≤◌, Bool, true, false, eqb, List, [], ◌∷◌, ◌++◌, length, map, reverse, drop, get_or, All, Contains, inl, inr, refl, sym, ap, subst, ◌∙◌, arith, if◌then◌else◌}
use Rattle.std.specs.Fmt.{decimal}
use Rattle.std.specs.List.{flat_map}
use Rattle.std.proofs.lemmas.Bool.{cases_lt, eqb-true}
use Rattle.std.proofs.lemmas.Fmt.{decimal_injective}
use Rattle.std.proofs.lemmas.Grind.{flat_map-append}
use Rattle.std.proofs.lemmas.List.{append-nil, reverse-append, reverse-reverse}
use Rattle.std.proofs.lemmas.List.Elements.{All-nil, All-cons, All-map}
use Rattle.auto_core.specs.declared.parts.Trans.{Trans}
use Rattle.auto_core.specs.declared.parts.Mode.{Mode}
use Rattle.auto_core.specs.declared.parts.Mode.TheVariants.{Buchi, Finite}
use Rattle.auto_core.specs.Automaton.{Automaton}
use Rattle.auto_core.specs.Useful.{IsTrimmed}
use Rattle.ba_format.specs.Grammar.{LineContent, StateLine, TransitionLine}
use Rattle.ba_format.specs.Faults.{state_lines, contents_of}
use Rattle.ba_format.specs.Laws.{IsWritable}
use Rattle.ba_format.specs.Writing.{name_text, accepting_written}
use Rattle.ba_format.proofs.WrittenLemmas.{transition_entry_of, written_entries, contents_of-written}
use Rattle.reduce_loop.specs.declared.steps.Kind.TheVariants.{Trim}
use Rattle.reduce_loop.specs.Kinds.{kinds_of}
use Rattle.reduce_loop.specs.Texts.{with_text, TrimmedTextTells, SettledTextTells}
use Rattle.reduce_loop.proofs.MapLemmas.{map_itself, map_told, image_has}
use Rattle.reduce_loop.proofs.StateLemmas.{states_entered}

name_tells : (p q : ℕ) → p < 2 ^ 64 → q < 2 ^ 64 → name_text p ≡ name_text q → p ≡ q
name_tells p q hp hq e = decimal_injective p q hp hq (sym (inner p) ∙ ap (λ l. reverse (drop 1 (reverse (drop 1 l)))) e ∙ inner q)
  where
    inner : (n : ℕ) → reverse (drop 1 (reverse (drop 1 (name_text n)))) ≡ decimal n
    inner n = ap (λ l. reverse (drop 1 l)) (reverse-append (decimal n) (93 ∷ [])) ∙ reverse-reverse (decimal n)

-- ---- the lines

-- The tokens of a transition line.
abbrev transition_tokens : LineContent → List (List ℕ × List ℕ × List ℕ)
transition_tokens (StateLine name) = []
transition_tokens (TransitionLine label source target) = (label, source, target) ∷ []

-- The tokens of a transition's line.
abbrev tokens_with : List (List ℕ) → Trans → List ℕ × List ℕ × List ℕ
tokens_with labels t = (get_or labels t.label [], name_text t.source, name_text t.target)

steps_of_steps : (labels : List (List ℕ)) (ts : List Trans) → flat_map transition_tokens (map (transition_entry_of labels) ts) ≡ map (tokens_with labels) ts
steps_of_steps labels [] = refl
steps_of_steps labels (t ∷ ts) = ap (λ l. tokens_with labels t ∷ l) (steps_of_steps labels ts)

steps_of_states : (qs : List ℕ) → flat_map transition_tokens (map (λ q. StateLine (name_text q)) qs) ≡ []
steps_of_states [] = refl
steps_of_states (q ∷ qs) = steps_of_states qs

states_of_steps : (labels : List (List ℕ)) (ts : List Trans) → flat_map state_lines (map (transition_entry_of labels) ts) ≡ []
states_of_steps labels [] = refl
states_of_steps labels (t ∷ ts) = states_of_steps labels ts

states_of_states : (qs : List ℕ) → flat_map state_lines (map (λ q. StateLine (name_text q)) qs) ≡ map name_text qs
states_of_states [] = refl
states_of_states (q ∷ qs) = ap (λ l. name_text q ∷ l) (states_of_states qs)

steps_written : (A : Automaton) (labels : List (List ℕ)) → flat_map transition_tokens (written_entries A labels) ≡ map (tokens_with labels) A.transitions
steps_written A labels =
    flat_map-append transition_tokens (map (transition_entry_of labels) A.transitions) (map (λ q. StateLine (name_text q)) (accepting_written A))
    ∙ (λ i. steps_of_steps labels A.transitions i ++ steps_of_states (accepting_written A) i)
    ∙ append-nil (map (tokens_with labels) A.transitions)

states_written : (A : Automaton) (labels : List (List ℕ)) → flat_map state_lines (written_entries A labels) ≡ name_text A.initial ∷ map name_text (accepting_written A)
states_written A labels =
    ap (λ l. name_text A.initial ∷ l)
    (flat_map-append state_lines (map (transition_entry_of labels) A.transitions) (map (λ q. StateLine (name_text q)) (accepting_written A))
    ∙ (λ i. states_of_steps labels A.transitions i ++ states_of_states (accepting_written A) i))

-- ---- the accepting states

accepting_small : (A : Automaton) (labels : List (List ℕ)) → IsWritable A labels → (b : Bool) → All (λ q. q < 2 ^ 64) (if b then A.states ∷ [] else A.accepting)
accepting_small A labels w true = All-cons (λ q. q < 2 ^ 64) A.states [] (omega (arith, w.valid.states_fit)) (All-nil (λ q. q < 2 ^ 64))
accepting_small A labels w false = λ k d lt. omega (arith, w.valid.accepting_in_range k d lt, w.valid.states_fit)

none_there : (xs : List ℕ) → eqb (length xs) 0 ≡ true → xs ≡ []
none_there [] e = refl
none_there (x ∷ xs) e = absurd (omega (arith, eqb-true (suc (length xs)) 0 e))

-- A list of numbers below m is not m alone.
not_alone : (m : ℕ) (xs : List ℕ) → All (λ x. x < m) xs → m ∷ [] ≡ xs → ⊥
not_alone m [] h e = omega (arith, ap length e)
not_alone m (x ∷ xs) h e = omega (arith, h 0 x (omega arith), ap (λ l. get_or l 0 0) e)

same_ends : (m : ℕ) (xs ys : List ℕ) → All (λ x. x < m) xs → All (λ x. x < m) ys → (b c : Bool) → eqb (length xs) 0 ≡ b → eqb (length ys) 0 ≡ c
    → (if b then m ∷ [] else xs) ≡ (if c then m ∷ [] else ys) → xs ≡ ys
same_ends m xs ys hx hy true true f g e = none_there xs f ∙ sym (none_there ys g)
same_ends m xs ys hx hy true false f g e = absurd (not_alone m ys hy e)
same_ends m xs ys hx hy false true f g e = absurd (not_alone m xs hx (sym e))
same_ends m xs ys hx hy false false f g e = e

-- ---- the number of states

-- Where the initial states and the targets of the transitions are the same, A has no more states than B.
states_most : (A B : Automaton) (mode : Mode) (labels others : List (List ℕ)) → IsTrimmed A mode A → IsWritable B others
    → A.initial ≡ B.initial → map (λ t. t.target) A.transitions ≡ map (λ t. t.target) B.transitions → A.states ≤ B.states
states_most A B mode labels others trimmed w first ends = elim (cases_lt B.states A.states) [
  | inr le ↦ le
  | inl lt ↦ elim (states_entered A mode trimmed B.states lt) [
    | inl e ↦ absurd (omega (arith, w.valid.initial_is_state))
    | inr t ↦
        let below : All (λ q. q < B.states) (map (λ t. t.target) A.transitions) =
        subst (All (λ q. q < B.states)) (sym ends) (All-map (λ q. q < B.states) (λ t. t.target) B.transitions (λ k d short. (w.valid.in_range k d short).1)) in
        absurd (omega (arith, t.2, image_has (λ q. q < B.states) (λ t. t.target) A.transitions t.0 below t.1))
  ]
]

-- ---- the law

-- Both ends of the transition have names of their own.
abbrev HasNames : Trans → Type 0
HasNames t = (t.source < 2 ^ 64) × (t.target < 2 ^ 64)

small_steps : (A : Automaton) (labels : List (List ℕ)) → IsWritable A labels → All HasNames A.transitions
small_steps A labels w k d lt = let r = w.valid.in_range k d lt in (omega (arith, r.0, w.valid.states_fit), omega (arith, r.1, w.valid.states_fit))

pub trimmed_text_tells : TrimmedTextTells
trimmed_text_tells A B labels others mode other w v trimmed trim e =
    let entries : written_entries A labels ≡ written_entries B others = sym (contents_of-written A labels w) ∙ ap contents_of e ∙ contents_of-written B others v in
    let tokens : map (tokens_with labels) A.transitions ≡ map (tokens_with others) B.transitions =
    sym (steps_written A labels) ∙ ap (flat_map transition_tokens) entries ∙ steps_written B others in
    let steps : map (with_text labels) A.transitions ≡ map (with_text others) B.transitions =
    map_told HasNames HasNames (tokens_with labels) (tokens_with others) (with_text labels) (with_text others)
    (λ t u ht hu same.
    let source = name_tells t.source u.source ht.0 hu.0 (ap (λ x. x.1) same) in
    let target = name_tells t.target u.target ht.1 hu.1 (ap (λ x. x.2) same) in
    λ i. (source i, (same i).0, target i))
    A.transitions B.transitions (small_steps A labels w) (small_steps B others v) tokens in
    let ends : map (λ t. t.target) A.transitions ≡ map (λ t. t.target) B.transitions =
    map_told (λ (t : Trans). Unit {0}) (λ (t : Trans). Unit {0}) (with_text labels) (with_text others) (λ t. t.target) (λ t. t.target)
    (λ t u ht hu same. ap (λ x. x.2) same) A.transitions B.transitions (λ k d lt. tt) (λ k d lt. tt) steps in
    let names : name_text A.initial ∷ map name_text (accepting_written A) ≡ name_text B.initial ∷ map name_text (accepting_written B) =
    sym (states_written A labels) ∙ ap (flat_map state_lines) entries ∙ states_written B others in
    let first : A.initial ≡ B.initial =
    name_tells A.initial B.initial (omega (arith, w.valid.initial_is_state, w.valid.states_fit)) (omega (arith, v.valid.initial_is_state, v.valid.states_fit)) (ap (λ l. get_or l 0 []) names) in
    let count : A.states ≡ B.states =
    omega (arith, states_most A B mode labels others trimmed v first ends, states_most B A other others labels trim w (sym first) (sym ends)) in
    let listed : accepting_written A ≡ accepting_written B =
    sym (map_itself (accepting_written A))
    ∙ map_told (λ q. q < 2 ^ 64) (λ q. q < 2 ^ 64) name_text name_text (λ q. q) (λ q. q) name_tells (accepting_written A) (accepting_written B)
    (accepting_small A labels w (eqb (length A.accepting) 0)) (accepting_small B others v (eqb (length B.accepting) 0)) (ap (drop 1) names)
    ∙ map_itself (accepting_written B) in
    record {
      states = count;
      initial = first;
      accepting =
          same_ends A.states A.accepting B.accepting w.valid.accepting_in_range (λ k d lt. omega (arith, v.valid.accepting_in_range k d lt))
          (eqb (length A.accepting) 0) (eqb (length B.accepting) 0) refl refl
          (listed ∙ (λ i. if eqb (length B.accepting) 0 then sym count i ∷ [] else B.accepting));
      transitions = steps;
    }

-- Each mode trims.
trims : (mode : Mode) → Contains (kinds_of mode) Trim
trims Buchi = (0, omega arith, refl)
trims Finite = (0, omega arith, refl)

pub settled_text_tells : SettledTextTells
settled_text_tells A B labels others mode other sight farther w v settled also e =
    trimmed_text_tells A B labels others mode other w v (settled Trim (trims mode)) (also Trim (trims other)) e
