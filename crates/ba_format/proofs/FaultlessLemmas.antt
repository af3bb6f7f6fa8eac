-- A text without a fault reads as some automaton with names and labels.
use Rattle.std.proofs.Common.{◌≡◌, ℕ, zero, suc, ◌+◌, ◌<◌, ◌≤◌, false, ltb, List, [], ◌∷◌, ◌++◌, length, map, get_or, All, Contains, Option, None, Some, ◌⊎◌, inl, inr, refl, sym, subst, ◌∙◌, arith}
use Rattle.std.specs.Option.{option_or}
use Rattle.std.specs.List.{AllPairs}
use Rattle.std.specs.List.Sorted.{IsPermutation}
use Rattle.std.proofs.lemmas.Bool.{cases_lt, cases_eq}
use Rattle.std.proofs.lemmas.Bool.Decides.{nat_tests}
use Rattle.std.proofs.lemmas.List.{append-nil, append_assoc, get_or_default}
use Rattle.std.proofs.lemmas.List.Elements.{All-nil, All-cons}
use Rattle.std.proofs.lemmas.List.Kept.{AllPairs-cons}
use Rattle.std.proofs.lemmas.List.Sorted.{IsPermutation-refl, IsPermutation-sym, IsPermutation-trans, IsPermutation-cons, IsPermutation-middle, All-permutation, Contains-permutation}
use Rattle.auto_core.specs.declared.parts.Trans.{Trans}
use Rattle.auto_core.specs.Automaton.{Automaton, IsBefore, HasRepeat, trans}
use Rattle.auto_core.proofs.BuildLemmas.{valid_from}
use Rattle.auto_core.proofs.Order.{IsBefore-trans}
use Rattle.ba_format.specs.declared.parts.BaKind.{BaKind}
use Rattle.ba_format.specs.declared.parts.BaKind.TheVariants.{TwoInitial, TooManyStates, TooManyLabels, TooManyTransitions}
use Rattle.ba_format.specs.declared.parts.Limits.{Limits}
use Rattle.ba_format.specs.Grammar.{NumberedLine, LineContent, content_of, own_fault, lines_in}
use Rattle.ba_format.specs.Faults.{names_of, labels_of, transitions_of, accepting_of, opens_twice, later_fault, kind_of_line, first_fault, fault_of_lines, fault_of, contents_of}
use Rattle.ba_format.specs.Draft.{Fits}
use Rattle.ba_format.specs.Laws.{ReadIsWithin, FaultlessReads}
use Rattle.ba_format.proofs.LabelLemmas.{if_none, later_none}
use Rattle.ba_format.proofs.LawLemmas.{contains_first, contains_later}
use Rattle.ba_format.proofs.NamedLemmas.{initial_zero, parts_of, within_limits}

-- ---- putting different things in order

-- Some order of the list in which R holds of each element and each later one.
abbrev pub InOrder : {X : Type 0} → (X → X → Type 0) → List X → Type 0
InOrder {X} R xs = (ys : List X) × IsPermutation xs ys × AllPairs R ys

module _ {X : Type 0} (R : X → X → Type 0) where
  tail_pairs : (x : X) (xs : List X) → AllPairs R (x ∷ xs) → AllPairs R xs
  tail_pairs x xs h i j d lt short = h (suc i) (suc j) d (omega arith) (omega arith)

  head_pairs : (x : X) (xs : List X) → AllPairs R (x ∷ xs) → All (R x) xs
  head_pairs x xs h k d lt = h zero (suc k) d (omega arith) (omega arith)

module _ {X : Type 0} (R : X → X → Type 0) (chain : (x y z : X) → R x y → R y z → R x z) (either : (x y : X) → (x ≡ y → ⊥) → R x y ⊎ R y x) where
  put_among : (x : X) (ys : List X) → (Contains ys x → ⊥) → AllPairs R ys → InOrder R (x ∷ ys)
  put_among x [] new h = (x ∷ [], IsPermutation-refl (x ∷ []), AllPairs-cons R x [] (All-nil (R x)) h)
  put_among x (y ∷ ys) new h = elim (either x y (λ e. new (subst (Contains (y ∷ ys)) (sym e) (contains_first y ys)))) [
    | inl before ↦ (
      x ∷ y ∷ ys,
      IsPermutation-refl (x ∷ y ∷ ys),
      AllPairs-cons R x (y ∷ ys) (All-cons (R x) y ys before (λ k d lt. chain x y (get_or ys k d) before (head_pairs R y ys h k d lt))) h,
    )
    | inr after ↦
        let rest = put_among x ys (λ c. new (contains_later y ys x c)) (tail_pairs R y ys h) in (
          y ∷ rest.0,
          IsPermutation-trans (x ∷ y ∷ ys) (y ∷ x ∷ ys) (y ∷ rest.0) (IsPermutation-sym (y ∷ x ∷ ys) (x ∷ y ∷ ys) (IsPermutation-middle (y ∷ []) x ys)) (IsPermutation-cons y (x ∷ ys) rest.0 rest.1),
          AllPairs-cons R y rest.0 (All-permutation (R y) (x ∷ ys) rest.0 rest.1 (All-cons (R y) x ys after (head_pairs R y ys h))) rest.2,
        )
  ]

  pub put_in_order : (xs : List X) → AllPairs (λ a b. a ≡ b → ⊥) xs → InOrder R xs
  put_in_order [] h = ([], IsPermutation-refl [], λ i j d lt short. absurd (omega arith))
  put_in_order (x ∷ xs) h =
      let rest = put_in_order xs (tail_pairs (λ a b. a ≡ b → ⊥) x xs h) in
      let new : Contains rest.0 x → ⊥ = λ c. unlike (Contains-permutation rest.0 xs x (IsPermutation-sym xs rest.0 rest.1) c) in
      let put = put_among x rest.0 new rest.2 in
      (put.0, IsPermutation-trans (x ∷ xs) (x ∷ rest.0) put.0 (IsPermutation-cons x xs rest.0 rest.1) put.1, put.2)
    where
      unlike : Contains xs x → ⊥
      unlike (k, lt, e) = head_pairs (λ a b. a ≡ b → ⊥) x xs h k x lt (sym e)

pub different_from : {X : Type 0} (xs : List X) → (HasRepeat xs → ⊥) → AllPairs (λ a b. a ≡ b → ⊥) xs
different_from xs none i j d lt short e =
    let first : i < length xs = omega arith in
    none (i, j, (λ same. omega arith), first, short, λ d'. get_or_default xs i d' d first ∙ e ∙ get_or_default xs j d d' short)

pub either_less : (a b : ℕ) → (a ≡ b → ⊥) → (a < b) ⊎ (b < a)
either_less a b n = elim (cases_lt a b) [ inl lt ↦ inl lt | inr le ↦ elim (cases_lt b a) [ inl lt ↦ inr lt | inr ge ↦ absurd (n (omega arith)) ] ]

-- two different transitions: one stands before the other
pub either_before : (t u : Trans) → (t ≡ u → ⊥) → IsBefore t u ⊎ IsBefore u t
either_before t u n = elim (cases_eq t.source u.source) [
  | inr differ ↦ elim (either_less t.source u.source differ) [ inl lt ↦ inl (inl lt) | inr lt ↦ inr (inl lt) ]
  | inl s ↦ elim (cases_eq t.label u.label) [
    | inr differ ↦ elim (either_less t.label u.label differ) [ inl lt ↦ inl (inr (inl (s, lt))) | inr lt ↦ inr (inr (inl (sym s, lt))) ]
    | inl l ↦ elim (cases_eq t.target u.target) [
      | inr differ ↦ elim (either_less t.target u.target differ) [ inl lt ↦ inl (inr (inr (s, l, lt))) | inr lt ↦ inr (inr (inr (sym s, sym l, lt))) ]
      | inl g ↦ absurd (n (λ i. trans (s i) (l i) (g i)))
    ]
  ]
]

-- ---- what lines without a fault bring stays within the limits

not_past : (m n : ℕ) → ltb m n ≡ false → n ≤ m
not_past m n h = grind (arith, nat_tests)

or_none_later : (own later : Option BaKind) → option_or own later ≡ None → later ≡ None
or_none_later None later h = h
or_none_later (Some kind) later h = cc

fits_after : (limits : Limits) (earlier : List LineContent) (entry : LineContent) → later_fault limits earlier entry ≡ None → Fits limits (earlier ++ entry ∷ [])
fits_after limits earlier entry h =
    let one = if_none (opens_twice earlier entry) TwoInitial _ h in
    let two = if_none (ltb limits.states (length (names_of (earlier ++ entry ∷ [])))) TooManyStates _ one.1 in
    let three = if_none (ltb limits.labels (length (labels_of (earlier ++ entry ∷ [])))) TooManyLabels _ two.1 in
    let four = if_none (ltb limits.transitions (length (transitions_of (earlier ++ entry ∷ [])))) TooManyTransitions _ three.1 in
    record {
      states = not_past limits.states (length (names_of (earlier ++ entry ∷ []))) two.0;
      labels = not_past limits.labels (length (labels_of (earlier ++ entry ∷ []))) three.0;
      transitions = not_past limits.transitions (length (transitions_of (earlier ++ entry ∷ []))) four.0;
    }

fits_all : (limits : Limits) (earlier : List LineContent) (lines : List NumberedLine) → Fits limits earlier → first_fault limits earlier lines ≡ None → Fits limits (earlier ++ map (λ l. content_of l.text) lines)
fits_all limits earlier [] f h = subst (Fits limits) (sym (append-nil earlier)) f
fits_all limits earlier (l ∷ ls) f h =
    let entry = content_of l.text in
    let parts = later_none l.number (kind_of_line limits earlier l.text) (first_fault limits (earlier ++ entry ∷ []) ls) h in
    let now = fits_after limits earlier entry (or_none_later (own_fault l.text) (later_fault limits earlier entry) parts.0) in
    subst (Fits limits) (append_assoc earlier (entry ∷ []) (map (λ l. content_of l.text) ls)) (fits_all limits (earlier ++ entry ∷ []) ls now parts.1)

lines_without_fault : (limits : Limits) (lines : List NumberedLine) → fault_of_lines limits lines ≡ None → (0 < length (map (λ l. content_of l.text) lines)) × (first_fault limits [] lines ≡ None)
lines_without_fault limits [] h = cc
lines_without_fault limits (l ∷ ls) h = (omega arith, h)

pub text_fits : (text : List ℕ) (limits : Limits) → fault_of text limits ≡ None → Fits limits (contents_of text)
text_fits text limits none =
    let start : Fits limits [] = record { states = omega arith; labels = omega arith; transitions = omega arith } in
    fits_all limits [] (lines_in text) start (lines_without_fault limits (lines_in text) none).1

pub read_is_within : ReadIsWithin
read_is_within text limits named reads = within_limits limits (contents_of text) named (text_fits text limits reads.no_fault) reads.reading

-- ---- the value

pub faultless_reads : FaultlessReads
faultless_reads text limits states_fit labels_fit transitions_fit none =
    let entries = contents_of text in
    let lines = lines_without_fault limits (lines_in text) none in
    let fits : Fits limits entries = text_fits text limits none in
    let parts = parts_of entries lines.0 (omega (arith, fits.transitions)) in
    let transitions = put_in_order IsBefore IsBefore-trans either_before (transitions_of entries) (different_from (transitions_of entries) parts.no_transition_twice) in
    let accepting = put_in_order (λ p q. p < q) (λ p q r h g. omega arith) either_less (accepting_of entries) (different_from (accepting_of entries) parts.no_state_twice) in
    let A : Automaton = record {
      states = length (names_of entries);
      labels = length (labels_of entries);
      initial = 0;
      transitions = transitions.0;
      accepting = accepting.0;
    } in (
      record { auto = A; names = names_of entries; labels = labels_of entries },
      record {
        no_fault = none;
        reading = record {
          names = refl;
          labels = refl;
          auto = record {
            valid =
                valid_from A.states A.labels 0 (transitions_of entries) A.transitions (accepting_of entries) A.accepting
                (omega (arith, fits.states)) (omega (arith, fits.labels)) parts.few parts.in_states parts.in_labels
                transitions.1 (λ i j lt short. transitions.2 i j (trans 0 0 0) lt short)
                accepting.1 (λ k lt. accepting.2 k (k + 1) 0 (omega arith) lt);
            states_given = refl;
            labels_given = refl;
            initial_given = sym (initial_zero entries lines.0);
            transitions_given = transitions.1;
            accepting_given = accepting.1;
          };
        };
      },
    )
