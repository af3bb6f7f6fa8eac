-- What a search keeps as it goes, and what it has at its end.
use Rattle.std.proofs.Common.{◌≡◌, ℕ, suc, ◌+◌, ◌<◌, ◌≤◌, ◌⊎◌, List, [], ◌∷◌, ◌++◌, length, Contains, refl, sym, subst, inl, inr, arith, length-append}
use Rattle.std.proofs.lemmas.Bool.{cases_eq}
use Rattle.auto_core.specs.Outcome.{Rules, Outcome, Closed, Apart, Limit, At, StaysLive, IsDropped, HasSubsumer, HasNoSubsumer, PassesBefore, FirstFailing, Comes, passed_over, limit_met, told_apart, entered, turn_of_live, turn_of_dropped, done}
use Rattle.auto_core.proofs.PathLemmas.{Contains-cons_cases, Contains-here, Contains-later, none_in_nil}
use Rattle.auto_laws.proofs.PlaceLemmas.{at_same, at_within, at_more, at_new, at_cases, live_before, subsumed_more}

-- The candidate is an element, or one subsumes it.
abbrev pub IsMet : {E : Type 0} → Rules E → List E → E → Type 0
IsMet {E} R es c = HasSubsumer R es c ⊎ ((i : ℕ) × At es i c)

-- The list is one to which a search comes: it is sound, no element is subsumed by an earlier one.
pub record IsGrown {E : Type 0} (R : Rules E) (Sound : List E → Type 0) (es : List E) : Type 0 where
  pub sound : Sound es
  pub fresh : (i j : ℕ) (x y : E) → i < j → At es i x → At es j y → R.subsumes x y → ⊥

-- With these candidates left, before the turn of this number: what comes fits, live pairs pass, and the candidates of the start
-- and of the turns so far are met or are left.
pub record IsUnderWay {E : Type 0} (R : Rules E) (limit : ℕ) (Sound : List E → Type 0) (Fits : List E → E → Type 0) (es cs : List E) (turn : ℕ) : Type 0 where
  pub few : length es ≤ limit
  pub turns : turn ≤ length es
  pub grown : IsGrown R Sound es
  pub coming : (c : E) → Contains cs c → Fits es c
  pub passed : (i j : ℕ) (x y : E) → At es i x → At es j y → StaysLive R es i → StaysLive R es j → R.passes x y
  pub starts : (c : E) → Contains R.starts c → IsMet R es c ⊎ Contains cs c
  pub steps : (e : ℕ) (x c : E) → e < turn → At es e x → StaysLive R es e → Contains (R.extensions e x) c → IsMet R es c ⊎ Contains cs c

-- The end with a closed list.
pub record HasClosed {E : Type 0} (R : Rules E) (limit : ℕ) (Sound : List E → Type 0) (es : List E) : Type 0 where
  pub few : length es ≤ limit
  pub grown : IsGrown R Sound es
  pub passed : (i j : ℕ) (x y : E) → At es i x → At es j y → StaysLive R es i → StaysLive R es j → R.passes x y
  pub starts : (c : E) → Contains R.starts c → IsMet R es c
  pub steps : (e : ℕ) (x c : E) → At es e x → StaysLive R es e → Contains (R.extensions e x) c → IsMet R es c

-- The end with a pair that fails: both are elements of a sound list.
pub record HasFailed {E : Type 0} (R : Rules E) (Sound : List E → Type 0) (x y : E) : Type 0 where
  pub among : List E
  pub grown : IsGrown R Sound among
  pub first : ℕ
  pub second : ℕ
  pub first_is : At among first x
  pub second_is : At among second y
  pub fails : R.fails x y

-- The end with too many.
pub record HasMet {E : Type 0} (R : Rules E) (limit : ℕ) (Sound : List E → Type 0) (es : List E) : Type 0 where
  pub size : length es ≡ limit + 1
  pub grown : IsGrown R Sound es

abbrev pub Ends : {E : Type 0} → Rules E → ℕ → (List E → Type 0) → Outcome E → Type 0
Ends {E} R limit Sound (Closed es) = HasClosed R limit Sound es
Ends {E} R limit Sound (Apart x y) = HasFailed R Sound x y
Ends {E} R limit Sound (Limit es) = HasMet R limit Sound es

met_more : {E : Type 0} (R : Rules E) (es : List E) (d c : E) → IsMet R es c → IsMet R (es ++ d ∷ []) c
met_more R es d c met = elim met [
  | inl has ↦ inl (subsumed_more R es (d ∷ []) c has)
  | inr is ↦ inr (is.0, at_more es (d ∷ []) is.0 c is.1)
]

-- Once the first candidate is met, what is due is met or among the others.
due_left : {E : Type 0} (R : Rules E) (es cs : List E) (c d : E) → IsMet R es c → IsMet R es d ⊎ Contains (c ∷ cs) d → IsMet R es d ⊎ Contains cs d
due_left R es cs c d met due = elim due [
  | inl already ↦ inl already
  | inr left ↦ elim (Contains-cons_cases c d cs left) [
    | inl same ↦ inl (subst (IsMet R es) same met)
    | inr later ↦ inr later
  ]
]

met_now : {E : Type 0} (R : Rules E) (es : List E) (c : E) → IsMet R es c ⊎ Contains [] c → IsMet R es c
met_now R es c due = elim due [ inl met ↦ met | inr left ↦ absurd (none_in_nil c left) ]

module _ (E : Type 0) (R : Rules E) (limit : ℕ) (Sound : List E → Type 0) (Fits : List E → E → Type 0)
    (sound_nil : Sound [])
    (sound_more : (es : List E) (c : E) → Sound es → Fits es c → Sound (es ++ c ∷ []))
    (fits_start : (c : E) → Contains R.starts c → Fits [] c)
    (fits_more : (es : List E) (c d : E) → Fits es c → Fits (es ++ d ∷ []) c)
    (fits_step : (es : List E) (e : ℕ) (x c : E) → Sound es → At es e x → Contains (R.extensions e x) c → Fits es c)
  where
    abbrev Way : List E → List E → ℕ → Type 0
    Way es cs turn = IsUnderWay R limit Sound Fits es cs turn

    begins : Way [] R.starts 0
    begins = record {
      few = omega arith;
      turns = omega arith;
      grown = record { sound = sound_nil; fresh = λ i j x y lt x_is y_is h. let bound = at_within [] i x x_is in absurd (omega arith) };
      coming = fits_start;
      passed = λ i j x y x_is y_is l k. let bound = at_within [] i x x_is in absurd (omega arith);
      starts = λ c has. inr has;
      steps = λ e x c lt x_is l has. absurd (omega arith);
    }

    passes_over : (es cs : List E) (c : E) (turn : ℕ) → HasSubsumer R es c → Way es (c ∷ cs) turn → Way es cs turn
    passes_over es cs c turn has way = record {
      few = way.few;
      turns = way.turns;
      grown = way.grown;
      coming = λ d left. way.coming d (Contains-later c d cs left);
      passed = way.passed;
      starts = λ d is. due_left R es cs c d (inl has) (way.starts d is);
      steps = λ e x d lt x_is l is. due_left R es cs c d (inl has) (way.steps e x d lt x_is l is);
    }

    grows : (es cs : List E) (c : E) (turn : ℕ) → HasNoSubsumer R es c → Way es (c ∷ cs) turn → IsGrown R Sound (es ++ c ∷ [])
    grows es cs c turn none way = record {
      sound = sound_more es c way.grown.sound (way.coming c (Contains-here c c cs refl));
      fresh = λ i j x y lt x_is y_is h.
          let bound = at_within (es ++ c ∷ []) j y y_is in
          let size = length-append es (c ∷ []) in
          elim (at_cases es c i x x_is) [
            | inr new ↦ let e = new.0 in absurd (omega arith)
            | inl x_old ↦ elim (at_cases es c j y y_is) [
              | inl y_old ↦ way.grown.fresh i j x y lt x_old y_old h
              | inr new ↦ none i x x_old (subst (λ z. R.subsumes x z) new.1 h)
            ]
          ];
    }

    passes_new : (es : List E) (c : E) → PassesBefore R (es ++ c ∷ []) c (length (es ++ c ∷ [])) →
        ((i j : ℕ) (x y : E) → At es i x → At es j y → StaysLive R es i → StaysLive R es j → R.passes x y) →
        (i j : ℕ) (x y : E) → At (es ++ c ∷ []) i x → At (es ++ c ∷ []) j y → StaysLive R (es ++ c ∷ []) i → StaysLive R (es ++ c ∷ []) j → R.passes x y
    passes_new es c new old i j x y x_is y_is x_live y_live =
        let i_in = at_within (es ++ c ∷ []) i x x_is in
        let j_in = at_within (es ++ c ∷ []) j y y_is in
        elim (at_cases es c i x x_is) [
          | inr first ↦ subst (λ z. R.passes z y) (sym first.1) (new j y j_in y_is y_live).0
          | inl x_old ↦ elim (at_cases es c j y y_is) [
            | inr second ↦ subst (λ z. R.passes x z) (sym second.1) (new i x i_in x_is x_live).1
            | inl y_old ↦ old i j x y x_old y_old (live_before R es c i x_live) (live_before R es c j y_live)
          ]
        ]

    enters : (es cs : List E) (c : E) (turn : ℕ) → HasNoSubsumer R es c → length es < limit → PassesBefore R (es ++ c ∷ []) c (length (es ++ c ∷ [])) →
        Way es (c ∷ cs) turn → Way (es ++ c ∷ []) cs turn
    enters es cs c turn none few passes way =
        let size = length-append es (c ∷ []) in
        let turns = way.turns in
        let here : IsMet R (es ++ c ∷ []) c = inr (length es, at_new es c) in
        record {
          few = omega arith;
          turns = omega arith;
          grown = grows es cs c turn none way;
          coming = λ d left. fits_more es d c (way.coming d (Contains-later c d cs left));
          passed = passes_new es c passes way.passed;
          starts = λ d is. due_left R (es ++ c ∷ []) cs c d here (due_more es cs c d (way.starts d is));
          steps = λ e x d lt x_is l is.
              elim (at_cases es c e x x_is) [
                | inr new ↦ let same = new.0 in absurd (omega arith)
                | inl x_old ↦ due_left R (es ++ c ∷ []) cs c d here (due_more es cs c d (way.steps e x d lt x_old (live_before R es c e l) is))
              ];
        }
      where
        due_more : (es cs : List E) (c d : E) → IsMet R es d ⊎ Contains (c ∷ cs) d → IsMet R (es ++ c ∷ []) d ⊎ Contains (c ∷ cs) d
        due_more es cs c d due = elim due [ inl met ↦ inl (met_more R es c d met) | inr left ↦ inr left ]

    turns_live : (es : List E) (turn : ℕ) (x : E) → At es turn x → Way es [] turn → Way es (R.extensions turn x) (suc turn)
    turns_live es turn x x_is way =
        let bound = at_within es turn x x_is in
        record {
          few = way.few;
          turns = omega arith;
          grown = way.grown;
          coming = λ c is. fits_step es turn x c way.grown.sound x_is is;
          passed = way.passed;
          starts = λ c is. inl (met_now R es c (way.starts c is));
          steps = λ e y c lt y_is l is. elim (cases_eq e turn) [
            | inl same ↦
                let other : At es turn y = subst (λ k. At es k y) same y_is in
                inr (subst (λ k. Contains (R.extensions k x) c) same (subst (λ z. Contains (R.extensions e z) c) (at_same es turn y x other x_is) is))
            | inr other ↦ inl (met_now R es c (way.steps e y c (omega arith) y_is l is))
          ];
        }

    turns_dropped : (es : List E) (turn : ℕ) → IsDropped R es turn → Way es [] turn → Way es [] (suc turn)
    turns_dropped es turn dropped way =
        let bound = at_within es turn dropped.element dropped.is in
        record {
          few = way.few;
          turns = omega arith;
          grown = way.grown;
          coming = way.coming;
          passed = way.passed;
          starts = way.starts;
          steps = λ e y c lt y_is l is. elim (cases_eq e turn) [
            | inl same ↦ absurd (l dropped.place dropped.element dropped.by (subst (λ k. k < dropped.place) (sym same) dropped.later) (subst (λ k. At es k dropped.element) (sym same) dropped.is) dropped.by_is dropped.subsumes)
            | inr other ↦ way.steps e y c (omega arith) y_is l is
          ];
        }

    is_met : (es cs : List E) (c : E) (turn : ℕ) → HasNoSubsumer R es c → length es ≡ limit → Way es (c ∷ cs) turn → HasMet R limit Sound (es ++ c ∷ [])
    is_met es cs c turn none full way = let size = length-append es (c ∷ []) in record { size = omega arith; grown = grows es cs c turn none way }

    has_failed : (es cs : List E) (c x y : E) (turn : ℕ) → HasNoSubsumer R es c → FirstFailing R (es ++ c ∷ []) c x y → Way es (c ∷ cs) turn → HasFailed R Sound x y
    has_failed es cs c x y turn none first way = elim first.fails [
      | inl f ↦ record {
        among = es ++ c ∷ [];
        grown = grows es cs c turn none way;
        first = length es;
        second = first.place;
        first_is = subst (λ z. At (es ++ c ∷ []) (length es) z) (sym f.0) (at_new es c);
        second_is = subst (λ z. At (es ++ c ∷ []) first.place z) (sym f.1) first.is;
        fails = subst (λ z. R.fails z y) (sym f.0) (subst (λ z. R.fails c z) (sym f.1) f.2);
      }
      | inr f ↦ record {
        among = es ++ c ∷ [];
        grown = grows es cs c turn none way;
        first = first.place;
        second = length es;
        first_is = subst (λ z. At (es ++ c ∷ []) first.place z) (sym f.0) first.is;
        second_is = subst (λ z. At (es ++ c ∷ []) (length es) z) (sym f.1) (at_new es c);
        fails = subst (λ z. R.fails z y) (sym f.0) (subst (λ z. R.fails first.other z) (sym f.1) f.3);
      }
    ]

    has_closed : (es : List E) (turn : ℕ) → length es ≤ turn → Way es [] turn → HasClosed R limit Sound es
    has_closed es turn past way = record {
      few = way.few;
      grown = way.grown;
      passed = way.passed;
      starts = λ c is. met_now R es c (way.starts c is);
      steps = λ e x c x_is l is. let bound = at_within es e x x_is in met_now R es c (way.steps e x c (omega arith) x_is l is);
    }

    goes : (es cs : List E) (turn : ℕ) (o : Outcome E) → Comes E R limit es cs turn o → Way es cs turn → Ends R limit Sound o
    goes es (c ∷ cs) turn o (passed_over has rest) way = goes es cs turn o rest (passes_over es cs c turn has way)
    goes es (c ∷ cs) turn o (limit_met none full is) way = subst (Ends R limit Sound) (sym is) (is_met es cs c turn none full way)
    goes es (c ∷ cs) turn o (told_apart x y none few first is) way = subst (Ends R limit Sound) (sym is) (has_failed es cs c x y turn none first way)
    goes es (c ∷ cs) turn o (entered none few passes rest) way = goes (es ++ c ∷ []) cs turn o rest (enters es cs c turn none few passes way)
    goes es [] turn o (turn_of_live x is l rest) way = goes es (R.extensions turn x) (suc turn) o rest (turns_live es turn x is way)
    goes es [] turn o (turn_of_dropped dropped rest) way = goes es [] (suc turn) o rest (turns_dropped es turn dropped way)
    goes es [] turn o (done past is) way = subst (Ends R limit Sound) (sym is) (has_closed es turn past way)

    -- What the whole search has at its end.
    pub at_the_end : (o : Outcome E) → Comes E R limit [] R.starts 0 o → Ends R limit Sound o
    at_the_end o comes = goes [] R.starts 0 o comes begins
