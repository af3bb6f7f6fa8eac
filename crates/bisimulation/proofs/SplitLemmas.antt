-- Classes that are split, one state after another.
use Rattle.std.proofs.Common.{◌≡◌, ℕ, ◌+◌, ◌^◌, ◌<◌, ◌≤◌, ◌⊎◌, inl, inr, List, [], ◌∷◌, ◌++◌, length, get_or, slice_index, slice_set, Contains, Vec, Global, refl, sym, ap, ◌∙◌, subst, arith, length-append, length-set}
use Rattle.std.proofs.lemmas.Bool.{cases_eq, cases_lt}
use Rattle.std.proofs.lemmas.List.{get_or-set_same, get_or-set_other, get_or_append_left, get_or_push, get_or_default}
use Rattle.std.proofs.lemmas.List.Elements.{All-push, Contains-append_left, Contains-push}
use Rattle.auto_core.specs.Quotient.{class_of}
use Rattle.evidence.specs.Tables.{numbers_at}
use Rattle.evidence.proofs.TableLemmas.{numbers_set, numbers_stay}
use Rattle.bisimulation.specs.Rounds.{AreBelow, IsLaidOut, HasKeptSign, AreListed, IsMoved, IsSplitting, IsPutInPlace, IsAdded, HasClassFor, IsSplit}
use Rattle.bisimulation.specs.Signatures.{packed}
use Rattle.bisimulation.specs.declared.partition.Partition.{Partition}
use Rattle.bisimulation.proofs.SignatureLemmas.{unpacked}

-- ---- all states of the list

pub record IsUnderWay (first now : Partition) (parts listed : List ℕ) (i : ℕ) (moved : List ℕ) : Type 0 where
  pub splitting : IsSplitting (length first.of.items) first now parts moved
  pub done : (j : ℕ) → j < i → HasKeptSign now (get_or listed j 0)
  pub others : (p : ℕ) → p < length first.of.items → HasKeptSign first p → HasKeptSign now p

pub way_starts : (first : Partition) (parts listed moved : List ℕ) → IsLaidOut (length first.of.items) first → parts ≡ [] → moved ≡ [] → IsUnderWay first first parts listed 0 moved
way_starts first parts listed moved laid no_part none = record {
  splitting = record {
    laid = laid;
    signs = refl;
    count = let e = ap length no_part in omega (arith, e);
    different = λ i j i_in. let e = ap length no_part in absurd (omega (arith, e));
    same = λ c c_in. refl;
    made = λ i c sign i_in. let e = ap length no_part in absurd (omega (arith, e));
    below = subst (AreBelow (length first.of.items)) (sym none) (λ k d lt. absurd (omega arith));
    classes = laid.classes;
    states = λ p p_in. inl refl;
  };
  done = λ j lt. absurd (omega arith);
  others = λ p p_in has. has;
}

pub way_more : (first now new : Partition) (parts more listed : List ℕ) (i : ℕ) (moved after : List ℕ) → IsUnderWay first now parts listed i moved
    → AreBelow (length first.of.items) listed → i < length listed
    → IsPutInPlace (length first.of.items) first now new more after (get_or listed i 0) → IsUnderWay first new more listed (i + 1) after
way_more first now new parts more listed i moved after k below lt put = record {
  splitting = put.splitting;
  done = λ j j_lt. elim (cases_eq j i) [
    | inl e ↦ subst (λ (x : ℕ). HasKeptSign new (get_or listed x 0)) (sym e) put.kept
    | inr apart ↦ put.others (get_or listed j 0) (below j 0 (omega arith)) (k.done j (omega arith))
  ];
  others = λ p p_in has. put.others p p_in (k.others p p_in has);
}

module _ (n : ℕ) (first now : Partition) (parts moved : List ℕ) (k : IsSplitting n first now parts moved) (kept : (p : ℕ) → p < n → HasKeptSign now p) where
  sign_of : (p : ℕ) → p < n → slice_index now.kept.items (class_of now.of.items p) ≡ slice_index first.signs.items p
  sign_of p p_in = kept p p_in ∙ ap (λ l. slice_index l p) k.signs

  -- states in one new class were in one class
  from_one : (p q : ℕ) → p < n → q < n → class_of now.of.items p ≡ class_of now.of.items q → slice_index first.signs.items p ≡ slice_index first.signs.items q
      → class_of first.of.items p ≡ class_of first.of.items q
  from_one p q p_in q_in same signs = elim (k.states p p_in) [
    | inl here ↦ elim (k.states q q_in) [
      | inl there ↦ sym here ∙ same ∙ there
      | inr went ↦ let old = k.classes p p_in in let at = went.1.class in absurd (omega (arith, here, same))
    ]
    | inr came ↦ elim (k.states q q_in) [
      | inl there ↦ let old = k.classes q q_in in let at = came.1.class in absurd (omega (arith, there, same))
      | inr went ↦
          let one : came.1.part ≡ went.1.part = let a = came.1.class in let b = went.1.class in omega (arith, same) in
          let packs : packed (class_of first.of.items p) (slice_index first.signs.items p) ≡ packed (class_of first.of.items q) (slice_index first.signs.items q) =
          sym came.1.is ∙ ap (slice_index parts) one ∙ went.1.is in
          omega (arith, packs, signs)
    ]
  ]

  -- states of one class with one sign are in one new class
  to_one : (p q : ℕ) → p < n → q < n → class_of first.of.items p ≡ class_of first.of.items q → slice_index first.signs.items p ≡ slice_index first.signs.items q
      → class_of now.of.items p ≡ class_of now.of.items q
  to_one p q p_in q_in same signs = elim (k.states p p_in) [
    | inl here ↦ elim (k.states q q_in) [
      | inl there ↦ here ∙ same ∙ sym there
      | inr went ↦ absurd (went.1.apart (stayed p q p_in here same signs))
    ]
    | inr came ↦ elim (k.states q q_in) [
      | inl there ↦ absurd (came.1.apart (stayed q p q_in there (sym same) (sym signs)))
      | inr went ↦
          let one : came.1.part ≡ went.1.part = k.different came.1.part went.1.part came.1.within went.1.within
          (came.1.is ∙ ap (λ c. packed c (slice_index first.signs.items p)) same ∙ ap (packed (class_of first.of.items q)) signs ∙ sym went.1.is) in
          let a = came.1.class in
          let b = went.1.class in
          omega (arith, one)
    ]
  ]
    where
      -- where p has stayed, the sign that keeps q's class is q's
      stayed : (p q : ℕ) → p < n → class_of now.of.items p ≡ class_of first.of.items p → class_of first.of.items p ≡ class_of first.of.items q → slice_index first.signs.items p ≡ slice_index first.signs.items q → HasKeptSign first q
      stayed p q p_in here same signs =
          ap (slice_index first.kept.items) (sym same)
          ∙ sym (k.same (class_of first.of.items p) (k.classes p p_in))
          ∙ ap (slice_index now.kept.items) (sym here)
          ∙ sign_of p p_in ∙ signs

  pub is_split : IsSplit n first now moved
  is_split = record {
    laid = k.laid;
    signs = k.signs;
    joins = λ p q p_in q_in. (
      λ same.
          let signs : slice_index first.signs.items p ≡ slice_index first.signs.items q = sym (sign_of p p_in) ∙ ap (slice_index now.kept.items) same ∙ sign_of q q_in in
          (from_one p q p_in q_in same signs, signs),
      λ (same, signs). to_one p q p_in q_in same signs,
    );
    kept = kept;
    below = k.below;
    told = λ p p_in. elim (k.states p p_in) [ inl same ↦ inr same | inr went ↦ inl went.0 ];
  }

pub way_ends : (first now : Partition) (parts listed : List ℕ) (i : ℕ) (moved : List ℕ) → IsUnderWay first now parts listed i moved
    → AreListed (length first.of.items) first listed → length listed ≤ i → IsSplit (length first.of.items) first now moved
way_ends first now parts listed i moved k all past = is_split (length first.of.items) first now parts moved k.splitting (λ p p_in. elim (all p p_in) [
  | inl h ↦ let (j, lt, is) = h in subst (HasKeptSign now) (get_or_default listed j 0 p lt ∙ is) (k.done j (omega arith))
  | inr has ↦ k.others p p_in has
])

-- ---- one state

-- what a made class is
pub record IsMade (n : ℕ) (first old middle : Partition) (parts moved : List ℕ) (class sign made : ℕ) : Type 0 where
  pub splitting : IsSplitting n first middle parts moved
  pub part : ℕ
  pub within : part < length parts
  pub is : slice_index parts part ≡ packed class sign
  pub place : made ≡ length first.kept.items + part
  pub kept : slice_index middle.kept.items made ≡ sign
  pub of : middle.of.items ≡ old.of.items
  pub signs : middle.signs.items ≡ old.signs.items
  pub before : (c : ℕ) → c < length old.kept.items → slice_index middle.kept.items c ≡ slice_index old.kept.items c

module _ (n : ℕ) (first old : Partition) (parts moved : List ℕ) (k : IsSplitting n first old parts moved) (class sign : ℕ) (fits : sign < 2 ^ 32) where
  -- the part was there
  found : (made part : ℕ) → part < length parts → slice_index parts part ≡ packed class sign → made + length parts ≡ length old.kept.items + part
      → IsMade n first old old parts moved class sign made
  found made part within is place =
      let count = k.count in
      let at : made ≡ length first.kept.items + part = omega arith in
      record {
        splitting = k;
        part = part;
        within = within;
        is = is;
        place = at;
        kept = ap (slice_index old.kept.items) at ∙ k.made part class sign within fits is;
        of = refl;
        signs = refl;
        before = λ c c_in. refl;
      }

  module _ (middle : Partition) (more : List ℕ) (made part : ℕ) (made_fits : made < 2 ^ 32) (within : part < length more) (is : slice_index more part ≡ packed class sign)
      (place : made + length more ≡ length middle.kept.items + part) (a : IsAdded old middle parts more (packed class sign) sign) where
    size : length more ≡ length parts + 1
    size = ap length a.parts ∙ length-append parts (packed class sign ∷ [])

    kept_size : length middle.kept.items ≡ length old.kept.items + 1
    kept_size = ap length a.kept ∙ length-append old.kept.items (sign ∷ [])

    old_part : (i : ℕ) → i < length parts → slice_index more i ≡ slice_index parts i
    old_part i lt = ap (λ l. slice_index l i) a.parts ∙ get_or_append_left parts (packed class sign ∷ []) 0 i lt

    new_part : slice_index more (length parts) ≡ packed class sign
    new_part = ap (λ l. slice_index l (length parts)) a.parts ∙ get_or_push parts (packed class sign) 0 (length parts) refl

    old_kept : (c : ℕ) → c < length old.kept.items → slice_index middle.kept.items c ≡ slice_index old.kept.items c
    old_kept c lt = ap (λ l. slice_index l c) a.kept ∙ get_or_append_left old.kept.items (sign ∷ []) 0 c lt

    new_kept : slice_index middle.kept.items (length old.kept.items) ≡ sign
    new_kept = ap (λ l. slice_index l (length old.kept.items)) a.kept ∙ get_or_push old.kept.items sign 0 (length old.kept.items) refl

    absent_at : (i : ℕ) → i < length parts → slice_index parts i ≡ packed class sign → ⊥
    absent_at i lt same = a.absent (i, lt, get_or_default parts i (packed class sign) 0 lt ∙ same)

    is_last : part ≡ length parts
    is_last = elim (cases_lt part (length parts)) [
      | inl lt ↦ absurd (absent_at part lt (sym (old_part part lt) ∙ is))
      | inr past ↦ let s = size in omega arith
    ]

    laid_out : IsLaidOut n middle
    laid_out = let s = size in let t = kept_size in let e = is_last in record {
      of = ap length a.of ∙ k.laid.of;
      signs = ap length a.signs ∙ k.laid.signs;
      members = let m = a.members in let o = k.laid.members in omega arith;
      dues = let m = a.dues in let o = k.laid.dues in omega arith;
      few = omega arith;
      classes = λ p p_in. let o = k.laid.classes p p_in in let f = ap (λ l. class_of l p) a.of in omega arith;
      listed = λ p p_in. subst (λ (l : List ℕ). Contains (numbers_at middle.members.items (class_of l p)) p) (sym a.of) (subst (λ l. Contains l p) (sym (a.lists (class_of old.of.items p))) (k.laid.listed p p_in));
      below = λ c. subst (AreBelow n) (sym (a.lists c)) (k.laid.below c);
    }

    differ : (i j : ℕ) → i < length more → j < length more → slice_index more i ≡ slice_index more j → i ≡ j
    differ i j i_in j_in same = let s = size in elim (cases_lt i (length parts)) [
      | inl i_old ↦ elim (cases_lt j (length parts)) [
        | inl j_old ↦ k.different i j i_old j_old (sym (old_part i i_old) ∙ same ∙ old_part j j_old)
        | inr j_new ↦
            let e : j ≡ length parts = omega arith in
            absurd (absent_at i i_old (sym (old_part i i_old) ∙ same ∙ ap (slice_index more) e ∙ new_part))
      ]
      | inr i_new ↦
          let d : i ≡ length parts = omega arith in
          elim (cases_lt j (length parts)) [
            | inl j_old ↦ absurd (absent_at j j_old (sym (old_part j j_old) ∙ sym same ∙ ap (slice_index more) d ∙ new_part))
            | inr j_new ↦ omega arith
          ]
    ]

    made_for : (i c other : ℕ) → i < length more → other < 2 ^ 32 → slice_index more i ≡ packed c other → slice_index middle.kept.items (length first.kept.items + i) ≡ other
    made_for i c other i_in other_fits same = let s = size in let count = k.count in elim (cases_lt i (length parts)) [
      | inl old_one ↦ old_kept (length first.kept.items + i) (omega arith) ∙ k.made i c other old_one other_fits (sym (old_part i old_one) ∙ same)
      | inr new_one ↦
          let e : i ≡ length parts = omega arith in
          let at : length first.kept.items + i ≡ length old.kept.items = omega arith in
          let both = unpacked class sign c other fits other_fits (sym new_part ∙ ap (slice_index more) (sym e) ∙ same) in
          ap (slice_index middle.kept.items) at ∙ new_kept ∙ both.1
    ]

    still : (p : ℕ) → p < n → (class_of middle.of.items p ≡ class_of first.of.items p) ⊎ (Contains moved p × IsMoved first middle more p)
    still p p_in = elim (k.states p p_in) [
      | inl same ↦ inl (ap (λ l. class_of l p) a.of ∙ same)
      | inr went ↦ let m = went.1 in inr (
        went.0,
        record {
          part = m.part;
          within = let s = size in let w = m.within in omega arith;
          is = old_part m.part m.within ∙ m.is;
          class = ap (λ l. class_of l p) a.of ∙ m.class;
          apart = m.apart;
        },
      )
    ]

    -- the part is a new one
    added : IsMade n first old middle more moved class sign made
    added =
        let s = size in
        let t = kept_size in
        let e = is_last in
        let count = k.count in
        let at : made ≡ length old.kept.items = omega arith in
        record {
          splitting = record {
            laid = laid_out;
            signs = a.signs ∙ k.signs;
            count = omega arith;
            different = differ;
            same = λ c c_in. old_kept c (omega arith) ∙ k.same c c_in;
            made = made_for;
            below = k.below;
            classes = k.classes;
            states = still;
          };
          part = part;
          within = within;
          is = is;
          place = omega arith;
          kept = ap (slice_index middle.kept.items) at ∙ new_kept;
          of = a.of;
          signs = a.signs;
          before = old_kept;
        }

  pub is_made : (middle : Partition) (more : List ℕ) (made : ℕ) → made < 2 ^ 32 → HasClassFor old middle parts more class sign made → IsMade n first old middle more moved class sign made
  unfolding added found
  is_made middle more made made_fits h = elim h.added [
    | inl same ↦
        subst (λ (s : Partition). IsMade n first old s more moved class sign made) (sym same.1)
        (subst (λ (l : List ℕ). IsMade n first old old l moved class sign made) (sym same.0)
        (found made h.part (subst (λ l. h.part < length l) same.0 h.within) (subst (λ l. slice_index l h.part ≡ packed class sign) same.0 h.is)
        (subst (λ (l : List ℕ). made + length l ≡ length old.kept.items + h.part) same.0 (subst (λ (s : Partition). made + length more ≡ length s.kept.items + h.part) same.1 h.place))))
    | inr a ↦ added middle more made h.part made_fits h.within h.is h.place a
  ]

-- nothing is to be done for a state that has the sign
pub stays_in_place : (n : ℕ) (first now : Partition) (parts moved : List ℕ) (state : ℕ) → HasKeptSign now state → IsSplitting n first now parts moved → IsPutInPlace n first now now parts moved state
stays_in_place n first now parts moved state has k = record { splitting = k; kept = has; others = λ p p_in h. h }

module _ (n : ℕ) (first old middle new : Partition) (before parts moved after : List ℕ) (state made : ℕ) (v : Vec ℕ Global)
    (state_in : state < n)
    (k : IsSplitting n first old before moved)
    (fits : slice_index old.signs.items state < 2 ^ 32)
    (apart : HasKeptSign old state → ⊥)
    (m : IsMade n first old middle parts moved (class_of old.of.items state) (slice_index old.signs.items state) made)
    (of : new.of.items ≡ slice_set middle.of.items state made)
    (signs : new.signs.items ≡ middle.signs.items)
    (kept : new.kept.items ≡ middle.kept.items)
    (dues : new.dues.items ≡ middle.dues.items)
    (members : new.members.items ≡ slice_set middle.members.items made v)
    (list : v.items ≡ numbers_at middle.members.items made ++ state ∷ [])
    (told : after ≡ moved ++ state ∷ []) where
  -- the state has not moved before
  unmoved : class_of old.of.items state ≡ class_of first.of.items state
  unmoved = elim (k.states state state_in) [
    | inl same ↦ same
    | inr went ↦
        let w = went.1 in
        absurd (apart (ap (slice_index old.kept.items) w.class ∙ k.made w.part (class_of first.of.items state) (slice_index old.signs.items state) w.within fits (w.is ∙ ap (λ l. packed (class_of first.of.items state) (slice_index l state)) (sym k.signs))))
  ]

  made_in : made < length middle.kept.items
  made_in = let c = m.splitting.count in let p = m.place in let w = m.within in omega arith

  here : class_of new.of.items state ≡ made
  here = let s = m.splitting.laid.of in ap (λ l. class_of l state) of ∙ get_or-set_same middle.of.items state made 0 (omega arith)

  there : (p : ℕ) → (p ≡ state → ⊥) → class_of new.of.items p ≡ class_of middle.of.items p
  there p other = ap (λ l. class_of l p) of ∙ get_or-set_other middle.of.items state p made 0 other

  list_here : numbers_at new.members.items made ≡ numbers_at middle.members.items made ++ state ∷ []
  list_here = let s = m.splitting.laid.members in let i = made_in in ap (λ l. numbers_at l made) members ∙ numbers_set middle.members.items made v (omega arith) ∙ list

  list_there : (c : ℕ) → (c ≡ made → ⊥) → numbers_at new.members.items c ≡ numbers_at middle.members.items c
  list_there c other = ap (λ l. numbers_at l c) members ∙ numbers_stay middle.members.items made c v other

  grown : (c p : ℕ) → Contains (numbers_at middle.members.items c) p → Contains (numbers_at new.members.items c) p
  grown c p h = elim (cases_eq c made) [
    | inl e ↦
        subst (λ (x : ℕ). Contains (numbers_at new.members.items x) p) (sym e) (subst (λ l. Contains l p) (sym list_here)
        (Contains-append_left (numbers_at middle.members.items made) (state ∷ []) p (subst (λ (x : ℕ). Contains (numbers_at middle.members.items x) p) e h)))
    | inr other ↦ subst (λ l. Contains l p) (sym (list_there c other)) h
  ]

  laid_now : IsLaidOut n new
  laid_now = let l = m.splitting.laid in record {
    of = ap length of ∙ length-set middle.of.items state made ∙ l.of;
    signs = ap length signs ∙ l.signs;
    members = ap length members ∙ length-set middle.members.items made v ∙ l.members ∙ sym (ap length kept);
    dues = ap length dues ∙ l.dues ∙ sym (ap length kept);
    few = subst (λ (x : List ℕ). length x ≤ 2 ^ 32) (sym kept) l.few;
    classes = λ p p_in. subst (λ (x : List ℕ). class_of new.of.items p < length x) (sym kept) (elim (cases_eq p state) [
      | inl e ↦ subst (λ (x : ℕ). class_of new.of.items x < length middle.kept.items) (sym e) (subst (λ (x : ℕ). x < length middle.kept.items) (sym here) made_in)
      | inr other ↦ subst (λ (x : ℕ). x < length middle.kept.items) (sym (there p other)) (l.classes p p_in)
    ]);
    listed = λ p p_in. elim (cases_eq p state) [
      | inl e ↦
          subst (λ (x : ℕ). Contains (numbers_at new.members.items (class_of new.of.items x)) x) (sym e) (subst (λ (x : ℕ). Contains (numbers_at new.members.items x) state) (sym here) (subst (λ y. Contains y state) (sym list_here)
          (Contains-push (numbers_at middle.members.items made) state)))
      | inr other ↦ subst (λ (x : ℕ). Contains (numbers_at new.members.items x) p) (sym (there p other)) (grown (class_of middle.of.items p) p (l.listed p p_in))
    ];
    below = λ c. elim (cases_eq c made) [
      | inl e ↦
          subst (λ (x : ℕ). AreBelow n (numbers_at new.members.items x)) (sym e) (subst (AreBelow n) (sym list_here)
          (All-push (λ p. p < n) (numbers_at middle.members.items made) state (l.below made) state_in))
      | inr other ↦ subst (AreBelow n) (sym (list_there c other)) (l.below c)
    ];
  }

  has_moved : IsMoved first new parts state
  has_moved = record {
    part = m.part;
    within = m.within;
    is = m.is ∙ ap (λ c. packed c (slice_index old.signs.items state)) unmoved ∙ ap (λ l. packed (class_of first.of.items state) (slice_index l state)) k.signs;
    class = here ∙ m.place;
    apart = λ has. apart (ap (slice_index old.kept.items) unmoved ∙ k.same (class_of first.of.items state) (k.classes state state_in) ∙ has ∙ ap (λ l. slice_index l state) (sym k.signs));
  }

  pub moves_in_place : IsPutInPlace n first old new parts after state
  moves_in_place = record {
    splitting = record {
      laid = laid_now;
      signs = signs ∙ m.splitting.signs;
      count = ap length kept ∙ m.splitting.count;
      different = m.splitting.different;
      same = λ c c_in. ap (λ l. slice_index l c) kept ∙ m.splitting.same c c_in;
      made = λ i c sign i_in fits_in is. ap (λ l. slice_index l (length first.kept.items + i)) kept ∙ m.splitting.made i c sign i_in fits_in is;
      below = subst (AreBelow n) (sym told) (All-push (λ p. p < n) moved state k.below state_in);
      classes = k.classes;
      states = λ p p_in. elim (cases_eq p state) [
        | inl e ↦ inr (subst (λ l. Contains l p) (sym told) (subst (Contains (moved ++ state ∷ [])) (sym e) (Contains-push moved state)), subst (IsMoved first new parts) (sym e) has_moved)
        | inr other ↦ elim (m.splitting.states p p_in) [
          | inl same ↦ inl (there p other ∙ same)
          | inr went ↦ let w = went.1 in inr (
            subst (λ l. Contains l p) (sym told) (Contains-append_left moved (state ∷ []) p went.0),
            record { part = w.part; within = w.within; is = w.is; class = there p other ∙ w.class; apart = w.apart },
          )
        ]
      ];
    };
    kept = ap (slice_index new.kept.items) here ∙ ap (λ l. slice_index l made) kept ∙ m.kept ∙ ap (λ l. slice_index l state) (sym m.signs) ∙ ap (λ l. slice_index l state) (sym signs);
    others = λ p p_in has. elim (cases_eq p state) [
      | inl e ↦ absurd (apart (subst (HasKeptSign old) e has))
      | inr other ↦
          ap (slice_index new.kept.items) (there p other ∙ ap (λ l. class_of l p) m.of)
          ∙ ap (λ l. slice_index l (class_of old.of.items p)) kept
          ∙ m.before (class_of old.of.items p) (k.laid.classes p p_in)
          ∙ has
          ∙ ap (λ l. slice_index l p) (sym m.signs) ∙ ap (λ l. slice_index l p) (sym signs)
    ];
  }

pub made_within : (n : ℕ) (first old middle : Partition) (parts moved : List ℕ) (class sign made : ℕ) → IsMade n first old middle parts moved class sign made → made < length middle.members.items
made_within n first old middle parts moved class sign made m = let c = m.splitting.count in let p = m.place in let w = m.within in let l = m.splitting.laid.members in omega arith
