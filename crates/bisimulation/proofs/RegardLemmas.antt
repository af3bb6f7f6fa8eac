-- Classes that are regarded one after another.
use Rattle.std.proofs.Common.{◌≡◌, ℕ, ◌+◌, ◌^◌, ◌<◌, ◌≤◌, ◌⊎◌, inl, inr, List, [], ◌∷◌, ◌++◌, length, get_or, slice_index, slice_set, Contains, Vec, Global, sym, ap, ◌∙◌, subst, arith, length-set}
use Rattle.std.proofs.lemmas.Bool.{cases_eq}
use Rattle.std.proofs.lemmas.List.{get_or-set_other, get_or_default}
use Rattle.std.proofs.lemmas.List.Elements.{All-push, All-append, Contains-append_left, Contains-append_right, Contains-push}
use Rattle.auto_core.specs.Quotient.{class_of}
use Rattle.evidence.specs.Tables.{numbers_at}
use Rattle.evidence.proofs.TableLemmas.{numbers_set, numbers_stay}
use Rattle.bisimulation.specs.Rounds.{AreBelow, IsLaidOut, AreListed, IsRelisted, HasAllOf, IsRegarded}
use Rattle.bisimulation.specs.declared.partition.Partition.{Partition}

-- The list of one class has lost only what was no member.
pub relisted : (n : ℕ) (old new : Partition) (c : ℕ) (v : Vec ℕ Global) (left found : List ℕ) → IsLaidOut n old → c < length old.kept.items
    → new.of.items ≡ old.of.items → new.signs.items ≡ old.signs.items → new.kept.items ≡ old.kept.items → new.dues.items ≡ old.dues.items
    → new.members.items ≡ slice_set old.members.items c v → v.items ≡ left ++ found → AreBelow n left → AreBelow n found
    → ((p : ℕ) → Contains (numbers_at old.members.items c) p → class_of old.of.items p ≡ c → Contains left p ⊎ Contains found p)
    → IsRelisted n old new
relisted n old new c v left found laid c_in of signs kept dues members is left_below found_below all = record {
  of = of;
  signs = signs;
  kept = kept;
  laid = record {
    of = ap length of ∙ laid.of;
    signs = ap length signs ∙ laid.signs;
    members = ap length members ∙ length-set old.members.items c v ∙ laid.members ∙ sym (ap length kept);
    dues = ap length dues ∙ laid.dues ∙ sym (ap length kept);
    few = subst (λ (l : List ℕ). length l ≤ 2 ^ 32) (sym kept) laid.few;
    classes = λ p p_in. subst (λ (l : List ℕ). class_of new.of.items p < length l) (sym kept) (subst (λ (l : List ℕ). class_of l p < length old.kept.items) (sym of) (laid.classes p p_in));
    listed = λ p p_in. subst (λ (l : List ℕ). Contains (numbers_at new.members.items (class_of l p)) p) (sym of)
        (elim (cases_eq (class_of old.of.items p) c) [
          | inl e ↦ subst (λ (x : ℕ). Contains (numbers_at new.members.items x) p) (sym e) (subst (λ l. Contains l p) (sym here) (on p p_in e))
          | inr apart ↦ subst (λ l. Contains l p) (sym (there (class_of old.of.items p) apart)) (laid.listed p p_in)
        ]);
    below = λ d. elim (cases_eq d c) [
      | inl e ↦ subst (λ (x : ℕ). AreBelow n (numbers_at new.members.items x)) (sym e) (subst (AreBelow n) (sym here) (All-append (λ p. p < n) left found left_below found_below))
      | inr apart ↦ subst (AreBelow n) (sym (there d apart)) (laid.below d)
    ];
  };
}
  where
    here : numbers_at new.members.items c ≡ left ++ found
    here = let size = laid.members in ap (λ l. numbers_at l c) members ∙ numbers_set old.members.items c v (omega arith) ∙ is

    there : (d : ℕ) → (d ≡ c → ⊥) → numbers_at new.members.items d ≡ numbers_at old.members.items d
    there d apart = ap (λ l. numbers_at l d) members ∙ numbers_stay old.members.items c d v apart

    on : (p : ℕ) → p < n → class_of old.of.items p ≡ c → Contains (left ++ found) p
    on p p_in e = elim (all p (subst (λ (x : ℕ). Contains (numbers_at old.members.items x) p) e (laid.listed p p_in)) e) [
      | inl h ↦ Contains-append_left left found p h
      | inr h ↦ Contains-append_right left found p h
    ]

-- What was relisted is regarded.
pub only_relisted : (n : ℕ) (old new : Partition) (listed : List ℕ) → IsRelisted n old new → AreBelow n listed → IsRegarded n old new listed listed
only_relisted n old new listed k below = record {
  of = k.of;
  signs = k.signs;
  laid = k.laid;
  more = λ p h. h;
  below = below;
  count = ap length k.kept;
  kept = λ p p_in. inr (ap (λ l. slice_index l (class_of old.of.items p)) k.kept);
}

-- So is a class that is listed whole, whatever it is kept by.
pub listed_whole : (n : ℕ) (old middle new : Partition) (c sign : ℕ) (listed more found : List ℕ) → IsRelisted n old middle → AreBelow n listed → HasAllOf n old c found
    → new.of.items ≡ middle.of.items → new.signs.items ≡ middle.signs.items → new.members.items ≡ middle.members.items → new.dues.items ≡ middle.dues.items
    → new.kept.items ≡ slice_set middle.kept.items c sign → more ≡ listed ++ found → IsRegarded n old new listed more
listed_whole n old middle new c sign listed more found k below has of signs members dues kept made = record {
  of = of ∙ k.of;
  signs = signs ∙ k.signs;
  laid = record {
    of = ap length of ∙ k.laid.of;
    signs = ap length signs ∙ k.laid.signs;
    members = ap length members ∙ k.laid.members ∙ sym size;
    dues = ap length dues ∙ k.laid.dues ∙ sym size;
    few = subst (λ (m : ℕ). m ≤ 2 ^ 32) (sym size) k.laid.few;
    classes = λ p p_in. subst (λ (m : ℕ). class_of new.of.items p < m) (sym size) (subst (λ (l : List ℕ). class_of l p < length middle.kept.items) (sym of) (k.laid.classes p p_in));
    listed = λ p p_in. subst (λ (l : List ℕ). Contains (numbers_at new.members.items (class_of l p)) p) (sym of) (subst (λ (t : List (Vec ℕ Global)). Contains (numbers_at t (class_of middle.of.items p)) p) (sym members) (k.laid.listed p p_in));
    below = λ d. subst (λ (t : List (Vec ℕ Global)). AreBelow n (numbers_at t d)) (sym members) (k.laid.below d);
  };
  more = λ p h. subst (λ l. Contains l p) (sym made) (Contains-append_left listed found p h);
  below = subst (AreBelow n) (sym made) (All-append (λ p. p < n) listed found below has.0);
  count = size ∙ ap length k.kept;
  kept = λ p p_in. elim (cases_eq (class_of old.of.items p) c) [
    | inl e ↦ inl (subst (λ l. Contains l p) (sym made) (Contains-append_right listed found p (has.1 p p_in e)))
    | inr apart ↦ inr (ap (λ l. slice_index l (class_of old.of.items p)) kept ∙ get_or-set_other middle.kept.items c (class_of old.of.items p) sign 0 apart ∙ ap (λ l. slice_index l (class_of old.of.items p)) k.kept)
  ];
}
  where
    size : length new.kept.items ≡ length middle.kept.items
    size = ap length kept ∙ length-set middle.kept.items c sign

-- One after another.
pub regarded_both : (n : ℕ) (a b d : Partition) (k l m : List ℕ) → IsRegarded n a b k l → IsRegarded n b d l m → IsRegarded n a d k m
regarded_both n a b d k l m one two = record {
  of = two.of ∙ one.of;
  signs = two.signs ∙ one.signs;
  laid = two.laid;
  more = λ p h. two.more p (one.more p h);
  below = two.below;
  count = two.count ∙ one.count;
  kept = λ p p_in. elim (one.kept p p_in) [
    | inl h ↦ inl (two.more p h)
    | inr same ↦ elim (two.kept p p_in) [
      | inl h ↦ inl h
      | inr again ↦ inr (ap (slice_index d.kept.items) (ap (λ l. class_of l p) (sym one.of)) ∙ again ∙ ap (slice_index b.kept.items) (ap (λ l. class_of l p) one.of) ∙ same)
    ]
  ];
}

-- The number of due members is of no account.
pub dues_changed : (n : ℕ) (old new : Partition) (listed : List ℕ) → IsLaidOut n old → AreBelow n listed
    → new.of.items ≡ old.of.items → new.signs.items ≡ old.signs.items → new.kept.items ≡ old.kept.items → new.members.items ≡ old.members.items → length new.dues.items ≡ length old.dues.items
    → IsRegarded n old new listed listed
dues_changed n old new listed laid below of signs kept members dues = record {
  of = of;
  signs = signs;
  laid = record {
    of = ap length of ∙ laid.of;
    signs = ap length signs ∙ laid.signs;
    members = ap length members ∙ laid.members ∙ sym (ap length kept);
    dues = dues ∙ laid.dues ∙ sym (ap length kept);
    few = subst (λ (l : List ℕ). length l ≤ 2 ^ 32) (sym kept) laid.few;
    classes = λ p p_in. subst (λ (l : List ℕ). class_of new.of.items p < length l) (sym kept) (subst (λ (l : List ℕ). class_of l p < length old.kept.items) (sym of) (laid.classes p p_in));
    listed = λ p p_in. subst (λ (l : List ℕ). Contains (numbers_at new.members.items (class_of l p)) p) (sym of) (subst (λ (t : List (Vec ℕ Global)). Contains (numbers_at t (class_of old.of.items p)) p) (sym members) (laid.listed p p_in));
    below = λ d. subst (λ (t : List (Vec ℕ Global)). AreBelow n (numbers_at t d)) (sym members) (laid.below d);
  };
  more = λ p h. h;
  below = below;
  count = ap length kept;
  kept = λ p p_in. inr (ap (λ l. slice_index l (class_of old.of.items p)) kept);
}

-- ---- the due states, one after another

pub record IsListing (first now : Partition) (due : List ℕ) (i : ℕ) (listed : List ℕ) : Type 0 where
  pub regarded : IsRegarded (length first.of.items) first now [] listed
  pub all : (j : ℕ) → j < i → Contains listed (get_or due j 0)

pub listing_starts : (first now : Partition) (due listed : List ℕ) → listed ≡ [] → IsRegarded (length first.of.items) first now [] [] → IsListing first now due 0 listed
listing_starts first now due listed none k = record {
  regarded = subst (IsRegarded (length first.of.items) first now []) (sym none) k;
  all = λ j lt. absurd (omega arith);
}

pub listing_more : (first now next : Partition) (due : List ℕ) (i : ℕ) (listed pushed more : List ℕ) → IsListing first now due i listed → i < length due → AreBelow (length first.of.items) due
    → pushed ≡ listed ++ get_or due i 0 ∷ [] → IsRegarded (length first.of.items) now next pushed more → IsListing first next due (i + 1) more
listing_more first now next due i listed pushed more k lt below made step = record {
  regarded = regarded_both (length first.of.items) first now next [] pushed more with_it step;
  all = λ j j_lt. elim (cases_eq j i) [
    | inl e ↦ step.more (get_or due j 0) (subst (λ l. Contains l (get_or due j 0)) (sym made) (subst (Contains (listed ++ get_or due i 0 ∷ [])) (ap (λ x. get_or due x 0) (sym e)) (Contains-push listed (get_or due i 0))))
    | inr apart ↦ step.more (get_or due j 0) (subst (λ l. Contains l (get_or due j 0)) (sym made) (Contains-append_left listed (get_or due i 0 ∷ []) (get_or due j 0) (k.all j (omega arith))))
  ];
}
  where
    with_it : IsRegarded (length first.of.items) first now [] pushed
    with_it = let r = k.regarded in record {
      of = r.of;
      signs = r.signs;
      laid = r.laid;
      more = λ p h. subst (λ l. Contains l p) (sym made) (Contains-append_left listed (get_or due i 0 ∷ []) p (r.more p h));
      below = subst (AreBelow (length first.of.items)) (sym made) (All-push (λ p. p < length first.of.items) listed (get_or due i 0) r.below (below i 0 lt));
      count = r.count;
      kept = λ p p_in. elim (r.kept p p_in) [
        | inl h ↦ inl (subst (λ l. Contains l p) (sym made) (Contains-append_left listed (get_or due i 0 ∷ []) p h))
        | inr same ↦ inr same
      ];
    }

pub listing_ends : (first now : Partition) (due : List ℕ) (i : ℕ) (listed : List ℕ) → IsListing first now due i listed → length due ≤ i → AreListed (length first.of.items) first due → AreListed (length first.of.items) now listed
listing_ends first now due i listed k past kept p p_in = elim (kept p p_in) [
  | inl h ↦ let (j, lt, is) = h in inl (subst (Contains listed) (get_or_default due j 0 p lt ∙ is) (k.all j (omega arith)))
  | inr has ↦ elim (k.regarded.kept p p_in) [
    | inl h ↦ inl h
    | inr same ↦ inr (ap (slice_index now.kept.items) (ap (λ l. class_of l p) k.regarded.of) ∙ same ∙ has ∙ ap (λ l. slice_index l p) (sym k.regarded.signs))
  ]
]
