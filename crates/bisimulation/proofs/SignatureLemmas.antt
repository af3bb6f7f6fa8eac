-- Signatures and the table that has them.
use Rattle.std.proofs.Common.{◌≡◌, ℕ, ◌+◌, ◌^◌, ◌<◌, ◌≤◌, ◌↔◌, inl, inr, Bool, nat_eq, List, [], ◌∷◌, ◌++◌, length, map, take, get_or, slice_index, slice_index_or, slice_set, Contains, Vec, Global, refl, sym, ap, ◌∙◌, subst, arith, length-append, length-set}
use Rattle.std.specs.Cmp.Lexicographic.{pointwise}
use Rattle.std.proofs.lemmas.Bool.{cases_eq, cases_lt}
use Rattle.std.proofs.lemmas.List.{get_or_append_left, get_or_push, get_or_default, get_or-set_same, get_or-set_other, length-map, map-append, take_more}
use Rattle.std.proofs.lemmas.List.Elements.{Contains-append_left, Contains-push, Contains-push_cases}
use Rattle.std.proofs.lemmas.List.Kept.{AllPairs-from_increasing}
use Rattle.std.proofs.lemmas.Nat.{same_from_place}
use Rattle.auto_core.specs.Automaton.{Automaton, Moves, IsOutgoing, trans_at}
use Rattle.auto_core.specs.declared.parts.Trans.{Trans}
use Rattle.auto_core.specs.Quotient.{class_of}
use Rattle.auto_core.proofs.MemberLemmas.{rises_from_pairs, same_members}
use Rattle.auto_core.proofs.MoveLemmas.{outgoing_moves, moves_in_outgoing}
use Rattle.evidence.specs.Tables.{numbers_at}
use Rattle.evidence.proofs.TableLemmas.{numbers_is}
use Rattle.bisimulation.specs.Signatures.{packed, IsMark, IsSignature, IsSignedBy, AreDifferent, KeepsNumbers, AreSigned}

-- ---- the marks of a state's moves, one after another

pub record IsMarking (A : Automaton) (classes : List ℕ) (p first t : ℕ) (made : List ℕ) : Type 0 where
  pub each : (mark : ℕ) → Contains made mark → IsMark A classes p mark
  pub all : (j : ℕ) → first ≤ j → j < t → Contains made (packed (trans_at A j).label (class_of classes (trans_at A j).target))

pub marking_starts : (A : Automaton) (classes : List ℕ) (p first : ℕ) (made : List ℕ) → made ≡ [] → IsMarking A classes p first first made
marking_starts A classes p first made none = record {
  each = λ mark there. let (k, lt, is) = subst (λ l. Contains l mark) none there in absurd (omega arith);
  all = λ j from lt. absurd (omega arith);
}

pub marking_more : (A : Automaton) (classes : List ℕ) (p first t e : ℕ) (made new : List ℕ) (mark : ℕ) → IsMarking A classes p first t made
    → IsOutgoing A p first e → first ≤ t → t < e → mark ≡ packed (trans_at A t).label (class_of classes (trans_at A t).target) → new ≡ made ++ mark ∷ []
    → IsMarking A classes p first (t + 1) new
marking_more A classes p first t e made new mark k span from lt is pushed = record {
  each = λ other there. elim (Contains-push_cases made mark other (subst (λ l. Contains l other) pushed there)) [
    | inl old ↦ k.each other old
    | inr same ↦ ((trans_at A t).label, (trans_at A t).target, outgoing_moves A p first e span t from lt, sym same ∙ is)
  ];
  all = λ j from_j lt_j. elim (cases_eq j t) [
    | inl same ↦
        subst (λ l. Contains l (packed (trans_at A j).label (class_of classes (trans_at A j).target))) (sym pushed)
        (subst (Contains (made ++ mark ∷ [])) (is ∙ ap (λ i. packed (trans_at A i).label (class_of classes (trans_at A i).target)) (sym same)) (Contains-push made mark))
    | inr apart ↦
        subst (λ l. Contains l (packed (trans_at A j).label (class_of classes (trans_at A j).target))) (sym pushed)
        (Contains-append_left made (mark ∷ []) (packed (trans_at A j).label (class_of classes (trans_at A j).target)) (k.all j from_j (omega arith)))
  ];
}

pub marking_ends : (A : Automaton) (classes : List ℕ) (p first t e : ℕ) (made : List ℕ) → IsMarking A classes p first t made → IsOutgoing A p first e → e ≤ t
    → (mark : ℕ) → Contains made mark ↔ IsMark A classes p mark
marking_ends A classes p first t e made k span past mark = (
  k.each mark,
  λ (a, r, move, is).
      let (j, from, lt, at) = moves_in_outgoing A p first e span a r move in
      let same : packed (trans_at A j).label (class_of classes (trans_at A j).target) ≡ mark = ap (λ (u : Trans). packed u.label (class_of classes u.target)) at ∙ sym is in
      subst (Contains made) same (k.all j from (omega arith)),
)

-- ---- a signature is one list

below_each : (x y : ℕ) → x < y → y < x → ⊥
below_each x y h g = omega arith

-- Two states whose moves have the same marks have one signature.
pub one_signature : (A : Automaton) (classes : List ℕ) (p q : ℕ) (xs ys : List ℕ) → IsSignature A classes p xs → IsSignature A classes q ys
    → ((mark : ℕ) → IsMark A classes p mark → IsMark A classes q mark) → ((mark : ℕ) → IsMark A classes q mark → IsMark A classes p mark) → xs ≡ ys
one_signature A classes p q xs ys k l to from =
    same_members (λ x y. x < y) below_each xs ys
    (rises_from_pairs (λ x y. x < y) xs (AllPairs-from_increasing xs k.rising))
    (rises_from_pairs (λ x y. x < y) ys (AllPairs-from_increasing ys l.rising))
    (λ mark there. (l.marks mark).1 (to mark ((k.marks mark).0 there)))
    (λ mark there. (k.marks mark).1 (from mark ((l.marks mark).0 there)))

-- The signature stays where the classes of the targets do.
pub signature_as : (A : Automaton) (old new : List ℕ) (p : ℕ) (xs : List ℕ) → ((a r : ℕ) → Moves A p a r → class_of new r ≡ class_of old r)
    → IsSignature A old p xs → IsSignature A new p xs
signature_as A old new p xs same k = record {
  rising = k.rising;
  marks = λ mark. (
    λ there. let (a, r, move, is) = (k.marks mark).0 there in (a, r, move, is ∙ ap (packed a) (sym (same a r move))),
    λ (a, r, move, is). (k.marks mark).1 (a, r, move, is ∙ ap (packed a) (same a r move)),
  );
}

-- Two pairs that are packed as one are one.
pub unpacked : (a c b d : ℕ) → c < 2 ^ 32 → d < 2 ^ 32 → packed a c ≡ packed b d → (a ≡ b) × (c ≡ d)
unpacked a c b d c_fits d_fits is = same_from_place a c b d (2 ^ 32) c_fits d_fits is

-- ---- the table

-- whether two lists have the same numbers
abbrev pub same_list : Vec ℕ Global → Vec ℕ Global → Bool
same_list v w = pointwise nat_eq v.items w.items

pub numbers_read : (table : List (Vec ℕ Global)) (i : ℕ) (d : Vec ℕ Global) → i < length table → numbers_at table i ≡ (get_or table i d).items
numbers_read table i d lt = numbers_is table i (get_or table i d) lt (get_or_default table i d (get_or table i d) lt)

pub numbers_before : (table : List (Vec ℕ Global)) (v : Vec ℕ Global) (i : ℕ) → i < length table → numbers_at (table ++ v ∷ []) i ≡ numbers_at table i
numbers_before table v i lt =
    ap (λ l. slice_index_or l i []) (map-append (λ (x : Vec ℕ Global). x.items) table (v ∷ []))
    ∙ get_or_append_left (map (λ (x : Vec ℕ Global). x.items) table) (v.items ∷ []) [] i (subst (λ n. i < n) (sym (length-map table (λ (x : Vec ℕ Global). x.items))) lt)

pub numbers_last : (table : List (Vec ℕ Global)) (v : Vec ℕ Global) → numbers_at (table ++ v ∷ []) (length table) ≡ v.items
numbers_last table v =
    ap (λ l. slice_index_or l (length table) []) (map-append (λ (x : Vec ℕ Global). x.items) table (v ∷ []))
    ∙ get_or_push (map (λ (x : Vec ℕ Global). x.items) table) v.items [] (length table) (length-map table (λ (x : Vec ℕ Global). x.items))

pub different_pushed : (table : List (Vec ℕ Global)) (v : Vec ℕ Global) → AreDifferent table → ((i : ℕ) → i < length table → numbers_at table i ≡ v.items → ⊥) → AreDifferent (table ++ v ∷ [])
different_pushed table v different absent i j i_in j_in same =
    let len = length-append table (v ∷ []) in
    elim (cases_lt i (length table)) [
      | inl i_old ↦ elim (cases_lt j (length table)) [
        | inl j_old ↦ different i j i_old j_old (sym (numbers_before table v i i_old) ∙ same ∙ numbers_before table v j j_old)
        | inr j_new ↦
            let e : j ≡ length table = omega arith in
            absurd (absent i i_old (sym (numbers_before table v i i_old) ∙ same ∙ ap (numbers_at (table ++ v ∷ [])) e ∙ numbers_last table v))
      ]
      | inr i_new ↦
          let d : i ≡ length table = omega arith in
          elim (cases_lt j (length table)) [
            | inl j_old ↦ absurd (absent j j_old (sym (numbers_before table v j j_old) ∙ sym same ∙ ap (numbers_at (table ++ v ∷ [])) d ∙ numbers_last table v))
            | inr j_new ↦ omega arith
          ]
    ]

pub keeps_pushed : (table : List (Vec ℕ Global)) (v : Vec ℕ Global) → KeepsNumbers table (table ++ v ∷ [])
keeps_pushed table v i lt = let len = length-append table (v ∷ []) in (omega arith, numbers_before table v i lt)

-- ---- signing one state after another

pub signing_starts : (A : Automaton) (classes : List ℕ) (table : List (Vec ℕ Global)) (states signs : List ℕ) → AreDifferent table → AreSigned A classes table table (take 0 states) signs signs
signing_starts A classes table states signs different = record {
  size = refl;
  different = different;
  keeps = λ i lt. (lt, refl);
  signed = λ p (k, lt, is). absurd (omega arith);
  others = λ p. inr refl;
}

pub signed_as : (A : Automaton) (classes : List ℕ) (old new : List (Vec ℕ Global)) (p number : ℕ) → KeepsNumbers old new → IsSignedBy A classes old p number → IsSignedBy A classes new p number
signed_as A classes old new p number keeps (within, signature) =
    let (lt, same) = keeps number within in
    (lt, subst (IsSignature A classes p) (sym same) signature)

pub signed_more : (A : Automaton) (classes : List ℕ) (t0 t1 t2 : List (Vec ℕ Global)) (states s0 s1 s2 : List ℕ) (i number : ℕ) (signature : List ℕ)
    → AreSigned A classes t0 t1 (take i states) s0 s1 → i < length states → get_or states i 0 < length s1
    → KeepsNumbers t1 t2 → AreDifferent t2 → number < length t2 → numbers_at t2 number ≡ signature → IsSignature A classes (get_or states i 0) signature
    → s2 ≡ slice_set s1 (get_or states i 0) number
    → AreSigned A classes t0 t2 (take (i + 1) states) s0 s2
signed_more A classes t0 t1 t2 states s0 s1 s2 i number signature k lt p_in keeps different within at right made = record {
  size = ap length made ∙ length-set s1 (get_or states i 0) number ∙ k.size;
  different = different;
  keeps = λ j j_in. let (one_in, one) = k.keeps j j_in in let (two_in, two) = keeps j one_in in (two_in, two ∙ one);
  signed = λ q there. elim (cases_eq q (get_or states i 0)) [
    | inl e ↦ subst (λ x. IsSignedBy A classes t2 x (slice_index s2 x)) (sym e) here
    | inr apart ↦ elim (Contains-push_cases (take i states) (get_or states i 0) q (subst (λ l. Contains l q) (take_more states i 0 lt) there)) [
      | inl old ↦ subst (IsSignedBy A classes t2 q) (sym (other q apart)) (signed_as A classes t1 t2 q (slice_index s1 q) keeps (k.signed q old))
      | inr new ↦ absurd (apart (sym new))
    ]
  ];
  others = λ q. elim (cases_eq q (get_or states i 0)) [
    | inl e ↦ inl (subst (λ l. Contains l q) (sym (take_more states i 0 lt)) (subst (Contains (take i states ++ (get_or states i 0) ∷ [])) (sym e) (Contains-push (take i states) (get_or states i 0))))
    | inr apart ↦ elim (k.others q) [
      | inl old ↦ inl (subst (λ l. Contains l q) (sym (take_more states i 0 lt)) (Contains-append_left (take i states) ((get_or states i 0) ∷ []) q old))
      | inr same ↦ inr (other q apart ∙ same)
    ]
  ];
}
  where
    other : (q : ℕ) → (q ≡ get_or states i 0 → ⊥) → slice_index s2 q ≡ slice_index s1 q
    other q apart = ap (λ l. slice_index l q) made ∙ get_or-set_other s1 (get_or states i 0) q number 0 apart

    here : IsSignedBy A classes t2 (get_or states i 0) (slice_index s2 (get_or states i 0))
    here =
        let is : slice_index s2 (get_or states i 0) ≡ number = ap (λ l. slice_index l (get_or states i 0)) made ∙ get_or-set_same s1 (get_or states i 0) number 0 p_in in
        subst (IsSignedBy A classes t2 (get_or states i 0)) (sym is) (within, subst (IsSignature A classes (get_or states i 0)) (sym at) right)
