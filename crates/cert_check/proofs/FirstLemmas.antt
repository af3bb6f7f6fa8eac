-- The first numbers of graphs, as blocks become known.
use Rattle.std.proofs.Common.{◌≡◌, ◌≢◌, ◌↔◌, ◌⊎◌, ℕ, ◌+◌, ◌<◌, ◌≤◌, inl, inr, Bool, true, false, cond, List, [], ◌∷◌, ◌++◌, length, drop, slice_index_or, Some, None, Bor, refl, sym, ap, ◌∙◌, subst, arith}
use Rattle.std.specs.BTreeMap.{BTreeMap}
use Rattle.std.specs.BTreeMap as tree
use Rattle.std.specs.Ordering.{is_eq, nat_cmp}
use Rattle.std.specs.Str.{bytes_eq}
use Rattle.std.proofs.lemmas.Slice.Eq.{bytes_eq-Decides}
use Rattle.std.proofs.lemmas.Bool.{cases_lt, false≢true}
use Rattle.std.proofs.lemmas.List.{get_or_append_left, get_or_push, drop_more}
use Rattle.std.proofs.lemmas.Map.Lookups.{exact_unsigned}
use Rattle.std.proofs.lemmas.Map.Views.{tells_apart}
use Rattle.shared_graphs.specs.Graphs.{block_at}
use Rattle.cert_check.specs.declared.firsts.Known.{Known}
use Rattle.cert_check.specs.Firsts.{mixed_with, mixed_fours, first_with, known_by, IsBlockKnown, HasFirstNumber, AreTheirs, IsNumberKnown, AreFirsts}

some_is : {X : Type 0} (x y : X) → Some x ≡ Some y → x ≡ y
some_is x y e = cc

none_is_some : {X : Type 0} (x : X) → None ≡ Some x → ⊥
none_is_some x e = cc

-- The block was known, or it becomes known.
pub known_already : (known : BTreeMap (Bor (List ℕ)) ℕ) (block : List ℕ) (number first : ℕ) → known_by known block ≡ Some first → IsBlockKnown known known block number first
known_already known block number first is = record { here = is; stay = λ b k was. was; only = λ b k was. inl was }

pub known_now : (old new : BTreeMap (Bor (List ℕ)) ℕ) (block : List ℕ) (number : ℕ) → known_by old block ≡ None →
    ((b : List ℕ) → known_by new b ≡ cond (bytes_eq block b) (Some number) (known_by old b)) → IsBlockKnown old new block number number
known_now old new block number none updates = record {
  here = elim (cases block) [ inl (same, is) ↦ is | inr (differs, is) ↦ absurd (differs refl) ];
  stay = λ b k was. elim (cases b) [
    | inl (same, is) ↦ absurd (none_is_some k (sym none ∙ ap (known_by old) same ∙ was))
    | inr (differs, is) ↦ is ∙ was
  ];
  only = λ b k now. elim (cases b) [
    | inl (same, is) ↦ inr (sym same, some_is k number (sym now ∙ is))
    | inr (differs, is) ↦ inl (sym is ∙ now)
  ];
}
  where
    by : (b : List ℕ) (e : Bool) → ((e ≡ true) ↔ (block ≡ b)) → known_by new b ≡ cond e (Some number) (known_by old b) →
        ((block ≡ b) × (known_by new b ≡ Some number)) ⊎ ((block ≡ b → ⊥) × (known_by new b ≡ known_by old b))
    by b true same is = inl (same.0 refl, is)
    by b false same is = inr (λ e. false≢true (same.1 e), is)

    cases : (b : List ℕ) → ((block ≡ b) × (known_by new b ≡ Some number)) ⊎ ((block ≡ b → ⊥) × (known_by new b ≡ known_by old b))
    cases b = by b (bytes_eq block b) (bytes_eq-Decides block b) (updates b)

-- Four words more.
pub four_more : (mixed one two three four now : ℕ) (words : List ℕ) (at : ℕ) → at + 4 ≤ length words → one ≡ mixed_with 0 (slice_index_or words at 0) → two ≡ mixed_with one (slice_index_or words (at + 1) 0) →
    three ≡ mixed_with two (slice_index_or words (at + 2) 0) → four ≡ mixed_with three (slice_index_or words (at + 3) 0) → now ≡ mixed_with mixed four →
    mixed_fours now (drop (at + 4) words) ≡ mixed_fours mixed (drop at words)
four_more mixed one two three four now words at le one_is two_is three_is four_is now_is =
    ap (λ n. mixed_fours n (drop (at + 4) words)) (now_is ∙ ap (mixed_with mixed) four_mixed) ∙ sym (ap (mixed_fours mixed) fronts)
  where
    word : ℕ → ℕ
    word i = slice_index_or words i 0

    front : (i j : ℕ) → j ≡ i + 1 → i < length words → drop i words ≡ word i ∷ drop j words
    front i j next lt = drop_more words i 0 lt ∙ ap (λ n. word i ∷ drop n words) (sym next)

    fronts : drop at words ≡ word at ∷ word (at + 1) ∷ word (at + 2) ∷ word (at + 3) ∷ drop (at + 4) words
    fronts =
        front at (at + 1) refl (omega (arith, le))
        ∙ ap (λ l. word at ∷ l)
        (front (at + 1) (at + 2) (omega arith) (omega (arith, le))
        ∙ ap (λ l. word (at + 1) ∷ l)
        (front (at + 2) (at + 3) (omega arith) (omega (arith, le)) ∙ ap (λ l. word (at + 2) ∷ l) (front (at + 3) (at + 4) (omega arith) (omega (arith, le)))))

    four_mixed : four ≡ mixed_with (mixed_with (mixed_with (mixed_with 0 (word at)) (word (at + 1))) (word (at + 2))) (word (at + 3))
    four_mixed =
        four_is
        ∙ ap (λ n. mixed_with n (word (at + 3)))
        (three_is ∙ ap (λ n. mixed_with n (word (at + 2))) (two_is ∙ ap (λ n. mixed_with n (word (at + 1))) one_is))

nat_cmp_cases : (x y : ℕ) → (x ≡ y) ⊎ (is_eq (nat_cmp x y) ≡ false)
nat_cmp_cases x y = by (is_eq (nat_cmp x y)) refl
  where
    by : (e : Bool) → is_eq (nat_cmp x y) ≡ e → (x ≡ y) ⊎ (is_eq (nat_cmp x y) ≡ false)
    by true e = inl (tells_apart exact_unsigned x y e)
    by false e = inr e

-- What is below a number is below the next one.
later_theirs : (graphs : List (List ℕ)) (below : ℕ) (known : Known) → AreTheirs graphs below known → AreTheirs graphs (below + 1) known
later_theirs graphs below known held = record {
  mixed = λ b k is. let before : k < below = held.mixed b k is in omega (arith, before);
  blocks = λ b k is. let (before, same) = held.blocks b k is in (omega (arith, before), same);
}

-- The block was not known, and no graph had its mixed number.
module _ (graphs : List (List ℕ)) (old new : Known) (number : ℕ) where
  abbrev block : List ℕ
  block = block_at graphs number

  module _ (none : first_with old block ≡ None) (same : new.by_block ≡ old.by_block) (updates : tree.Updates nat_cmp old.by_mixed new.by_mixed (mixed_fours 0 block) (Some number)) where
    first_stays : (b : List ℕ) (k : ℕ) → first_with old b ≡ Some k → first_with new b ≡ Some k
    first_stays b k is = elim (nat_cmp_cases (mixed_fours 0 block) (mixed_fours 0 b)) [
      | inl e ↦ absurd (none_is_some k (sym none ∙ ap (tree.get nat_cmp old.by_mixed) e ∙ is))
      | inr differs ↦ updates.2 (mixed_fours 0 b) differs ∙ is
    ]

    first_below : AreTheirs graphs number old → (b : List ℕ) (k : ℕ) → first_with new b ≡ Some k → k < number + 1
    first_below held b k is = elim (nat_cmp_cases (mixed_fours 0 block) (mixed_fours 0 b)) [
      | inl e ↦
          let last : number ≡ k = some_is number k (sym updates.1 ∙ ap (tree.get nat_cmp new.by_mixed) e ∙ is) in
          omega (arith, last)
      | inr differs ↦
          let before : k < number = held.mixed b k (sym (updates.2 (mixed_fours 0 b) differs) ∙ is) in
          omega (arith, before)
    ]

    pub number_new : IsNumberKnown graphs old new number number
    number_new = record {
      here = (number, updates.1, inl (refl, refl));
      stay = λ b k has. (has.0, first_stays b has.0 has.1, subst (λ m. ((block_at graphs has.0 ≡ b) × (k ≡ has.0)) ⊎ ((block_at graphs has.0 ≢ b) × (known_by m b ≡ Some k))) (sym same) has.2);
      theirs = λ held. record { mixed = first_below held; blocks = λ b k is. (later_theirs graphs number old held).blocks b k (ap (λ m. known_by m b) (sym same) ∙ is) };
    }

  -- The first graph with its mixed number has the block.
  pub number_first : (first : ℕ) → first_with old block ≡ Some first → block_at graphs first ≡ block → new ≡ old → IsNumberKnown graphs old new number first
  number_first first is same unchanged = record {
    here = (first, ap (λ m. first_with m block) unchanged ∙ is, inl (same, refl));
    stay = λ b k has. subst (λ m. HasFirstNumber graphs m b k) (sym unchanged) has;
    theirs = λ held. subst (AreTheirs graphs (number + 1)) (sym unchanged) (later_theirs graphs number old held);
  }

  -- It has another one.
  pub number_other : (first other : ℕ) → first_with old block ≡ Some first → block_at graphs first ≢ block → new.by_mixed ≡ old.by_mixed →
      IsBlockKnown old.by_block new.by_block block number other → IsNumberKnown graphs old new number other
  number_other first other is differs same known = record {
    here = (first, ap (λ m. tree.get nat_cmp m (mixed_fours 0 block)) same ∙ is, inr (differs, known.here));
    stay = λ b k has. (has.0, ap (λ m. tree.get nat_cmp m (mixed_fours 0 b)) same ∙ has.1, elim has.2 [ inl here ↦ inl here | inr there ↦ inr (there.0, known.stay b k there.1) ]);
    theirs = λ held. record {
      mixed = λ b k now. (later_theirs graphs number old held).mixed b k (ap (λ m. tree.get nat_cmp m (mixed_fours 0 b)) (sym same) ∙ now);
      blocks = λ b k now. elim (known.only b k now) [
        | inl was ↦ (later_theirs graphs number old held).blocks b k was
        | inr last ↦ (omega (arith, last.1), ap (block_at graphs) last.1 ∙ sym last.0)
      ];
    };
  }

-- A block has one number.
one_number : (graphs : List (List ℕ)) (known : Known) (block : List ℕ) (j k : ℕ) → HasFirstNumber graphs known block j → HasFirstNumber graphs known block k → j ≡ k
one_number graphs known b j k (f, f_is, f_has) (g, g_is, g_has) =
    let same : f ≡ g = some_is f g (sym f_is ∙ g_is) in
    elim f_has [
      | inl (f_same, j_is) ↦ elim g_has [
        | inl (g_same, k_is) ↦ j_is ∙ same ∙ sym k_is
        | inr (differs, k_is) ↦ absurd (differs (ap (block_at graphs) (sym same) ∙ f_same))
      ]
      | inr (differs, j_is) ↦ elim g_has [
        | inl (g_same, k_is) ↦ absurd (differs (ap (block_at graphs) same ∙ g_same))
        | inr (also, k_is) ↦ some_is j k (sym j_is ∙ k_is)
      ]
    ]

-- The graph with this number is below what the known ones are below, and has the block.
its_block : (graphs : List (List ℕ)) (below : ℕ) (known : Known) → AreTheirs graphs below known → (block : List ℕ) (k : ℕ) → HasFirstNumber graphs known block k →
    (k < below) × (block_at graphs k ≡ block)
its_block graphs below known held b k (first, is, has) = elim has [
  | inl (same, k_is) ↦ let first_in : first < below = held.mixed b first is in (omega (arith, first_in, k_is), ap (block_at graphs) k_is ∙ same)
  | inr (differs, k_is) ↦ held.blocks b k k_is
]

-- What is so of each number in its place is so with one more behind them.
each_more : (P : ℕ → ℕ → Type 0) (firsts next : List ℕ) (k first : ℕ) → length firsts ≡ k → ((j : ℕ) → j < k → P j (slice_index_or firsts j 0)) → P k first → next ≡ firsts ++ first ∷ [] →
    (j : ℕ) → j < k + 1 → P j (slice_index_or next j 0)
each_more P firsts next k first size each last next_is j lt = elim (cases_lt j k) [
  | inl before ↦ subst (P j) (sym (ap (λ l. slice_index_or l j 0) next_is ∙ get_or_append_left firsts (first ∷ []) 0 j (omega (arith, size)))) (each j before)
  | inr after ↦
      let here : j ≡ k = omega arith in
      subst (λ i. P i (slice_index_or next i 0)) (sym here) (subst (P k) (sym (ap (λ l. slice_index_or l k 0) next_is ∙ get_or_push firsts first 0 k size)) last)
]

-- The block of each graph has its number, which is not behind the graph's.
abbrev pub AreNumbered : List (List ℕ) → Known → List ℕ → ℕ → Type 0
AreNumbered graphs known firsts count = (j : ℕ) → j < count → HasFirstNumber graphs known (block_at graphs j) (slice_index_or firsts j 0) × (slice_index_or firsts j 0 ≤ j)

-- One graph more.
pub told_more : (graphs : List (List ℕ)) (old new : Known) (firsts next : List ℕ) (k first : ℕ) → length firsts ≡ k → AreTheirs graphs k old → AreNumbered graphs old firsts k →
    IsNumberKnown graphs old new k first → next ≡ firsts ++ first ∷ [] → AreNumbered graphs new next (k + 1)
told_more graphs old new firsts next k first size held told known next_is =
    let below : first < k + 1 = (its_block graphs (k + 1) new (known.theirs held) (block_at graphs k) first known.here).0 in
    each_more (λ j number. HasFirstNumber graphs new (block_at graphs j) number × (number ≤ j)) firsts next k first size
    (λ j before. (known.stay (block_at graphs j) (slice_index_or firsts j 0) (told j before).0, (told j before).1)) (known.here, omega (arith, below)) next_is

pub firsts_told : (graphs : List (List ℕ)) (below : ℕ) (known : Known) (firsts : List ℕ) → AreTheirs graphs below known → AreNumbered graphs known firsts (length graphs) → AreFirsts graphs firsts
firsts_told graphs below known firsts held told k k_in =
    let (has, upto) = told k k_in in
    record {
      same = (its_block graphs below known held (block_at graphs k) (slice_index_or firsts k 0) has).1;
      least = λ j alike. elim (cases_lt j (length graphs)) [
        | inl j_in ↦
            let number : ℕ = slice_index_or firsts j 0 in
            let there : HasFirstNumber graphs known (block_at graphs k) number = subst (λ b. HasFirstNumber graphs known b number) alike (told j j_in).0 in
            let one : number ≡ slice_index_or firsts k 0 = one_number graphs known (block_at graphs k) number (slice_index_or firsts k 0) there has in
            omega (arith, one, (told j j_in).1)
        | inr after ↦ omega (arith, after, upto, k_in)
      ];
    }

-- Two graphs have one first number just where they have the same block.
pub alike_by_firsts : (graphs : List (List ℕ)) (firsts : List ℕ) → AreFirsts graphs firsts → (j k : ℕ) → j < length graphs → k < length graphs →
    (slice_index_or firsts j 0 ≡ slice_index_or firsts k 0) ↔ (block_at graphs j ≡ block_at graphs k)
alike_by_firsts graphs firsts are j k j_in k_in = (
  λ one. sym (are j j_in).same ∙ ap (block_at graphs) one ∙ (are k k_in).same,
  λ same.
      let before : slice_index_or firsts j 0 ≤ slice_index_or firsts k 0 = (are j j_in).least (slice_index_or firsts k 0) ((are k k_in).same ∙ sym same) in
      let after : slice_index_or firsts k 0 ≤ slice_index_or firsts j 0 = (are k k_in).least (slice_index_or firsts j 0) ((are j j_in).same ∙ same) in
      omega (arith, before, after),
)
