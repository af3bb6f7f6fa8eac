-- Letters of a prefix left out: what the words before and after a place lead to.
use Rattle.std.proofs.Common.{◌≡◌, ◌↔◌, ℕ, zero, suc, ◌+◌, ◌-◌, ◌*◌, ◌<◌, ◌≤◌, Bool, false, ◌⊎◌, List, [], ◌∷◌, ◌++◌, length, take, drop, get_or, refl, sym, ap, ◌∙◌, subst, arith, if◌then◌else◌, lt-ltb, le-ltb, inl, inr}
use Rattle.std.specs.Prelude.{nat_lt}
use Rattle.std.proofs.lemmas.Bool.{cases_eq, cases_lt}
use Rattle.std.proofs.lemmas.List.{take_more, length-take-le, length-drop, length-append}
use Rattle.auto_core.specs.Automaton.{Automaton, IsAutomaton, Moves}
use Rattle.auto_core.specs.Pairs.{set_of, set_after}
use Rattle.auto_core.specs.Rows.{HasBit, HasCell, cell_of}
use Rattle.auto_core.specs.declared.parts.Lasso.{Lasso}
use Rattle.auto_core.proofs.PathLemmas.{run_join, run_split}
use Rattle.auto_core.proofs.MoveLemmas.{move_in_range}
use Rattle.lasso_accept.specs.Looping.{AcceptsLassoFrom}
use Rattle.lasso_accept.proofs.LoopingLemmas.{accepts_after_move}
use Rattle.set_rows.specs.Sets.{IsRow}
use Rattle.lasso_shrink.specs.Leaving.{LeavesOutFirst, LeavesOut}
use Rattle.lasso_shrink.specs.Shrinking.{word_without, letters_of, lasso_without, LassoSeparates}
use Rattle.lasso_shrink.specs.Prefixes.{IsFront, IsFirstPlace, AreRestsFrom}

pub front_begins : (A : Automaton) (row : List ℕ) → IsRow A.states row → ((q : ℕ) → HasBit row q ↔ (q ≡ A.initial)) → IsFront A [] row
front_begins A row is one = record {
  row = is;
  members = λ q. (λ has. (false, (sym ((one q).0 has), refl)), λ (flag, (same, e)). (one q).1 (sym same));
}

set_more : (A : Automaton) (u : List ℕ) (a q : ℕ) → set_after A (set_of A u) a q ↔ set_of A (u ++ a ∷ []) q
set_more A u a q = (
  λ (m, (flag, run), move). (_, run_join A A.initial u m flag (a ∷ []) q _ run (q, false, move, (refl, refl), refl)),
  λ (flag, run).
      let cut = run_split A A.initial u (a ∷ []) q flag run in
      let (r, later, move, (same, e), f) = cut.second in
      (cut.middle, (cut.first_flag, cut.first), subst (λ s. Moves A cut.middle a s) same move),
)

pub front_goes : (A : Automaton) (w row next : List ℕ) (k : ℕ) → k < length w → IsFront A (take k w) row → IsRow A.states next
    → ((q : ℕ) → HasBit next q ↔ set_after A (HasBit row) (get_or w k 0) q) → IsFront A (take (k + 1) w) next
front_goes A w row next k k_in front is after = record {
  row = is;
  members = λ q.
      let a : ℕ = get_or w k 0 in
      let u : List ℕ = take k w in
      let more = set_more A u a q in
      let longer : u ++ a ∷ [] ≡ take (k + 1) w = sym (take_more w k 0 k_in) in
      let P : List ℕ → Type 0 = λ x. HasBit next q ↔ set_of A x q in
      subst P longer (
        λ has. let (m, in_row, move) = (after q).0 has in more.0 (m, (front.members m).0 in_row, move),
        λ s. let (m, in_set, move) = more.1 s in (after q).1 (m, (front.members m).1 in_set, move),
      );
}

-- Without a letter of the prefix, and without one of the loop.
pub in_prefix : (l : Lasso) (k : ℕ) → k < length l.prefix → lasso_without l k ≡ record { prefix = word_without l.prefix k; turn = l.turn }
in_prefix l k h =
    ap (λ b. if b then record { prefix = word_without l.prefix k; turn = l.turn } else record { prefix = l.prefix; turn = word_without l.turn (k - length l.prefix) })
    (lt-ltb k (length l.prefix) h)

pub out_join : {X : Type 0} (P : X → Type 0) (size : X → ℕ) (without : X → ℕ → X) (n m : ℕ) (x y z : X)
    → LeavesOut P size without n x y → LeavesOut P size without m y z → LeavesOut P size without (m + n) x z
out_join {X} P size without n zero x y z a b =
    let same : n ≡ 0 + n = omega arith in
    let Q : ℕ → Type 0 = λ k. LeavesOut P size without k x z in
    subst Q same (subst (λ w. LeavesOut P size without n x w) b a)
out_join {X} P size without n (suc m) x y z a (w, before, last) =
    let same : suc (m + n) ≡ suc m + n = omega arith in
    let Q : ℕ → Type 0 = λ k. LeavesOut P size without k x z in
    subst Q same (w, out_join P size without n m x y w a before, last)

-- A word, and a lasso, without a letter has one less.
word_shorter : (w : List ℕ) (k : ℕ) → k < length w → length (word_without w k) + 1 ≡ length w
word_shorter w k h =
    let a = length-take-le k w (omega arith) in
    let b = length-drop (k + 1) w in
    let c = length-append (take k w) (drop (k + 1) w) in
    omega (arith, a, b, c)

pub lasso_shorter : (l : Lasso) (k : ℕ) → k < letters_of l → letters_of (lasso_without l k) + 1 ≡ letters_of l
lasso_shorter l k h = go (nat_lt k (length l.prefix)) (cases_lt k (length l.prefix)) where
  go : (b : Bool) → (k < length l.prefix) ⊎ (length l.prefix ≤ k) → letters_of (lasso_without l k) + 1 ≡ letters_of l
  go b (inl lt) =
      let e = ap letters_of (in_prefix l k lt) in
      let s = word_shorter l.prefix k lt in
      omega (arith, e, s)
  go b (inr ge) =
      let f = le-ltb k (length l.prefix) ge in
      let e = ap (λ b. letters_of (if b then record { prefix = word_without l.prefix k; turn = l.turn } else record { prefix = l.prefix; turn = word_without l.turn (k - length l.prefix) })) f in
      let s = word_shorter l.turn (k - length l.prefix) (omega arith) in
      omega (arith, e, s)

pub leaves_fewer : (P : Lasso → Type 0) (x y : Lasso) → LeavesOutFirst P letters_of lasso_without x y → letters_of y + 1 ≡ letters_of x
leaves_fewer P x y one =
    let e = ap letters_of one.is in
    let s = lasso_shorter x one.place one.within in
    omega (arith, e, s)

-- The first place of the prefix that can go is the first of all.
pub place_leaves : (A B : Automaton) (l : Lasso) (k : ℕ) → IsFirstPlace A B l k → LeavesOutFirst (LassoSeparates A B) letters_of lasso_without l (lasso_without l k)
place_leaves A B l k p = record {
  place = k;
  within = let h = p.within in omega (arith, h);
  is = refl;
  keeps = p.keeps;
  first = p.first;
}

pub front_starts : (A : Automaton) (n i : ℕ) (row : List ℕ) → n ≡ A.states → i ≡ A.initial → IsRow n row → ((q : ℕ) → HasBit row q ↔ (q ≡ i)) → IsFront A [] row
front_starts A n i row count state is one =
    front_begins A row (subst (λ k. IsRow k row) count is) (subst (λ k. (q : ℕ) → HasBit row q ↔ (q ≡ k)) state one)

-- ---- the rests, with a letter of the prefix left out

-- a word without a later letter
without_later : (a : ℕ) (w : List ℕ) (place : ℕ) → word_without (a ∷ w) (suc place) ≡ a ∷ word_without w place
without_later a w place = let e : suc place + 1 ≡ suc (place + 1) = omega arith in ap (λ n. a ∷ (take place w ++ drop n (a ∷ w))) e

-- past the place the rests are those of before
pub rest_past : (w : List ℕ) (place k : ℕ) → place ≤ k → place < length w → drop k (word_without w place) ≡ drop (k + 1) w
rest_past [] place k le lt = absurd (omega arith)
rest_past (a ∷ w) zero k le lt = let e : k + 1 ≡ suc k = omega arith in ap (λ n. drop n (a ∷ w)) (sym e)
rest_past (a ∷ w) (suc place) zero le lt = absurd (omega arith)
rest_past (a ∷ w) (suc place) (suc k) le lt =
    let e : suc (k + 1) ≡ suc k + 1 = omega arith in
    ap (drop (suc k)) (without_later a w place) ∙ rest_past w place k (omega arith) (omega arith) ∙ ap (λ n. drop n (a ∷ w)) e

-- before the place stand the same letters
pub rest_before : (w : List ℕ) (place k : ℕ) → k < place → place < length w → drop k (word_without w place) ≡ get_or w k 0 ∷ drop (k + 1) (word_without w place)
rest_before [] place k lt in_w = absurd (omega arith)
rest_before (a ∷ w) zero k lt in_w = absurd (omega arith)
rest_before (a ∷ w) (suc place) zero lt in_w = refl
rest_before (a ∷ w) (suc place) (suc k) lt in_w =
    let e : suc k + 1 ≡ suc (k + 1) = omega arith in
    let later : drop (suc k + 1) (word_without (a ∷ w) (suc place)) ≡ drop (k + 1) (word_without w place) =
    ap (λ n. drop n (word_without (a ∷ w) (suc place))) e ∙ ap (drop (suc (k + 1))) (without_later a w place) in
    ap (drop (suc k)) (without_later a w place) ∙ rest_before w place k (omega arith) (omega arith) ∙ ap (λ l. get_or w k 0 ∷ l) (sym later)

-- The rows from place k on are those of the prefix without its letter at the place.
abbrev pub AreRewritten : Automaton → List ℕ → List ℕ → ℕ → ℕ → ℕ → List ℕ → ℕ → Type 0
AreRewritten A u v place width first table from =
    (k p : ℕ) → from ≤ k → k < length u → p < A.states → HasCell table width (first + 1 + k) p ↔ AcceptsLassoFrom A (drop k (word_without u place)) v p

pub rewritten_first : (A : Automaton) (u v : List ℕ) (place width first : ℕ) (table : List ℕ) → place < length u → AreRestsFrom A u v width first table → AreRewritten A u v place width first table place
rewritten_first A u v place width first table within r k p from k_in p_in =
    let e : first + (k + 1) ≡ first + 1 + k = omega arith in
    let P : ℕ → Type 0 = λ i. HasCell table width i p ↔ AcceptsLassoFrom A (drop (k + 1) u) v p in
    let Q : List ℕ → Type 0 = λ w. HasCell table width (first + 1 + k) p ↔ AcceptsLassoFrom A w v p in
    subst Q (sym (rest_past u place k from within)) (subst P e (r.rows (k + 1) p (omega arith) p_in))

pub rewritten_more : (A : Automaton) (u v : List ℕ) (place width first at : ℕ) (old new : List ℕ) → A.states ≤ width * 64 → at < place → place < length u → IsAutomaton A
    → AreRewritten A u v place width first old (at + 1)
    → ((p : ℕ) → p < width * 64 → HasCell new width (first + at + 2 - 1) p ↔ ((r : ℕ) × Moves A p (get_or u at 0) r × HasCell old width (first + at + 2) r))
    → ((i p : ℕ) → p < width * 64 → ¬ (i ≡ first + at + 2 - 1) → cell_of new width i p ≡ cell_of old width i p)
    → AreRewritten A u v place width first new at
rewritten_more A u v place width first at old new room before within valid later here others k p from k_in p_in =
    elim (cases_eq k at) [
      | inl e ↦
          let a : ℕ = get_or u at 0 in
          let i : first + at + 2 - 1 ≡ first + 1 + k = omega (arith, e) in
          let j : first + at + 2 ≡ first + 1 + (at + 1) = omega arith in
          let now = here p (omega arith) in
          let rest = rest_before u place at before within in
          let law = accepts_after_move A a (drop (at + 1) (word_without u place)) v p in
          let Q : List ℕ → Type 0 = λ w. AcceptsLassoFrom A w v p in
          let whole : drop k (word_without u place) ≡ a ∷ drop (at + 1) (word_without u place) = ap (λ n. drop n (word_without u place)) e ∙ rest in
          let row : (r : ℕ) → r < A.states → HasCell old width (first + at + 2) r ↔ AcceptsLassoFrom A (drop (at + 1) (word_without u place)) v r =
          λ r r_in. subst (λ n. HasCell old width n r ↔ AcceptsLassoFrom A (drop (at + 1) (word_without u place)) v r) (sym j) (later (at + 1) r (omega arith) (omega arith) r_in) in
          subst (λ n. HasCell new width n p ↔ AcceptsLassoFrom A (drop k (word_without u place)) v p) i (
            λ h. let (r, move, cell) = now.0 h in subst Q (sym whole) (law.1 (r, move, (row r (move_in_range A valid p a r move).1).0 cell)),
            λ l. let (r, move, l') = law.0 (subst Q whole l) in now.1 (r, move, (row r (move_in_range A valid p a r move).1).1 l'),
          )
      | inr apart ↦
          let same = others (first + 1 + k) p (omega arith) (λ i. apart (omega arith)) in
          let was = later k p (omega (arith, from, apart)) k_in p_in in
          (λ h. was.0 (sym same ∙ h), λ l. same ∙ was.1 l)
    ]

pub rewritten_all : (A : Automaton) (u v : List ℕ) (place width first : ℕ) (table : List ℕ) → place < length u → length table ≡ (first + length u + 1) * width → AreRewritten A u v place width first table 0
    → AreRestsFrom A (word_without u place) v width (first + 1) table
rewritten_all A u v place width first table within len all =
    let shorter = word_shorter u place within in
    let e : first + length u + 1 ≡ first + 1 + length (word_without u place) + 1 = omega (arith, shorter) in
    record {
      len = len ∙ ap (λ n. n * width) e;
      rows = λ k p k_in p_in. all k p (omega arith) (omega (arith, shorter, k_in)) p_in;
    }
