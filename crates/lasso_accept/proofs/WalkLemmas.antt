-- A walk along the guide of a word, letter by letter.
use Rattle.std.proofs.Common.{◌≡◌, ◌⊎◌, ℕ, ◌+◌, ◌*◌, ◌<◌, ◌≤◌, inl, inr, Bool, true, false, not, ◌&&◌, ◌||◌, cond, List, [], ◌∷◌, ◌++◌, length, get_or, take, refl, sym, ap, ◌∙◌, subst, arith, append_assoc}
use Rattle.std.proofs.lemmas.Bool.{false≢true}
use Rattle.std.proofs.lemmas.List.{take_more, take_all}
use Rattle.auto_core.specs.Automaton.{Automaton, IsAutomaton, Moves, is_accepting}
use Rattle.auto_core.specs.Run.{Path, end_of, some_accepting}
use Rattle.auto_core.specs.Rows.{HasBit, HasCell, cell_of, bit_of}
use Rattle.auto_core.proofs.MoveLemmas.{move_in_range}
use Rattle.auto_core.proofs.PathLemmas.{path_join, end_of-append, some_accepting-append}
use Rattle.lasso_accept.specs.Plane.{chosen}
use Rattle.lasso_accept.specs.Guide.{IsGuide, IsSpelled}

-- The first letters are spelled: the path so far ends in the state, from which the rest leads into the target.
pub record IsWalked (A : Automaton) (w : List ℕ) (width : ℕ) (any flagged : List ℕ) (start : ℕ) (asked : Bool) (first : List ℕ) (at state : ℕ) (wanted : Bool) (places : List ℕ) : Type 0 where
  pub states : List ℕ
  pub is : places ≡ first ++ states
  pub path : Path A start (take at w) states
  pub ends : end_of start states ≡ state
  pub here : HasCell (cond wanted flagged any) width at state
  pub is_state : state < A.states
  pub kept : asked ≡ true → (wanted ≡ true) ⊎ (some_accepting A states ≡ true)

append_nil : (xs : List ℕ) → xs ≡ xs ++ []
append_nil [] = refl
append_nil (x ∷ xs) = ap (λ ys. x ∷ ys) (append_nil xs)

pub walked_none :
    (A : Automaton) (w : List ℕ) (width : ℕ) (any flagged : List ℕ) (start : ℕ) (asked : Bool) (first : List ℕ)
    → start < A.states
    → HasCell (cond asked flagged any) width 0 start
    → IsWalked A w width any flagged start asked first 0 start asked first
walked_none A w width any flagged start asked first start_in here =
    record { states = []; is = append_nil first; path = tt; ends = refl; here = here; is_state = start_in; kept = λ e. inl e }

-- what the guide says of a state from which the rest leads into the target
pub guided_on :
    (A : Automaton) (w target : List ℕ) (width : ℕ) (any flagged : List ℕ) (at state : ℕ) (wanted : Bool)
    → IsGuide A w target width any flagged
    → at < length w
    → state < A.states
    → HasCell (cond wanted flagged any) width at state
    → (r : ℕ) × Moves A state (get_or w at 0) r × HasCell (cond (is_accepting A r) any (cond wanted flagged any)) width (at + 1) r
guided_on A w target width any flagged at state true g at_in state_in here = (g.flagged_steps at state at_in state_in).0 here
guided_on A w target width any flagged at state false g at_in state_in here =
    let (r, m, cell) = (g.any_steps at state at_in state_in).0 here in
    let P : List ℕ → Type 0 = λ xs. HasCell xs width (at + 1) r in
    (r, m, subst P (sym (cond_same (is_accepting A r) any)) cell)
  where
    cond_same : (b : Bool) (xs : List ℕ) → cond b xs xs ≡ xs
    cond_same true xs = refl
    cond_same false xs = refl

cells_of_cond :
    (b : Bool) (marked plain any flagged : List ℕ) (width k q : ℕ)
    → bit_of marked q ≡ cell_of any width k q
    → bit_of plain q ≡ cell_of flagged width k q
    → bit_of (cond b marked plain) q ≡ cell_of (cond b any flagged) width k q
cells_of_cond true marked plain any flagged width k q e f = e
cells_of_cond false marked plain any flagged width k q e f = f

-- the same of the rows that are looked at
pub guided_rows :
    (A : Automaton)
    → IsAutomaton A
    → (w target : List ℕ) (width : ℕ) (any flagged : List ℕ) (at state : ℕ) (wanted : Bool) (marked plain : List ℕ)
    → A.states ≤ width * 64
    → IsGuide A w target width any flagged
    → at < length w
    → state < A.states
    → HasCell (cond wanted flagged any) width at state
    → ((q : ℕ) → q < width * 64 → bit_of marked q ≡ cell_of any width (at + 1) q)
    → ((q : ℕ) → q < width * 64 → bit_of plain q ≡ cell_of (cond wanted flagged any) width (at + 1) q)
    → (r : ℕ) × Moves A state (get_or w at 0) r × HasBit (chosen A marked plain r) r
guided_rows A valid w target width any flagged at state wanted marked plain room g at_in state_in here marked_is plain_is =
    let (r, m, cell) = guided_on A w target width any flagged at state wanted g at_in state_in here in
    let r_in = (move_in_range A valid state (get_or w at 0) r m).1 in
    (r, m, cells_of_cond (is_accepting A r) marked plain any (cond wanted flagged any) width (at + 1) r (marked_is r (omega arith)) (plain_is r (omega arith)) ∙ cell)

-- the table in which the next state stands
still_here : (b wanted : Bool) (any flagged : List ℕ) (width k r : ℕ) → HasCell (cond b any (cond wanted flagged any)) width k r → HasCell (cond (wanted && not b) flagged any) width k r
still_here true true any flagged width k r h = h
still_here true false any flagged width k r h = h
still_here false true any flagged width k r h = h
still_here false false any flagged width k r h = h

still_kept : (b wanted passed : Bool) → (wanted ≡ true) ⊎ (passed ≡ true) → ((wanted && not b) ≡ true) ⊎ ((passed || (b || false)) ≡ true)
still_kept true wanted true h = inr refl
still_kept true wanted false h = inr refl
still_kept false true passed h = inl refl
still_kept false false true h = inr refl
still_kept false false false h = elim h [ inl e ↦ absurd (false≢true e) | inr e ↦ absurd (false≢true e) ]

pub walked_more :
    (A : Automaton)
    → IsAutomaton A
    → (w : List ℕ) (width : ℕ) (any flagged : List ℕ) (start : ℕ) (asked : Bool) (first : List ℕ) (at state : ℕ) (wanted : Bool) (places : List ℕ) (r : ℕ) (wanted' : Bool) (marked plain places' : List ℕ)
    → A.states ≤ width * 64
    → at < length w
    → IsWalked A w width any flagged start asked first at state wanted places
    → Moves A state (get_or w at 0) r
    → HasBit (chosen A marked plain r) r
    → ((q : ℕ) → q < width * 64 → bit_of marked q ≡ cell_of any width (at + 1) q)
    → ((q : ℕ) → q < width * 64 → bit_of plain q ≡ cell_of (cond wanted flagged any) width (at + 1) q)
    → wanted' ≡ (wanted && not (is_accepting A r))
    → places' ≡ places ++ r ∷ []
    → IsWalked A w width any flagged start asked first (at + 1) r wanted' places'
walked_more A valid w width any flagged start asked first at state wanted places r wanted' marked plain places' room at_in k m bit marked_is plain_is wanted_is places_is =
    let r_in = (move_in_range A valid state (get_or w at 0) r m).1 in
    let states : List ℕ = k.states in
    let cell = sym (cells_of_cond (is_accepting A r) marked plain any (cond wanted flagged any) width (at + 1) r (marked_is r (omega arith)) (plain_is r (omega arith))) ∙ bit in
    let last : Path A (end_of start states) (get_or w at 0 ∷ []) (r ∷ []) =
    let M : ℕ → Type 0 = λ s. Moves A s (get_or w at 0) r in (subst M (sym k.ends) m, tt) in
    let joined : Path A start (take at w ++ get_or w at 0 ∷ []) (states ++ r ∷ []) = path_join (Moves A) start (take at w) (get_or w at 0 ∷ []) states (r ∷ []) k.path last in
    let W : List ℕ → Type 0 = λ x. Path A start x (states ++ r ∷ []) in
    let C : Bool → Type 0 = λ b. HasCell (cond b flagged any) width (at + 1) r in
    let K : Bool → Type 0 = λ b. (b ≡ true) ⊎ (some_accepting A (states ++ r ∷ []) ≡ true) in
    record {
      states = states ++ r ∷ [];
      is = places_is ∙ ap (λ xs. xs ++ r ∷ []) k.is ∙ append_assoc first states (r ∷ []);
      path = subst W (sym (take_more w at 0 at_in)) joined;
      ends = end_of-append start states (r ∷ []);
      here = subst C (sym wanted_is) (still_here (is_accepting A r) wanted any flagged width (at + 1) r cell);
      is_state = r_in;
      kept = λ e.
          subst K (sym wanted_is)
          (elim (still_kept (is_accepting A r) wanted (some_accepting A states) (k.kept e)) [
            | inl still ↦ inl still
            | inr passed ↦ inr (some_accepting-append A states (r ∷ []) ∙ passed)
          ]);
    }

pub walked_all :
    (A : Automaton) (w target : List ℕ) (width : ℕ) (any flagged : List ℕ) (start : ℕ) (asked : Bool) (first : List ℕ) (at state : ℕ) (wanted : Bool) (places : List ℕ)
    → IsGuide A w target width any flagged
    → at ≡ length w
    → IsWalked A w width any flagged start asked first at state wanted places
    → IsSpelled A start w target asked first places state
walked_all A w target width any flagged start asked first at state true places g over k =
    let P : ℕ → Type 0 = λ n. HasCell flagged width n state in
    absurd (g.flagged_ends state k.is_state (subst P over k.here))
walked_all A w target width any flagged start asked first at state false places g over k =
    let P : ℕ → Type 0 = λ n. HasCell any width n state in
    let W : List ℕ → Type 0 = λ x. Path A start x k.states in
    record {
      states = k.states;
      is = k.is;
      path = subst W (take_all at w (omega arith)) k.path;
      ends = k.ends;
      lands = (g.any_ends state k.is_state).0 (subst P over k.here);
      passes = λ e. elim (k.kept e) [ inl no_ ↦ absurd (false≢true no_) | inr passed ↦ passed ];
    }

pub cond_length : (b : Bool) (any flagged : List ℕ) (n : ℕ) → length any ≡ n → length flagged ≡ n → length (cond b flagged any) ≡ n
cond_length true any flagged n e f = f
cond_length false any flagged n e f = e
