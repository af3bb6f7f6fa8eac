-- Words of triples, and what is decided of triples over them.
use Rattle.std.proofs.Common.{◌≡◌, ℕ, zero, suc, ◌<◌, List, [], ◌∷◌, ◌++◌, length, map, drop, get_or, All, Contains, refl, sym, ap, subst, inl, inr, arith}
use Rattle.std.specs.List.{flat_map}
use Rattle.std.proofs.lemmas.Bool.{cases_eq}
use Rattle.std.proofs.lemmas.List.Elements.{All-cons, All-head, All-tail, Contains-append_left, Contains-append_right, Contains-append_cases}
use Rattle.auto_core.specs.Automaton.{Automaton, Moves}
use Rattle.auto_core.specs.Delayed.{Announces, IsTripleWord}
use Rattle.auto_core.proofs.PathLemmas.{Contains-here, Contains-later, Contains-cons_cases, none_in_nil}
use Rattle.auto_laws.proofs.DecisionLemmas.{Decided, decide_as, decide_both, decide_then, decide_some, all_pairs, pairs_have, pairs_below}
use Rattle.auto_laws.proofs.MoveLemmas.{contains_map, map_contains, forward_listing, decide_moves, decide_move}

-- A word, a left state and a right state.
abbrev pub Place : Type 0
Place = List ℕ × ℕ × ℕ

-- The list has the place.
abbrev pub Has : List Place → List ℕ → ℕ → ℕ → Type 0
Has S b p q = Contains S (b, p, q)

decide_list : (b c : List ℕ) → Decided (b ≡ c)
decide_list [] [] = inl refl
decide_list [] (y ∷ c) = inr (λ e. let len = ap length e in omega arith)
decide_list (x ∷ b) [] = inr (λ e. let len = ap length e in omega arith)
decide_list (x ∷ b) (y ∷ c) =
    decide_as ((x ≡ y) × (b ≡ c)) (x ∷ b ≡ y ∷ c) (λ both. λ i. both.0 i ∷ both.1 i) (λ e. (ap (λ l. get_or l 0 0) e, ap (λ l. drop 1 l) e))
    (decide_both (x ≡ y) (b ≡ c) (cases_eq x y) (decide_list b c))

pub decide_has : (S : List Place) (b : List ℕ) (p q : ℕ) → Decided (Has S b p q)
decide_has S b p q =
    decide_as ((x : Place) × Contains S x × ((x.0 ≡ b) × ((x.1 ≡ p) × (x.2 ≡ q)))) (Has S b p q) to (λ h. ((b, p, q), h, (refl, (refl, refl))))
    (decide_some Place (λ x. (x.0 ≡ b) × ((x.1 ≡ p) × (x.2 ≡ q))) (λ x. decide_both (x.0 ≡ b) ((x.1 ≡ p) × (x.2 ≡ q)) (decide_list x.0 b) (decide_both (x.1 ≡ p) (x.2 ≡ q) (cases_eq x.1 p) (cases_eq x.2 q))) S)
  where
    to : (x : Place) × Contains S x × ((x.0 ≡ b) × ((x.1 ≡ p) × (x.2 ≡ q))) → Has S b p q
    to (x, h, e) = subst (Contains S) (λ i. (e.0 i, e.1.0 i, e.1.1 i)) h

-- For each number below another.
pub decide_below : (n : ℕ) (P : ℕ → Type 0) → ((i : ℕ) → Decided (P i)) → Decided ((i : ℕ) → i < n → P i)
decide_below zero P decide = inl (λ i lt. absurd (omega arith))
decide_below (suc n) P decide =
    decide_as (((i : ℕ) → i < n → P i) × P n) ((i : ℕ) → i < suc n → P i)
    (λ both i lt. elim (cases_eq i n) [ inl e ↦ subst P (sym e) both.1 | inr apart ↦ both.0 i (omega arith) ])
    (λ all. (λ i lt. all i (omega arith), all n (omega arith)))
    (decide_both ((i : ℕ) → i < n → P i) (P n) (decide_below n P decide) (decide n))

-- ---- answers whatever further letter is announced

-- Each move of p is answered by q with a place of which P holds.
abbrev pub IsAnsweredAll : Automaton → (List ℕ → ℕ → ℕ → Type 0) → List ℕ → ℕ → ℕ → Type 0
IsAnsweredAll A P b p q = (more a : ℕ) (c : List ℕ) (p' : ℕ) → more < A.labels → Announces b more a c → Moves A p a p' → (q' : ℕ) × Moves A q a q' × P c p' q'

announced_parts : (b : List ℕ) (more a : ℕ) (c : List ℕ) → Announces b more a c → (get_or (b ++ more ∷ []) 0 0 ≡ a) × (drop 1 (b ++ more ∷ []) ≡ c)
announced_parts b more a c e = (ap (λ l. get_or l 0 0) e, ap (λ l. drop 1 l) e)

parts_announced : (b : List ℕ) (more a : ℕ) → get_or (b ++ more ∷ []) 0 0 ≡ a → Announces b more a (drop 1 (b ++ more ∷ []))
parts_announced [] more a e = ap (λ x. x ∷ []) e
parts_announced (x ∷ b) more a e = ap (λ y. y ∷ (b ++ more ∷ [])) e

pub decide_answered : (A : Automaton) (P : List ℕ → ℕ → ℕ → Type 0) → ((c : List ℕ) (p q : ℕ) → Decided (P c p q)) → (b : List ℕ) (p q : ℕ) → Decided (IsAnsweredAll A P b p q)
decide_answered A P decide b p q =
    decide_as ((more : ℕ) → more < A.labels → ByLetter more) (IsAnsweredAll A P b p q)
    (λ each more a c p' lt e move.
    let parts = announced_parts b more a c e in
    let answer = each more lt a p' move parts.0 in
    (answer.0, answer.1, subst (λ d. P d p' answer.0) parts.1 answer.2))
    (λ all more lt a p' move first. all more a (drop 1 (b ++ more ∷ [])) p' lt (parts_announced b more a first) move)
    (decide_below A.labels ByLetter (λ more. decide_moves (Moves A) (forward_listing A) p (Answer more) (λ a p'.
    decide_then (get_or (b ++ more ∷ []) 0 0 ≡ a) ((q' : ℕ) × Moves A q a q' × P (drop 1 (b ++ more ∷ [])) p' q') (cases_eq (get_or (b ++ more ∷ []) 0 0) a)
    (decide_move (Moves A) (forward_listing A) q a (λ q'. P (drop 1 (b ++ more ∷ [])) p' q') (λ q'. decide (drop 1 (b ++ more ∷ [])) p' q')))))
  where
    Answer : ℕ → ℕ → ℕ → Type 0
    Answer more a p' = get_or (b ++ more ∷ []) 0 0 ≡ a → (q' : ℕ) × Moves A q a q' × P (drop 1 (b ++ more ∷ [])) p' q'

    ByLetter : ℕ → Type 0
    ByLetter more = (a p' : ℕ) → Moves A p a p' → Answer more a p'

-- ---- all places

-- The word with each letter below n before it.
abbrev longer : ℕ → List ℕ → List (List ℕ)
longer zero b = []
longer (suc n) b = (n ∷ b) ∷ longer n b

-- All words of so many labels.
abbrev all_words : ℕ → ℕ → List (List ℕ)
all_words labels zero = [] ∷ []
all_words labels (suc m) = flat_map (longer labels) (all_words labels m)

longer_has : (n : ℕ) (b : List ℕ) (a : ℕ) → a < n → Contains (longer n b) (a ∷ b)
longer_has zero b a lt = absurd (omega arith)
longer_has (suc n) b a lt = elim (cases_eq n a) [
  | inl e ↦ Contains-here (n ∷ b) (a ∷ b) (longer n b) (ap (λ x. x ∷ b) e)
  | inr apart ↦ Contains-later (n ∷ b) (a ∷ b) (longer n b) (longer_has n b a (omega arith))
]

flat_has : {X Y : Type 0} (f : X → List Y) (xs : List X) (x : X) (y : Y) → Contains xs x → Contains (f x) y → Contains (flat_map f xs) y
flat_has f [] x y h g = absurd (none_in_nil x h)
flat_has f (z ∷ xs) x y h g = elim (Contains-cons_cases z x xs h) [
  | inl e ↦ Contains-append_left (f z) (flat_map f xs) y (subst (λ u. Contains (f u) y) (sym e) g)
  | inr later ↦ Contains-append_right (f z) (flat_map f xs) y (flat_has f xs x y later g)
]

flat_from : {X Y : Type 0} (f : X → List Y) (xs : List X) (y : Y) → Contains (flat_map f xs) y → (x : X) × Contains xs x × Contains (f x) y
flat_from f [] y h = absurd (none_in_nil y h)
flat_from f (z ∷ xs) y h = elim (Contains-append_cases (f z) (flat_map f xs) y h) [
  | inl first ↦ (z, Contains-here z z xs refl, first)
  | inr later ↦ let (x, there, is) = flat_from f xs y later in (x, Contains-later z x xs there, is)
]

words_have : (labels m : ℕ) (b : List ℕ) → length b ≡ m → All (λ a. a < labels) b → Contains (all_words labels m) b
words_have labels zero [] len all = Contains-here [] [] [] refl
words_have labels zero (a ∷ b) len all = absurd (omega arith)
words_have labels (suc m) [] len all = absurd (omega arith)
words_have labels (suc m) (a ∷ b) len all =
    flat_has (longer labels) (all_words labels m) b (a ∷ b) (words_have labels m b (omega arith) (All-tail (λ x. x < labels) a b all)) (longer_has labels b a (All-head (λ x. x < labels) a b all))

longer_from : (n : ℕ) (b c : List ℕ) → Contains (longer n b) c → (a : ℕ) × (a < n) × (a ∷ b ≡ c)
longer_from zero b c h = absurd (none_in_nil c h)
longer_from (suc n) b c h = elim (Contains-cons_cases (n ∷ b) c (longer n b) h) [
  | inl e ↦ (n, omega arith, e)
  | inr later ↦ let (a, lt, e) = longer_from n b c later in (a, omega arith, e)
]

words_below : (labels m : ℕ) (b : List ℕ) → Contains (all_words labels m) b → (length b ≡ m) × All (λ a. a < labels) b
words_below labels zero b h = elim (Contains-cons_cases [] b [] h) [
  | inl e ↦ subst (λ c. (length c ≡ 0) × All (λ a. a < labels) c) e (refl, λ i d i_in. absurd (omega arith))
  | inr none ↦ absurd (none_in_nil b none)
]
words_below labels (suc m) b h =
    let (c, c_in, made) = flat_from (longer labels) (all_words labels m) b h in
    let (a, lt, e) = longer_from labels c b made in
    let rest = words_below labels m c c_in in
    subst (λ d. (length d ≡ suc m) × All (λ x. x < labels) d) e (ap suc rest.0, All-cons (λ x. x < labels) a c lt rest.1)

-- The pairs with each of the words.
abbrev with_pairs : List (ℕ × ℕ) → List ℕ → List Place
with_pairs S b = map (λ (x : ℕ × ℕ). (b, x.0, x.1)) S

-- All places of so many states and labels with n announced letters.
abbrev pub all_places : ℕ → ℕ → ℕ → List Place
all_places states labels zero = []
all_places states labels (suc m) = flat_map (with_pairs (all_pairs states states)) (all_words labels m)

pub places_have : (states labels n : ℕ) (b : List ℕ) (p q : ℕ) → IsTripleWord labels n b → p < states → q < states → Has (all_places states labels n) b p q
places_have states labels zero b p q h lt short = let len = h.0 in absurd (omega arith)
places_have states labels (suc m) b p q h lt short =
    let len = h.0 in
    flat_has (with_pairs (all_pairs states states)) (all_words labels m) b (b, p, q) (words_have labels m b (omega arith) h.1)
    (map_contains (λ (x : ℕ × ℕ). (b, x.0, x.1)) (all_pairs states states) (p, q) (pairs_have states states p q lt short))

pub places_below : (states labels n : ℕ) (b : List ℕ) (p q : ℕ) → Has (all_places states labels n) b p q → IsTripleWord labels n b × (p < states) × (q < states)
places_below states labels zero b p q h = absurd (none_in_nil (b, p, q) h)
places_below states labels (suc m) b p q h =
    let (c, c_in, made) = flat_from (with_pairs (all_pairs states states)) (all_words labels m) (b, p, q) h in
    let (x, x_in, e) = contains_map (λ (x : ℕ × ℕ). (c, x.0, x.1)) (all_pairs states states) (b, p, q) made in
    let word : c ≡ b = ap (λ (z : Place). z.0) e in
    let left : x.0 ≡ p = ap (λ (z : Place). z.1) e in
    let right : x.1 ≡ q = ap (λ (z : Place). z.2) e in
    let words = words_below labels m c c_in in
    let pairs = pairs_below states states x.0 x.1 x_in in (
      subst (IsTripleWord labels (suc m)) word (ap suc words.0, words.1),
      subst (λ z. z < states) left pairs.0,
      subst (λ z. z < states) right pairs.1,
    )
