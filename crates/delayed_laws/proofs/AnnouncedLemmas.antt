-- Paths that are followed with announced letters.
use Rattle.std.proofs.Common.{◌≡◌, ℕ, zero, suc, ◌<◌, List, [], ◌∷◌, ◌++◌, length, All, take, drop, refl, ap, ◌∙◌, subst, arith, append_assoc, length-append}
use Rattle.std.proofs.lemmas.List.{take-append-drop, length-take-le, length-drop}
use Rattle.std.proofs.lemmas.List.Elements.{All-cons, All-nil, All-head, All-append, All-take, All-drop}
use Rattle.auto_core.specs.Automaton.{Automaton, IsAutomaton}
use Rattle.auto_core.specs.Run.{Path}
use Rattle.auto_core.specs.Game.{AllMatched, MatchesForward}
use Rattle.auto_core.specs.Delayed.{Announces, IsTripleWord}
use Rattle.auto_core.proofs.MoveLemmas.{move_in_range}
use Rattle.auto_laws.specs.Transfer.{AllMatchedWithin, FollowsWithin}
use Rattle.auto_laws.proofs.TransferLemmas.{delayed_transfer}
use Rattle.delayed_game.specs.Across.{RankedPlacePairs, HoldsPlacePair, IsRightAcross}
use Rattle.delayed_laws.specs.Announced.{ArePlacesOf, DelayedPlacesInclude}
use Rattle.delayed_laws.proofs.FollowLemmas.{follow_within, rank_sum, rank_within}

-- One letter more is announced, and one is read.
step_word : (b : List ℕ) (more : ℕ) (x : List ℕ) (a : ℕ) (t : List ℕ) → b ++ (more ∷ x) ≡ a ∷ t → (c : List ℕ) × Announces b more a c × (c ++ x ≡ t)
step_word [] more x a t e = ([], ap (λ y. y ∷ []) (heads more a x t e), tails more a x t e)
  where
    heads : (m a : ℕ) (x t : List ℕ) → m ∷ x ≡ a ∷ t → m ≡ a
    heads m a x t e = cc

    tails : (m a : ℕ) (x t : List ℕ) → m ∷ x ≡ a ∷ t → x ≡ t
    tails m a x t e = cc
step_word (y ∷ b) more x a t e = (b ++ (more ∷ []), ap (λ z. z ∷ (b ++ (more ∷ []))) (heads y a (b ++ (more ∷ x)) t e), append_assoc b (more ∷ []) x ∙ tails y a (b ++ (more ∷ x)) t e)
  where
    heads : (m a : ℕ) (x t : List ℕ) → m ∷ x ≡ a ∷ t → m ≡ a
    heads m a x t e = cc

    tails : (m a : ℕ) (x t : List ℕ) → m ∷ x ≡ a ∷ t → x ≡ t
    tails m a x t e = cc

-- The letters of a path are labels.
abbrev AreLabels : Automaton → List ℕ → Type 0
AreLabels A w = All (λ a. a < A.labels) w

labels_of : (A : Automaton) → IsAutomaton A → (p : ℕ) (w ps : List ℕ) → Path A p w ps → AreLabels A w
labels_of A valid p [] ps h = All-nil (λ a. a < A.labels)
labels_of A valid p (a ∷ w) [] h = absurd h
labels_of A valid p (a ∷ w) (q ∷ ps) h = All-cons (λ a. a < A.labels) a w (move_in_range A valid p a q h.0).2 (labels_of A valid q w ps h.1)

labels_later : (A : Automaton) (a : ℕ) (w : List ℕ) → AreLabels A (a ∷ w) → AreLabels A w
labels_later A a w all i d lt = all (suc i) d (omega arith)

-- The word after a move is one of as many labels.
word_after : (A : Automaton) (n : ℕ) (b : List ℕ) (more a : ℕ) (c : List ℕ) → IsTripleWord A.labels n b → more < A.labels → Announces b more a c → IsTripleWord A.labels n c
word_after A n b more a c word lt e =
    let size = length-append b (more ∷ []) in
    let same : length (b ++ (more ∷ [])) ≡ length (a ∷ c) = ap (λ (l : List ℕ). length l) e in
    let long = word.0 in
    let all : AreLabels A (b ++ (more ∷ [])) = All-append (λ x. x < A.labels) b (more ∷ []) word.1 (All-cons (λ x. x < A.labels) more [] lt (All-nil (λ x. x < A.labels))) in
    (omega arith, labels_later A a c (subst (AreLabels A) e all))

-- The letter so many times.
abbrev copies : ℕ → ℕ → List ℕ
copies a zero = []
copies a (suc k) = a ∷ copies a k

length-copies : (a k : ℕ) → length (copies a k) ≡ k
length-copies a zero = refl
length-copies a (suc k) = let e = length-copies a k in omega arith

labels_copied : (A : Automaton) (a k : ℕ) → a < A.labels → AreLabels A (copies a k)
labels_copied A a zero lt = All-nil (λ a. a < A.labels)
labels_copied A a (suc k) lt = All-cons (λ a. a < A.labels) a (copies a k) lt (labels_copied A a k lt)

-- A path of A is one of P through places, each accepting where A's state is.
abbrev PlacePath : Automaton → Automaton → ℕ → List ℕ → List ℕ → Type 0
PlacePath A P x w ps = (xs : List ℕ) × Path P x w xs × AllMatched (MatchesForward A P) ps xs

module _ (A P : Automaton) (place : ℕ → List ℕ → ℕ) (n : ℕ) (are : ArePlacesOf A P n place) where
  -- Known are the letters of b, then those of x are announced; read are those of w, and known in the end are those of b'.
  places_on : (w ps : List ℕ) (p : ℕ) (b b' x : List ℕ) → IsTripleWord A.labels n b → Path A p w ps → b ++ x ≡ w ++ b' → length x ≡ length w → AreLabels A x → PlacePath A P (place p b) w ps
  places_on [] [] p b b' x word path e len all = ([], tt, tt)
  places_on [] (p' ∷ ps) p b b' x word path e len all = absurd path
  places_on (a ∷ w) [] p b b' x word path e len all = absurd path
  places_on (a ∷ w) (p' ∷ ps) p b b' [] word path e len all = absurd (omega arith)
  places_on (a ∷ w) (p' ∷ ps) p b b' (m ∷ x) word path e len all =
      let (c, announces, left) = step_word b m x a (w ++ b') e in
      let lt : m < A.labels = All-head (λ y. y < A.labels) m x all in
      let next = word_after A n b m a c word lt announces in
      let move = are.moves b p m a c p' word lt announces path.0 in
      let (xs, goes, match) = places_on w ps p' c b' x next path.1 left (omega arith) (labels_later A m x all) in
      (place p' c ∷ xs, (move, goes), (are.accepting p' c next, match))

-- Delays of P's places are delays of A's states.
places_match : (A P B : Automaton) (d : ℕ) (ps xs qs : List ℕ) → AllMatched (MatchesForward A P) ps xs → AllMatchedWithin P B d xs qs → AllMatchedWithin A B d ps qs
places_match A P B d [] [] [] m h = tt
places_match A P B d [] [] (q ∷ qs) m h = absurd h
places_match A P B d [] (x ∷ xs) qs m h = absurd m
places_match A P B d (p ∷ ps) [] qs m h = absurd m
places_match A P B d (p ∷ ps) (x ∷ xs) [] m h = absurd h
places_match A P B d (p ∷ ps) (x ∷ xs) (q ∷ qs) m h = (λ here. h.0 (m.0 here), places_match A P B d ps xs qs m.1 h.1)

module _ (A P B : Automaton) (k : ℕ) (place : ℕ → List ℕ → ℕ) (X : RankedPlacePairs) (valid : IsAutomaton A) (are : ArePlacesOf A P (suc k) place) (right : IsRightAcross P B X) (starts : (b : List ℕ) → IsTripleWord A.labels (suc k) b → HoldsPlacePair X (place A.initial b) B.initial) where
  -- Behind a path any label may be announced: its first one k times.
  known : (a : ℕ) (w ps : List ℕ) → a < A.labels → Path A A.initial w ps → (qs : List ℕ) × Path B B.initial w qs × AllMatchedWithin A B (rank_sum X) ps qs
  known a w ps lt path =
      let t : List ℕ = w ++ copies a k in
      let both = length-append w (copies a k) in
      let more = length-copies a k in
      let front : length (take k t) ≡ k = length-take-le k t (omega arith) in
      let left = length-drop k t in
      let all : AreLabels A t = All-append (λ a. a < A.labels) w (copies a k) (labels_of A valid A.initial w ps path) (labels_copied A a k lt) in
      let word : IsTripleWord A.labels (suc k) (take k t) = (omega arith, All-take (λ a. a < A.labels) k t all) in
      let (xs, goes, match) = places_on A P place (suc k) are w ps A.initial (take k t) (copies a k) (drop k t) word path (take-append-drop k t) (omega arith) (All-drop (λ a. a < A.labels) k t all) in
      let held = starts (take k t) word in
      let (qs, answer, within) = follow_within P B X right (rank_sum X) (rank_within X) (place A.initial (take k t)) B.initial held w xs goes in
      (qs, answer, places_match A P B (rank_sum X) ps xs qs match within)

  follows : FollowsWithin A B (rank_sum X)
  follows [] [] path = ([], tt, tt)
  follows [] (p ∷ ps) path = absurd path
  follows (a ∷ w) [] path = absurd path
  follows (a ∷ w) (p ∷ ps) path = known a (a ∷ w) (p ∷ ps) (move_in_range A valid A.initial a p path.0).2 path

pub delayed_places_include : DelayedPlacesInclude
delayed_places_include A P B zero place X valid sound some are right starts = absurd (omega arith)
delayed_places_include A P B (suc k) place X valid sound some are right starts = delayed_transfer A B (rank_sum X) sound (follows A P B k place X valid are right starts)
