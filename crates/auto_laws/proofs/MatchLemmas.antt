-- Lists that match place by place.
use Rattle.std.proofs.Common.{◌≡◌, ℕ, true, List, [], ◌∷◌, ◌++◌, length, inl, inr, arith, refl}
use Rattle.std.proofs.lemmas.Bool.{or_cases, or_left, or_right, false≢true}
use Rattle.auto_core.specs.Automaton.{Automaton, is_accepting}
use Rattle.auto_core.specs.Run.{end_of, some_accepting}
use Rattle.auto_core.specs.Game.{AllMatched, MatchesForward, MatchesBackward}
use Rattle.auto_core.proofs.PathLemmas.{accepting_from_test, test_from_accepting}

module _ (ok : ℕ → ℕ → Type 0) where
  pub matched_length : (ps qs : List ℕ) → AllMatched ok ps qs → length ps ≡ length qs
  matched_length [] [] h = refl
  matched_length [] (q ∷ qs) h = absurd h
  matched_length (p ∷ ps) [] h = absurd h
  matched_length (p ∷ ps) (q ∷ qs) h = let e = matched_length ps qs h.1 in omega arith

  pub matched_end : (p q : ℕ) (ps qs : List ℕ) → ok p q → AllMatched ok ps qs → ok (end_of p ps) (end_of q qs)
  matched_end p q [] [] o h = o
  matched_end p q [] (s ∷ qs) o h = absurd h
  matched_end p q (r ∷ ps) [] o h = absurd h
  matched_end p q (r ∷ ps) (s ∷ qs) o h = matched_end r s ps qs h.0 h.1

  pub matched_join : (ps rs qs ss : List ℕ) → AllMatched ok ps qs → AllMatched ok rs ss → AllMatched ok (ps ++ rs) (qs ++ ss)
  matched_join [] rs [] ss h k = k
  matched_join [] rs (q ∷ qs) ss h k = absurd h
  matched_join (p ∷ ps) rs [] ss h k = absurd h
  matched_join (p ∷ ps) rs (q ∷ qs) ss h k = (h.0, matched_join ps rs qs ss h.1 k)

  -- Both parts match, if the first parts are equally long.
  pub matched_split : (ps rs qs ss : List ℕ) → length ps ≡ length qs → AllMatched ok (ps ++ rs) (qs ++ ss) → AllMatched ok ps qs × AllMatched ok rs ss
  matched_split [] rs [] ss e h = (tt, h)
  matched_split [] rs (q ∷ qs) ss e h = absurd (omega arith)
  matched_split (p ∷ ps) rs [] ss e h = absurd (omega arith)
  matched_split (p ∷ ps) rs (q ∷ qs) ss e h = let r = matched_split ps rs qs ss (omega arith) h.1 in ((h.0, r.0), r.1)

  pub matched_refl : ((p : ℕ) → ok p p) → (ps : List ℕ) → AllMatched ok ps ps
  matched_refl o [] = tt
  matched_refl o (p ∷ ps) = (o p, matched_refl o ps)

-- Two steps of matching make one.
pub matched_trans : (R S U : ℕ → ℕ → Type 0) → ((p q r : ℕ) → R p q → S q r → U p r) → (ps qs rs : List ℕ) → AllMatched R ps qs → AllMatched S qs rs → AllMatched U ps rs
matched_trans R S U t [] [] [] h k = tt
matched_trans R S U t [] [] (r ∷ rs) h k = absurd k
matched_trans R S U t [] (q ∷ qs) rs h k = absurd h
matched_trans R S U t (p ∷ ps) [] rs h k = absurd h
matched_trans R S U t (p ∷ ps) (q ∷ qs) [] h k = absurd k
matched_trans R S U t (p ∷ ps) (q ∷ qs) (r ∷ rs) h k = (t p q r h.0 k.0, matched_trans R S U t ps qs rs h.1 k.1)

pub matched_weaker : (R S : ℕ → ℕ → Type 0) → ((p q : ℕ) → R p q → S p q) → (ps qs : List ℕ) → AllMatched R ps qs → AllMatched S ps qs
matched_weaker R S f [] [] h = tt
matched_weaker R S f [] (q ∷ qs) h = absurd h
matched_weaker R S f (p ∷ ps) [] h = absurd h
matched_weaker R S f (p ∷ ps) (q ∷ qs) h = (f p q h.0, matched_weaker R S f ps qs h.1)

-- What a pair must match is reflexive and transitive.
pub forward_refl : (A : Automaton) (p : ℕ) → MatchesForward A A p p
forward_refl A p = λ a. a

pub forward_trans : (A B C : Automaton) (p q r : ℕ) → MatchesForward A B p q → MatchesForward B C q r → MatchesForward A C p r
forward_trans A B C p q r h k = λ a. k (h a)

pub backward_refl : (A : Automaton) (p : ℕ) → MatchesBackward A A p p
backward_refl A p = (λ a. a, λ i. i)

pub backward_trans : (A B C : Automaton) (p q r : ℕ) → MatchesBackward A B p q → MatchesBackward B C q r → MatchesBackward A C p r
backward_trans A B C p q r h k = (λ a. k.0 (h.0 a), λ i. k.1 (h.1 i))

-- If a list passes an accepting state, so does one that matches it.
pub matched_accepting : (A B : Automaton) (ps qs : List ℕ) → AllMatched (MatchesForward A B) ps qs → some_accepting A ps ≡ true → some_accepting B qs ≡ true
matched_accepting A B [] [] h t = absurd (false≢true t)
matched_accepting A B [] (q ∷ qs) h t = absurd h
matched_accepting A B (p ∷ ps) [] h t = absurd h
matched_accepting A B (p ∷ ps) (q ∷ qs) h t = elim (or_cases (is_accepting A p) (some_accepting A ps) t) [
  | inl here ↦ or_left (is_accepting B q) (some_accepting B qs) (test_from_accepting B q (h.0 (accepting_from_test A p here)))
  | inr later ↦ or_right (is_accepting B q) (some_accepting B qs) (matched_accepting A B ps qs h.1 later)
]
