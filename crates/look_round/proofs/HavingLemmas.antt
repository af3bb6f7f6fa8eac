-- What the right state of a stable pair has of the left one: its words.
use Rattle.std.proofs.Common.{◌≡◌, ℕ, ◌≤◌, ◌↔◌, ◌⊎◌, inl, inr, List, [], ◌∷◌, Contains, refl, sym, subst}
use Rattle.auto_core.specs.Run.{PathBy}
use Rattle.auto_core.specs.Game.{AllMatched, IsDead, Stable}
use Rattle.auto_core.proofs.PathLemmas.{Contains-here, none_in_nil}
use Rattle.auto_laws.specs.Games.{IsFollowed}
use Rattle.auto_laws.proofs.GameLemmas.{TellsMoves, follow}
use Rattle.auto_laws.proofs.MatchLemmas.{matched_trans}
use Rattle.look_round.specs.declared.moves.Move.{Move}
use Rattle.look_round.specs.Sides.{move}
use Rattle.look_round.specs.Words.{GoesByWord}

-- the letters of the word, and the states beside them
abbrev letters_of : List (ℕ × ℕ) → List ℕ
letters_of [] = []
letters_of (x ∷ w) = x.0 ∷ letters_of w

abbrev states_of : List (ℕ × ℕ) → List ℕ
states_of [] = []
states_of (x ∷ w) = x.1 ∷ states_of w

module _ (M : ℕ → ℕ → ℕ → Type 0) (ok : ℕ → ℕ → Type 0) where
  -- A state has a word where a path from it on the letters matches the states.
  path_of_word : (w : List (ℕ × ℕ)) (p : ℕ) → GoesByWord M ok p w → (ps : List ℕ) × PathBy M p (letters_of w) ps × AllMatched ok (states_of w) ps
  path_of_word [] p h = ([], tt, tt)
  path_of_word (x ∷ w) p (r, go, match, rest) = let t = path_of_word w r rest in (r ∷ t.0, (go, t.1), (match, t.2))

  word_of_path : (w : List (ℕ × ℕ)) (p : ℕ) (ps : List ℕ) → PathBy M p (letters_of w) ps → AllMatched ok (states_of w) ps → GoesByWord M ok p w
  word_of_path [] p ps path match = tt
  word_of_path (x ∷ w) p [] path match = absurd path
  word_of_path (x ∷ w) p (r ∷ ps) path match = (r, path.0, match.0, word_of_path w r ps path.1 match.1)

  -- Whatever word the left state of a stable pair has, the right one has it.
  pub word_kept :
      ((p q r : ℕ) → ok p q → ok q r → ok p r)
      → TellsMoves M
      → (W : ℕ → ℕ → Type 0) (k : ℕ)
      → 1 ≤ k
      → Stable M M ok k W
      → (p q : ℕ)
      → W p q
      → (w : List (ℕ × ℕ))
      → GoesByWord M ok p w
      → GoesByWord M ok q w
  word_kept joins tells W k some stable p q held w has =
      let t = path_of_word w p has in
      let f : IsFollowed M ok q (letters_of w) t.0 = follow M M ok W k some tells stable p q held (letters_of w) t.0 t.1 in
      word_of_path w q f.0 f.1 (matched_trans ok ok ok joins (states_of w) t.0 f.0 t.2 f.2)

-- Where the moves of each state are listed it can be told whether it has one.
pub listed_tells :
    (M : ℕ → ℕ → ℕ → Type 0) (list : ℕ → List Move)
    → ((p a q : ℕ) → Contains (list p) (move a q) ↔ M p a q)
    → TellsMoves M
listed_tells M list lists p = by_list (list p) refl
  where
    by_list : (ms : List Move) → list p ≡ ms → IsDead M p ⊎ ((a q : ℕ) × M p a q)
    by_list [] e = inl (λ a q go. none_in_nil (move a q) (subst (λ ms. Contains ms (move a q)) e ((lists p a q).1 go)))
    by_list (m ∷ ms) e = inr (m.label, m.to, (lists p m.label m.to).0 (subst (λ ms. Contains ms (move m.label m.to)) (sym e) (Contains-here m (move m.label m.to) ms refl)))
