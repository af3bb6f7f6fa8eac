-- Paths that a right delayed relation follows, and the lassos that come of it.
use Rattle.std.specs.List.{sum_by}
use Rattle.std.proofs.lemmas.List.Sums.{get_or-le-sum_by}
use Rattle.std.proofs.lemmas.Bool.{cases_Bool, false≢true}
use Rattle.std.proofs.Common.{get_or, ◌≡◌, ℕ, zero, suc, ◌≤◌, Option, None, Some, List, [], ◌∷◌, sym, ap, ◌∙◌, inl, inr, arith}
use Rattle.auto_core.specs.Automaton.{Automaton, IsAccepting, is_accepting, Moves}
use Rattle.auto_core.specs.Run.{Path}
use Rattle.auto_laws.specs.Transfer.{AcceptsWithin, AllMatchedWithin}
use Rattle.auto_core.proofs.PathLemmas.{accepting_from_test, test_from_accepting}
use Rattle.auto_laws.proofs.TransferLemmas.{delayed_transfer}
use Rattle.delayed_game.specs.Across.{RankedPlacePairs, HoldsPlacePair, HasPlacePairRank, IsRightAcross}
use Rattle.delayed_laws.specs.Across.{DelayedAcrossIncludes}

-- A delay may be taken for a greater one.
within_more : (B : Automaton) (r s : ℕ) (qs : List ℕ) → r ≤ s → AcceptsWithin B r qs → AcceptsWithin B s qs
within_more B r s [] le h = tt
within_more B zero zero (q ∷ qs) le h = h
within_more B zero (suc s) (q ∷ qs) le h = inl h
within_more B (suc r) zero (q ∷ qs) le h = absurd (omega arith)
within_more B (suc r) (suc s) (q ∷ qs) le h = elim h [ inl here ↦ inl here | inr later ↦ inr (within_more B r s qs (omega arith) later) ]

-- The list holds the pair, with the rank that is owed if one is.
abbrev pub Owes : RankedPlacePairs → Option ℕ → ℕ → ℕ → Type 0
Owes X None p q = HoldsPlacePair X p q
Owes X (Some r) p q = HasPlacePairRank X p q r

-- What is owed is paid within so many places.
abbrev pub Promised : Automaton → Option ℕ → List ℕ → Type 0
Promised B None qs = Unit {0}
Promised B (Some r) qs = AcceptsWithin B r qs

-- An answer to a move to p', and what it owes: once that is paid, so is what was owed before, and what p' asks for.
record Step (A B : Automaton) (X : RankedPlacePairs) (bound : ℕ) (o : Option ℕ) (q a p' : ℕ) : Type 0 where
  state : ℕ
  debt : Option ℕ
  move : Moves B q a state
  owes : Owes X debt p' state
  before : (qs : List ℕ) → Promised B debt (state ∷ qs) → Promised B o (q ∷ state ∷ qs)
  now : (qs : List ℕ) → Promised B debt (state ∷ qs) → IsAccepting A p' → AcceptsWithin B bound (state ∷ qs)

module _ (A B : Automaton) (X : RankedPlacePairs) (right : IsRightAcross A B X) (bound : ℕ) (within : (p q r : ℕ) → HasPlacePairRank X p q r → r ≤ bound) where
  -- Nothing is owed.
  free_step : (p q a p' : ℕ) → HoldsPlacePair X p q → Moves A p a p' → Step A B X bound None q a p'
  free_step p q a p' held move =
      let (q', goes, next) = right.answers p q a p' held move in
      elim (cases_Bool (is_accepting A p')) [
        | inl t ↦
            let (r, has) = right.ranked p' q' next (accepting_from_test A p' t) in
            record { state = q'; debt = Some r; move = goes; owes = has; before = λ qs h. tt; now = λ qs h here. within_more B r bound (q' ∷ qs) (within p' q' r has) h }
        | inr f ↦
            record {
              state = q';
              debt = None;
              move = goes;
              owes = next;
              before = λ qs h. tt;
              now = λ qs h here. absurd (false≢true (sym f ∙ test_from_accepting A p' here));
            }
      ]

  step : (o : Option ℕ) (p q a p' : ℕ) → Owes X o p q → Moves A p a p' → Step A B X bound o q a p'
  step None p q a p' held move = free_step p q a p' held move
  step (Some zero) p q a p' held move =
      let s = free_step p q a p' (Some 0, held) move in
      record { state = s.state; debt = s.debt; move = s.move; owes = s.owes; before = λ qs h. right.at_zero p q held; now = s.now }
  step (Some (suc r)) p q a p' held move =
      let (q', s, goes, has, less) = right.above_zero p q (suc r) a p' held (omega arith) move in
      record {
        state = q';
        debt = Some s;
        move = goes;
        owes = has;
        before = λ qs h. inr (within_more B s r (q' ∷ qs) (omega arith) h);
        now = λ qs h here. within_more B s bound (q' ∷ qs) (within p' q' s has) h;
      }

  ends : (o : Option ℕ) (p q : ℕ) → Owes X o p q → Promised B o (q ∷ [])
  ends None p q held = tt
  ends (Some zero) p q held = right.at_zero p q held
  ends (Some (suc r)) p q held = inr tt

  follow : (w ps : List ℕ) (o : Option ℕ) (p q : ℕ) → Owes X o p q → Path A p w ps → (qs : List ℕ) × Path B q w qs × AllMatchedWithin A B bound ps qs × Promised B o (q ∷ qs)
  follow [] [] o p q held path = ([], tt, tt, ends o p q held)
  follow [] (p' ∷ ps) o p q held path = absurd path
  follow (a ∷ w) [] o p q held path = absurd path
  follow (a ∷ w) (p' ∷ ps) o p q held path =
      let s = step o p q a p' held path.0 in
      let (qs, goes, match, paid) = follow w ps s.debt p' s.state s.owes path.1 in
      (s.state ∷ qs, (s.move, goes), (s.now qs paid, match), s.before qs paid)

  -- So a path from a held pair is followed with a bounded delay.
  pub follow_within : (p q : ℕ) → HoldsPlacePair X p q → (w ps : List ℕ) → Path A p w ps → (qs : List ℕ) × Path B q w qs × AllMatchedWithin A B bound ps qs
  follow_within p q held w ps path = let (qs, goes, match, paid) = follow w ps None p q held path in (qs, goes, match)

-- No rank of a list is above the sum of all.
abbrev rank_or_zero : Option ℕ → ℕ
rank_or_zero None = 0
rank_or_zero (Some r) = r

abbrev pub rank_sum : RankedPlacePairs → ℕ
rank_sum X = sum_by (λ (x : ℕ × ℕ × Option ℕ). rank_or_zero x.2) X

pub rank_within : (X : RankedPlacePairs) (p q r : ℕ) → HasPlacePairRank X p q r → r ≤ rank_sum X
rank_within X p q r (i, i_in, at) =
    let le = get_or-le-sum_by (λ (x : ℕ × ℕ × Option ℕ). rank_or_zero x.2) X i (p, q, Some r) i_in in
    let e : rank_or_zero (get_or X i (p, q, Some r)).2 ≡ r = ap (λ (x : ℕ × ℕ × Option ℕ). rank_or_zero x.2) at in
    omega arith

pub delayed_includes : DelayedAcrossIncludes
delayed_includes A B X valid is = delayed_transfer A B (rank_sum X) valid (follow_within A B X is.right (rank_sum X) (rank_within X) A.initial B.initial is.starts)
