-- Maps of states, and moves found by halving.
use Rattle.std.proofs.Common.{◌≡◌, ℕ, ◌<◌, ◌≤◌, inl, inr, List, length, subst, arith}
use Rattle.std.proofs.lemmas.Bool.{cases_lt}
use Rattle.auto_core.specs.Automaton.{Automaton, IsAutomaton, Moves, IsBefore, IsSuccessors, trans_at}
use Rattle.auto_core.specs.Quotient.{class_of}
use Rattle.auto_core.specs.declared.parts.Trans.{Trans}
use Rattle.auto_core.proofs.MoveLemmas.{number_of, moves_in_successors}
use Rattle.quotient.proofs.MergeLaws.{accepting_below}
use Rattle.map_laws.specs.Maps.{CarriesOver}
use Rattle.state_map.specs.Faults.{HaveImagesBelow, AcceptBelow}

pub carries : (A B : Automaton) (map : List ℕ) → IsAutomaton A → B.initial ≡ class_of map A.initial → HaveImagesBelow A B map (length A.transitions) → AcceptBelow A B map A.states → CarriesOver A B (class_of map)
carries A B map valid initial moves accept = record {
  initial = initial;
  moves = λ p a q m.
      let (t, t_in, at) = number_of A p a q m in
      let P : Trans → Type 0 = λ u. Moves B (class_of map u.source) u.label (class_of map u.target) in
      subst P at (moves t t_in);
  accepting = λ q h. accept q (accepting_below A valid q h) h;
}

same_pair : (t u : Trans) (p a : ℕ) → t.source ≡ p → t.label ≡ a → u.source ≡ p → u.label ≡ a → IsBefore t u → t.target < u.target
same_pair t u p a e f g h before = omega arith

module _ (A : Automaton) (valid : IsAutomaton A) (p a b e : ℕ) (s : IsSuccessors A p a b e) where
  -- the targets rise
  pub rising : (i j : ℕ) → b ≤ i → i < j → j < e → (trans_at A i).target < (trans_at A j).target
  rising i j i_from lt j_in =
      let within = s.within in
      let first = s.inside i i_from (omega arith) in
      let second = s.inside j (omega arith) j_in in
      same_pair (trans_at A i) (trans_at A j) p a first.0 first.1 second.0 second.1 (valid.in_order i j lt (omega arith))

  -- what is between is none of the transitions
  pub none_there : (q low : ℕ) → ((t : ℕ) → b ≤ t → t < low → (trans_at A t).target < q) → ((t : ℕ) → low ≤ t → t < e → q < (trans_at A t).target) → Moves A p a q → ⊥
  none_there q low below above m =
      let (t, from, t_in, at) = moves_in_successors A p a b e s q m in
      elim (cases_lt t low) [
        | inl lt ↦ let l = below t from lt in omega arith
        | inr ge ↦ let g = above t ge t_in in omega arith
      ]
