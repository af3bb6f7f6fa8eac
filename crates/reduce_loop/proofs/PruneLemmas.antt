-- The laws of prunings within the reduction: they are smaller, and closures of the relations find the list of what is gone.
use Rattle.std.proofs.Common.{◌≡◌, ℕ, ◌<◌, ◌↔◌, inl, inr, Option, None, Some, IfSome, List, length, ap, arith}
use Rattle.std.proofs.lemmas.List.Elements.{All-weaker}
use Rattle.auto_core.specs.Automaton.{Automaton, IsAutomaton}
use Rattle.auto_core.specs.Game.{Close, Holds}
use Rattle.auto_core.specs.Pruning.{IsBetterAt, IsCut, IsPruned}
use Rattle.bit_rel.specs.Relation.{Relation, IsClosed}
use Rattle.prune_pairs.specs.Laws.{AgreeOnStates}
use Rattle.prune_pairs.specs.Least.{AreLeastBetter, numbers_of_gone}
use Rattle.prune_pairs.specs.declared.removing.Gone.{Gone}
use Rattle.prune_pairs.proofs.OneLaws.{pruned_shorter, better_goes, Least, has_better}
use Rattle.reduce_loop.specs.Logs.{IsRelationOf, IsGivenWhere, pairs_given, IsBackOf, IsAheadOf}
use Rattle.reduce_loop.proofs.SizeLemmas.{IsSmaller}

pub pruned_smaller : (A B : Automaton) (n k : ℕ) → IsAutomaton A → IsPruned A n k B → IsSmaller A B
pruned_smaller A B n k valid p =
    let states = p.cut.states in
    let accepting = ap length p.cut.accepting in
    let shorter = pruned_shorter A B n k valid p in
    record {
      no_larger = record {
        labels = p.cut.labels;
        states = omega arith;
        transitions = elim shorter [ inl e ↦ let same = ap (λ (X : Automaton). length X.transitions) e in omega arith | inr less ↦ omega arith ];
      };
      same_or_less = elim shorter [ inl e ↦ inl e | inr less ↦ inr (omega arith) ];
    }

-- ---- the list of what is gone

-- relations by which the same ones are better give the same list
pub least_as :
    (A : Automaton) (n : ℕ) (back ahead other_back other_ahead : ℕ → ℕ → Type 0)
    → ((t u : ℕ) → IsBetterAt A n back ahead t u → IsBetterAt A n other_back other_ahead t u)
    → ((t u : ℕ) → IsBetterAt A n other_back other_ahead t u → IsBetterAt A n back ahead t u)
    → (gone : List Gone)
    → AreLeastBetter A n back ahead gone
    → AreLeastBetter A n other_back other_ahead gone
least_as A n back ahead other_back other_ahead to from gone are = record {
  ascending = are.ascending;
  each = All-weaker (Least A n back ahead) (Least A n other_back other_ahead)
      (λ g least. record { better = to g.trans g.by least.better; least = λ v h. least.least v (from g.trans v h) }) gone are.each;
  all = λ t (u, h). are.all t (u, from t u h);
}

-- ---- the relations of a pair

module _ (A : Automaton) (Greatest : List (ℕ × ℕ) → Type 0) (wanted : Type 0) where
  given_greatest : (rel : Option Relation) → IsGivenWhere wanted (IsRelationOf A Greatest) rel → wanted → Greatest (pairs_given rel)
  given_greatest None is u = absurd (is u)
  given_greatest (Some rel) is u = is.1.greatest

  closed_size : (rel : Option Relation) (closed : Relation) → IsGivenWhere wanted (IsRelationOf A Greatest) rel → IfSome rel (λ given. IsClosed given closed) → wanted → closed.size ≡ A.states
  closed_size None closed is c u = absurd (is u)
  closed_size (Some rel) closed is c u = let size = c.size in let on = is.1.on_states in omega arith

  closed_agrees : (rel : Option Relation) (closed : Relation) → IsGivenWhere wanted (IsRelationOf A Greatest) rel → IfSome rel (λ given. IsClosed given closed) → wanted → AgreeOnStates A (Holds closed.pairs) (Close (Holds (pairs_given rel)))
  closed_agrees None closed is c u p q p_in q_in = absurd (is u)
  closed_agrees (Some rel) closed is c u p q p_in q_in =
      let on = is.1.on_states in
      (λ h. ((c.pairs p q).0 h).2, λ h. (c.pairs p q).1 (omega arith, omega arith, h))

module _ (A : Automaton) (n k : ℕ) (back ahead : Option Relation) (is_back : IsBackOf A n k back) (is_ahead : IsAheadOf A n k ahead) where
  pub back_size : (closed : Relation) → IfSome back (λ given. IsClosed given closed) → ¬ (n ≡ 1) → closed.size ≡ A.states
  back_size closed c = closed_size A _ (¬ (n ≡ 1)) back closed is_back c

  pub ahead_size : (closed : Relation) → IfSome ahead (λ given. IsClosed given closed) → ¬ (n ≡ 2) → closed.size ≡ A.states
  ahead_size closed c = closed_size A _ (¬ (n ≡ 2)) ahead closed is_ahead c

  -- closures of the relations find what the closures of the lists say
  pub least_closed :
      (closed_back closed_ahead : Relation) (gone : List Gone)
      → IsAutomaton A
      → IfSome back (λ given. IsClosed given closed_back)
      → IfSome ahead (λ given. IsClosed given closed_ahead)
      → AreLeastBetter A n (Holds closed_back.pairs) (Holds closed_ahead.pairs) gone
      → AreLeastBetter A n (Close (Holds (pairs_given back))) (Close (Holds (pairs_given ahead))) gone
  least_closed closed_back closed_ahead gone valid cb ca are =
      let goes : (t u : ℕ) → IsBetterAt A n (Holds closed_back.pairs) (Holds closed_ahead.pairs) t u ↔ IsBetterAt A n (Close (Holds (pairs_given back))) (Close (Holds (pairs_given ahead))) t u = λ t u. better_goes A n closed_back.pairs closed_ahead.pairs (pairs_given back) (pairs_given ahead) t u valid
      (closed_agrees A _ (¬ (n ≡ 1)) back closed_back is_back cb) (closed_agrees A _ (¬ (n ≡ 2)) ahead closed_ahead is_ahead ca) in
      least_as A n (Holds closed_back.pairs) (Holds closed_ahead.pairs) (Close (Holds (pairs_given back))) (Close (Holds (pairs_given ahead)))
      (λ t u. (goes t u).0) (λ t u. (goes t u).1) gone are

  pub pruned_by : (B : Automaton) (gone : List Gone) → AreLeastBetter A n (Close (Holds (pairs_given back))) (Close (Holds (pairs_given ahead))) gone → IsCut A (numbers_of_gone gone) B → IsPruned A n k B
  pruned_by B gone least cut = record {
    back = pairs_given back;
    ahead = pairs_given ahead;
    gone = numbers_of_gone gone;
    greatest_back = given_greatest A _ (¬ (n ≡ 1)) back is_back;
    greatest_ahead = given_greatest A _ (¬ (n ≡ 2)) ahead is_ahead;
    removable = λ t. (has_better A n (Close (Holds (pairs_given back))) (Close (Holds (pairs_given ahead))) gone least t, least.all t);
    cut = cut;
  }
