-- The list of the transitions that have a better one, as far as the loop has come.
use Rattle.std.proofs.Common.{◌≡◌, ℕ, ◌+◌, ◌<◌, inl, inr, List, [], ◌∷◌, ◌++◌, length, get_or, All, Contains, sym, ◌∙◌, subst, arith}
use Rattle.std.specs.List.Sorted.{IsStrictlyIncreasing}
use Rattle.std.proofs.lemmas.Bool.{cases_eq}
use Rattle.std.proofs.lemmas.List.{map-append, length-map, get_or-map, get_or_default}
use Rattle.std.proofs.lemmas.List.Elements.{All-nil, All-push, Contains-append_left, Contains-append_right}
use Rattle.std.proofs.lemmas.List.Quantifiers.{all_pairs_push}
use Rattle.std.proofs.lemmas.List.Kept.{AllPairs-from_increasing}
use Rattle.auto_core.specs.Automaton.{Automaton}
use Rattle.auto_core.specs.Pruning.{HasBetter}
use Rattle.auto_core.proofs.PathLemmas.{Contains-here}
use Rattle.prune_pairs.specs.Least.{IsLeastBetter, AreLeastBetter, numbers_of_gone}
use Rattle.prune_pairs.specs.declared.removing.Gone.{Gone}

-- of the transitions with numbers below m
pub record AreFound (A : Automaton) (n : ℕ) (back ahead : ℕ → ℕ → Type 0) (m : ℕ) (gone : List Gone) : Type 0 where
  pub ascending : IsStrictlyIncreasing (numbers_of_gone gone)
  pub below : All (λ (g : Gone). g.trans < m) gone
  pub each : All (λ (g : Gone). IsLeastBetter A n back ahead g.trans g.by) gone
  pub all : (t : ℕ) → t < m → HasBetter A n back ahead t → Contains (numbers_of_gone gone) t

increasing_push : (xs : List ℕ) (x : ℕ) → IsStrictlyIncreasing xs → ((k : ℕ) → k < length xs → get_or xs k 0 < x) → IsStrictlyIncreasing (xs ++ x ∷ [])
increasing_push xs x up below k within =
    all_pairs_push (λ a b. a < b) xs x (AllPairs-from_increasing xs up) (λ i d lt. let h = below i lt in let e = get_or_default xs i d 0 lt in omega arith) k (k + 1) 0 (omega arith) within

module _ (A : Automaton) (n : ℕ) (back ahead : ℕ → ℕ → Type 0) where
  pub found_start : AreFound A n back ahead 0 []
  found_start = record { ascending = λ k within. absurd (omega arith); below = All-nil _; each = All-nil _; all = λ t lt h. absurd (omega arith) }

  pub found_none : (m : ℕ) (gone : List Gone) → AreFound A n back ahead m gone → (HasBetter A n back ahead m → ⊥) → AreFound A n back ahead (m + 1) gone
  found_none m gone f none = record {
    ascending = f.ascending;
    below = λ k d lt. let h = f.below k d lt in omega arith;
    each = f.each;
    all = λ t lt h. elim (cases_eq t m) [ inl e ↦ absurd (none (subst (HasBetter A n back ahead) e h)) | inr other ↦ f.all t (omega arith) h ];
  }

  pub found_more : (m : ℕ) (gone : List Gone) (g : Gone) → g.trans ≡ m → AreFound A n back ahead m gone → IsLeastBetter A n back ahead m g.by → AreFound A n back ahead (m + 1) (gone ++ g ∷ [])
  found_more m gone g at f least =
      let whole : numbers_of_gone (gone ++ g ∷ []) ≡ numbers_of_gone gone ++ g.trans ∷ [] = map-append (λ (h : Gone). h.trans) gone (g ∷ []) in
      let len = length-map gone (λ (h : Gone). h.trans) in
      let less : (k : ℕ) → k < length (numbers_of_gone gone) → get_or (numbers_of_gone gone) k 0 < g.trans = λ k lt.
      let k_in : k < length gone = omega arith in
      let is = get_or-map (λ (h : Gone). h.trans) gone k g 0 k_in in
      let h = f.below k g k_in in
      omega arith in
      record {
        ascending = subst IsStrictlyIncreasing (sym whole) (increasing_push (numbers_of_gone gone) g.trans f.ascending less);
        below = All-push (λ (h : Gone). h.trans < m + 1) gone g (λ k d lt. let h = f.below k d lt in omega arith) (omega arith);
        each = All-push (λ (h : Gone). IsLeastBetter A n back ahead h.trans h.by) gone g f.each (subst (λ t. IsLeastBetter A n back ahead t g.by) (sym at) least);
        all = λ t lt h. subst (λ l. Contains l t) (sym whole) (elim (cases_eq t m) [
          | inl e ↦ Contains-append_right (numbers_of_gone gone) (g.trans ∷ []) t (Contains-here g.trans t [] (at ∙ sym e))
          | inr other ↦ Contains-append_left (numbers_of_gone gone) (g.trans ∷ []) t (f.all t (omega arith) h)
        ]);
      }

  pub all_found : (m : ℕ) (gone : List Gone) → m ≡ length A.transitions → AreFound A n back ahead m gone → AreLeastBetter A n back ahead gone
  all_found m gone whole f = record { ascending = f.ascending; each = f.each; all = λ t h. let better = h.1 in f.all t (omega (arith, better.is)) h }
