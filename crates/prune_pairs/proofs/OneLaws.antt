-- What pruning makes is one automaton, and one with fewer transitions; which transitions are removed goes by the states alone.
use Rattle.std.proofs.Common.{◌≡◌, ℕ, ◌<◌, ◌≤◌, ◌⊎◌, ◌↔◌, inl, inr, List, [], ◌∷◌, length, Contains, refl, sym, ◌∙◌, subst, arith}
use Rattle.std.specs.List.{AllPairs}
use Rattle.std.proofs.lemmas.Bool.{cases_lt}
use Rattle.std.proofs.lemmas.List.{length-map, get_or-map}
use Rattle.std.proofs.lemmas.List.Elements.{All-contains}
use Rattle.std.proofs.lemmas.List.Kept.{AllPairs-from_increasing}
use Rattle.auto_core.specs.Automaton.{Automaton, IsAutomaton, Moves, IsBefore, trans, trans_at}
use Rattle.auto_core.specs.Game.{Close, Holds, IsGreatest, IsWithin}
use Rattle.auto_core.specs.Pruning.{AtSource, AtTarget, IsBetterAt, HasBetter, IsCut, IsGreatestBack, IsGreatestAhead}
use Rattle.auto_core.specs.declared.parts.Trans.{Trans}
use Rattle.auto_core.proofs.PathLemmas.{Contains-here, Contains-later, Contains-cons_cases, none_in_nil}
use Rattle.auto_core.proofs.MoveLemmas.{number_of, move_at}
use Rattle.auto_core.proofs.MemberLemmas.{Rises, rises_from_pairs, same_members, map_from}
use Rattle.auto_core.proofs.SetLemmas.{same_automaton, transitions_rise}
use Rattle.auto_laws.proofs.PumpingLemmas.{chain_weaker}
use Rattle.prune_pairs.specs.Least.{IsLeastBetter, AreLeastBetter, numbers_of_gone}
use Rattle.prune_pairs.specs.Laws.{CutIsOne, PrunedIsOne, CutOfNothing, CutIsShorter, PrunedIsShorter, PrunedIsItself, AgreeOnStates, BetterGoesByStates, RemovableArePruned, RemovableIsOne}
use Rattle.prune_pairs.specs.declared.removing.Gone.{Gone}

-- ---- relations that hold the same pairs of states

module _ (A : Automaton) where
  agree_back : (R S : ℕ → ℕ → Type 0) → AgreeOnStates A R S → AgreeOnStates A S R
  agree_back R S agree p q p_in q_in = let r = agree p q p_in q_in in (r.1, r.0)

  carry_source : (n : ℕ) (R S : ℕ → ℕ → Type 0) → (¬ (n ≡ 1) → AgreeOnStates A R S) → (p q : ℕ) → p < A.states → q < A.states → AtSource n R p q → AtSource n S p q
  carry_source n R S agree p q p_in q_in (inl h) = inl h
  carry_source n R S agree p q p_in q_in (inr (inl h)) =
      let same = agree (λ e. let f = h.0 in omega arith) in
      inr (inl (h.0, ((same p q p_in q_in).0 h.1.0, λ b. h.1.1 ((same q p q_in p_in).1 b))))
  carry_source n R S agree p q p_in q_in (inr (inr (inl h))) =
      let same = agree (λ e. let f = h.0 in omega arith) in
      inr (inr (inl (h.0, (same p q p_in q_in).0 h.1)))
  carry_source n R S agree p q p_in q_in (inr (inr (inr h))) =
      let same = agree (λ e. let f = h.0 in omega arith) in
      inr (inr (inr (h.0, ((same p q p_in q_in).0 h.1.0, λ b. h.1.1 ((same q p q_in p_in).1 b)))))

  carry_target : (n : ℕ) (R S : ℕ → ℕ → Type 0) → (¬ (n ≡ 2) → AgreeOnStates A R S) → (p q : ℕ) → p < A.states → q < A.states → AtTarget n R p q → AtTarget n S p q
  carry_target n R S agree p q p_in q_in (inl h) =
      let same = agree (λ e. let f = h.0 in omega arith) in
      inl (h.0, ((same p q p_in q_in).0 h.1.0, λ b. h.1.1 ((same q p q_in p_in).1 b)))
  carry_target n R S agree p q p_in q_in (inr (inl h)) = inr (inl h)
  carry_target n R S agree p q p_in q_in (inr (inr (inl h))) =
      let same = agree (λ e. let f = h.0 in omega arith) in
      inr (inr (inl (h.0, ((same p q p_in q_in).0 h.1.0, λ b. h.1.1 ((same q p q_in p_in).1 b)))))
  carry_target n R S agree p q p_in q_in (inr (inr (inr h))) =
      let same = agree (λ e. let f = h.0 in omega arith) in
      inr (inr (inr (h.0, (same p q p_in q_in).0 h.1)))

  carry : (n : ℕ) (R S F G : ℕ → ℕ → Type 0) → IsAutomaton A → (¬ (n ≡ 1) → AgreeOnStates A R S) → (¬ (n ≡ 2) → AgreeOnStates A F G) → (t u : ℕ) → IsBetterAt A n R F t u → IsBetterAt A n S G t u
  carry n R S F G valid back ahead t u h =
      let old = valid.in_range t (trans 0 0 0) h.is in
      let new = valid.in_range u (trans 0 0 0) h.by in
      record {
        is = h.is;
        by = h.by;
        better = record {
          label = h.better.label;
          source = carry_source n R S back (trans_at A t).source (trans_at A u).source old.0 new.0 h.better.source;
          target = carry_target n F G ahead (trans_at A t).target (trans_at A u).target old.1 new.1 h.better.target;
        };
      }

  close_agree : (S T : List (ℕ × ℕ)) → IsWithin S T → IsWithin T S → AgreeOnStates A (Close (Holds S)) (Close (Holds T))
  close_agree S T to from p q p_in q_in = (λ c. (c.0, chain_weaker (Holds S) (Holds T) to c.0 p q c.1), λ c. (c.0, chain_weaker (Holds T) (Holds S) from c.0 p q c.1))

greatest_within : (M : ℕ → ℕ → ℕ → Type 0) (ok : ℕ → ℕ → Type 0) (k n : ℕ) (S T : List (ℕ × ℕ)) → IsGreatest M M ok k n n S → IsGreatest M M ok k n n T → IsWithin S T
greatest_within M ok k n S T s t = t.has_each S s.in_range s.stable

pub better_goes : BetterGoesByStates
better_goes A n back ahead other_back other_ahead t u valid same_back same_ahead = (
  carry A n (Holds back) (Close (Holds other_back)) (Holds ahead) (Close (Holds other_ahead)) valid same_back same_ahead t u,
  carry A n (Close (Holds other_back)) (Holds back) (Close (Holds other_ahead)) (Holds ahead) valid
      (λ e. agree_back A (Holds back) (Close (Holds other_back)) (same_back e)) (λ e. agree_back A (Holds ahead) (Close (Holds other_ahead)) (same_ahead e)) t u,
)

-- ---- cuts

cut_moves : (A B C : Automaton) (gone other : List ℕ) → ((t : ℕ) → Contains other t → Contains gone t) → IsCut A gone B → IsCut A other C → (p a q : ℕ) → Moves B p a q → Moves C p a q
cut_moves A B C gone other more k l p a q m = let (t, t_in, is, left) = (k.moves p a q).0 m in (l.moves p a q).1 (t, t_in, is, λ h. left (more t h))

cut_same : (A B C : Automaton) (gone other : List ℕ) → ((t : ℕ) → Contains gone t ↔ Contains other t) → IsCut A gone B → IsCut A other C → B ≡ C
cut_same A B C gone other same k l =
    same_automaton B C k.valid l.valid (k.states ∙ sym l.states) (k.labels ∙ sym l.labels) (k.initial ∙ sym l.initial)
    (λ p a q. (cut_moves A B C gone other (λ t h. (same t).1 h) k l p a q, cut_moves A C B other gone (λ t h. (same t).0 h) l k p a q))
    (λ q. (λ h. subst (λ l. Contains l q) (k.accepting ∙ sym l.accepting) h, λ h. subst (λ l. Contains l q) (l.accepting ∙ sym k.accepting) h))

pub cut_one : CutIsOne
cut_one A B C gone k l = cut_same A B C gone gone (λ t. (λ h. h, λ h. h)) k l

-- greatest relations are one, and so is what has a better one by them
better_over : (A : Automaton) (n k : ℕ) (back ahead other_back other_ahead : List (ℕ × ℕ)) → IsAutomaton A → IsGreatestBack A n k back → IsGreatestAhead A n k ahead
    → IsGreatestBack A n k other_back → IsGreatestAhead A n k other_ahead → (t : ℕ)
    → HasBetter A n (Close (Holds back)) (Close (Holds ahead)) t → HasBetter A n (Close (Holds other_back)) (Close (Holds other_ahead)) t
better_over A n k back ahead other_back other_ahead valid b a other_b other_a t (u, better) = (
  u,
  carry A n (Close (Holds back)) (Close (Holds other_back)) (Close (Holds ahead)) (Close (Holds other_ahead)) valid
      (λ e. close_agree A back other_back (greatest_within _ _ _ _ back other_back (b e) (other_b e)) (greatest_within _ _ _ _ other_back back (other_b e) (b e)))
      (λ e. close_agree A ahead other_ahead (greatest_within _ _ _ _ ahead other_ahead (a e) (other_a e)) (greatest_within _ _ _ _ other_ahead ahead (other_a e) (a e))) t u better,
)

pub pruned_one : PrunedIsOne
pruned_one A B C n k valid p q = cut_same A B C p.gone q.gone
    (λ t. (
      λ h. (q.removable t).1 (better_over A n k p.back p.ahead q.back q.ahead valid p.greatest_back p.greatest_ahead q.greatest_back q.greatest_ahead t ((p.removable t).0 h)),
      λ h. (p.removable t).1 (better_over A n k q.back q.ahead p.back p.ahead valid q.greatest_back q.greatest_ahead p.greatest_back p.greatest_ahead t ((q.removable t).0 h)),
    ))
    p.cut q.cut

cut_itself : (A : Automaton) → IsAutomaton A → IsCut A [] A
cut_itself A valid = record {
  valid = valid;
  states = refl;
  labels = refl;
  initial = refl;
  moves = λ p a q. (
    λ m. let (t, t_in, is) = number_of A p a q m in (t, t_in, is, none_in_nil t),
    λ (t, t_in, is, left). let P : Trans → Type 0 = λ x. Contains A.transitions x in subst P is (move_at A t t_in),
  );
  accepting = refl;
}

pub cut_nothing : CutOfNothing
cut_nothing A B valid = (λ k. cut_one A B A [] k (cut_itself A valid), λ e. subst (IsCut A []) (sym e) (cut_itself A valid))

-- a list that rises is no longer than one that has all its elements, and shorter if the other has one more
module _ {X : Type 0} (R : X → X → Type 0) (asymmetric : (x y : X) → R x y → R y x → ⊥) where
  beyond : (x y z : X) (xs ys : List X) → y ≡ x → Rises R (x ∷ xs) → Contains xs z → (y ≡ z) ⊎ Contains ys z → Contains ys z
  beyond x y z xs ys same a h (inl e) = let loop : R z z = subst (λ u. R u z) (sym same ∙ e) (a.0 z h) in absurd (asymmetric z z loop loop)
  beyond x y z xs ys same a h (inr there) = there

  past : (x y z : X) (xs ys : List X) → Rises R (x ∷ xs) → Rises R (y ∷ ys) → Contains ys x → (x ≡ z) ⊎ Contains xs z → (y ≡ z) ⊎ Contains ys z → Contains ys z
  past x y z xs ys a b far h (inr there) = there
  past x y z xs ys a b far (inl is) (inl e) = let loop : R z z = subst (λ u. R u z) e (subst (R y) is (b.0 x far)) in absurd (asymmetric z z loop loop)
  past x y z xs ys a b far (inr later) (inl e) = absurd (asymmetric x z (a.0 z later) (subst (λ u. R u x) e (b.0 x far)))

  no_longer : (xs ys : List X) → Rises R xs → Rises R ys → ((z : X) → Contains xs z → Contains ys z) → length xs ≤ length ys
  no_longer [] ys a b inside = omega arith
  no_longer (x ∷ xs) [] a b inside = absurd (none_in_nil x (inside x (Contains-here x x xs refl)))
  no_longer (x ∷ xs) (y ∷ ys) a b inside = elim (Contains-cons_cases y x ys (inside x (Contains-here x x xs refl))) [
    | inl same ↦
        let h = no_longer xs ys a.1 b.1 (λ z h. beyond x y z xs ys same a h (Contains-cons_cases y z ys (inside z (Contains-later x z xs h)))) in
        omega arith
    | inr far ↦
        let h = no_longer (x ∷ xs) ys a b.1 (λ z h. past x y z xs ys a b far (Contains-cons_cases x z xs h) (Contains-cons_cases y z ys (inside z h))) in
        omega arith
  ]

  shorter : (xs ys : List X) (w : X) → Rises R xs → Rises R ys → ((z : X) → Contains xs z → Contains ys z) → Contains ys w → (Contains xs w → ⊥) → length xs < length ys
  shorter xs [] w a b inside more missed = absurd (none_in_nil w more)
  shorter [] (y ∷ ys) w a b inside more missed = omega arith
  shorter (x ∷ xs) (y ∷ ys) w a b inside more missed = elim (Contains-cons_cases y x ys (inside x (Contains-here x x xs refl))) [
    | inl same ↦
        let there : Contains ys w = elim (Contains-cons_cases y w ys more) [ inl e ↦ absurd (missed (Contains-here x w xs (sym same ∙ e))) | inr later ↦ later ] in
        let h = shorter xs ys w a.1 b.1 (λ z h. beyond x y z xs ys same a h (Contains-cons_cases y z ys (inside z (Contains-later x z xs h)))) there (λ h. missed (Contains-later x w xs h)) in
        omega arith
    | inr far ↦
        let h = no_longer (x ∷ xs) ys a b.1 (λ z h. past x y z xs ys a b far (Contains-cons_cases x z xs h) (Contains-cons_cases y z ys (inside z h))) in
        omega arith
  ]

before_and_after : (t u : Trans) → IsBefore t u → IsBefore u t → ⊥
before_and_after t u h k = both t.source t.label t.target u.source u.label u.target h k
  where
    both : (a b c x y z : ℕ) → IsBefore (trans a b c) (trans x y z) → IsBefore (trans x y z) (trans a b c) → ⊥
    both a b c x y z h k = omega arith

-- the numbers of transitions are different where they are
same_number : (A : Automaton) → IsAutomaton A → (t u : ℕ) → t < length A.transitions → u < length A.transitions → trans_at A t ≡ trans_at A u → t ≡ u
same_number A valid t u t_in u_in same = elim (cases_lt t u) [
  | inl lt ↦ let h : IsBefore (trans_at A u) (trans_at A u) = subst (λ x. IsBefore x (trans_at A u)) same (valid.in_order t u lt u_in) in absurd (before_and_after (trans_at A u) (trans_at A u) h h)
  | inr le ↦ elim (cases_lt u t) [
    | inl lt ↦ let h : IsBefore (trans_at A u) (trans_at A u) = subst (λ x. IsBefore (trans_at A u) x) same (valid.in_order u t lt t_in) in absurd (before_and_after (trans_at A u) (trans_at A u) h h)
    | inr ge ↦ omega arith
  ]
]

pub cut_shorter : CutIsShorter
cut_shorter A B gone t valid k there t_in =
    shorter IsBefore before_and_after B.transitions A.transitions (trans_at A t)
    (rises_from_pairs IsBefore B.transitions (transitions_rise B k.valid)) (rises_from_pairs IsBefore A.transitions (transitions_rise A valid))
    (λ x m. let (u, u_in, is, left) = (k.moves x.source x.label x.target).0 m in let P : Trans → Type 0 = λ y. Contains A.transitions y in subst P is (move_at A u u_in))
    (move_at A t t_in)
    (λ m. let (u, u_in, is, left) = (k.moves (trans_at A t).source (trans_at A t).label (trans_at A t).target).0 m in left (subst (Contains gone) (same_number A valid t u t_in u_in (sym is)) there))

pub pruned_shorter : PrunedIsShorter
pruned_shorter A B n k valid p = of_list p.gone p.cut (λ t h. (p.removable t).0 h)
  where
    of_list : (gone : List ℕ) → IsCut A gone B → ((t : ℕ) → Contains gone t → HasBetter A n (Close (Holds p.back)) (Close (Holds p.ahead)) t) → (B ≡ A) ⊎ (length B.transitions < length A.transitions)
    of_list [] cut have = inl ((cut_nothing A B valid).0 cut)
    of_list (t ∷ gone) cut have =
        let there : Contains (t ∷ gone) t = Contains-here t t gone refl in
        let better = have t there in
        inr (cut_shorter A B (t ∷ gone) t valid cut there (better.1).is)

pub pruned_itself : PrunedIsItself
pruned_itself A n k back ahead valid greatest_back greatest_ahead = (
  λ p t h.
      let there : Contains p.gone t = (p.removable t).1 (better_over A n k back ahead p.back p.ahead valid greatest_back greatest_ahead p.greatest_back p.greatest_ahead t h) in
      let better = h.1 in
      let less = cut_shorter A A p.gone t valid p.cut there better.is in
      omega arith,
  λ none. record {
    back = back;
    ahead = ahead;
    gone = [];
    greatest_back = greatest_back;
    greatest_ahead = greatest_ahead;
    removable = λ t. (λ h. absurd (none_in_nil t h), λ h. absurd (none t h));
    cut = cut_itself A valid;
  },
)

-- ---- removable transitions

same_gone : (g h : Gone) → g.trans ≡ h.trans → g.by ≡ h.by → g ≡ h
same_gone g h a b = λ k. record { trans = a k; by = b k }

gone_rises : (gone : List Gone) → AllPairs (λ x y. x < y) (numbers_of_gone gone) → AllPairs (λ (g h : Gone). g.trans < h.trans) gone
gone_rises gone up i j d lt j_in =
    let i_in : i < length gone = omega arith in
    let len = length-map gone (λ (g : Gone). g.trans) in
    let first = get_or-map (λ (g : Gone). g.trans) gone i d 0 i_in in
    let second = get_or-map (λ (g : Gone). g.trans) gone j d 0 j_in in
    let h = up i j 0 lt (omega arith) in
    omega arith

module _ (A : Automaton) (n : ℕ) (back ahead : ℕ → ℕ → Type 0) where
  abbrev pub Least : Gone → Type 0
  Least g = IsLeastBetter A n back ahead g.trans g.by

  gone_within : (gone other : List Gone) → AreLeastBetter A n back ahead gone → AreLeastBetter A n back ahead other → (g : Gone) → Contains gone g → Contains other g
  gone_within gone other are these g there =
      let mine : IsLeastBetter A n back ahead g.trans g.by = All-contains Least gone g are.each there in
      let (h, h_there, is) = map_from (λ (g : Gone). g.trans) other g.trans (these.all g.trans (g.by, mine.better)) in
      let theirs : IsLeastBetter A n back ahead h.trans h.by = All-contains Least other h these.each h_there in
      let moved : IsLeastBetter A n back ahead g.trans h.by = subst (λ t. IsLeastBetter A n back ahead t h.by) is theirs in
      let low = mine.least h.by moved.better in
      let high = moved.least g.by mine.better in
      subst (Contains other) (same_gone h g is (omega arith)) h_there

  pub least_one : (gone other : List Gone) → AreLeastBetter A n back ahead gone → AreLeastBetter A n back ahead other → gone ≡ other
  least_one gone other are these =
      same_members (λ (g h : Gone). g.trans < h.trans) (λ g h a b. omega arith) gone other
      (rises_from_pairs _ gone (gone_rises gone (AllPairs-from_increasing (numbers_of_gone gone) are.ascending)))
      (rises_from_pairs _ other (gone_rises other (AllPairs-from_increasing (numbers_of_gone other) these.ascending)))
      (gone_within gone other are these) (gone_within other gone these are)

  pub has_better : (gone : List Gone) → AreLeastBetter A n back ahead gone → (t : ℕ) → Contains (numbers_of_gone gone) t → HasBetter A n back ahead t
  has_better gone are t h =
      let (g, there, is) = map_from (λ (g : Gone). g.trans) gone t h in
      let least : IsLeastBetter A n back ahead g.trans g.by = All-contains Least gone g are.each there in
      subst (HasBetter A n back ahead) is (g.by, least.better)

pub removable_pruned : RemovableArePruned
removable_pruned A B n k back ahead closed_back closed_ahead gone valid greatest_back greatest_ahead same_back same_ahead are cut = record {
  back = back;
  ahead = ahead;
  gone = numbers_of_gone gone;
  greatest_back = greatest_back;
  greatest_ahead = greatest_ahead;
  removable = λ t. (
    λ h. let (u, better) = has_better A n (Holds closed_back) (Holds closed_ahead) gone are t h in (u, (better_goes A n closed_back closed_ahead back ahead t u valid same_back same_ahead).0 better),
    λ h. let (u, better) = h in are.all t (u, (better_goes A n closed_back closed_ahead back ahead t u valid same_back same_ahead).1 better),
  );
  cut = cut;
}

pub removable_one : RemovableIsOne
removable_one A n back ahead = least_one A n (Holds back) (Holds ahead)
