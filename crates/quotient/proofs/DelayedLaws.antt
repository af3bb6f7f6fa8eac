-- A quotient by the classes of a delayed relation accepts the same lassos: a path through classes is followed by a path through states
-- that is accepting a bounded number of places later.
use Rattle.std.proofs.Common.{◌≡◌, ℕ, zero, suc, ◌+◌, ◌*◌, ◌<◌, ◌≤◌, ◌⊎◌, inl, inr, Bool, true, false, Option, None, Some, List, [], ◌∷◌, ◌++◌, length, take, get_or, replicate, All, Contains, refl, sym, ap, ◌∙◌, subst, arith, length-append}
use Rattle.std.proofs.lemmas.Bool.{cases_eq, false≢true}
use Rattle.std.proofs.lemmas.List.{take_more, length-replicate, length-take-le}
use Rattle.std.proofs.Math.Nat.{mul-le-mul_right}
use Rattle.std.proofs.lemmas.List.Elements.{All-append, All-cons, All-contains, All-head, All-replicate, All-tail, All-take}
use Rattle.auto_core.specs.Automaton.{Automaton, IsAutomaton, Moves, IsAccepting, is_accepting}
use Rattle.auto_core.specs.Run.{Path}
use Rattle.auto_core.specs.Game.{Chain, Close}
use Rattle.auto_core.specs.Quotient.{class_of, IsQuotient, RelatesMembersBy}
use Rattle.auto_core.specs.Delayed.{RankedTriples, HoldsTriple, HasRank, Announces, IsRight, IsTripleWord, AreStateRelated}
use Rattle.auto_core.specs.declared.parts.Mode.TheVariants.{Buchi}
use Rattle.auto_core.proofs.PathLemmas.{accepting_from_test, test_from_accepting, none_in_nil, Contains-cons_cases}
use Rattle.auto_core.proofs.MoveLemmas.{move_in_range}
use Rattle.auto_core.proofs.ReachLemmas.{close_refl, close_trans, close_one}
use Rattle.auto_laws.specs.Transfer.{AcceptsWithin, AllMatchedWithin, FollowsWithin}
use Rattle.auto_laws.proofs.PumpingLemmas.{chain_short}
use Rattle.auto_laws.proofs.TransferLemmas.{delayed_transfer}
use Rattle.quotient.specs.Laws.{DelayedQuotientIsSame}
use Rattle.quotient.proofs.MergeLaws.{accepts_more}

-- ---- bounds that a list of triples gives

abbrev rank_or_zero : Option ℕ → ℕ
rank_or_zero None = zero
rank_or_zero (Some r) = suc r

-- above all ranks
abbrev ranks_bound : RankedTriples → ℕ
ranks_bound [] = zero
ranks_bound (x ∷ xs) = rank_or_zero x.3 + ranks_bound xs

-- above all right states
abbrev rights_bound : RankedTriples → ℕ
rights_bound [] = zero
rights_bound (x ∷ xs) = suc x.2 + rights_bound xs

rank_below : (X : RankedTriples) (b : List ℕ) (p q r : ℕ) → HasRank X b p q r → r < ranks_bound X
rank_below [] b p q r h = absurd (none_in_nil (p, b, q, Some r) h)
rank_below (x ∷ xs) b p q r h = elim (Contains-cons_cases x (p, b, q, Some r) xs h) [
  | inl e ↦
      let here : rank_or_zero x.3 ≡ suc r = ap (λ (y : ℕ × List ℕ × ℕ × Option ℕ). rank_or_zero y.3) e in
      omega arith
  | inr later ↦ let lt = rank_below xs b p q r later in omega arith
]

right_below : (X : RankedTriples) (b : List ℕ) (p q : ℕ) → HoldsTriple X b p q → q < rights_bound X
right_below [] b p q h = absurd (none_in_nil (p, b, q, h.0) h.1)
right_below (x ∷ xs) b p q h = elim (Contains-cons_cases x (p, b, q, h.0) xs h.1) [
  | inl e ↦ let here : x.2 ≡ q = ap (λ (y : ℕ × List ℕ × ℕ × Option ℕ). y.2) e in omega arith
  | inr later ↦ let lt = right_below xs b p q (h.0, later) in omega arith
]

-- ---- words of triples

-- the first k letters of a word, the word's first letter, and the first k letters after it
announced_next : (k a : ℕ) (u : List ℕ) → k ≤ length u → Announces (take k (a ∷ u)) (get_or (a ∷ u) k 0) a (take k u)
announced_next k a u le =
    let is : take (k + 1) (a ∷ u) ≡ take k (a ∷ u) ++ get_or (a ∷ u) k 0 ∷ [] = take_more (a ∷ u) k 0 (omega arith) in
    sym is ∙ ap (λ n. take n (a ∷ u)) (plus_one k)
  where
    plus_one : (n : ℕ) → n + 1 ≡ suc n
    plus_one n = omega arith

module _ (A : Automaton) (X : RankedTriples) (right : IsRight A X) where
  -- a chain of triples over the letters b
  abbrev Below : List ℕ → ℕ → ℕ → Type 0
  Below b p q = Close (HoldsTriple X b) p q

  chain_moves :
      (b : List ℕ) (more a : ℕ) (c : List ℕ)
      → more < A.labels
      → Announces b more a c
      → (n x z x' : ℕ)
      → Chain (HoldsTriple X b) n x z
      → Moves A x a x'
      → (z' : ℕ) × Moves A z a z' × Chain (HoldsTriple X c) n x' z'
  chain_moves b more a c label next zero x z x' chain move = (x', subst (λ y. Moves A y a x') chain move, refl)
  chain_moves b more a c label next (suc n) x z x' (r, first, rest) move =
      let answer = right.answers b x r more a c x' first label next move in
      let last = chain_moves b more a c label next n r z answer.0 rest answer.1 in
      (last.0, last.1, (answer.0, answer.2, last.2))

  below_moves :
      (b : List ℕ) (more a : ℕ) (c : List ℕ)
      → more < A.labels
      → Announces b more a c
      → (x z x' : ℕ)
      → Below b x z
      → Moves A x a x'
      → (z' : ℕ) × Moves A z a z' × Below c x' z'
  below_moves b more a c label next x z x' (n, chain) move =
      let answer = chain_moves b more a c label next n x z x' chain move in
      (answer.0, answer.1, (n, answer.2))

  -- z is below nothing but x, and owes an accepting state within r moves
  abbrev Owes : ℕ → List ℕ → ℕ → ℕ → Type 0
  Owes zero b x z = Below b x z × IsAccepting A z
  Owes (suc r) b x z =
      Below b x z
      × (IsAccepting A z
      ⊎ ((more a : ℕ) (c : List ℕ) (x' : ℕ) → more < A.labels → Announces b more a c → Moves A x a x' → (z' : ℕ) × Moves A z a z' × Owes r c x' z'))

  owes_below : (r : ℕ) (b : List ℕ) (x z : ℕ) → Owes r b x z → Below b x z
  owes_below zero b x z h = h.0
  owes_below (suc r) b x z h = h.0

  owes_accepting : (r : ℕ) (b : List ℕ) (x z : ℕ) → Below b x z → IsAccepting A z → Owes r b x z
  owes_accepting zero b x z below accepting = (below, accepting)
  owes_accepting (suc r) b x z below accepting = (below, inl accepting)

  owes_one_more : (r : ℕ) (b : List ℕ) (x z : ℕ) → Owes r b x z → Owes (suc r) b x z
  owes_one_more zero b x z h = (h.0, inl h.1)
  owes_one_more (suc r) b x z h = (
    h.0,
    elim h.1 [
      | inl accepting ↦ inl accepting
      | inr answers ↦ inr (λ more a c x' label next move. let answer = answers more a c x' label next move in (answer.0, answer.1, owes_one_more r c x' answer.0 answer.2))
    ],
  )

  owes_more : (s r : ℕ) (b : List ℕ) (x z : ℕ) → r ≤ s → Owes r b x z → Owes s b x z
  owes_more zero r b x z le h = subst (λ n. Owes n b x z) (none r le) h
    where
      none : (r : ℕ) → r ≤ zero → r ≡ zero
      none r le = omega arith
  owes_more (suc s) r b x z le h = elim (cases_eq r (suc s)) [
    | inl e ↦ subst (λ n. Owes n b x z) e h
    | inr apart ↦ owes_one_more s b x z (owes_more s r b x z (omega arith) h)
  ]

  -- what e owes to z, each state below e owes too
  owes_after : (r : ℕ) (b : List ℕ) (x e z : ℕ) → Below b x e → Owes r b e z → Owes r b x z
  owes_after zero b x e z below h = (close_trans (HoldsTriple X b) x e z below h.0, h.1)
  owes_after (suc r) b x e z below h = (
    close_trans (HoldsTriple X b) x e z below h.0,
    elim h.1 [
      | inl accepting ↦ inl accepting
      | inr answers ↦ inr (λ more a c x' label next move.
          let first = below_moves b more a c label next x e x' below move in
          let second = answers more a c first.0 label next first.1 in
          (second.0, second.1, owes_after r c x' first.0 second.0 first.2 second.2))
    ],
  )

  -- from a triple of rank s on, along a chain whose accepting states owe at most d
  owes_from_rank :
      (d n : ℕ)
      → ((b : List ℕ) (x z : ℕ) → IsAccepting A x → Chain (HoldsTriple X b) n x z → Owes d b x z)
      → (m s : ℕ) → s ≤ m → (b : List ℕ) (x r z : ℕ) → HasRank X b x r s → Chain (HoldsTriple X b) n r z → Owes (m + d) b x z
  owes_from_rank d n ih zero s le b x r z ranked chain =
      let here : HasRank X b x r 0 = subst (λ y. HasRank X b x r y) (none s le) ranked in
      owes_more (zero + d) d b x z (omega arith) (owes_after d b x r z (close_one (HoldsTriple X b) x r (Some s, ranked)) (ih b r z (right.at_zero b x r here) chain))
    where
      none : (s : ℕ) → s ≤ zero → s ≡ zero
      none s le = omega arith
  owes_from_rank d n ih (suc m) s le b x r z ranked chain = elim (cases_eq s 0) [
    | inl e ↦
        let here : HasRank X b x r 0 = subst (λ y. HasRank X b x r y) e ranked in
        owes_more (suc m + d) d b x z (omega arith) (owes_after d b x r z (close_one (HoldsTriple X b) x r (Some s, ranked)) (ih b r z (right.at_zero b x r here) chain))
    | inr some ↦
        let step : Owes (suc (m + d)) b x z = (
          close_trans (HoldsTriple X b) x r z (close_one (HoldsTriple X b) x r (Some s, ranked)) (n, chain),
          inr (λ more a c x' label next move.
              let first = right.above_zero b x r s more a c x' ranked (omega arith) label next move in
              let lt = first.4 in
              let last = chain_moves b more a c label next n r z first.0 chain first.2 in
              (last.0, last.1, owes_from_rank d n ih m first.1 (omega arith) c x' first.0 last.0 first.3 last.2)),
        ) in
        owes_more (suc m + d) (suc (m + d)) b x z (omega arith) step
  ]

  -- along a chain of n triples from an accepting state
  owes_along : (n : ℕ) (b : List ℕ) (x z : ℕ) → IsAccepting A x → Chain (HoldsTriple X b) n x z → Owes (n * ranks_bound X) b x z
  owes_along zero b x z accepting chain =
      owes_accepting (zero * ranks_bound X) b x z (zero, chain) (subst (IsAccepting A) chain accepting)
  owes_along (suc n) b x z accepting (r, first, rest) =
      let has = right.ranked b x r first accepting in
      let lt = rank_below X b x r has.0 has.1 in
      owes_more (suc n * ranks_bound X) (has.0 + n * ranks_bound X) b x z (times n (ranks_bound X) has.0 lt)
      (owes_from_rank (n * ranks_bound X) n (λ c y w ends chain. owes_along n c y w ends chain) has.0 has.0 (omega arith) b x r z has.1 rest)
    where
      times : (n m s : ℕ) → s < m → s + n * m ≤ suc n * m
      times n m s lt =
          let is : suc n * m ≡ m + n * m = suc_times n m in
          omega arith
        where
          suc_times : (n m : ℕ) → suc n * m ≡ m + n * m
          suc_times n m = grind arith

  abbrev bound : ℕ
  bound = A.states + rights_bound X

  abbrev delay : ℕ
  delay = bound * ranks_bound X

  -- however long the chain
  owes_any : (b : List ℕ) (x z : ℕ) → x < A.states → IsAccepting A x → Below b x z → Owes delay b x z
  owes_any b x z x_in accepting (n, chain) =
      let less = chain_short (HoldsTriple X b) bound (λ s t lt held. let right_lt = right_below X b s t held in omega arith) n x z (omega arith) chain in
      owes_more delay (less.0 * ranks_bound X) b x z (mul-le-mul_right (ranks_bound X) (omega (arith, less.1))) (owes_along less.0 b x z accepting less.2)

  module _ (valid : IsAutomaton A) (B : Automaton) (classes : List ℕ) (k : ℕ) (relates : RelatesMembersBy A classes (AreStateRelated A.labels (suc k) X)) (is : IsQuotient A classes B) where
    -- members of one class are below one another, whatever the word of k letters
    members_below : (b : List ℕ) → IsTripleWord A.labels (suc k) b → (p q : ℕ) → p < A.states → q < A.states → class_of classes p ≡ class_of classes q → Below b p q
    members_below b fits p q p_in q_in same = let way = relates p q p_in q_in same in (way.0, along way.0 p q way.1)
      where
        along : (n p q : ℕ) → Chain (AreStateRelated A.labels (suc k) X) n p q → Chain (HoldsTriple X b) n p q
        along zero p q c = c
        along (suc n) p q (r, first, rest) = (r, first b fits, along n r q rest)

    -- the debt of z: none, or an accepting state within r moves
    abbrev Debt : Option ℕ → List ℕ → ℕ → ℕ → Type 0
    Debt None b x z = Below b x z
    Debt (Some r) b x z = Owes r b x z

    -- it is paid along the states
    abbrev Paid : Option ℕ → List ℕ → Type 0
    Paid None zs = Unit {0}
    Paid (Some r) zs = AcceptsWithin A r zs

    within_more : (r s : ℕ) (zs : List ℕ) → r ≤ s → AcceptsWithin A r zs → AcceptsWithin A s zs
    within_more r s [] le h = tt
    within_more zero zero (z ∷ zs) le h = h
    within_more zero (suc s) (z ∷ zs) le h = inl h
    within_more (suc r) zero (z ∷ zs) le h = absurd (omega arith)
    within_more (suc r) (suc s) (z ∷ zs) le (inl h) = inl h
    within_more (suc r) (suc s) (z ∷ zs) le (inr h) = inr (within_more r s zs (omega arith) h)

    -- a path of A from z that is accepting soon enough
    abbrev Followed : Option ℕ → ℕ → List ℕ → List ℕ → Type 0
    Followed debt z w cs = (zs : List ℕ) × Path A z w zs × AllMatchedWithin B A delay cs zs × Paid debt (z ∷ zs)

    -- the letters of a path through classes are labels
    path_labels : (c : ℕ) (w cs : List ℕ) → Path B c w cs → All (λ a. a < A.labels) w
    path_labels c [] [] path = λ i d lt. absurd (omega arith)
    path_labels c [] (d ∷ ds) path = absurd path
    path_labels c (a ∷ w) [] path = absurd path
    path_labels c (a ∷ w) (d ∷ ds) (move, rest) =
        let rep = (is.moves c a d).0 move in
        All-cons (λ a. a < A.labels) a w (move_in_range A valid rep.0 a rep.1 rep.2).2 (path_labels d w ds rest)

    -- a triple's word where the word u is still to come
    fits_after : (u : List ℕ) → k ≤ length u → All (λ a. a < A.labels) u → IsTripleWord A.labels (suc k) (take k u)
    fits_after u long labels = (ap suc (length-take-le k u long), All-take (λ a. a < A.labels) k u labels)

    -- no debt is greater than the delay
    abbrev FitsDebt : Option ℕ → Type 0
    FitsDebt None = Unit {0}
    FitsDebt (Some r) = r ≤ delay

    -- the rest of the path, once the next states are known
    abbrev FollowsRest : List ℕ → List ℕ → List ℕ → Type 0
    FollowsRest pad w cs =
        (c x z : ℕ) (debt : Option ℕ)
        → Path B c w cs
        → x < A.states
        → class_of classes x ≡ c
        → FitsDebt debt
        → Debt debt (take k (w ++ pad)) x z
        → Followed debt z w cs

    module _ (pad : List ℕ) (padded : length pad ≡ k) (pad_labels : All (λ a. a < A.labels) pad) where
      -- a state of the class d is reached with no debt: if the class is accepting, a debt begins
      go_on : (w cs : List ℕ) → FollowsRest pad w cs → (d q z : ℕ) → Path B d w cs → q < A.states → class_of classes q ≡ d → IsTripleWord A.labels (suc k) (take k (w ++ pad)) → Below (take k (w ++ pad)) q z
          → (zs : List ℕ) × Path A z w zs × AllMatchedWithin B A delay cs zs × (IsAccepting B d → AcceptsWithin A delay (z ∷ zs))
      go_on w cs rest d q z path q_in of_d fits below = by_test (is_accepting B d) refl
        where
          by_test : (b : Bool) → is_accepting B d ≡ b → (zs : List ℕ) × Path A z w zs × AllMatchedWithin B A delay cs zs × (IsAccepting B d → AcceptsWithin A delay (z ∷ zs))
          by_test true accepts =
              let member = (is.accepting d).0 (accepting_from_test B d accepts) in
              let e = member.0 in
              let e_in : e < A.states = All-contains (λ q. q < A.states) A.accepting e valid.accepting_in_range member.1 in
              let same : class_of classes e ≡ class_of classes q = sym member.2 ∙ sym of_d in
              let owed = owes_after delay (take k (w ++ pad)) q e z (members_below (take k (w ++ pad)) fits q e q_in e_in (sym same))
              (owes_any (take k (w ++ pad)) e z e_in member.1 (close_trans (HoldsTriple X (take k (w ++ pad))) e q z (members_below (take k (w ++ pad)) fits e q e_in q_in same) below)) in
              let followed = rest d q z (Some delay) path q_in of_d (omega arith) owed in
              (followed.0, followed.1, followed.2, λ accepting. followed.3)
          by_test false rejects =
              let followed = rest d q z None path q_in of_d tt below in
              (followed.0, followed.1, followed.2, λ accepting. absurd (false≢true (sym rejects ∙ test_from_accepting B d accepting)))

      -- one move of the path, once the rest is followed
      one_move :
          (a : ℕ) (w : List ℕ) (d : ℕ) (ds : List ℕ)
          → All (λ a. a < A.labels) (a ∷ w)
          → FollowsRest pad w ds
          → (c x z : ℕ) (debt : Option ℕ)
          → Moves B c a d
          → Path B d w ds
          → x < A.states
          → class_of classes x ≡ c
          → FitsDebt debt
          → Debt debt (take k (a ∷ (w ++ pad))) x z
          → Followed debt z (a ∷ w) (d ∷ ds)
      one_move a w d ds labels ih c x z debt move rest x_in of_c small owed = step debt small owed
        where
          u : List ℕ
          u = w ++ pad

          long : k ≤ length u
          long = let len = length-append w pad in omega arith

          w_labels : All (λ a. a < A.labels) w
          w_labels = All-tail (λ a. a < A.labels) a w labels

          u_labels : All (λ a. a < A.labels) u
          u_labels = All-append (λ a. a < A.labels) w pad w_labels pad_labels

          all_labels : All (λ a. a < A.labels) (a ∷ u)
          all_labels = All-cons (λ a. a < A.labels) a u (All-head (λ a. a < A.labels) a w labels) u_labels

          more : ℕ
          more = get_or (a ∷ u) k 0

          more_in : more < A.labels
          more_in = all_labels k 0 (omega (arith, long))

          next : Announces (take k (a ∷ u)) more a (take k u)
          next = announced_next k a u long

          now : IsTripleWord A.labels (suc k) (take k (a ∷ u))
          now = fits_after (a ∷ u) (omega (arith, long)) all_labels

          then : IsTripleWord A.labels (suc k) (take k u)
          then = fits_after u long u_labels

          rep : (p q : ℕ) × Moves A p a q × (c ≡ class_of classes p) × (d ≡ class_of classes q)
          rep = (is.moves c a d).0 move

          p : ℕ
          p = rep.0

          q : ℕ
          q = rep.1

          goes : Moves A p a q
          goes = rep.2

          ends : (p < A.states) × (q < A.states) × (a < A.labels)
          ends = move_in_range A valid p a q goes

          p_x : Below (take k (a ∷ u)) p x
          p_x = members_below (take k (a ∷ u)) now p x ends.0 x_in (sym rep.3 ∙ sym of_c)

          -- with no debt
          free : Below (take k (a ∷ u)) x z → (zs : List ℕ) × Path A z (a ∷ w) zs × AllMatchedWithin B A delay (d ∷ ds) zs
          free below =
              let answer = below_moves (take k (a ∷ u)) more a (take k u) more_in next p z q (close_trans (HoldsTriple X (take k (a ∷ u))) p x z p_x below) goes in
              let rest_of = go_on w ds ih d q answer.0 rest ends.1 (sym rep.4) then answer.2 in
              (answer.0 ∷ rest_of.0, (answer.1, rest_of.1), (rest_of.3, rest_of.2))

          step : (debt : Option ℕ) → FitsDebt debt → Debt debt (take k (a ∷ u)) x z → Followed debt z (a ∷ w) (d ∷ ds)
          step None small below = let way = free below in (way.0, way.1, way.2, tt)
          step (Some zero) small owed = let way = free owed.0 in (way.0, way.1, way.2, owed.1)
          step (Some (suc r)) small owed = elim owed.1 [
            | inl accepting ↦ let way = free owed.0 in (way.0, way.1, way.2, inl accepting)
            | inr answers ↦
                let from_p : Owes (suc r) (take k (a ∷ u)) p z = owes_after (suc r) (take k (a ∷ u)) p x z p_x owed in
                elim from_p.1 [
                  | inl accepting ↦ let way = free owed.0 in (way.0, way.1, way.2, inl accepting)
                  | inr moves ↦
                      let answer = moves more a (take k u) q more_in next goes in
                      let way = ih d q answer.0 (Some r) rest ends.1 (sym rep.4) (omega arith) answer.2 in
                      (answer.0 ∷ way.0, (answer.1, way.1), ((λ accepting. within_more r delay (answer.0 ∷ way.0) (omega arith) way.3), way.2), inr way.3)
                ]
          ]

      follows : (w cs : List ℕ) → All (λ a. a < A.labels) w → FollowsRest pad w cs
      follows [] [] labels c x z None path x_in of_c small debt = ([], tt, tt, tt)
      follows [] [] labels c x z (Some zero) path x_in of_c small debt = ([], tt, tt, debt.1)
      follows [] [] labels c x z (Some (suc r)) path x_in of_c small debt = ([], tt, tt, inr tt)
      follows [] (d ∷ ds) labels c x z debt path x_in of_c small owed = absurd path
      follows (a ∷ w) [] labels c x z debt path x_in of_c small owed = absurd path
      follows (a ∷ w) (d ∷ ds) labels c x z debt path x_in of_c small owed =
          one_move a w d ds labels (follows w ds (All-tail (λ a. a < A.labels) a w labels)) c x z debt path.0 path.1 x_in of_c small owed

    followed_within : FollowsWithin B A delay
    followed_within [] [] path = ([], tt, tt)
    followed_within [] (d ∷ ds) path = absurd path
    followed_within (a ∷ w) cs path =
        let labels = path_labels B.initial (a ∷ w) cs path in
        let some : 0 < A.labels = let lt = All-head (λ a. a < A.labels) a w labels in omega arith in
        let pad : List ℕ = replicate k 0 in
        let way = follows pad (length-replicate k 0) (All-replicate (λ a. a < A.labels) k 0 some) (a ∷ w) cs labels B.initial A.initial A.initial None path valid.initial_is_state (sym is.initial) tt (close_refl (HoldsTriple X (take k ((a ∷ w) ++ pad))) A.initial) in
        (way.0, way.1, way.2)

pub delayed_quotient_is_same : DelayedQuotientIsSame
delayed_quotient_is_same A B classes zero X valid some right relates is = absurd (omega arith)
delayed_quotient_is_same A B classes (suc k) X valid some right relates is = (
  accepts_more A B classes Buchi is,
  delayed_transfer B A (delay A X right) valid (followed_within A X right valid B classes k relates is),
)
