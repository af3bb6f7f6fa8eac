-- What first answers lead to, and that what is reached is a delayed simulation.
use Rattle.std.proofs.Common.{◌≡◌, ℕ, zero, suc, ◌+◌, ◌<◌, ◌≤◌, ◌⊎◌, ◌↔◌, inl, inr, Option, None, Some, List, [], ◌∷◌, ◌++◌, length, Contains, refl, sym, ap, ◌∙◌, subst, arith}
use Rattle.std.proofs.lemmas.Bool.{cases_eq, cases_lt}
use Rattle.std.proofs.lemmas.List.Elements.{Contains-push, Contains-push_cases, Contains-append_left}
use Rattle.auto_core.proofs.PathLemmas.{none_in_nil}
use Rattle.auto_core.specs.Automaton.{Automaton, IsAutomaton, IsOutgoing, trans_at}
use Rattle.auto_core.specs.declared.parts.Trans.{Trans}
use Rattle.auto_core.proofs.MoveLemmas.{number_of, outgoing_moves, moves_in_outgoing}
use Rattle.auto_core.proofs.ReachLemmas.{close_refl, close_one, close_trans}
use Rattle.useful_states.specs.declared.gathering.Gathered.{Gathered}
use Rattle.useful_states.specs.Gathering.{ListsMembers, HasGained, HoldsJust}
use Rattle.useful_states.proofs.GatherLemmas.{gained_none, gained_more, gained_as, held_and}
use Rattle.delayed_game.specs.Across.{HoldsPlacePair}
use Rattle.delayed_game.specs.Settling.{IsAnsweredIn, AnswersAll}
use Rattle.delayed_laws.specs.declared.parts.DelayedPair.{DelayedPair}
use Rattle.delayed_laws.specs.Across.{IsDelayedSimulation}
use Rattle.delayed_laws.specs.Listed.{delayed_pair, place_pairs, delayed_at, StandsBefore, AreDelayedAscending}
use Rattle.delayed_laws.proofs.ListedLemmas.{pair_stands, pair_from, at_place, place_has, not_before_itself}
use Rattle.delayed_across.specs.Answered.{IsRankBelow, HoldsBelow, KeepsAnswers, bound_of}
use Rattle.delayed_across.specs.Laws.{ReachedPartIsSimulation}
use Rattle.delayed_across.specs.Listed.{IsNumberOf}
use Rattle.delayed_across.specs.Reached.{IsFirstAnswer, IsAnswerBy, LeadsOn, IsLedTo, IsReachedNumber, IsPartBy, IsReachedPart}
use Rattle.delayed_across.proofs.AnswerLemmas.{answers_kept, kept_answered, least_of_first, answer_by}
use Rattle.delayed_across.proofs.ListLemmas.{push_ascends}
use Rattle.delayed_across.proofs.LookupLemmas.{number_holds, held_at}
use Rattle.delayed_across.proofs.RefusalLemmas.{right_keeps, right_by_numbers}

-- ---- a move has one first answer

number_is_one : (pairs : List DelayedPair) → AreDelayedAscending pairs → (p q i j : ℕ) → IsNumberOf pairs p q i → IsNumberOf pairs p q j → i ≡ j
number_is_one pairs ascending p q i j one two = elim (cases_lt i j) [
  | inl lt ↦ absurd (not_before_itself (delayed_at pairs i) (delayed_at pairs j).left (delayed_at pairs j).right (one.left ∙ sym two.left) (one.right ∙ sym two.right) (ascending i j lt two.within))
  | inr from ↦ elim (cases_eq i j) [
    | inl e ↦ e
    | inr apart ↦ absurd (not_before_itself (delayed_at pairs j) (delayed_at pairs i).left (delayed_at pairs i).right (two.left ∙ sym one.left) (two.right ∙ sym one.right) (ascending j i (omega arith) one.within))
  ]
]

answer_is_one : (B : Automaton) (pairs : List DelayedPair) → AreDelayedAscending pairs → (bound : Option ℕ) (q a y i j : ℕ) → IsAnswerBy B pairs bound q a y i → IsAnswerBy B pairs bound q a y j → i ≡ j
answer_is_one B pairs ascending bound q a y i j one two =
    let r : ℕ = (delayed_at pairs i).right in
    let s : ℕ = (delayed_at pairs j).right in
    let le : r ≤ s = one.answer.least s two.answer.move two.answer.held in
    let ge : s ≤ r = two.answer.least r one.answer.move one.answer.held in
    let same : s ≡ r = omega arith in
    number_is_one pairs ascending y r i j one.named (subst (λ n. IsNumberOf pairs y n j) same two.named)

-- ---- the answers of the moves with some numbers

abbrev pub AnswersIn : Automaton → Automaton → List DelayedPair → Option ℕ → ℕ → ℕ → ℕ → ℕ → Type 0
AnswersIn A B pairs bound q begin end j = (t : ℕ) × (t < end) × (begin ≤ t) × IsAnswerBy B pairs bound q (trans_at A t).label (trans_at A t).target j

module _ (A B : Automaton) (pairs : List DelayedPair) (bound : Option ℕ) (q begin : ℕ) where
  pub answers_none : (g : Gathered) → ListsMembers g → HasGained (AnswersIn A B pairs bound q begin begin) g g
  answers_none g listed = gained_none (AnswersIn A B pairs bound q begin begin) g listed (λ j (t, lt, from, is). omega (arith, lt, from))

  pub answers_more :
      AreDelayedAscending pairs → (t x : ℕ) (old now new : Gathered) → begin ≤ t → IsAnswerBy B pairs bound q (trans_at A t).label (trans_at A t).target x
      → HasGained (AnswersIn A B pairs bound q begin t) old now → HasGained (λ j. j ≡ x) now new → HasGained (AnswersIn A B pairs bound q begin (t + 1)) old new
  answers_more ascending t x old now new from answer one two = gained_more (AnswersIn A B pairs bound q begin t) (λ j. j ≡ x) (AnswersIn A B pairs bound q begin (t + 1)) old now new one two (λ j. (
    λ (u, lt, low, is). elim (cases_eq u t) [
      | inl e ↦ inr (answer_is_one B pairs ascending bound q (trans_at A t).label (trans_at A t).target j x (subst (λ v. IsAnswerBy B pairs bound q (trans_at A v).label (trans_at A v).target j) e is) answer)
      | inr apart ↦ inl (u, omega (arith, lt, apart), low, is)
    ],
    λ h. elim h [
      | inl (u, lt, low, is) ↦ (u, omega (arith, lt), low, is)
      | inr e ↦ (t, omega arith, from, subst (λ n. IsAnswerBy B pairs bound q (trans_at A t).label (trans_at A t).target n) (sym e) answer)
    ],
  ))

  pub answers_same :
      (t : ℕ) (old now : Gathered) → (IsAnsweredIn B (HoldsBelow (place_pairs pairs) bound) q (trans_at A t).label (trans_at A t).target → ⊥)
      → HasGained (AnswersIn A B pairs bound q begin t) old now → HasGained (AnswersIn A B pairs bound q begin (t + 1)) old now
  answers_same t old now none one = gained_as (AnswersIn A B pairs bound q begin t) (AnswersIn A B pairs bound q begin (t + 1)) old now one (λ j. (
    λ (u, lt, low, is). elim (cases_eq u t) [
      | inl e ↦
          let here = subst (λ v. IsAnswerBy B pairs bound q (trans_at A v).label (trans_at A v).target j) e is in
          absurd (none ((delayed_at pairs j).right, here.answer.move, here.answer.held))
      | inr apart ↦ (u, omega (arith, lt, apart), low, is)
    ],
    λ (u, lt, low, is). (u, omega (arith, lt), low, is),
  ))

-- Those of the moves of a pair.
pub answers_all :
    (A B : Automaton) (pairs : List DelayedPair) (i begin end : ℕ) → IsOutgoing A (delayed_at pairs i).left begin end → (old now : Gathered)
    → HasGained (AnswersIn A B pairs (bound_of (delayed_at pairs i).rank) (delayed_at pairs i).right begin end) old now → HasGained (LeadsOn A B pairs i) old now
answers_all A B pairs i begin end range old now gained =
    let x = delayed_at pairs i in
    gained_as (AnswersIn A B pairs (bound_of x.rank) x.right begin end) (LeadsOn A B pairs i) old now gained (λ j. (
      λ (a, y, move, by).
          let (t, from, below, is) = moves_in_outgoing A x.left begin end range a y move in
          (t, below, from, subst (λ (u : Trans). IsAnswerBy B pairs (bound_of x.rank) x.right u.label u.target j) (sym is) by),
      λ (t, below, from, by). ((trans_at A t).label, (trans_at A t).target, outgoing_moves A x.left begin end range t from below, by),
    ))

-- ---- from the pair of the initial states

pub initial_none : (A B : Automaton) (pairs : List DelayedPair) (n : ℕ) (g : Gathered) → HoldsJust n (λ q. ⊥) g → (HoldsPlacePair (place_pairs pairs) A.initial B.initial → ⊥) → HoldsJust n (IsNumberOf pairs A.initial B.initial) g
initial_none A B pairs n g h none = record {
  listed = h.listed;
  size = h.size;
  members = λ j. (λ there. absurd ((h.members j).0 there), λ is. absurd (none (number_holds pairs j A.initial B.initial is)));
}

pub initial_one :
    (A B : Automaton) (pairs : List DelayedPair) → AreDelayedAscending pairs → (n at : ℕ) (old new : Gathered) → HoldsJust n (λ q. ⊥) old → IsNumberOf pairs A.initial B.initial at
    → HasGained (λ j. j ≡ at) old new → HoldsJust n (IsNumberOf pairs A.initial B.initial) new
initial_one A B pairs ascending n at old new h is gained = held_and (λ q. ⊥) (λ j. j ≡ at) (IsNumberOf pairs A.initial B.initial) n old new h gained (λ j. (
  λ there. inr (number_is_one pairs ascending A.initial B.initial j at there is),
  λ either. elim either [ inl none ↦ absurd none | inr e ↦ subst (λ k. IsNumberOf pairs A.initial B.initial k) (sym e) is ],
))

pub initial_and_on :
    (A B : Automaton) (pairs : List DelayedPair) (n : ℕ) (old new : Gathered) → HoldsJust n (IsNumberOf pairs A.initial B.initial) old → HasGained (IsLedTo A B pairs old.set.members) old new → HoldsJust n (IsReachedNumber A B pairs) new
initial_and_on A B pairs n old new h gained = held_and (IsNumberOf pairs A.initial B.initial) (IsLedTo A B pairs old.set.members) (IsReachedNumber A B pairs) n old new h gained (λ j. (
  λ (i, is, way). inr (i, (h.members i).1 is, way),
  λ either. elim either [
    | inl is ↦ (j, is, close_refl (LeadsOn A B pairs) j)
    | inr (i, there, way) ↦ (i, (h.members i).0 there, way)
  ],
))

-- ---- the pairs with some numbers

-- Of the pairs with numbers below n the part has just those whose number is so, ascending.
pub record IsPartUpto (so : ℕ → Type 0) (pairs : List DelayedPair) (n : ℕ) (part : List DelayedPair) : Type 0 where
  pub in_order : AreDelayedAscending part
  pub each : (x : DelayedPair) → Contains part x → (j : ℕ) × (j < n) × (delayed_at pairs j ≡ x) × so j
  pub all : (j : ℕ) → j < n → so j → Contains part (delayed_at pairs j)

pub part_none : (so : ℕ → Type 0) (pairs part : List DelayedPair) → part ≡ [] → IsPartUpto so pairs 0 part
part_none so pairs part is = record {
  in_order = λ i j lt within. absurd (omega (arith, within, ap length is));
  each = λ x there. absurd (none_in_nil x (subst (λ l. Contains l x) is there));
  all = λ j lt has. absurd (omega (arith, lt));
}

pub part_more : (so : ℕ → Type 0) (pairs : List DelayedPair) → AreDelayedAscending pairs → (n : ℕ) (part : List DelayedPair) → n < length pairs → so n → IsPartUpto so pairs n part → IsPartUpto so pairs (n + 1) (part ++ delayed_at pairs n ∷ [])
part_more so pairs ascending n part within has is = record {
  in_order = push_ascends part here is.in_order (λ y there.
      let (j, lt, e, so_j) = is.each y there in
      subst (λ (z : DelayedPair). StandsBefore z here.left here.right) e (ascending j n lt within));
  each = λ x there. elim (Contains-push_cases part here x there) [
    | inl old ↦ let (j, lt, e, so_j) = is.each x old in (j, omega (arith, lt), e, so_j)
    | inr e ↦ (n, omega arith, e, has)
  ];
  all = λ j lt so_j. elim (cases_eq j n) [
    | inl e ↦ subst (λ k. Contains (part ++ here ∷ []) (delayed_at pairs k)) (sym e) (Contains-push part here)
    | inr apart ↦ Contains-append_left part (here ∷ []) (delayed_at pairs j) (is.all j (omega (arith, lt, apart)) so_j)
  ];
}
  where
    here : DelayedPair
    here = delayed_at pairs n

pub part_same : (so : ℕ → Type 0) (pairs : List DelayedPair) (n : ℕ) (part : List DelayedPair) → (so n → ⊥) → IsPartUpto so pairs n part → IsPartUpto so pairs (n + 1) part
part_same so pairs n part not is = record {
  in_order = is.in_order;
  each = λ x there. let (j, lt, e, so_j) = is.each x there in (j, omega (arith, lt), e, so_j);
  all = λ j lt so_j. elim (cases_eq j n) [
    | inl e ↦ absurd (not (subst so e so_j))
    | inr apart ↦ is.all j (omega (arith, lt, apart)) so_j
  ];
}

pub part_whole : (so : ℕ → Type 0) (pairs : List DelayedPair) (n : ℕ) (part : List DelayedPair) → n ≡ length pairs → IsPartUpto so pairs n part → IsPartBy so pairs part
part_whole so pairs n part e is = record {
  in_order = is.in_order;
  members = λ x. (
    λ there. let (j, lt, same, so_j) = is.each x there in (j, omega (arith, lt, e), same, so_j),
    λ (j, lt, same, so_j). subst (λ z. Contains part z) same (is.all j (omega (arith, lt, e)) so_j),
  );
}

pub part_as : (P Q : ℕ → Type 0) (pairs part : List DelayedPair) → ((j : ℕ) → P j ↔ Q j) → IsPartBy P pairs part → IsPartBy Q pairs part
part_as P Q pairs part same is = record {
  in_order = is.in_order;
  members = λ x. (
    λ there. let (j, lt, e, here) = (is.members x).0 there in (j, lt, e, (same j).0 here),
    λ (j, lt, e, here). (is.members x).1 (j, lt, e, (same j).1 here),
  );
}

-- ---- an answer makes a first one

-- The first number below n that is so, or that none is.
first_number : (P : ℕ → Type 0) → ((i : ℕ) → P i ⊎ (P i → ⊥)) → (n : ℕ) → ((i : ℕ) × (i < n) × P i × ((j : ℕ) → j < i → P j → ⊥)) ⊎ ((i : ℕ) → i < n → P i → ⊥)
first_number P decide zero = inr (λ i lt is. omega arith)
first_number P decide (suc n) = elim (first_number P decide n) [
  | inl (i, lt, is, none) ↦ inl (i, omega (arith, lt), is, none)
  | inr none ↦ elim (decide n) [
    | inl is ↦ inl (n, omega arith, is, none)
    | inr not ↦ inr (λ i lt is. elim (cases_eq i n) [ inl e ↦ not (subst P e is) | inr apart ↦ none i (omega arith) is ])
  ]
]

decide_below : (rank bound : Option ℕ) → IsRankBelow rank bound ⊎ (IsRankBelow rank bound → ⊥)
decide_below rank None = inl tt
decide_below None (Some r) = inr (λ h. h)
decide_below (Some s) (Some r) = elim (cases_lt s r) [ inl lt ↦ inl lt | inr ge ↦ inr (λ lt. omega arith) ]

-- The pair with this number is of p and q, with a rank below the bound.
abbrev IsSuchPair : List DelayedPair → Option ℕ → ℕ → ℕ → ℕ → Type 0
IsSuchPair pairs bound p q i = ((delayed_at pairs i).left ≡ p) × ((delayed_at pairs i).right ≡ q) × IsRankBelow (delayed_at pairs i).rank bound

decide_such : (pairs : List DelayedPair) (bound : Option ℕ) (p q i : ℕ) → IsSuchPair pairs bound p q i ⊎ (IsSuchPair pairs bound p q i → ⊥)
decide_such pairs bound p q i = elim (cases_eq (delayed_at pairs i).left p) [
  | inr other ↦ inr (λ h. other h.0)
  | inl left ↦ elim (cases_eq (delayed_at pairs i).right q) [
    | inr other ↦ inr (λ h. other h.1)
    | inl right ↦ elim (decide_below (delayed_at pairs i).rank bound) [
      | inl below ↦ inl (left, right, below)
      | inr not ↦ inr (λ h. not h.2)
    ]
  ]
]

such_at : (pairs : List DelayedPair) (bound : Option ℕ) (p q : ℕ) → HoldsBelow (place_pairs pairs) bound p q → (i : ℕ) × (i < length pairs) × IsSuchPair pairs bound p q i
such_at pairs bound p q (o, there, below) =
    let (i, within, is) = place_has pairs (delayed_pair p q o) (pair_from pairs p q o there) in
    (i, within, subst (λ (x : DelayedPair). (x.left ≡ p) × (x.right ≡ q) × IsRankBelow x.rank bound) (sym is) (refl, refl, below))

such_holds : (pairs : List DelayedPair) (bound : Option ℕ) (p q i : ℕ) → i < length pairs → IsSuchPair pairs bound p q i → HoldsBelow (place_pairs pairs) bound p q
such_holds pairs bound p q i within (left, right, below) =
    let x = delayed_at pairs i in
    (x.rank, subst (λ s. Contains (place_pairs pairs) (p, s, x.rank)) right (subst (λ r. Contains (place_pairs pairs) (r, x.right, x.rank)) left (pair_stands pairs x (at_place pairs i within))), below)

decide_holds : (pairs : List DelayedPair) (bound : Option ℕ) (p q : ℕ) → HoldsBelow (place_pairs pairs) bound p q ⊎ (HoldsBelow (place_pairs pairs) bound p q → ⊥)
decide_holds pairs bound p q = elim (first_number (IsSuchPair pairs bound p q) (decide_such pairs bound p q) (length pairs)) [
  | inl (i, within, is, none) ↦ inl (such_holds pairs bound p q i within is)
  | inr none ↦ inr (λ held. let (i, within, is) = such_at pairs bound p q held in none i within is)
]

module _ (B : Automaton) (valid : IsAutomaton B) (pairs : List DelayedPair) (bound : Option ℕ) (q a y : ℕ) where
  -- The transition with this number answers.
  abbrev DoesAnswer : ℕ → Type 0
  DoesAnswer t = (((trans_at B t).source ≡ q) × ((trans_at B t).label ≡ a)) × HoldsBelow (place_pairs pairs) bound y (trans_at B t).target

  decide_answer : (t : ℕ) → DoesAnswer t ⊎ (DoesAnswer t → ⊥)
  decide_answer t = elim (cases_eq (trans_at B t).source q) [
    | inr other ↦ inr (λ h. other h.0.0)
    | inl source ↦ elim (cases_eq (trans_at B t).label a) [
      | inr other ↦ inr (λ h. other h.0.1)
      | inl label ↦ elim (decide_holds pairs bound y (trans_at B t).target) [
        | inl held ↦ inl ((source, label), held)
        | inr not ↦ inr (λ h. not h.1)
      ]
    ]
  ]

  first_there : IsAnsweredIn B (HoldsBelow (place_pairs pairs) bound) q a y → (r : ℕ) × IsFirstAnswer B (place_pairs pairs) bound q a y r
  first_there (s, move, held) = elim (first_number DoesAnswer decide_answer (length B.transitions)) [
    | inl (u, within, is, none) ↦ ((trans_at B u).target, least_of_first B valid q a (place_pairs pairs) bound y u within is.0 is.1 (λ v lt there holds. none v lt (there, holds)))
    | inr none ↦
        let (t, t_in, is) = number_of B q a s move in
        absurd (none t t_in ((ap (λ (x : Trans). x.source) is, ap (λ (x : Trans). x.label) is), subst (λ (x : Trans). HoldsBelow (place_pairs pairs) bound y x.target) (sym is) held))
  ]

-- ---- what is reached is a delayed simulation

module _ (A B : Automaton) (pairs part : List DelayedPair) (valid : IsAutomaton B) (ascending : AreDelayedAscending pairs) (is : IsDelayedSimulation A B (place_pairs pairs)) (reached : IsReachedPart A B pairs part) where
  -- Each move of a pair of the part has an answer in the part.
  answered_in_part : (j : ℕ) → j < length pairs → IsReachedNumber A B pairs j → AnswersAll A B (HoldsBelow (place_pairs part) (bound_of (delayed_at pairs j).rank)) (delayed_at pairs j).left (delayed_at pairs j).right
  answered_in_part j j_in (i, starts, way) a y move =
      let x = delayed_at pairs j in
      let bound = bound_of x.rank in
      let kept = right_keeps A B pairs ascending is.right x (at_place pairs j j_in) in
      let (r, first) = first_there B valid pairs bound x.right a y (kept_answered A B (place_pairs pairs) x kept a y move) in
      let (k, k_in, such) = such_at pairs bound y r first.held in
      let (left, right, below) = such in
      let z = delayed_at pairs k in
      let by = answer_by B pairs bound x.right a y r k (record { within = k_in; left = left; right = right }) first in
      let on = close_trans (LeadsOn A B pairs) i j k way (close_one (LeadsOn A B pairs) j k (a, y, move, by)) in
      let there : Contains part z = (reached.members z).1 (k, k_in, refl, (i, starts, on)) in
      let stands : Contains (place_pairs part) (y, r, z.rank) =
      subst (λ s. Contains (place_pairs part) (y, s, z.rank)) right (subst (λ p. Contains (place_pairs part) (p, z.right, z.rank)) left (pair_stands part z there)) in
      (r, first.move, (z.rank, stands, below))

  part_keeps : (x : DelayedPair) → Contains part x → KeepsAnswers A B (place_pairs part) x
  part_keeps x there =
      let (j, j_in, e, number) = (reached.members x).0 there in
      let kept = right_keeps A B pairs ascending is.right (delayed_at pairs j) (at_place pairs j j_in) in
      subst (λ (z : DelayedPair). KeepsAnswers A B (place_pairs part) z) e (answers_kept A B (place_pairs part) (delayed_at pairs j) kept.rank (answered_in_part j j_in number))

  part_starts : HoldsPlacePair (place_pairs part) A.initial B.initial
  part_starts =
      let (i, within, left, right) = held_at pairs A.initial B.initial is.starts in
      let x = delayed_at pairs i in
      let there : Contains part x = (reached.members x).1 (i, within, refl, (i, record { within = within; left = left; right = right }, close_refl (LeadsOn A B pairs) i)) in
      (x.rank, subst (λ s. Contains (place_pairs part) (A.initial, s, x.rank)) right (subst (λ p. Contains (place_pairs part) (p, x.right, x.rank)) left (pair_stands part x there)))

  part_is : IsDelayedSimulation A B (place_pairs part)
  part_is = record { starts = part_starts; right = right_by_numbers A B part (λ i lt. part_keeps (delayed_at part i) (at_place part i lt)) }

pub reached_part_is : ReachedPartIsSimulation
reached_part_is A B pairs part valid ascending is reached = part_is A B pairs part valid ascending is reached
