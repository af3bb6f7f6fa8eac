-- What the pairs, their arcs and the numbers of their components come to.
use Rattle.std.proofs.Common.{◌∷◌, ◌↔◌, Bool, ◌≡◌, ℕ, zero, suc, ◌+◌, ◌^◌, ◌<◌, ◌≤◌, ◌⊎◌, true, false, inl, inr, List, [], length, Contains, refl, sym, ap, ◌∙◌, subst, arith, Vec, Global}
use Rattle.std.proofs.lemmas.Bool.{cases_eq, cases_Bool, false≢true}
use Rattle.auto_core.specs.Automaton.{Automaton, IsAutomaton, IsAccepting, Moves, is_accepting, trans_at}
use Rattle.auto_core.specs.declared.parts.Trans.{Trans}
use Rattle.auto_core.specs.Game.{Chain, Close}
use Rattle.auto_core.proofs.PathLemmas.{accepting_from_test}
use Rattle.auto_core.proofs.MoveLemmas.{move_at, number_of}
use Rattle.product_laws.specs.declared.RankedPair.{RankedPair}
use Rattle.product_laws.specs.Ranked.{IsDeterministic, IsRankedProduct, HasRank, HasPair, RankGoesOn}
use Rattle.product_laws.specs.Reached.{GoesTo, Goes, IsReachedPair, MovesReachGoals}
use Rattle.auto_core.specs.Run.{Run}
use Rattle.product_laws.specs.ClosedPairs.{AreClosedPairs}
use Rattle.product_laws.proofs.ClosedLemmas.{closed_pairs_are_product}
use Rattle.strong_components.specs.Graph.{at, IsArcOf, HasArc, IsGraph, AreComponents}
use Rattle.product_search.specs.declared.found.Step.{Step}
use Rattle.product_search.specs.declared.cycles.BadMove.{BadMove}
use Rattle.product_search.specs.Found.{pair_at, Follows, AreFound, IsClosedAt}
use Rattle.product_search.specs.Arcs.{ArePairs, AreArcs, HasNoBadArc, IsBadMove, QuietStep, RanksFall}
use Rattle.product_search.specs.Ranks.{with_rank}
use Rattle.product_search.specs.Decision.{AreMoreReached}
use Rattle.product_search.specs.declared.deciding.Product.{Product}
use Rattle.product_search.specs.declared.deciding.Product.TheVariants.{Included, Apart, Limit}
use Rattle.product_laws.specs.Ascending.{AreAscending}
use Rattle.product_search.proofs.FoundLemmas.{place_of, one_place, goes_once}
use Rattle.product_search.proofs.WordLemmas.{each_reached}

pub quiet_is_step : (A B : Automaton) (x y : ℕ × ℕ) (a : ℕ) → Follows A B true x a y → Follows A B false x a y
quiet_is_step A B x y a (move, goes, calm) = (move, goes, λ e. absurd (false≢true e))

pub are_pairs : (A B : Automaton) (pairs : List (ℕ × ℕ)) (steps : List Step) → AreFound A B false pairs steps → length pairs < 2 ^ 32 → ((i : ℕ) → i < length pairs → IsClosedAt A B false pairs i) → ArePairs A B pairs
are_pairs A B pairs steps found few closed = record {
  few = few;
  left = found.left;
  right = found.right;
  closed = λ i lt a y follows. closed i lt a y (quiet_is_step A B (pair_at pairs i) y a follows);
}

module _ (A B : Automaton) (pairs : List (ℕ × ℕ)) (starts targets letters : List ℕ) (arcs : AreArcs A B pairs (length pairs) starts targets letters) where
  pub is_graph : length pairs + 1 < 2 ^ 32 → IsGraph starts targets (length pairs)
  is_graph few = record {
    size = arcs.size;
    few = few;
    rising = arcs.rising;
    within = arcs.within;
    to_nodes = arcs.to_pairs;
  }

  arc_below : (v k : ℕ) → v < length pairs → IsArcOf starts v k → k < length targets
  arc_below v k lt (low, high) = let most = arcs.within v lt in omega arith

  arc_is_step : (v w : ℕ) → v < length pairs → HasArc starts targets v w → QuietStep A B pairs v w × (w < length pairs)
  arc_is_step v w lt (k, arc, is) = (
    (at letters k, subst (λ m. Follows A B true (pair_at pairs v) (at letters k) (pair_at pairs m)) is (arcs.sound v k lt arc)),
    subst (λ m. m < length pairs) is (arcs.to_pairs k (arc_below v k lt arc)),
  )

  chain_of_steps : (n v w : ℕ) → v < length pairs → Chain (HasArc starts targets) n v w → Chain (QuietStep A B pairs) n v w
  chain_of_steps zero v w lt is = is
  chain_of_steps (suc n) v w lt (r, arc, rest) =
      let one = arc_is_step v r lt arc in
      (r, one.0, chain_of_steps n r w one.1 rest)

  module _ (numbers : List ℕ) (components : AreComponents starts targets (length pairs) numbers) where
    -- What the lasso of a bad move takes.
    pub bad_step : (move : BadMove) → IsBadMove A pairs starts targets letters numbers move
        → (move.to < length pairs) × Follows A B true (pair_at pairs move.from) move.letter (pair_at pairs move.to) × Close (QuietStep A B pairs) move.to move.from × IsAccepting A (pair_at pairs move.to).0
    bad_step move (below, (k, arc, is_to, is_letter, (equal, accepts))) =
        let to_in : at targets k < length pairs = arcs.to_pairs k (arc_below move.from k below arc) in
        let back = components.joined move.from (at targets k) below (k, arc, refl) equal in
        let steps : Close (QuietStep A B pairs) (at targets k) move.from = (back.0, chain_of_steps back.0 (at targets k) move.from to_in back.1) in (
          subst (λ m. m < length pairs) is_to to_in,
          subst (λ m. Follows A B true (pair_at pairs move.from) move.letter (pair_at pairs m)) is_to
              (subst (λ a. Follows A B true (pair_at pairs move.from) a (pair_at pairs (at targets k))) is_letter (arcs.sound move.from k below arc)),
          subst (λ m. Close (QuietStep A B pairs) m move.from) is_to steps,
          subst (λ m. IsAccepting A (pair_at pairs m).0) is_to accepts,
        )

    -- Without bad moves the numbers are ranks.
    pub numbers_fall : ((v : ℕ) → v < length pairs → HasNoBadArc A pairs starts targets numbers v) → RanksFall A pairs starts targets numbers
    numbers_fall none v k below arc =
        let fall : at numbers (at targets k) ≤ at numbers v = components.fall v (at targets k) below (k, arc, refl) in (
          fall,
          λ accepts. elim (cases_eq (at numbers (at targets k)) (at numbers v)) [
            | inl equal ↦ absurd (none v below k arc (equal, accepts))
            | inr apart ↦ omega arith
          ],
        )

-- Where B goes can be told.
abbrev Leaves : Automaton → ℕ → ℕ → ℕ → Type 0
Leaves B q a k = ((trans_at B k).source ≡ q) × ((trans_at B k).label ≡ a)

leaves_or_not : (B : Automaton) (q a n : ℕ) → ((k : ℕ) × (k < n) × Leaves B q a k) ⊎ ((k : ℕ) → k < n → Leaves B q a k → ⊥)
leaves_or_not B q a zero = inr (λ k lt leaves. absurd (omega (arith, lt)))
leaves_or_not B q a (suc n) = elim (leaves_or_not B q a n) [
  | inl (k, lt, leaves) ↦ inl (k, omega (arith, lt), leaves)
  | inr none ↦ elim (cases_eq (trans_at B n).source q) [
    | inl source ↦ elim (cases_eq (trans_at B n).label a) [
      | inl label ↦ inl (n, omega arith, (source, label))
      | inr apart ↦ inr (λ k lt leaves. elim (cases_eq k n) [
        | inl e ↦ apart (ap (λ m. (trans_at B m).label) (sym e) ∙ leaves.1)
        | inr before ↦ none k (omega (arith, lt, before)) leaves
      ])
    ]
    | inr apart ↦ inr (λ k lt leaves. elim (cases_eq k n) [
      | inl e ↦ apart (ap (λ m. (trans_at B m).source) (sym e) ∙ leaves.0)
      | inr before ↦ none k (omega (arith, lt, before)) leaves
    ])
  ]
]

goes_somewhere : (B : Automaton) (q a : ℕ) → (s : ℕ) × GoesTo B q a s
goes_somewhere B q a = elim (leaves_or_not B q a (length B.transitions)) [
  | inl (k, lt, (source, label)) ↦ (
    (trans_at B k).target,
    inl (subst (λ p. Moves B p a (trans_at B k).target) source (subst (λ b. Moves B (trans_at B k).source b (trans_at B k).target) label (move_at B k lt))),
  )
  | inr none ↦ (
    B.states,
    inr (
      refl,
      λ t move.
          let (k, lt, is) = number_of B q a t move in
          none k lt (ap (λ (u : Trans). u.source) is, ap (λ (u : Trans). u.label) is),
    ),
  )
]

-- The pairs with ranks are closed.
module _ (A B : Automaton) (pairs : List (ℕ × ℕ)) (steps : List Step) (starts targets letters ranks : List ℕ) (found : AreFound A B false pairs steps) (initial : pair_at pairs 0 ≡ (A.initial, B.initial))
    (closed : (i : ℕ) → i < length pairs → IsClosedAt A B false pairs i) (arcs : AreArcs A B pairs (length pairs) starts targets letters) (fall : RanksFall A pairs starts targets ranks)
    (ranked : List RankedPair) (all : (i : ℕ) → i < length pairs → Contains ranked (with_rank pairs ranks i))
    (only : (x : RankedPair) → Contains ranked x → (i : ℕ) × (i < length pairs) × (x ≡ with_rank pairs ranks i)) where
  has_pair : (i : ℕ) → i < length pairs → (p q : ℕ) → pair_at pairs i ≡ (p, q) → HasPair ranked p q
  has_pair i lt p q is =
      (at ranks i, subst (λ (y : ℕ × ℕ). Contains ranked (record { left = y.0; right = y.1; rank = at ranks i })) is (all i lt))

  moves_at : (i : ℕ) → i < length pairs → (a r : ℕ) → Moves A (pair_at pairs i).0 a r → (s : ℕ) × GoesTo B (pair_at pairs i).1 a s × HasPair ranked r s
  moves_at i lt a r move =
      let (s, goes) = goes_somewhere B (pair_at pairs i).1 a in
      let (j, below, is) = place_of pairs (r, s) (closed i lt a (r, s) (move, goes, λ e. absurd (false≢true e))) in
      (s, goes, has_pair j below r s is)

  rank_at : (i : ℕ) → i < length pairs → (a r s rank : ℕ) → Moves A (pair_at pairs i).0 a r → GoesTo B (pair_at pairs i).1 a s → HasRank ranked r s rank → RankGoesOn A B (at ranks i) r s rank
  rank_at i lt a r s rank move goes there = elim (cases_Bool (is_accepting B s)) [
    | inl on ↦ inl (accepting_from_test B s on)
    | inr off ↦
        let (k, arc, is) = arcs.full i a (r, s) lt (move, goes, λ e. off) in
        let (j, below, made) = only (record { left = r; right = s; rank = rank }) there in
        let low : at starts i ≤ k = arc.0 in
        let high : k < at starts (i + 1) = arc.1 in
        let most = arcs.within i lt in
        let to_in : at targets k < length pairs = arcs.to_pairs k (omega arith) in
        let pair_j : (r, s) ≡ pair_at pairs j = ap (λ (x : RankedPair). (x.left, x.right)) made in
        let here : at targets k ≡ j = one_place pairs found.different (at targets k) j to_in below (is ∙ pair_j) in
        let rank_is : at ranks (at targets k) ≡ rank = ap (at ranks) here ∙ sym (ap (λ (x : RankedPair). x.rank) made) in
        let falls = fall i k lt arc in
        let keeps : at ranks (at targets k) ≤ at ranks i = falls.0 in
        inr (
          omega arith,
          λ accepts.
              let less : at ranks (at targets k) < at ranks i = falls.1 (subst (λ (y : ℕ × ℕ). IsAccepting A y.0) (sym is) accepts) in
              omega arith,
        )
  ]

  pub are_closed : AreClosedPairs A B ranked
  are_closed = record {
    starts = has_pair 0 found.some A.initial B.initial initial;
    left = λ x there. let (i, lt, is) = only x there in subst (λ (y : RankedPair). y.left < A.states) (sym is) (found.left i lt);
    right = λ x there. let (i, lt, is) = only x there in subst (λ (y : RankedPair). y.right ≤ B.states) (sym is) (found.right i lt);
    reached = λ x there. let (i, lt, is) = only x there in subst (λ (y : RankedPair). IsReachedPair A B y.left y.right) (sym is) (each_reached A B pairs steps found initial (suc i) i (omega arith) lt);
    moves = λ x there.
        let (i, lt, is) = only x there in
        subst (λ (y : RankedPair). (a r : ℕ) → Moves A y.left a r → (s : ℕ) × GoesTo B y.right a s × HasPair ranked r s) (sym is) (moves_at i lt);
    ranks = λ x there.
        let (i, lt, is) = only x there in
        subst (λ (y : RankedPair). (a r s rank : ℕ) → Moves A y.left a r → GoesTo B y.right a s → HasRank ranked r s rank → RankGoesOn A B y.rank r s rank) (sym is) (rank_at i lt);
  }

  -- Both go on from a pair to a pair.
  both_stay : IsDeterministic B → (w : List ℕ) (p q r s : ℕ) (left right : Bool) → HasPair ranked p q → Run A p w r left → Goes B q w s right → HasPair ranked r s
  both_stay det [] p q r s left right there (is, plain) (same, none) = subst (λ n. HasPair ranked n s) is (subst (λ n. HasPair ranked p n) same there)
  both_stay det (a ∷ w) p q r s left right there (next, later, move, rest, is) (to, more, goes, going, same) =
      let one = are_closed.moves (record { left = p; right = q; rank = there.0 }) there.1 a next move in
      let here : one.0 ≡ to = goes_once B det q a one.0 to one.1 goes in
      both_stay det w next to r s later more (subst (λ n. HasPair ranked next n) here one.2) rest going

  -- So they are just those that are reached.
  pub just_reached : IsDeterministic B → (p q : ℕ) → HasPair ranked p q ↔ IsReachedPair A B p q
  just_reached det p q = (
    λ (rank, there). are_closed.reached (record { left = p; right = q; rank = rank }) there,
    λ (w, (left, right, run, goes)). both_stay det w A.initial B.initial p q left right are_closed.starts run goes,
  )

  -- So they are a ranked product.
  pub make_product : IsAutomaton B → IsDeterministic B → MovesReachGoals A → IsRankedProduct A B ranked
  make_product valid det goals = closed_pairs_are_product A B ranked valid det goals are_closed

-- The same by the lists that are at hand, which are those.
module _ (A B : Automaton) (pairs : List (ℕ × ℕ)) (n : ℕ) (is_n : n ≡ length pairs) (starts targets letters : List ℕ) (arcs : AreArcs A B pairs n starts targets letters)
    (s t numbers m : List ℕ) (is_s : s ≡ starts) (is_t : t ≡ targets) (is_m : m ≡ numbers) (components : AreComponents s t n numbers) where
  arcs_of_all : AreArcs A B pairs (length pairs) starts targets letters
  arcs_of_all = subst (λ k. AreArcs A B pairs k starts targets letters) is_n arcs

  components_of_all : AreComponents starts targets (length pairs) numbers
  components_of_all = subst (λ k. AreComponents starts targets k numbers) is_n (subst (λ l. AreComponents l targets n numbers) is_s (subst (λ l. AreComponents s l n numbers) is_t components))

  pub bad_step_of : (move : BadMove) → IsBadMove A pairs starts targets letters m move
      → (move.to < length pairs) × Follows A B true (pair_at pairs move.from) move.letter (pair_at pairs move.to) × Close (QuietStep A B pairs) move.to move.from × IsAccepting A (pair_at pairs move.to).0
  bad_step_of move bad = bad_step A B pairs starts targets letters arcs_of_all numbers components_of_all move (subst (λ l. IsBadMove A pairs starts targets letters l move) is_m bad)

  -- A yes.
  pub included_of : (steps : List Step) → AreFound A B false pairs steps → pair_at pairs 0 ≡ (A.initial, B.initial) → ((i : ℕ) → i < length pairs → IsClosedAt A B false pairs i)
      → ((v : ℕ) → v < length pairs → HasNoBadArc A pairs starts targets m v) → IsAutomaton B → IsDeterministic B → MovesReachGoals A
      → (ranks : List ℕ) → ranks ≡ numbers → (ranked : List RankedPair) → ((i : ℕ) → i < length pairs → Contains ranked (with_rank pairs ranks i))
      → ((x : RankedPair) → Contains ranked x → (i : ℕ) × (i < length pairs) × (x ≡ with_rank pairs ranks i)) → AreAscending ranked
      → (answer : Vec RankedPair Global) → ranked ≡ answer.items → IsRankedProduct A B answer.items × AreAscending answer.items
  included_of steps found initial closed none valid det goals ranks is_ranks ranked all only ascending answer is =
      let fall = numbers_fall A B pairs starts targets letters arcs_of_all numbers components_of_all (λ v below. subst (λ l. HasNoBadArc A pairs starts targets l v) is_m (none v below)) in
      let product = make_product A B pairs steps starts targets letters ranks found initial closed arcs_of_all (subst (λ l. RanksFall A pairs starts targets l) (sym is_ranks) fall) ranked all only valid det goals in
      (subst (λ l. IsRankedProduct A B l) is product, subst (λ l. AreAscending l) is ascending)

  pub reached_of : (steps : List Step) → AreFound A B false pairs steps → pair_at pairs 0 ≡ (A.initial, B.initial) → ((i : ℕ) → i < length pairs → IsClosedAt A B false pairs i)
      → ((v : ℕ) → v < length pairs → HasNoBadArc A pairs starts targets m v) → IsDeterministic B
      → (ranks : List ℕ) → ranks ≡ numbers → (ranked : List RankedPair) → ((i : ℕ) → i < length pairs → Contains ranked (with_rank pairs ranks i))
      → ((x : RankedPair) → Contains ranked x → (i : ℕ) × (i < length pairs) × (x ≡ with_rank pairs ranks i))
      → (answer : Vec RankedPair Global) → ranked ≡ answer.items → (p q : ℕ) → HasPair answer.items p q ↔ IsReachedPair A B p q
  reached_of steps found initial closed none det ranks is_ranks ranked all only answer is p q =
      let fall = numbers_fall A B pairs starts targets letters arcs_of_all numbers components_of_all (λ v below. subst (λ l. HasNoBadArc A pairs starts targets l v) is_m (none v below)) in
      subst (λ l. HasPair l p q ↔ IsReachedPair A B p q) is
      (just_reached A B pairs steps starts targets letters ranks found initial closed arcs_of_all (subst (λ l. RanksFall A pairs starts targets l) (sym is_ranks) fall) ranked all only det p q)

-- The pairs of a yes.
abbrev pub pairs_of : Product → List RankedPair
pairs_of (Included pairs) = pairs.items
pairs_of (Apart lasso) = []
pairs_of Limit = []

-- More than the limit.
pub many_reached : (A B : Automaton) (limit : ℕ) (pairs : List (ℕ × ℕ)) (steps : List Step) → AreFound A B false pairs steps → pair_at pairs 0 ≡ (A.initial, B.initial) → limit < length pairs → AreMoreReached A B limit
many_reached A B limit pairs steps found initial many = (pairs, many, found.different, λ i lt. each_reached A B pairs steps found initial (suc i) i (omega arith) lt)
