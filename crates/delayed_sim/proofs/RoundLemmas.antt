-- Triples that go and ranks that are given, pass by pass.
use Rattle.std.proofs.Common.{◌≡◌, ℕ, suc, ◌+◌, ◌-◌, ◌<◌, ◌≤◌, inl, inr, Bool, true, false, Option, None, Some, List, [], ◌∷◌, ◌++◌, length, map, get_or, set, take, drop, Contains, refl, sym, ap, ◌∙◌, subst, arith}
use Rattle.std.specs.List.{remove}
use Rattle.std.specs.Option.{is_some, unwrap_or, option_map}
use Rattle.std.proofs.lemmas.Bool.{cases_eq, cases_lt, cases_order, false≢true}
use Rattle.std.proofs.lemmas.List.{get_or_default, get_or-set_other, length-set, map-append, take-map, drop-map, map-set}
use Rattle.std.proofs.lemmas.List.Edits.{length-remove, get_or-remove_below, get_or-remove_above}
use Rattle.std.proofs.lemmas.List.Quantifiers.{all_pairs_remove}
use Rattle.std.proofs.lemmas.List.Sums.{sum_by-set, sum_by-cons}
use Rattle.std.proofs.lemmas.Grind.{get_or-set_at}
use Rattle.auto_core.specs.Automaton.{Automaton, IsAccepting}
use Rattle.auto_core.specs.Delayed.{RankedTriples, HoldsTriple, HasTriplesOnce, AreTriplesOf}
use Rattle.delayed_sim.specs.declared.entries.Entry.{Entry}
use Rattle.delayed_sim.specs.Stored.{triple_of, entry_triples, no_entry}
use Rattle.delayed_sim.specs.Rankings.{Triple, Ranking, IsRanking, IsTripleBefore, AreTriplesInOrder, triple_at}
use Rattle.delayed_sim.specs.Right.{HasAnswers, IsTripleAnswered}
use Rattle.delayed_sim.specs.Rounds.{without, ranked_as, reranked, HasEachTriple, HasRanksUpto, IsShortened, Thins, IsReranked, HasSameTriples, unranked}
use Rattle.delayed_sim.proofs.EntryLemmas.{entry_triple}

pub no_rank : (r : ℕ) → None ≡ Some r → ⊥
no_rank r e = cc

pub same_rank : (r s : ℕ) → Some r ≡ Some s → r ≡ s
same_rank r s e = cc

lacks_rank : (x t : Triple) (s : ℕ) → x ≡ t → x.3 ≡ None → t.3 ≡ Some s → ⊥
lacks_rank x t s here none is = no_rank s (sym none ∙ ap (λ (y : Triple). y.3) here ∙ is)

pub none_from : (o : Option ℕ) → is_some o ≡ false → o ≡ None
none_from None is = refl
none_from (Some r) is = absurd (false≢true (sym is))

-- some triple, where there is none at a place
abbrev pub no_triple : Triple
no_triple = (0, [], 0, None)

-- ---- a triple goes

remove_from : {X : Type 0} (xs : List X) (i : ℕ) (x : X) → i < length xs → Contains (remove xs i) x → Contains xs x
remove_from xs i x i_in (k, k_in, is) =
    let len = length-remove xs i i_in in
    elim (cases_lt k i) [
      | inl lt ↦ (k, omega arith, sym (get_or-remove_below xs i x k lt i_in) ∙ is)
      | inr from ↦ (k + 1, omega arith, sym (get_or-remove_above xs i x k from i_in) ∙ is)
    ]

remove_has : {X : Type 0} (xs : List X) (i : ℕ) (x : X) → i < length xs → (get_or xs i x ≡ x → ⊥) → Contains xs x → Contains (remove xs i) x
remove_has xs i x i_in other (k, k_in, is) =
    let len = length-remove xs i i_in in
    elim (cases_order k i) [
      | inl e ↦ absurd (other (ap (λ j. get_or xs j x) (sym e) ∙ is))
      | inr (inl lt) ↦ (k, omega arith, get_or-remove_below xs i x k lt i_in ∙ is)
      | inr (inr gt) ↦
          let next : k - 1 + 1 ≡ k = omega arith in
          (k - 1, omega arith, get_or-remove_above xs i x (k - 1) (omega arith) i_in ∙ ap (λ j. get_or xs j x) next ∙ is)
    ]

pub triples_remove : (n : ℕ) (entries : List Entry) (at : ℕ) → entry_triples n (remove entries at) ≡ remove (entry_triples n entries) at
triples_remove n entries at =
    map-append (triple_of n) (take at entries) (drop (suc at) entries)
    ∙ ap (λ xs. xs ++ map (triple_of n) (drop (suc at) entries)) (sym (take-map (triple_of n) at entries))
    ∙ ap (λ ys. take at (entry_triples n entries) ++ ys) (sym (drop-map (triple_of n) (suc at) entries))

pub range_without : (states labels n : ℕ) (T : RankedTriples) (at : ℕ) → at < length T → AreTriplesOf states labels n T → AreTriplesOf states labels n (remove T at)
range_without states labels n T at at_in range b p q (o, h) = range b p q (o, remove_from T at (p, b, q, o) at_in h)

pub order_without : (T : RankedTriples) (at : ℕ) → at < length T → AreTriplesInOrder T → AreTriplesInOrder (remove T at)
order_without T at at_in order = all_pairs_remove IsTripleBefore T at at_in order

pub shortened_none : (R : Ranking) → IsRanking R → IsShortened R R
shortened_none R valid = record {
  states = refl;
  labels = refl;
  letters = refl;
  valid = valid;
  upto = omega arith;
}

pub shortened_then : (R S T : Ranking) → IsShortened R S → IsShortened S T → IsShortened R T
shortened_then R S T h g =
    let first = h.upto in
    let second = g.upto in
    record {
      states = g.states ∙ h.states;
      labels = g.labels ∙ h.labels;
      letters = g.letters ∙ h.letters;
      valid = g.valid;
      upto = omega arith;
    }

pub thins_none : (R : Ranking) → IsRanking R → Thins R R false
thins_none R valid = record {
  shortened = shortened_none R valid;
  some = λ yes. absurd (false≢true yes);
  same = λ no. refl;
}

pub thins_more : (old now : Ranking) (any : Bool) (at : ℕ) → at < length now.triples → Thins old now any → IsRanking (without now at) → Thins old (without now at) true
thins_more old now any at at_in h valid =
    let len = length-remove now.triples at at_in in
    let upto = h.shortened.upto in
    record {
      shortened = record {
        states = h.shortened.states;
        labels = h.shortened.labels;
        letters = h.shortened.letters;
        valid = valid;
        upto = omega arith;
      };
      some = λ yes. omega arith;
      same = λ no. absurd (false≢true (sym no));
    }

-- the triple with these states and this word is another one than that with the number, which is as P asks
stays : (T : RankedTriples) (at : ℕ) (P : Triple → Type 0) (t : Triple) → at < length T → P t → (P (triple_at T at) → ⊥) → Contains T t → Contains (remove T at) t
stays T at P t at_in is other h = remove_has T at t at_in (λ e. other (subst P (sym (get_or_default T at no_triple t at_in ∙ e)) is)) h

module _ (A : Automaton) (n : ℕ) (T : RankedTriples) (at : ℕ) (at_in : at < length T) (each : HasEachTriple A n T) where
  -- a triple whose moves are not answered is in no right list
  pub each_unanswered : (IsTripleAnswered A T None (triple_at T at) → ⊥) → HasEachTriple A n (remove T at)
  each_unanswered other Y range right b p q h =
      let held = each Y range right b p q h in
      let answers : HasAnswers A T None b p q = λ a p' move more c lt e.
      let answer = right.answers b p q more a c p' h lt e move in
      (answer.0, answer.1, each Y range right c p' answer.0 answer.2) in
      (held.0, stays T at (IsTripleAnswered A T None) (p, b, q, held.0) at_in answers other held.1)

  -- a triple that needs a rank and can have none is in no right list
  pub each_unranked : ((r : ℕ) → HasRanksUpto A n r T) → HasTriplesOnce T → IsAccepting A (triple_at T at).0 → (triple_at T at).3 ≡ None → HasEachTriple A n (remove T at)
  each_unranked least once accepting none Y range right b p q h =
      let held = each Y range right b p q h in (
        held.0,
        remove_has T at (p, b, q, held.0) at_in (λ e.
            let here : triple_at T at ≡ (p, b, q, held.0) = get_or_default T at no_triple (p, b, q, held.0) at_in ∙ e in
            let rank = right.ranked b p q h (subst (IsAccepting A) (ap (λ (t : Triple). t.0) here) accepting) in
            let has = least rank.0 Y range right b p q rank.0 rank.1 (omega arith) in
            let same : held.0 ≡ Some has.0 = once b p q held.0 (Some has.0) held.1 has.1 in
            lacks_rank (triple_at T at) (p, b, q, held.0) has.0 here none same) held.1,
      )

-- ranks stay where a triple without one goes
pub ranks_without : (A : Automaton) (n : ℕ) (T : RankedTriples) (at : ℕ) → at < length T → (triple_at T at).3 ≡ None → ((r : ℕ) → HasRanksUpto A n r T) → (r : ℕ) → HasRanksUpto A n r (remove T at)
ranks_without A n T at at_in none least r Y range right b p q s h le =
    let has = least r Y range right b p q s h le in
    let t = has.0 in
    (t, stays T at (λ x. x.3 ≡ Some t) (p, b, q, Some t) at_in refl (λ e. no_rank t (sym none ∙ e)) has.1, has.2)

-- ---- ranks are given

-- U has the triples of T, place by place, with whatever ranks.
abbrev pub AreSamePlaces : RankedTriples → RankedTriples → Type 0
AreSamePlaces T U = (length U ≡ length T) × ((i : ℕ) → i < length T → (rank : Option ℕ) × (triple_at U i ≡ ranked_as (triple_at T i) rank))

module _ (T U : RankedTriples) (same : AreSamePlaces T U) where
  pub same_back : (b : List ℕ) (p q : ℕ) → HoldsTriple U b p q → HoldsTriple T b p q
  same_back b p q (o, (i, i_in, is)) =
      let x = triple_at T i in
      let lt : i < length T = omega (arith, same.0) in
      let (m, e) = same.1 i lt in
      let here : ranked_as x m ≡ (p, b, q, o) = sym e ∙ get_or_default U i no_triple (p, b, q, o) i_in ∙ is in
      let there : x ≡ (p, b, q, x.3) = ap (λ (t : Triple). ranked_as t x.3) here in
      (x.3, (i, lt, get_or_default T i (p, b, q, x.3) no_triple lt ∙ there))

  pub same_forth : (b : List ℕ) (p q : ℕ) → HoldsTriple T b p q → HoldsTriple U b p q
  same_forth b p q (o, (i, i_in, is)) =
      let x = triple_at T i in
      let lt : i < length U = omega (arith, same.0) in
      let (m, e) = same.1 i i_in in
      let here : x ≡ (p, b, q, o) = get_or_default T i no_triple (p, b, q, o) i_in ∙ is in
      (m, (i, lt, get_or_default U i (p, b, q, m) no_triple lt ∙ e ∙ ap (λ (t : Triple). ranked_as t m) here))

  same_range : (states labels n : ℕ) → AreTriplesOf states labels n T → AreTriplesOf states labels n U
  same_range states labels n range b p q h = range b p q (same_back b p q h)

  same_order : AreTriplesInOrder T → AreTriplesInOrder U
  same_order order i j d lt j_in =
      let j_there : j < length T = omega (arith, same.0) in
      let i_in : i < length U = omega arith in
      let first = same.1 i (omega arith) in
      let second = same.1 j j_there in
      let before : IsTripleBefore (ranked_as (triple_at T i) first.0) (ranked_as (triple_at T j) second.0) = order i j no_triple lt j_there in
      subst (λ x. IsTripleBefore x (get_or U j d)) (sym (get_or_default U i d no_triple i_in ∙ first.1))
      (subst (λ y. IsTripleBefore (ranked_as (triple_at T i) first.0) y) (sym (get_or_default U j d no_triple j_in ∙ second.1)) before)

-- one triple gets another rank
set_places : (T : RankedTriples) (at : ℕ) (o : Option ℕ) → at < length T → AreSamePlaces T (set T at (ranked_as (triple_at T at) o))
set_places T at o at_in = (
  length-set T at (ranked_as (triple_at T at) o),
  λ i lt. elim (cases_eq i at) [
    | inl e ↦ (o, get_or-set_at T at i (ranked_as (triple_at T at) o) no_triple e at_in ∙ ap (λ k. ranked_as (triple_at T k) o) (sym e))
    | inr apart ↦ ((triple_at T i).3, get_or-set_other T at i (ranked_as (triple_at T at) o) no_triple apart)
  ],
)

pub range_set : (states labels n : ℕ) (T : RankedTriples) (at : ℕ) (o : Option ℕ) → at < length T → AreTriplesOf states labels n T → AreTriplesOf states labels n (set T at (ranked_as (triple_at T at) o))
range_set states labels n T at o at_in range = same_range T (set T at (ranked_as (triple_at T at) o)) (set_places T at o at_in) states labels n range

pub order_set : (T : RankedTriples) (at : ℕ) (o : Option ℕ) → at < length T → AreTriplesInOrder T → AreTriplesInOrder (set T at (ranked_as (triple_at T at) o))
order_set T at o at_in order = same_order T (set T at (ranked_as (triple_at T at) o)) (set_places T at o at_in) order

pub triples_set : (n : ℕ) (entries : List Entry) (at : ℕ) (e : Entry) (o : Option ℕ) → at < length entries → triple_of n e ≡ ranked_as (triple_of n (get_or entries at no_entry)) o → entry_triples n (set entries at e) ≡ set (entry_triples n entries) at (ranked_as (triple_at (entry_triples n entries) at) o)
triples_set n entries at e o at_in is =
    map-set (triple_of n) entries at e
    ∙ ap (λ t. set (entry_triples n entries) at t) (is ∙ ap (λ (t : Triple). ranked_as t o) (sym (entry_triple n entries at no_triple at_in)))

module _ (S : Triple → Option ℕ → Type 0) (old : Ranking) where
  pub rerank_none : IsRanking old → IsReranked S 0 old old
  rerank_none valid = record {
    states = refl;
    labels = refl;
    letters = refl;
    valid = valid;
    len = refl;
    done = λ i lt i_in. absurd (omega arith);
    rest = λ i from i_in. refl;
  }

  pub rerank_more : (now : Ranking) (at : ℕ) (o : Option ℕ) → at < length old.triples → IsReranked S at old now → S (triple_at old.triples at) o → IsRanking (reranked now at o) → IsReranked S (at + 1) old (reranked now at o)
  rerank_more now at o at_in h is valid =
      let len = h.len in
      let u = ranked_as (triple_at now.triples at) o in
      record {
        states = h.states;
        labels = h.labels;
        letters = h.letters;
        valid = valid;
        len = length-set now.triples at u ∙ len;
        done = λ i lt i_in. elim (cases_eq i at) [
          | inl e ↦ (
            o,
            subst (λ k. S (triple_at old.triples k) o) (sym e) is,
            get_or-set_at now.triples at i u no_triple e (omega arith) ∙ ap (λ (t : Triple). ranked_as t o) (h.rest at (omega arith) at_in) ∙ ap (λ k. ranked_as (triple_at old.triples k) o) (sym e),
          )
          | inr apart ↦
              let was = h.done i (omega arith) i_in in
              (was.0, was.1, get_or-set_other now.triples at i u no_triple apart ∙ was.2)
        ];
        rest = λ i from i_in. get_or-set_other now.triples at i u no_triple (λ e. omega arith) ∙ h.rest i (omega arith) i_in;
      }

  pub rerank_skip : (now : Ranking) (at : ℕ) → at < length old.triples → IsReranked S at old now → S (triple_at old.triples at) (triple_at old.triples at).3 → IsReranked S (at + 1) old now
  rerank_skip now at at_in h is = record {
    states = h.states;
    labels = h.labels;
    letters = h.letters;
    valid = h.valid;
    len = h.len;
    done = λ i lt i_in. elim (cases_eq i at) [
      | inl e ↦ (
        (triple_at old.triples i).3,
        subst (λ k. S (triple_at old.triples k) (triple_at old.triples k).3) (sym e) is,
        h.rest i (omega arith) i_in,
      )
      | inr apart ↦ h.done i (omega arith) i_in
    ];
    rest = λ i from i_in. h.rest i (omega arith) i_in;
  }

  pub reranked_same : (now : Ranking) → IsReranked S (length old.triples) old now → HasSameTriples old now
  reranked_same now h =
      let same : AreSamePlaces old.triples now.triples = (h.len, λ i lt. let was = h.done i lt lt in (was.0, was.2)) in
      record {
        states = h.states;
        labels = h.labels;
        letters = h.letters;
        valid = h.valid;
        len = h.len;
        forth = same_forth old.triples now.triples same;
        back = same_back old.triples now.triples same;
      }

-- the number of triples without a rank falls
pub unranked_falls : (T : RankedTriples) (at r : ℕ) → at < length T → (triple_at T at).3 ≡ None → unranked (set T at (ranked_as (triple_at T at) (Some r))) < unranked T
unranked_falls T at r at_in none =
    let sums = sum_by-set weight T at (ranked_as (triple_at T at) (Some r)) no_triple at_in in
    let one : weight (triple_at T at) ≡ 1 = ap by none in
    omega arith
  where
    by : Option ℕ → ℕ
    by o = unwrap_or (option_map (λ _. 0) o) 1

    weight : Triple → ℕ
    weight t = by t.3

pub unranked_few : (T : RankedTriples) → unranked T ≤ length T
unranked_few [] = omega arith
unranked_few (t ∷ T) =
    let rest = unranked_few T in
    let one = upto t.3 in
    let sums = sum_by-cons (λ (x : Triple). unwrap_or (option_map (λ _. 0) x.3) 1) t T in
    omega arith
  where
    upto : (o : Option ℕ) → unwrap_or (option_map (λ _. 0) o) 1 ≤ 1
    upto None = omega arith
    upto (Some r) = omega arith
