-- A game across two automata is a game on the automaton of both side by side.
use Rattle.std.proofs.Common.{◌≡◌, ℕ, ◌+◌, ◌-◌, ◌<◌, ◌≤◌, inl, inr, Bool, leb, List, [], ◌∷◌, map, filter, refl, sym, ap, subst, arith}
use Rattle.std.proofs.lemmas.Bool.{le-leb, leb-true}
use Rattle.auto_core.specs.Automaton.{Automaton, IsAutomaton, Moves}
use Rattle.auto_core.specs.Run.{PathBy, Path, end_of}
use Rattle.auto_core.specs.Game.{MatchesForward, MayShow, Answers, Round, Stable, Holds, ArePairsBelow, IsWithin, IsGreatest, StableAcross}
use Rattle.auto_core.proofs.MoveLemmas.{move_in_range}
use Rattle.auto_core.proofs.MemberLemmas.{filter_has, filter_from, map_has, map_from}
use Rattle.auto_laws.proofs.AppliedLemmas.{across_includes}
use Rattle.cross_sim.specs.Cross.{IsGreatestSideBySide, HoldsGreatestAcross, CrossIncludes}
use Rattle.bit_rel.specs.Relation.{Relation}
use Rattle.cross_sim.specs.Sides.{IsSideBySide, Raises, Lowers, MatchesAcross, LeavesAcross}

-- The pair with its right number raised by n.
abbrev pub raise : ℕ → ℕ × ℕ → ℕ × ℕ
raise n x = (x.0, n + x.1)

abbrev lower : ℕ → ℕ × ℕ → ℕ × ℕ
lower n x = (x.0, x.1 - n)

pub raised : (n : ℕ) (S : List (ℕ × ℕ)) → Raises n S (map (raise n) S)
raised n S p q = (
  λ h.
      let (x, there, is) = map_from (raise n) S (p, q) h in
      (x.1, sym (ap (λ (y : ℕ × ℕ). y.1) is), subst (λ z. Holds S z x.1) (ap (λ (y : ℕ × ℕ). y.0) is) there),
  λ (r, e, h). subst (λ z. Holds (map (raise n) S) p z) (sym e) (map_has (raise n) S (p, r) h),
)

lowered : (n : ℕ) (R : List (ℕ × ℕ)) → ((p q : ℕ) → Holds R p q → n ≤ q) → Raises n (map (lower n) R) R
lowered n R high p q = (
  λ h. let le = high p q h in (q - n, omega arith, map_has (lower n) R (p, q) h),
  λ (r, e, h).
      let (x, there, is) = map_from (lower n) R (p, r) h in
      let le = high x.0 x.1 there in
      let left : x.0 ≡ p = ap (λ (y : ℕ × ℕ). y.0) is in
      let right : x.1 - n ≡ r = ap (λ (y : ℕ × ℕ). y.1) is in
      let same : x.1 ≡ q = omega arith in
      subst (λ z. Holds R z q) left (subst (λ z. Holds R x.0 z) same there),
)

pub raised_back : (n : ℕ) (S R : List (ℕ × ℕ)) → Raises n S R → (p r : ℕ) → Holds R p (n + r) → Holds S p r
raised_back n S R raises p r h =
    let (s, e, there) = (raises p (n + r)).0 h in
    let same : s ≡ r = omega arith in
    subst (λ z. Holds S p z) same there

pub raised_lowers : (n : ℕ) (S R : List (ℕ × ℕ)) → Raises n S R → Lowers n S R
raised_lowers n S R raises p r = (λ h. (raises p (n + r)).1 (r, refl, h), λ h. raised_back n S R raises p r h)

module _ (A B U : Automaton) (a_valid : IsAutomaton A) (both : IsSideBySide A B U) (k : ℕ) where
  move_in_both : (p a q : ℕ) → Moves A p a q → Moves U p a q
  move_in_both p a q m = (both.first_moves p a q (move_in_range A a_valid p a q m).0).1 m

  end_below : (p : ℕ) (w ps : List ℕ) → p < A.states → Path A p w ps → end_of p ps < A.states
  end_below p [] [] lt path = lt
  end_below p [] (q ∷ ps) lt path = absurd path
  end_below p (a ∷ w) [] lt path = absurd path
  end_below p (a ∷ w) (q ∷ ps) lt path = end_below q w ps (move_in_range A a_valid p a q path.0).1 path.1

  path_in_both : (p : ℕ) (w ps : List ℕ) → Path A p w ps → PathBy (Moves U) p w ps
  path_in_both p [] [] path = tt
  path_in_both p [] (q ∷ ps) path = absurd path
  path_in_both p (a ∷ w) [] path = absurd path
  path_in_both p (a ∷ w) (q ∷ ps) path = (move_in_both p a q path.0, path_in_both q w ps path.1)

  path_in_first : (p : ℕ) (w ps : List ℕ) → p < A.states → PathBy (Moves U) p w ps → Path A p w ps
  path_in_first p [] [] lt path = tt
  path_in_first p [] (q ∷ ps) lt path = absurd path
  path_in_first p (a ∷ w) [] lt path = absurd path
  path_in_first p (a ∷ w) (q ∷ ps) lt path =
      let m = (both.first_moves p a q lt).0 path.0 in
      (m, path_in_first q w ps (move_in_range A a_valid p a q m).1 path.1)

  shown_in_both : (p : ℕ) (w ps : List ℕ) → p < A.states → Path A p w ps → MayShow (Moves A) k p w ps → MayShow (Moves U) k p w ps
  shown_in_both p w ps lt path (inl e) = inl e
  shown_in_both p w ps lt path (inr (some, short, dead)) = inr (some, short, λ a q m. dead a q ((both.first_moves (end_of p ps) a q (end_below p w ps lt path)).0 m))

  shown_in_first : (p : ℕ) (w ps : List ℕ) → MayShow (Moves U) k p w ps → MayShow (Moves A) k p w ps
  shown_in_first p w ps (inl e) = inl e
  shown_in_first p w ps (inr (some, short, dead)) = inr (some, short, λ a q m. dead a q (move_in_both (end_of p ps) a q m))

  matched_in_both : (p r : ℕ) → p < A.states → MatchesForward A B p r → MatchesAcross A.states U p (A.states + r)
  matched_in_both p r lt ok = (lt, λ h. (both.second_accepting r).1 (ok ((both.first_accepting p lt).0 h)))

  matched_apart : (p r : ℕ) → MatchesAcross A.states U p (A.states + r) → MatchesForward A B p r
  matched_apart p r ok h = (both.second_accepting r).0 (ok.1 ((both.first_accepting p ok.0).1 h))

  module _ (S R : List (ℕ × ℕ)) (raises : Raises A.states S R) where
    answered_in_both : (p q : ℕ) (w ps : List ℕ) → Path A p w ps → Answers (Moves B) (MatchesForward A B) (Holds S) q w ps → Answers (Moves U) (MatchesAcross A.states U) (Holds R) (A.states + q) w ps
    answered_in_both p q [] ps path answer = absurd answer
    answered_in_both p q (a ∷ w) [] path answer = absurd answer
    answered_in_both p q (a ∷ w) (s ∷ ps) path (r, m, ok, next) = (
      A.states + r,
      (both.second_moves q a (A.states + r)).1 (r, refl, m),
      matched_in_both s r (move_in_range A a_valid p a s path.0).1 ok,
      elim next [ inl held ↦ inl ((raises s (A.states + r)).1 (r, refl, held)) | inr more ↦ inr (answered_in_both s r w ps path.1 more) ],
    )

    pub stable_in_both : ArePairsBelow A.states B.states S → StableAcross A B k S → Stable (Moves U) (Moves U) (MatchesAcross A.states U) k (Holds R)
    stable_in_both below stable p q h =
        let (r, e, there) = (raises p q).0 h in
        let (lt, _) = below p r there in
        let (ok, round) = stable p r there in
        let P : ℕ → Type 0 = λ z. MatchesAcross A.states U p z × Round (Moves U) (Moves U) (MatchesAcross A.states U) k (Holds R) p z in
        subst P (sym e) (
          matched_in_both p r lt ok,
          λ w ps path may. let first = path_in_first p w ps lt path in answered_in_both p r w ps first (round w ps first (shown_in_first p w ps may)),
        )

  module _ (S R : List (ℕ × ℕ)) (lowers : Lowers A.states S R) where
    answered_in_second : (q : ℕ) (w ps : List ℕ) → Answers (Moves U) (MatchesAcross A.states U) (Holds R) (A.states + q) w ps → Answers (Moves B) (MatchesForward A B) (Holds S) q w ps
    answered_in_second q [] ps answer = absurd answer
    answered_in_second q (a ∷ w) [] answer = absurd answer
    answered_in_second q (a ∷ w) (s ∷ ps) (x, m, ok, next) =
        let (r, e, moves) = (both.second_moves q a x).0 m in (
          r,
          moves,
          matched_apart s r (subst (λ z. MatchesAcross A.states U s z) e ok),
          elim next [
            | inl held ↦ inl ((lowers s r).1 (subst (λ z. Holds R s z) e held))
            | inr more ↦ inr (answered_in_second r w ps (subst (λ z. Answers (Moves U) (MatchesAcross A.states U) (Holds R) z w ps) e more))
          ],
        )

    pub stable_apart : Stable (Moves U) (Moves U) (MatchesAcross A.states U) k (Holds R) → StableAcross A B k S
    stable_apart stable p r h =
        let (ok, round) = stable p (A.states + r) ((lowers p r).0 h) in (
          matched_apart p r ok,
          λ w ps path may. answered_in_second r w ps (round w ps (path_in_both p w ps path) (shown_in_both p w ps ok.0 path may)),
        )

  -- The pairs of the greatest list on the automaton of both that lead into B's states are those of the greatest list across.
  module _ (R : List (ℕ × ℕ)) (g : IsGreatest (Moves U) (Moves U) (MatchesAcross A.states U) k U.states U.states R) where
    abbrev is_high : ℕ × ℕ → Bool
    is_high x = leb A.states x.1

    abbrev highs : List (ℕ × ℕ)
    highs = filter is_high R

    abbrev across : List (ℕ × ℕ)
    across = map (lower A.states) highs

    across_lowers : Lowers A.states across R
    across_lowers p r =
        let both_ways = raised_lowers A.states across highs (lowered A.states highs (λ x y h. leb-true A.states y (filter_from is_high R (x, y) h).1)) p r in (
          λ h. (filter_from is_high R (p, A.states + r) (both_ways.0 h)).0,
          λ h. both_ways.1 (filter_has is_high R (p, A.states + r) h (le-leb A.states (A.states + r) (omega arith))),
        )

    across_in_range : ArePairsBelow A.states B.states across
    across_in_range p r h =
        let there = (across_lowers p r).0 h in
        let (_, lt) = g.in_range p (A.states + r) there in
        ((g.stable p (A.states + r) there).0.0, omega (arith, lt, both.states))

    across_has_each : (V : List (ℕ × ℕ)) → ArePairsBelow A.states B.states V → StableAcross A B k V → IsWithin V across
    across_has_each V below stable p r h =
        let up = raised A.states V in
        let W = map (raise A.states) V in
        let within : ArePairsBelow U.states U.states W = λ x y v. inside V below x y ((up x y).0 v) in
        (across_lowers p r).1 (g.has_each W within (stable_in_both V W up below stable) p (A.states + r) ((up p (A.states + r)).1 (r, refl, h)))
      where
        inside : (V : List (ℕ × ℕ)) → ArePairsBelow A.states B.states V → (x y : ℕ) → ((r : ℕ) × (y ≡ A.states + r) × Holds V x r) → (x < U.states) × (y < U.states)
        inside V below x y (r, e, there) =
            let (left, right) = below x r there in
            (omega (arith, left, both.states), omega (arith, right, e, both.states))

    pub greatest_held : HoldsGreatestAcross A B k R
    greatest_held = record {
      across = across;
      is_greatest = record { in_range = across_in_range; stable = stable_apart across R across_lowers g.stable; has_each = across_has_each };
      pairs = across_lowers;
    }

  pub greatest_cross :
      (R T : Relation)
      → IsGreatest (Moves U) (Moves U) (MatchesAcross A.states U) k U.states U.states R.pairs
      → LeavesAcross A.states A.states R T
      → IsGreatestSideBySide A B k T.pairs
  greatest_cross R T g leaves =
      let held = greatest_held R.pairs g in
      record {
        across = held.across;
        is_greatest = held.is_greatest;
        pairs = λ p q. (
          λ h.
              let (there, high) = (leaves.pairs p q).0 h in
              let le = high (g.stable p q there).0.0 in
              let same : q ≡ A.states + (q - A.states) = omega (arith, le) in
              (q - A.states, same, (held.pairs p (q - A.states)).1 (subst (λ z. Holds R.pairs p z) same there)),
          λ (r, e, h). subst (λ z. Holds T.pairs p z) (sym e) ((leaves.pairs p (A.states + r)).1 ((held.pairs p r).0 h, λ _. omega arith)),
        );
      }

  -- A pair that no stable list on the automaton of both has is in no list that is stable across.
  pub never_across :
      (p q : ℕ)
      → ((T : List (ℕ × ℕ)) → ArePairsBelow U.states U.states T → Stable (Moves U) (Moves U) (MatchesAcross A.states U) k (Holds T) → Holds T p (A.states + q) → ⊥)
      → (S : List (ℕ × ℕ))
      → ArePairsBelow A.states B.states S
      → StableAcross A B k S
      → Holds S p q
      → ⊥
  never_across p q never S below stable held =
      let up = raised A.states S in
      let V = map (raise A.states) S in
      let within : ArePairsBelow U.states U.states V = λ x y v. inside x y ((up x y).0 v) in
      never V within (stable_in_both S V up below stable) ((up p (A.states + q)).1 (q, refl, held))
    where
      inside : (x y : ℕ) → ((r : ℕ) × (y ≡ A.states + r) × Holds S x r) → (x < U.states) × (y < U.states)
      inside x y (r, e, there) =
          let (left, right) = below x r there in
          (omega (arith, left, both.states), omega (arith, right, e, both.states))

pub held_side_by_side : (A B : Automaton) (k : ℕ) (R : List (ℕ × ℕ)) → IsGreatestSideBySide A B k R → HoldsGreatestAcross A B k R
held_side_by_side A B k R g = record { across = g.across; is_greatest = g.is_greatest; pairs = raised_lowers A.states g.across R g.pairs }

pub cross_includes : CrossIncludes
cross_includes A B k R valid some g held mode =
    across_includes A B k g.across valid some g.is_greatest.stable (raised_back A.states g.across R g.pairs A.initial B.initial held) mode
