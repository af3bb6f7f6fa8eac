-- Extending paths to what Spoiler may show, following paths by stable relations, and closures.
use Rattle.std.proofs.Common.{◌≡◌, ℕ, zero, suc, ◌+◌, ◌-◌, ◌<◌, ◌≤◌, ◌⊎◌, List, [], ◌∷◌, ◌++◌, length, Contains, refl, sym, ap, subst, inl, inr, arith, length-append, take, drop, take-append-drop, length-take-le, le_refl}
use Rattle.std.proofs.lemmas.Bool.{cases_eq, cases_lt}
use Rattle.auto_core.specs.Automaton.{Automaton, Moves, trans}
use Rattle.auto_core.specs.Run.{PathBy, end_of}
use Rattle.auto_core.specs.declared.parts.Trans.{Trans}
use Rattle.auto_core.specs.Game.{BackwardMoves, IsDead, MayShow, Answers, Round, Stable, Chain, Close}
use Rattle.auto_core.specs.RunLaws.{CutPath}
use Rattle.auto_laws.specs.Paths.{Extension}
use Rattle.auto_laws.specs.Games.{IsFollowed}
use Rattle.auto_core.proofs.PathLemmas.{Contains-here, Contains-later, Contains-cons_cases, none_in_nil, path_join, path_split, end_of-append}
use Rattle.auto_laws.proofs.MatchLemmas.{matched_trans, matched_refl}
use Rattle.auto_laws.proofs.PumpingLemmas.{chain_join}

-- Of each state it can be told whether it has a move.
abbrev pub TellsMoves : (ℕ → ℕ → ℕ → Type 0) → Type 0
TellsMoves M = (p : ℕ) → IsDead M p ⊎ ((a q : ℕ) × M p a q)

leaving : (ts : List Trans) (p : ℕ) → ((a q : ℕ) → Contains ts (trans p a q) → ⊥) ⊎ ((a q : ℕ) × Contains ts (trans p a q))
leaving [] p = inl (λ a q h. none_in_nil (trans p a q) h)
leaving (t ∷ ts) p = elim (cases_eq t.source p) [
  | inl same ↦ inr (t.label, t.target, Contains-here t (trans p t.label t.target) ts (ap (λ s. trans s t.label t.target) same))
  | inr other ↦ elim (leaving ts p) [
    | inl none ↦ inl (λ a q h. elim (Contains-cons_cases t (trans p a q) ts h) [ inl e ↦ other (ap (λ x. x.source) e) | inr later ↦ none a q later ])
    | inr some ↦ inr (some.0, some.1, Contains-later t (trans p some.0 some.1) ts some.2)
  ]
]

entering : (ts : List Trans) (p : ℕ) → ((a q : ℕ) → Contains ts (trans q a p) → ⊥) ⊎ ((a q : ℕ) × Contains ts (trans q a p))
entering [] p = inl (λ a q h. none_in_nil (trans q a p) h)
entering (t ∷ ts) p = elim (cases_eq t.target p) [
  | inl same ↦ inr (t.label, t.source, Contains-here t (trans t.source t.label p) ts (ap (λ s. trans t.source t.label s) same))
  | inr other ↦ elim (entering ts p) [
    | inl none ↦ inl (λ a q h. elim (Contains-cons_cases t (trans q a p) ts h) [ inl e ↦ other (ap (λ x. x.target) e) | inr later ↦ none a q later ])
    | inr some ↦ inr (some.0, some.1, Contains-later t (trans some.1 some.0 p) ts some.2)
  ]
]

pub tells_forward : (A : Automaton) → TellsMoves (Moves A)
tells_forward A p = leaving A.transitions p

pub tells_backward : (A : Automaton) → TellsMoves (BackwardMoves A)
tells_backward A p = entering A.transitions p

-- A path of n moves from p, or a shorter one to a dead end.
longest : (M : ℕ → ℕ → ℕ → Type 0) → TellsMoves M → (n p : ℕ) →
    (w ps : List ℕ) × PathBy M p w ps × ((length w ≡ n) ⊎ ((length w < n) × IsDead M (end_of p ps)))
longest M tells zero p = ([], [], tt, inl refl)
longest M tells (suc n) p = elim (tells p) [
  | inl dead ↦ ([], [], tt, inr (omega arith, dead))
  | inr move ↦
      let r = longest M tells n move.1 in
      (move.0 ∷ r.0, move.1 ∷ r.1, (move.2, r.2), elim r.3 [ inl e ↦ inl (omega arith) | inr short ↦ let lt = short.0 in inr (omega arith, short.1) ])
]

pub extend : (M : ℕ → ℕ → ℕ → Type 0) → TellsMoves M → (k p : ℕ) (w ps : List ℕ) → PathBy M p w ps → length w ≤ k → Extension M k p w ps
extend M tells k p w ps path short =
    let more = longest M tells (k - length w) (end_of p ps) in
    let size = length-append w more.0 in
    record {
      letters = more.0;
      states = more.1;
      path = path_join M p w more.0 ps more.1 path more.2;
      shown = elim more.3 [
        | inl e ↦ inl (omega arith)
        | inr s ↦ let lt = s.0 in inr (omega arith, subst (IsDead M) (sym (end_of-append p ps more.1)) s.1)
      ];
    }

-- Answers with more pairs allowed at their end.
pub answers_more : (M : ℕ → ℕ → ℕ → Type 0) (ok W V : ℕ → ℕ → Type 0) → ((p q : ℕ) → W p q → V p q) → (q : ℕ) (w ps : List ℕ) → Answers M ok W q w ps → Answers M ok V q w ps
answers_more M ok W V f q [] ps h = absurd h
answers_more M ok W V f q (a ∷ w) [] h = absurd h
answers_more M ok W V f q (a ∷ w) (p ∷ ps) h = (h.0, h.1, h.2, elim h.3 [ inl held ↦ inl (f p h.0 held) | inr more ↦ inr (answers_more M ok W V f h.0 w ps more) ])

pub round_more : (M1 M2 : ℕ → ℕ → ℕ → Type 0) (ok : ℕ → ℕ → Type 0) (k : ℕ) (W V : ℕ → ℕ → Type 0) → ((p q : ℕ) → W p q → V p q) → (p q : ℕ) → Round M1 M2 ok k W p q → Round M1 M2 ok k V p q
round_more M1 M2 ok k W V f p q h w ps path may = answers_more M2 ok W V f q w ps (h w ps path may)

module _ (M1 M2 : ℕ → ℕ → ℕ → Type 0) (ok W : ℕ → ℕ → Type 0) where
  -- Paths of at most n moves are followed from what W relates.
  abbrev pub FollowsShort : ℕ → Type 0
  FollowsShort n = (p q : ℕ) (w ps : List ℕ) → length w ≤ n → W p q → PathBy M1 p w ps → IsFollowed M2 ok q w ps

  -- An answer to more than the path: follow the path along it.
  answered_beyond : (n : ℕ) → FollowsShort n → (p q : ℕ) (w ps x xs : List ℕ) → length w ≤ suc n → PathBy M1 p w ps → Answers M2 ok W q (w ++ x) (ps ++ xs) → IsFollowed M2 ok q w ps
  answered_beyond n ih p q [] [] x xs short path h = ([], tt, tt)
  answered_beyond n ih p q [] (r ∷ ps) x xs short path h = absurd path
  answered_beyond n ih p q (a ∷ w) [] x xs short path h = absurd path
  answered_beyond n ih p q (a ∷ w) (r ∷ ps) x xs short path (s, move, match, h) =
      let rest : IsFollowed M2 ok s w ps = elim h [
        | inl held ↦ ih r s w ps (omega arith) held path.1
        | inr more ↦ answered_beyond n ih r s w ps x xs (omega arith) path.1 more
      ] in
      (s ∷ rest.0, (move, rest.1), (match, rest.2))

  -- An answer to the front of the path: follow the front along it, and then go on.
  answered_front : (n : ℕ) → FollowsShort n → (p q : ℕ) (v y vs ys : List ℕ) → length (v ++ y) ≤ suc n → PathBy M1 p (v ++ y) (vs ++ ys) → Answers M2 ok W q v vs → IsFollowed M2 ok q (v ++ y) (vs ++ ys)
  answered_front n ih p q [] y vs ys short path h = absurd h
  answered_front n ih p q (a ∷ v) y [] ys short path h = absurd h
  answered_front n ih p q (a ∷ v) y (r ∷ vs) ys short path (s, move, match, h) =
      let rest : IsFollowed M2 ok s (v ++ y) (vs ++ ys) = elim h [
        | inl held ↦ ih r s (v ++ y) (vs ++ ys) (omega arith) held path.1
        | inr more ↦ answered_front n ih r s v y vs ys (omega arith) path.1 more
      ] in
      (s ∷ rest.0, (move, rest.1), (match, rest.2))

  follow_front : (k n : ℕ) → 1 ≤ k → Stable M1 M2 ok k W → FollowsShort n → (p q : ℕ) (w ps : List ℕ) → k < length w → length w ≤ suc n → W p q → PathBy M1 p w ps → IsFollowed M2 ok q w ps
  follow_front k n some stable ih p q w ps long short held path =
      let parts : take k w ++ drop k w ≡ w = take-append-drop k w in
      let size : length (take k w) ≡ k = length-take-le k w (omega arith) in
      let whole : PathBy M1 p (take k w ++ drop k w) ps = subst (λ l. PathBy M1 p l ps) (sym parts) path in
      let cut : CutPath M1 p (take k w) (drop k w) ps = path_split M1 p (take k w) (drop k w) ps whole in
      let answer : Answers M2 ok W q (take k w) cut.front = (stable p q held).1 (take k w) cut.front cut.first (inl size) in
      let goes : PathBy M1 p (take k w ++ drop k w) (cut.front ++ cut.back) = subst (λ l. PathBy M1 p (take k w ++ drop k w) l) cut.is whole in
      let fits : length (take k w ++ drop k w) ≤ suc n = subst (λ l. length l ≤ suc n) (sym parts) short in
      let followed : IsFollowed M2 ok q (take k w ++ drop k w) (cut.front ++ cut.back) = answered_front n ih p q (take k w) (drop k w) cut.front cut.back fits goes answer in
      subst (λ l. IsFollowed M2 ok q l ps) parts (subst (λ l. IsFollowed M2 ok q (take k w ++ drop k w) l) (sym cut.is) followed)

  follow_beyond : (k n : ℕ) → TellsMoves M1 → Stable M1 M2 ok k W → FollowsShort n → (p q : ℕ) (w ps : List ℕ) → 1 ≤ length w → length w ≤ k → length w ≤ suc n → W p q → PathBy M1 p w ps → IsFollowed M2 ok q w ps
  follow_beyond k n tells stable ih p q w ps some few short held path =
      let more : Extension M1 k p w ps = extend M1 tells k p w ps path few in
      let size : length (w ++ more.letters) ≡ length w + length more.letters = length-append w more.letters in
      let may : MayShow M1 k p (w ++ more.letters) (ps ++ more.states) = elim more.shown [
        | inl full ↦ inl full
        | inr ends ↦ inr (omega arith, ends.0, ends.1)
      ] in
      answered_beyond n ih p q w ps more.letters more.states short path ((stable p q held).1 (w ++ more.letters) (ps ++ more.states) more.path may)

  follow_short : (k : ℕ) → 1 ≤ k → TellsMoves M1 → Stable M1 M2 ok k W → (n : ℕ) → FollowsShort n
  follow_short k some tells stable n p q [] [] short held path = ([], tt, tt)
  follow_short k some tells stable n p q [] (r ∷ ps) short held path = absurd path
  follow_short k some tells stable zero p q (a ∷ w) ps short held path = absurd (omega arith)
  follow_short k some tells stable (suc n) p q (a ∷ w) ps short held path = elim (cases_lt k (length (a ∷ w))) [
    | inl long ↦ follow_front k n some stable (follow_short k some tells stable n) p q (a ∷ w) ps long short held path
    | inr few ↦ follow_beyond k n tells stable (follow_short k some tells stable n) p q (a ∷ w) ps (omega arith) few short held path
  ]

  -- Each path from p is followed from q, if a relation that is stable at some lookahead from 1 on relates them.
  pub follow : (k : ℕ) → 1 ≤ k → TellsMoves M1 → Stable M1 M2 ok k W → (p q : ℕ) → W p q → (w ps : List ℕ) → PathBy M1 p w ps → IsFollowed M2 ok q w ps
  follow k some tells stable p q held w ps path = follow_short k some tells stable (length w) p q w ps (le_refl (length w)) held path

-- Within one set of moves, along a chain of related pairs.
module _ (M : ℕ → ℕ → ℕ → Type 0) (ok W : ℕ → ℕ → Type 0) (same : (p : ℕ) → ok p p) (joins : (p q r : ℕ) → ok p q → ok q r → ok p r) where
  pub close_matches : (k : ℕ) → Stable M M ok k W → (p q : ℕ) → Close W p q → ok p q
  close_matches k stable p q close = along close.0 p q close.1
    where
      along : (n p q : ℕ) → Chain W n p q → ok p q
      along zero p q c = subst (ok p) c (same p)
      along (suc n) p q (s, held, c) = joins p s q (stable p s held).0 (along n s q c)

  follow_chain : (k : ℕ) → 1 ≤ k → TellsMoves M → Stable M M ok k W → (n p q : ℕ) → Chain W n p q → (w ps : List ℕ) → PathBy M p w ps → IsFollowed M ok q w ps
  follow_chain k some tells stable zero p q c w ps path = (ps, subst (λ s. PathBy M s w ps) c path, matched_refl ok same ps)
  follow_chain k some tells stable (suc n) p q (s, held, c) w ps path =
      let step = follow M M ok W k some tells stable p s held w ps path in
      let rest = follow_chain k some tells stable n s q c w step.0 step.1 in
      (rest.0, rest.1, matched_trans ok ok ok joins ps step.0 rest.0 step.2 rest.2)

  pub follow_close : (k : ℕ) → 1 ≤ k → TellsMoves M → Stable M M ok k W → (p q : ℕ) → Close W p q → (w ps : List ℕ) → PathBy M p w ps → IsFollowed M ok q w ps
  follow_close k some tells stable p q close w ps path = follow_chain k some tells stable close.0 p q close.1 w ps path

  -- One move, answered along a chain.
  move_along : Stable M M ok 1 W → (n p q : ℕ) → Chain W n p q → (a r : ℕ) → M p a r → (s : ℕ) × M q a s × ok r s × Close W r s
  move_along stable zero p q c a r move = (r, subst (λ x. M x a r) c move, same r, (zero, refl))
  move_along stable (suc n) p q (t, held, c) a r move =
      let answer : Answers M ok W t (a ∷ []) (r ∷ []) = (stable p t held).1 (a ∷ []) (r ∷ []) (move, tt) (inl refl) in
      let close : W r answer.0 = elim answer.3 [ inl w ↦ w | inr more ↦ absurd more ] in
      let rest = move_along stable n t q c a answer.0 answer.1 in
      (rest.0, rest.1, joins r answer.0 rest.0 answer.2 rest.2, (suc rest.3.0, (answer.0, close, rest.3.1)))

  pub close_moves : Stable M M ok 1 W → (p q : ℕ) → Close W p q → (a r : ℕ) → M p a r → (s : ℕ) × M q a s × ok r s × Close W r s
  close_moves stable p q close a r move = move_along stable close.0 p q close.1 a r move

  -- A path is followed move by move, the closure holding at each place.
  pub follow_moves : Stable M M ok 1 W → (p q : ℕ) → Close W p q → (w ps : List ℕ) → PathBy M p w ps → IsFollowed M (Close W) q w ps
  follow_moves stable p q close [] [] path = ([], tt, tt)
  follow_moves stable p q close [] (r ∷ ps) path = absurd path
  follow_moves stable p q close (a ∷ w) [] path = absurd path
  follow_moves stable p q close (a ∷ w) (r ∷ ps) path =
      let m = close_moves stable p q close a r path.0 in
      let rest = follow_moves stable r m.0 m.3 w ps path.1 in
      (m.0 ∷ rest.0, (m.1, rest.1), (m.3, rest.2))

  pub close_stable : Stable M M ok 1 W → Stable M M ok 1 (Close W)
  close_stable stable p q close = (close_matches 1 stable p q close, answered)
    where
      answered : Round M M ok 1 (Close W) p q
      answered [] [] path may = absurd (elim may [ inl e ↦ omega arith | inr short ↦ let lt = short.0 in omega arith ])
      answered [] (r ∷ ps) path may = absurd path
      answered (a ∷ w) [] path may = absurd path
      answered (a ∷ w) (r ∷ ps) path may =
          let m = close_moves stable p q close a r path.0 in
          (m.0, m.1, m.2, inl m.3)

-- The closure.
pub close_refl : (R : ℕ → ℕ → Type 0) (p : ℕ) → Close R p p
close_refl R p = (zero, refl)

pub close_trans : (R : ℕ → ℕ → Type 0) (p q r : ℕ) → Close R p q → Close R q r → Close R p r
close_trans R p q r c d = (c.0 + d.0, chain_join R c.0 d.0 p q r c.1 d.1)

pub close_one : (R : ℕ → ℕ → Type 0) (p q : ℕ) → R p q → Close R p q
close_one R p q h = (1, (q, h, refl))

pub close_least : (R T : ℕ → ℕ → Type 0) → ((p q : ℕ) → R p q → T p q) → ((p q r : ℕ) → T p q → T q r → T p r) → (p q : ℕ) → Close R p q → (p ≡ q) ⊎ T p q
close_least R T inside joins p q close = along close.0 p q close.1
  where
    along : (n p q : ℕ) → Chain R n p q → (p ≡ q) ⊎ T p q
    along zero p q c = inl c
    along (suc n) p q (s, held, c) = inr (elim (along n s q c) [ inl e ↦ subst (T p) e (inside p s held) | inr more ↦ joins p s q (inside p s held) more ])

-- The closure of a relation inside another that is reflexive and transitive is inside it too.
pub close_within : (R T : ℕ → ℕ → Type 0) → ((p q : ℕ) → R p q → T p q) → ((p : ℕ) → T p p) → ((p q r : ℕ) → T p q → T q r → T p r) → (p q : ℕ) → Close R p q → T p q
close_within R T inside same joins p q close = elim (close_least R T inside joins p q close) [ inl e ↦ subst (T p) e (same p) | inr h ↦ h ]
