-- From one level of ranks to the next, and the last one.
use Rattle.std.proofs.Common.{◌≡◌, ℕ, zero, suc, ◌*◌, ◌<◌, ◌≤◌, ◌⊎◌, ◌↔◌, inl, inr, None, List, length, sym, ap, ◌∙◌, subst, arith}
use Rattle.std.proofs.lemmas.Bool.{cases_eq, cases_lt}
use Rattle.auto_core.specs.Automaton.{Automaton, IsAutomaton, Moves, IsAccepting, trans_at}
use Rattle.auto_core.specs.declared.parts.Trans.{Trans}
use Rattle.auto_core.specs.Game.{Holds}
use Rattle.auto_core.specs.Rows.{HasCell}
use Rattle.auto_core.proofs.MoveLemmas.{number_of, move_at, move_in_range}
use Rattle.delayed_game.specs.Pairings.{Pairing, IsPairing}
use Rattle.delayed_game.specs.Levels.{rank_in_table, CanHave, IsLeastRank}
use Rattle.delayed_game.specs.Boards.{row_words, IsRanked, HasFreshAnswer, IsReady, GivesRank, IsClimbed, AreLeastRanks}
use Rattle.delayed_game.proofs.CanLemmas.{can_holds, can_accepting, can_upto, none_is_some, some_is}

-- a transition with this number, as a move
move_of_number : (L : Automaton) (t p : ℕ) → t < length L.transitions → (trans_at L t).source ≡ p → Moves L p (trans_at L t).label (trans_at L t).target
move_of_number L t p t_in leaves = subst (λ x. Moves L x (trans_at L t).label (trans_at L t).target) leaves (move_at L t t_in)

module _ (L A : Automaton) (R : Pairing) where
  -- Rank 0 is given where the right state is accepting.
  pub climb_starts :
      (unranked : Pairing) (none ranks : List ℕ) (answered fresh : List ℕ)
      → R.places ≡ L.states
      → R.states ≡ A.states
      → IsPairing R
      → length none ≡ L.states * A.states
      → ((p q : ℕ) → rank_in_table none A.states p q ≡ None)
      → ((t q : ℕ) → HasCell answered (row_words A) t q → ⊥)
      → GivesRank L A (λ p q. Holds R.pairs p q × IsAccepting A q) 0 R none unranked ranks fresh
      → IsClimbed L A (Holds R.pairs) 0 unranked ranks answered fresh
  climb_starts unranked none ranks answered fresh places size sound len clear blank gives = record {
    places = gives.places ∙ places;
    states = gives.states ∙ size;
    valid = gives.valid;
    len = gives.len ∙ len;
    pairs = λ p q held.
        let both = (gives.pairs p q).0 held in
        let range = sound.in_range p q both.0 in
        let left = range.0 in
        let right = range.1 in
        (both.0, has_none p q (omega arith) (omega arith) both.1, λ can. both.1 can);
    each = λ p q s p_in q_in is. elim (gives.table p q p_in q_in) [
      | inl given ↦
          let e : s ≡ 0 = some_is (rank_in_table ranks A.states p q) s 0 is given.1 in
          let least : IsLeastRank L A (Holds R.pairs) p q 0 = record { can = given.0; least = λ m can. omega arith } in
          (omega arith, subst (λ x. IsLeastRank L A (Holds R.pairs) p q x) (sym e) least)
      | inr kept ↦ absurd (none_is_some (rank_in_table ranks A.states p q) s (kept.1 ∙ clear p q) is)
    ];
    all = λ p q p_in q_in held. elim (gives.table p q p_in q_in) [
      | inl given ↦ inr (0, given.1)
      | inr kept ↦ inl ((gives.pairs p q).1 (held, kept.0))
    ];
    rows = λ p q p_in q_in. (
      λ cell. elim (gives.table p q p_in q_in) [
        | inl given ↦ given.1
        | inr kept ↦ absurd (kept.0 ((gives.rows p q p_in q_in).0 cell))
      ],
      λ is. elim (gives.table p q p_in q_in) [
        | inl given ↦ (gives.rows p q p_in q_in).1 given.0
        | inr kept ↦ absurd (none_is_some (rank_in_table ranks A.states p q) 0 (kept.1 ∙ clear p q) is)
      ],
    );
    columns = gives.columns;
    noted = λ t q t_in q_in. (λ cell. absurd (blank t q cell), λ is. let lt = is.4 in absurd (omega arith));
  }
    where
      has_none : (p q : ℕ) → p < L.states → q < A.states → (Holds R.pairs p q × IsAccepting A q → ⊥) → rank_in_table ranks A.states p q ≡ None
      has_none p q p_in q_in out = elim (gives.table p q p_in q_in) [
        | inl given ↦ absurd (out given.0)
        | inr kept ↦ kept.1 ∙ clear p q
      ]

module _ (L A : Automaton) (sound : IsAutomaton L) (valid : IsAutomaton A) (R : ℕ → ℕ → Type 0) (r : ℕ) (unranked : Pairing) (ranks : List ℕ) (answered fresh : List ℕ) (at : IsClimbed L A R r unranked ranks answered fresh) where
  -- The answers by the pairs of rank r are noted.
  module _ (answered' : List ℕ) (notes : (t q : ℕ) → t < length L.transitions → q < A.states → HasCell answered' (row_words A) t q ↔ (HasCell answered (row_words A) t q ⊎ HasFreshAnswer L A fresh t q)) where
    target_in : (t : ℕ) → t < length L.transitions → (trans_at L t).target < L.states
    target_in t t_in = (move_in_range L sound (trans_at L t).source (trans_at L t).label (trans_at L t).target (move_at L t t_in)).1

    right_in : (q a q' : ℕ) → Moves A q a q' → q' < A.states
    right_in q a q' move = (move_in_range A valid q a q' move).1

    noted_upto : (t q : ℕ) → t < length L.transitions → q < A.states → HasCell answered' (row_words A) t q
        ↔ ((q' s : ℕ) × Moves A q (trans_at L t).label q' × IsRanked A ranks (trans_at L t).target q' s × (s < suc r))
    noted_upto t q t_in q_in = (
      λ cell. elim ((notes t q t_in q_in).0 cell) [
        | inl old ↦ let is = (at.noted t q t_in q_in).0 old in let lt = is.4 in (is.0, is.1, is.2, is.3, omega arith)
        | inr new ↦ (new.0, r, new.1, (at.rows (trans_at L t).target new.0 (target_in t t_in) (right_in q (trans_at L t).label new.0 new.1)).0 new.2, omega arith)
      ],
      λ is. (notes t q t_in q_in).1 (elim (cases_eq is.1 r) [
        | inl e ↦
            let here : IsRanked A ranks (trans_at L t).target is.0 r = subst (λ s. IsRanked A ranks (trans_at L t).target is.0 s) e is.3 in
            inr (is.0, is.2, (at.rows (trans_at L t).target is.0 (target_in t t_in) (right_in q (trans_at L t).label is.0 is.2)).1 here)
        | inr apart ↦ let lt = is.4 in inl ((at.noted t q t_in q_in).1 (is.0, is.1, is.2, is.3, omega arith))
      ]),
    )

    -- a pair that is ready can have the next rank
    ready_can : (p q : ℕ) → p < L.states → q < A.states → IsReady L A unranked answered' p q → CanHave L A R (suc r) p q
    ready_can p q p_in q_in ready = (
      (at.pairs p q ready.0).0,
      inr (λ a p' move.
          let (t, t_in, is_t) = number_of L p a p' move in
          let leaves : (trans_at L t).source ≡ p = ap (λ (u : Trans). u.source) is_t in
          let by : (trans_at L t).label ≡ a = ap (λ (u : Trans). u.label) is_t in
          let into : (trans_at L t).target ≡ p' = ap (λ (u : Trans). u.target) is_t in
          let (q', s, go, ranked, below) = (noted_upto t q t_in q_in).0 (ready.1 t t_in leaves) in
          let least = (at.each (trans_at L t).target q' s (target_in t t_in) (right_in q (trans_at L t).label q' go) ranked).1 in
          let can = can_upto L A R r s (trans_at L t).target q' (omega arith) least.can in
          (q', subst (λ x. Moves A q x q') by go, subst (λ x. CanHave L A R r x q') into can)),
    )

    -- an unranked pair that can have it is ready
    can_ready : (p q : ℕ) → p < L.states → q < A.states → Holds unranked.pairs p q → CanHave L A R (suc r) p q → IsReady L A unranked answered' p q
    can_ready p q p_in q_in held can = (
      held,
      λ t t_in leaves. elim can.1 [
        | inl accepting ↦ absurd ((at.pairs p q held).2 (can_accepting L A R r p q can.0 accepting))
        | inr answers ↦
            let (q', go, later) = answers (trans_at L t).label (trans_at L t).target (move_of_number L t p t_in leaves) in
            let q'_in = right_in q (trans_at L t).label q' go in
            elim (at.all (trans_at L t).target q' (target_in t t_in) q'_in (can_holds L A R r (trans_at L t).target q' later)) [
              | inl still ↦ absurd ((at.pairs (trans_at L t).target q' still).2 later)
              | inr (s, is) ↦
                  let le = (at.each (trans_at L t).target q' s (target_in t t_in) q'_in is).0 in
                  (noted_upto t q t_in q_in).1 (q', s, go, is, omega arith)
            ]
      ],
    )

    -- The pairs that are ready got the next rank.
    pub climb_next :
        (unranked' : Pairing) (ranks' : List ℕ) (fresh' : List ℕ)
        → GivesRank L A (IsReady L A unranked answered') (suc r) unranked ranks unranked' ranks' fresh'
        → IsClimbed L A R (suc r) unranked' ranks' answered' fresh'
    climb_next unranked' ranks' fresh' gives = record {
      places = gives.places ∙ at.places;
      states = gives.states ∙ at.states;
      valid = gives.valid;
      len = gives.len ∙ at.len;
      pairs = λ p q held.
          let both = (gives.pairs p q).0 held in
          let is = at.pairs p q both.0 in
          let range = open_in p q both.0 in
          (is.0, elim (gives.table p q range.0 range.1) [ inl given ↦ absurd (both.1 given.0) | inr kept ↦ kept.1 ∙ is.1 ], λ can. both.1 (can_ready p q range.0 range.1 both.0 can));
      each = λ p q s p_in q_in is. elim (gives.table p q p_in q_in) [
        | inl given ↦
            let e : s ≡ suc r = some_is (rank_in_table ranks' A.states p q) s (suc r) is given.1 in
            let least : IsLeastRank L A R p q (suc r) = record {
              can = ready_can p q p_in q_in given.0;
              least = λ m can. elim (cases_upto m) [
                | inl upto ↦ absurd ((at.pairs p q given.0.0).2 (can_upto L A R r m p q upto can))
                | inr more ↦ more
              ];
            } in
            (omega arith, subst (λ x. IsLeastRank L A R p q x) (sym e) least)
        | inr kept ↦ let old = at.each p q s p_in q_in (sym kept.1 ∙ is) in let le = old.0 in (omega arith, old.1)
      ];
      all = λ p q p_in q_in held. elim (gives.table p q p_in q_in) [
        | inl given ↦ inr (suc r, given.1)
        | inr kept ↦ elim (at.all p q p_in q_in held) [
          | inl still ↦ inl ((gives.pairs p q).1 (still, kept.0))
          | inr ranked ↦ inr (ranked.0, kept.1 ∙ ranked.1)
        ]
      ];
      rows = λ p q p_in q_in. (
        λ cell. elim (gives.table p q p_in q_in) [
          | inl given ↦ given.1
          | inr kept ↦ absurd (kept.0 ((gives.rows p q p_in q_in).0 cell))
        ],
        λ is. elim (gives.table p q p_in q_in) [
          | inl given ↦ (gives.rows p q p_in q_in).1 given.0
          | inr kept ↦ let le = (at.each p q (suc r) p_in q_in (sym kept.1 ∙ is)).0 in absurd (omega arith)
        ],
      );
      columns = gives.columns;
      noted = λ t q t_in q_in. (
        λ cell.
            let (q', s, go, is, below) = (noted_upto t q t_in q_in).0 cell in
            (q', s, go, stays (trans_at L t).target q' s (target_in t t_in) (right_in q (trans_at L t).label q' go) is, below),
        λ (q', s, go, is, below). (noted_upto t q t_in q_in).1 (q', s, go, was (trans_at L t).target q' s (target_in t t_in) (right_in q (trans_at L t).label q' go) is below, below),
      );
    }
      where
        cases_upto : (m : ℕ) → (m ≤ r) ⊎ (suc r ≤ m)
        cases_upto m = elim (cases_lt m (suc r)) [ inl lt ↦ inl (omega arith) | inr le ↦ inr le ]

        open_in : (p q : ℕ) → Holds unranked.pairs p q → (p < L.states) × (q < A.states)
        open_in p q held =
            let range = at.valid.in_range p q held in
            let left = range.0 in
            let right = range.1 in
            let places = at.places in
            let states = at.states in
            (omega arith, omega arith)

        stays : (p q s : ℕ) → p < L.states → q < A.states → IsRanked A ranks p q s → IsRanked A ranks' p q s
        stays p q s p_in q_in is = elim (gives.table p q p_in q_in) [
          | inl given ↦ absurd (none_is_some (rank_in_table ranks A.states p q) s (at.pairs p q given.0.0).1 is)
          | inr kept ↦ kept.1 ∙ is
        ]

        was : (p q s : ℕ) → p < L.states → q < A.states → IsRanked A ranks' p q s → s < suc r → IsRanked A ranks p q s
        was p q s p_in q_in is below = elim (gives.table p q p_in q_in) [
          | inl given ↦ let e = some_is (rank_in_table ranks' A.states p q) s (suc r) is given.1 in absurd (omega arith)
          | inr kept ↦ sym kept.1 ∙ is
        ]

-- No pair has the last rank: then no unranked pair can have any.
pub climb_ends :
    (L A : Automaton) (sound : IsAutomaton L) (valid : IsAutomaton A) (R : ℕ → ℕ → Type 0) (r : ℕ) (unranked : Pairing) (ranks : List ℕ) (answered fresh : List ℕ)
    → IsClimbed L A R (suc r) unranked ranks answered fresh
    → ((p q : ℕ) → p < L.states → q < A.states → IsRanked A ranks p q (suc r) → ⊥)
    → AreLeastRanks L A R ranks
climb_ends L A sound valid R r unranked ranks answered fresh at none = record {
  len = at.len;
  each = λ p q s p_in q_in is. (at.each p q s p_in q_in is).1;
  all = λ p q m p_in q_in can. elim (at.all p q p_in q_in (can_holds L A R m p q can)) [
    | inl still ↦ absurd (stuck m p q still can)
    | inr ranked ↦ ranked
  ];
}
  where
    stuck : (m p q : ℕ) → Holds unranked.pairs p q → CanHave L A R m p q → ⊥
    stuck zero p q held can = (at.pairs p q held).2 (can_accepting L A R (suc r) p q can.0 can.1)
    stuck (suc m) p q held can = (at.pairs p q held).2 (
      can.0,
      elim can.1 [
        | inl accepting ↦ inl accepting
        | inr answers ↦ inr (λ a p' move.
            let (q', go, later) = answers a p' move in
            let p'_in : p' < L.states = (move_in_range L sound p a p' move).1 in
            let q'_in : q' < A.states = (move_in_range A valid q a q' go).1 in
            elim (at.all p' q' p'_in q'_in (can_holds L A R m p' q' later)) [
              | inl still ↦ absurd (stuck m p' q' still later)
              | inr (s, is) ↦
                  let each = at.each p' q' s p'_in q'_in is in
                  let le = each.0 in
                  let apart : ¬ (s ≡ suc r) = λ e. none p' q' p'_in q'_in (subst (λ x. IsRanked A ranks p' q' x) e is) in
                  (q', go, can_upto L A R r s p' q' (omega arith) each.1.can)
            ])
      ],
    )
