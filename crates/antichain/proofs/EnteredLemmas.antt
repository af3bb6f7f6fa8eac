-- A family into which an element has entered.
use Rattle.std.proofs.Common.{◌≡◌, ℕ, ◌+◌, ◌<◌, ◌⊎◌, Bool, true, false, List, [], ◌∷◌, ◌++◌, length, slice_index_or, sym, ap, ◌∙◌, subst, inl, inr, arith, length-append}
use Rattle.std.specs.Prelude.{filter}
use Rattle.std.proofs.lemmas.Bool.{cases_eq}
use Rattle.std.proofs.lemmas.List.Elements.{Contains-append_left, Contains-append_right, Contains-append_cases}
use Rattle.std.proofs.lemmas.List.Kept.{IsStrictlyIncreasing-filter}
use Rattle.auto_core.specs.Automaton.{Automaton}
use Rattle.auto_core.specs.Outcome.{At, Entry, Rules, TellsLive}
use Rattle.auto_core.specs.Pairs.{IsPairPlacedAt}
use Rattle.auto_core.specs.PairOutcome.{pair_rules}
use Rattle.auto_core.proofs.MemberLemmas.{filter_has, filter_from}
use Rattle.auto_core.proofs.PathLemmas.{Contains-here, Contains-cons_cases, none_in_nil}
use Rattle.auto_laws.proofs.PlaceLemmas.{at_same, at_within, at_some, at_more, at_new, at_cases}
use Rattle.auto_laws.proofs.PlacingLemmas.{FitsBehind}
use Rattle.auto_laws.proofs.PairEntryLemmas.{origins_more}
use Rattle.antichain.specs.declared.parts.Held.{Held}
use Rattle.antichain.specs.declared.family.Family.{Family}
use Rattle.evidence.specs.Tables.{numbers_at}
use Rattle.antichain.specs.Kept.{IsKept, LiesAt, AreThoseAt, IsFamily, IsSubsumedOf, HasEntered, held_pair}
use Rattle.antichain.proofs.KeptLemmas.{to_entries, to_held}
use Rattle.evidence.proofs.FlagLemmas.{flag_before, flag_last, flag_was, stand_more, tells_more}
use Rattle.evidence.proofs.NumberLemmas.{at_of_contains, contains_of_at, increasing_push}

module _ (A B : Automaton) (S : List (ℕ × ℕ)) (old now : Family) (es : List Entry) (h : Held) (c : Entry)
    (family : IsFamily A B S old es) (kept : IsKept B S h c) (fits : FitsBehind A (IsPairPlacedAt A) es c)
    (state_in : h.state < A.states) (entered : HasEntered S h old now)
  where
    abbrev R : Rules Entry
    R = pair_rules A B S

    abbrev next : List Entry
    next = es ++ c ∷ []

    abbrev flags : List Bool
    flags = entered.flags

    next_size : length next ≡ length es + 1
    next_size = length-append es (c ∷ [])

    held_size : length now.held.items ≡ length es + 1
    held_size = let size = family.size in let more = length-append old.held.items (h ∷ []) in let e = ap length entered.held in omega arith

    flags_size : length flags ≡ length es
    flags_size = entered.dropped.size ∙ family.live_size

    live_size : length now.live.items ≡ length es + 1
    live_size = let more = length-append flags (true ∷ []) in let e = ap length entered.live in let size = flags_size in omega arith

    is_kept : (i : ℕ) (k : Held) (x : Entry) → At now.held.items i k → At next i x → IsKept B S k x
    is_kept i k x k_is x_is = stand_more Held (IsKept B S) old.held.items es h c family.size kept family.kept i k x (subst (λ l. At l i k) entered.held k_is) x_is

    -- The old numbers with the state of the new element.
    among : AreThoseAt es old.live.items h.state (numbers_at old.by_state.items h.state)
    among = family.those h.state state_in

    -- What is dropped has the state and is subsumed.
    dropped_is : (j : ℕ) → IsSubsumedOf S old.held.items (numbers_at old.by_state.items h.state) (held_pair h) j → LiesAt es old.live.items h.state j
    dropped_is j of = among.only j (contains_of_at (numbers_at old.by_state.items h.state) of.place j of.is)

    held_at : (i : ℕ) (x : Entry) → At es i x → (k : Held) × At old.held.items i k × IsKept B S k x
    held_at i x x_is =
        let within = at_within es i x x_is in
        let size = family.size in
        let k = at_some old.held.items i (omega arith) in
        (k.0, k.1, family.kept i k.0 x k.1 x_is)

    -- A live old element that the new one subsumes is dropped.
    is_dropped : (i : ℕ) (x : Entry) → At es i x → slice_index_or old.live.items i false ≡ true → R.subsumes c x → slice_index_or flags i false ≡ false
    is_dropped i x x_is was_live subsumes =
        let k = held_at i x x_is in
        let lies : LiesAt es old.live.items h.state i =
        record { element = x; is = x_is; stays = was_live; state = sym (kept.state ∙ subsumes.state) } in
        let at = at_of_contains (numbers_at old.by_state.items h.state) i (among.all i lies) in
        entered.dropped.all i (record {
          place = at.0;
          is = at.1;
          element = k.0;
          element_is = k.1;
          subsumes = to_held B S h k.0 c x kept k.2 subsumes;
        })

    each_is : (i : ℕ) → (slice_index_or flags i false ≡ slice_index_or old.live.items i false) ⊎ ((slice_index_or flags i false ≡ false) × (x : Entry) × At es i x × R.subsumes c x)
    each_is i = elim (entered.dropped.each i) [
      | inl same ↦ inl same
      | inr gone ↦
          let of = gone.1 in
          let lies = dropped_is i of in
          inr (gone.0, lies.element, lies.is, to_entries B S h of.element c lies.element kept (family.kept i of.element lies.element of.element_is lies.is) of.subsumes)
    ]

    tells : TellsLive R next (λ i. slice_index_or now.live.items i false)
    tells = subst (λ l. TellsLive R next (λ i. slice_index_or l i false)) (sym entered.live) (tells_more R es c old.live.items flags flags_size family.tells each_is is_dropped)

    flag_stood : (i : ℕ) → slice_index_or flags i false ≡ true → slice_index_or old.live.items i false ≡ true
    flag_stood i is = flag_was R es c old.live.items flags flags_size family.tells each_is is_dropped i is

    -- At other states the same elements lie.
    new_lies : (p j : ℕ) → LiesAt es old.live.items p j → slice_index_or flags j false ≡ true → LiesAt next (flags ++ true ∷ []) p j
    new_lies p j lies flag =
        let within = at_within es j lies.element lies.is in
        let count = flags_size in
        record { element = lies.element; is = at_more es (c ∷ []) j lies.element lies.is; stays = flag_before flags j (omega arith) ∙ flag; state = lies.state }

    old_lies : (p j : ℕ) → LiesAt next (flags ++ true ∷ []) p j → ((slice_index_or flags j false ≡ true) × LiesAt es old.live.items p j) ⊎ ((j ≡ length es) × (c.arc.to ≡ p))
    old_lies p j lies =
        let count = flags_size in
        elim (at_cases es c j lies.element lies.is) [
          | inl x_old ↦
              let within = at_within es j lies.element x_old in
              let flag : slice_index_or flags j false ≡ true = sym (flag_before flags j (omega arith)) ∙ lies.stays in
              inl (flag, record { element = lies.element; is = x_old; stays = flag_stood j flag; state = lies.state })
          | inr new ↦ inr (new.0, sym (ap (λ (z : Entry). z.arc.to) new.1) ∙ lies.state)
        ]

    those_others : (p : ℕ) → p < A.states → (p ≡ h.state → ⊥) → AreThoseAt next (flags ++ true ∷ []) p (numbers_at now.by_state.items p)
    those_others p p_in other =
        let was : AreThoseAt es old.live.items p (numbers_at old.by_state.items p) = family.those p p_in in
        let same : numbers_at now.by_state.items p ≡ numbers_at old.by_state.items p = entered.others p other in
        subst (AreThoseAt next (flags ++ true ∷ []) p) (sym same) (record {
          ascending = was.ascending;
          only = λ j has.
              let lies = was.only j has in
              new_lies p j lies (elim (entered.dropped.each j) [
                | inl as_was ↦ as_was ∙ lies.stays
                | inr gone ↦
                    let there = dropped_is j gone.1 in
                    let one : there.element ≡ lies.element = at_same es j there.element lies.element there.is lies.is in
                    absurd (other (sym lies.state ∙ sym (ap (λ (z : Entry). z.arc.to) one) ∙ there.state))
              ]);
          all = λ j lies. elim (old_lies p j lies) [
            | inl before ↦ was.all j before.1
            | inr new ↦ absurd (other (sym new.1 ∙ sym kept.state))
          ];
        })

    those_here : AreThoseAt next (flags ++ true ∷ []) h.state (numbers_at now.by_state.items h.state)
    those_here =
        let numbers : List ℕ = numbers_at old.by_state.items h.state in
        let live : ℕ → Bool = λ j. slice_index_or flags j false in
        let size = family.size in
        let count = flags_size in
        subst (AreThoseAt next (flags ++ true ∷ []) h.state) (sym entered.here) (record {
          ascending = increasing_push (filter live numbers) (length old.held.items) (IsStrictlyIncreasing-filter live numbers among.ascending)
              (λ j has. let lies = among.only j (filter_from live numbers j has).0 in let within = at_within es j lies.element lies.is in omega arith);
          only = λ j has. elim (Contains-append_cases (filter live numbers) (length old.held.items ∷ []) j has) [
            | inl before ↦ let kept_one = filter_from live numbers j before in new_lies h.state j (among.only j kept_one.0) kept_one.1
            | inr last ↦ elim (Contains-cons_cases (length old.held.items) j [] last) [
              | inr none ↦ absurd (none_in_nil j none)
              | inl e ↦
                  let here : j ≡ length es = sym e ∙ size in
                  record {
                    element = c;
                    is = subst (λ k. At next k c) (sym here) (at_new es c);
                    stays = flag_last flags j (here ∙ sym flags_size);
                    state = sym kept.state;
                  }
            ]
          ];
          all = λ j lies. elim (old_lies h.state j lies) [
            | inl before ↦ Contains-append_left (filter live numbers) (length old.held.items ∷ []) j (filter_has live numbers j (among.all j before.1) before.0)
            | inr new ↦ Contains-append_right (filter live numbers) (length old.held.items ∷ []) j (Contains-here (length old.held.items) j [] (size ∙ sym new.0))
          ];
        })

    those : (p : ℕ) → p < A.states → AreThoseAt next (flags ++ true ∷ []) p (numbers_at now.by_state.items p)
    those p p_in = elim (cases_eq p h.state) [
      | inr other ↦ those_others p p_in other
      | inl same ↦ subst (λ r. AreThoseAt next (flags ++ true ∷ []) r (numbers_at now.by_state.items r)) (sym same) those_here
    ]

    pub entered_family : IsFamily A B S now next
    entered_family = record {
      size = held_size ∙ sym next_size;
      live_size = live_size ∙ sym next_size;
      table_size = entered.table_size ∙ family.table_size;
      origins = origins_more A es c family.origins fits;
      kept = is_kept;
      tells = tells;
      those = λ p p_in. subst (λ l. AreThoseAt next l p (numbers_at now.by_state.items p)) (sym entered.live) (those p p_in);
    }
