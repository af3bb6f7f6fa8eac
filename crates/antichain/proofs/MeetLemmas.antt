-- What meeting the live elements with its ends tells of a candidate.
use Rattle.std.proofs.Common.{◌≡◌, ℕ, ◌<◌, true, false, List, slice_index_or, sym, ◌∙◌, inl, inr, arith}
use Rattle.std.proofs.lemmas.Bool.{cases_Bool}
use Rattle.auto_core.specs.Automaton.{Automaton}
use Rattle.auto_core.specs.Game.{IsGreatestForward}
use Rattle.auto_core.specs.Outcome.{At, Entry, Rules, HasSubsumer, HasNoSubsumer, IsLeastSubsumer}
use Rattle.auto_core.specs.PairOutcome.{pair_rules}
use Rattle.auto_laws.proofs.PairOutcomeLemmas.{pair_entries_join}
use Rattle.auto_laws.proofs.PlaceLemmas.{at_within, at_some}
use Rattle.auto_laws.proofs.LiveLemmas.{live_one}
use Rattle.antichain.specs.declared.parts.Held.{Held}
use Rattle.antichain.specs.declared.family.Family.{Family}
use Rattle.evidence.specs.Tables.{numbers_at}
use Rattle.antichain.specs.Kept.{IsKept, AreThoseAt, IsFamily, NoneSubsumes, IsFirstSubsumer, held_pair}
use Rattle.antichain.proofs.KeptLemmas.{to_entries, to_held}
use Rattle.evidence.proofs.NumberLemmas.{at_of_contains, contains_of_at, earlier_is_less}

module _ (A B : Automaton) (S : List (ℕ × ℕ)) (greatest : IsGreatestForward B 1 S) (f : Family) (es : List Entry) (h : Held) (c : Entry)
    (family : IsFamily A B S f es) (kept : IsKept B S h c) (state_in : h.state < A.states)
  where
    abbrev R : Rules Entry
    R = pair_rules A B S

    abbrev numbers : List ℕ
    numbers = numbers_at f.by_state.items h.state

    among : AreThoseAt es f.live.items h.state numbers
    among = family.those h.state state_in

    joins : (x y z : Entry) → R.subsumes x y → R.subsumes y z → R.subsumes x z
    joins = pair_entries_join A B S greatest

    -- A live element that subsumes it has one of the numbers.
    has_number : (i : ℕ) (x : Entry) → At es i x → slice_index_or f.live.items i false ≡ true → R.subsumes x c → (k : ℕ) × At numbers k i
    has_number i x x_is live subsumes =
        at_of_contains numbers i (among.all i (record {
          element = x;
          is = x_is;
          stays = live;
          state = subsumes.state ∙ sym kept.state;
        }))

    held_at : (i : ℕ) (x : Entry) → At es i x → (k : Held) × At f.held.items i k × IsKept B S k x
    held_at i x x_is =
        let within = at_within es i x x_is in
        let size = family.size in
        let k = at_some f.held.items i (omega arith) in
        (k.0, k.1, family.kept i k.0 x k.1 x_is)

    pub none_at_all : NoneSubsumes S f.held.items numbers (held_pair h) → HasNoSubsumer R es c
    none_at_all none i y y_is subsumes =
        let one = live_one Entry R joins es (λ k. slice_index_or f.live.items k false) family.tells c (i, y, y_is, subsumes) in
        let x : Entry = one.2.element in
        let k = held_at one.0 x one.2.is in
        let at = has_number one.0 x one.2.is one.1 one.2.subsumes in
        none at.0 one.0 k.0 at.1 k.1 (to_held B S k.0 h x c k.2 kept one.2.subsumes)

    pub first_is_least : (j : ℕ) → IsFirstSubsumer S f.held.items numbers (held_pair h) j → IsLeastSubsumer R es c j
    first_is_least j first =
        let lies = among.only j (contains_of_at numbers first.place j first.is) in
        let x : Entry = lies.element in
        let own : IsKept B S first.element x = family.kept j first.element x first.element_is lies.is in
        let within = at_within es j x lies.is in
        record {
          here = record { element = x; is = lies.is; live = family.tells.stays j within lies.stays; subsumes = to_entries B S first.element h x c own kept first.subsumes };
          least = λ i less other.
              let i_in = at_within es i other.element other.is in
              elim (cases_Bool (slice_index_or f.live.items i false)) [
                | inr gone ↦
                    let d = family.tells.drops i i_in gone in
                    other.live d.place d.element d.by d.later d.is d.by_is d.subsumes
                | inl live ↦
                    let k = held_at i other.element other.is in
                    let at = has_number i other.element other.is live other.subsumes in
                    first.before at.0 i k.0 (earlier_is_less numbers among.ascending at.0 first.place i j at.1 first.is less) at.1 k.1
                    (to_held B S k.0 h other.element c k.2 kept other.subsumes)
              ];
        }

    pub first_subsumes : (j : ℕ) → IsFirstSubsumer S f.held.items numbers (held_pair h) j → HasSubsumer R es c
    first_subsumes j first = let least = first_is_least j first in (j, least.here.element, least.here.is, least.here.subsumes)
