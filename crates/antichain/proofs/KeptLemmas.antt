-- Kept rows are those of the words' sets.
use Rattle.std.proofs.Common.{◌≡◌, ℕ, ◌↔◌, false, List, slice_index_or, refl, sym, ◌∙◌, subst}
use Rattle.auto_core.specs.Automaton.{Automaton, IsAccepting, trans_at}
use Rattle.auto_core.specs.Game.{Holds}
use Rattle.auto_core.specs.Rows.{HasBit}
use Rattle.auto_core.specs.Outcome.{Entry, next_entry}
use Rattle.auto_core.specs.Pairs.{set_after, PairSubsumes, PairPasses, PairFails}
use Rattle.auto_core.specs.PairOutcome.{pair_entry, start_entry}
use Rattle.auto_core.specs.declared.parts.Origin.TheVariants.{Start, Next}
use Rattle.auto_laws.proofs.PairLemmas.{sets_extend}
use Rattle.set_rows.specs.Sets.{IsRow, IsSubset, IsCovered}
use Rattle.antichain.specs.Kept.{IsKept, IsPrepared, held_pair}
use Rattle.antichain.specs.declared.parts.Held.{Held}

-- What prepares an element, by an order on as many states.
pub prepared_by : (n : ℕ) (S : List (ℕ × ℕ)) (h : Held) (m : ℕ) → m ≡ n → IsRow n h.members.items → IsRow m h.below.items →
    ((other : List ℕ) → IsSubset other h.below.items ↔ IsCovered (Holds S) other h.members.items) →
    h.head ≡ slice_index_or h.members.items 0 0 → h.below_head ≡ slice_index_or h.below.items 0 0 → IsPrepared n S h
prepared_by n S h m same row below covering head below_head = record { row = row; below = subst (λ k. IsRow k h.below.items) same below; covering = covering; head = head; below_head = below_head }

pub start_kept : (A B : Automaton) (S : List (ℕ × ℕ)) (h : Held) → h.origin ≡ Start → h.state ≡ A.initial → IsPrepared B.states S h →
    ((q : ℕ) → HasBit h.members.items q ↔ (q ≡ B.initial)) → IsKept B S h (start_entry A)
start_kept A B S h origin state prepared members = record {
  origin = origin;
  state = state;
  prepared = prepared;
  members = λ q. (
    λ is. (false, (sym ((members q).0 is), refl)),
    λ (flag, run). (members q).1 (sym run.0),
  );
}

pub next_kept : (A B : Automaton) (S : List (ℕ × ℕ)) (e t : ℕ) (from h : Held) (x : Entry) → IsKept B S from x → h.origin ≡ Next e t → h.state ≡ (trans_at A t).target → IsPrepared B.states S h →
    ((q : ℕ) → HasBit h.members.items q ↔ set_after B (HasBit from.members.items) (trans_at A t).label q) → IsKept B S h (next_entry A e x t)
next_kept A B S e t from h x kept origin state prepared members = record {
  origin = origin;
  state = state;
  prepared = prepared;
  members = λ q. (
    λ is. let r = (members q).0 is in (sets_extend B x.arc.word (trans_at A t).label q).1 (r.0, (kept.members r.0).0 r.1, r.2),
    λ is. let r = (sets_extend B x.arc.word (trans_at A t).label q).0 is in (members q).1 (r.0, (kept.members r.0).1 r.1, r.2),
  );
}

-- Kept elements subsume one another where the entries do.
pub to_entries : (B : Automaton) (S : List (ℕ × ℕ)) (h k : Held) (x y : Entry) → IsKept B S h x → IsKept B S k y → PairSubsumes (Holds S) (held_pair h) (held_pair k) → PairSubsumes (Holds S) (pair_entry B x) (pair_entry B y)
to_entries B S h k x y h_kept k_kept is = record {
  state = sym h_kept.state ∙ is.state ∙ k_kept.state;
  members = λ q in_x.
      let r = is.members q ((h_kept.members q).1 in_x) in
      (r.0, (k_kept.members r.0).0 r.1, r.2);
}

pub to_held : (B : Automaton) (S : List (ℕ × ℕ)) (h k : Held) (x y : Entry) → IsKept B S h x → IsKept B S k y → PairSubsumes (Holds S) (pair_entry B x) (pair_entry B y) → PairSubsumes (Holds S) (held_pair h) (held_pair k)
to_held B S h k x y h_kept k_kept is = record {
  state = h_kept.state ∙ is.state ∙ sym k_kept.state;
  members = λ q in_h.
      let r = is.members q ((h_kept.members q).0 in_h) in
      (r.0, (k_kept.members r.0).1 r.1, r.2);
}

-- They pass and fail alike.
pub entry_passes : (A B : Automaton) (S : List (ℕ × ℕ)) (h : Held) (x : Entry) → IsKept B S h x → PairPasses A B (held_pair h) → PairPasses A B (pair_entry B x)
entry_passes A B S h x kept passes = λ accepts.
    let q = passes (subst (λ p. IsAccepting A p) (sym kept.state) accepts) in
    (q.0, (kept.members q.0).0 q.1, q.2)

pub entry_fails : (A B : Automaton) (S : List (ℕ × ℕ)) (h : Held) (x : Entry) → IsKept B S h x → PairFails A B (held_pair h) → PairFails A B (pair_entry B x)
entry_fails A B S h x kept fails = (
  subst (λ p. IsAccepting A p) kept.state fails.0,
  λ q in_x ends. fails.1 q ((kept.members q).1 in_x) ends,
)

-- One test of rows tells whether a kept element subsumes a prepared one.
pub subset_subsumes : (n : ℕ) (S : List (ℕ × ℕ)) (h k : Held) → IsPrepared n S k → ((h.state ≡ k.state) × IsSubset h.members.items k.below.items) ↔ PairSubsumes (Holds S) (held_pair h) (held_pair k)
subset_subsumes n S h k prepared = (
  λ is. record { state = is.0; members = (prepared.covering h.members.items).0 is.1 },
  λ is. (is.state, (prepared.covering h.members.items).1 is.members),
)
