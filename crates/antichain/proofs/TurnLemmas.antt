-- The search, candidate by candidate.
use Rattle.std.proofs.Common.{◌≡◌, ℕ, ◌+◌, ◌<◌, ◌≤◌, true, false, List, [], ◌∷◌, ◌++◌, length, map, slice_index_or, refl, sym, ap, ◌∙◌, subst, inl, arith, length-append}
use Rattle.auto_core.specs.Automaton.{Automaton, IsAutomaton, trans_at, IsOutgoing}
use Rattle.auto_core.specs.Game.{Holds, IsGreatestForward}
use Rattle.auto_core.specs.Graph.{WordArc}
use Rattle.auto_core.specs.Pairs.{PairSubsumes, PairPasses, PairFails, IsPairPlacedAt}
use Rattle.auto_core.specs.Outcome.{At, Entry, Closed, Apart, Limit, HasSubsumer, HasNoSubsumer, PassesBefore, FirstFailing, Comes, passed_over, limit_met, told_apart, entered, done, next_entry, arcs_in}
use Rattle.auto_core.specs.PairOutcome.{pair_entry, start_entry, pair_rules}
use Rattle.auto_core.specs.declared.parts.Origin.TheVariants.{Start, Next}
use Rattle.auto_laws.specs.PairOutcomes.{HavePairOrigins}
use Rattle.auto_laws.proofs.PlaceLemmas.{at_within, at_some, at_more, at_new, at_before, read_at}
use Rattle.auto_laws.proofs.PairLemmas.{reached_in_range, pair_subsumes_itself}
use Rattle.auto_laws.proofs.PlacingLemmas.{FitsBehind, next_fits}
use Rattle.auto_laws.proofs.PairEntryLemmas.{pair_placing, origins_more, entry_is_reached}
use Rattle.evidence.proofs.RangeLemmas.{extensions_from, extensions_more}
use Rattle.evidence.proofs.TurnLemmas.{live_leads, dropped_leads}
use Rattle.evidence.specs.Entries.{entry_of, entries_of}
use Rattle.antichain.specs.declared.parts.Held.{Held}
use Rattle.antichain.specs.declared.family.Family.{Family}
use Rattle.antichain.specs.declared.parts.Fate.{Fate}
use Rattle.antichain.specs.declared.parts.Fate.TheVariants as fates
use Rattle.evidence.specs.Tables.{numbers_at}
use Rattle.antichain.specs.Kept.{IsKept, IsPrepared, IsFamily, IsWhole, IsCandidate, IsTold, FitsTogether, HasEntered, HasCome, HasEnded, Leads, entries_held}
use Rattle.antichain.proofs.EntriesLemmas.{entries_entered}
use Rattle.antichain.proofs.EnteredLemmas.{entered_family}
use Rattle.evidence.proofs.NumberLemmas.{contains_of_at}

pub held_in_range : (A B : Automaton) (S : List (ℕ × ℕ)) → IsAutomaton A → (es : List Entry) → HavePairOrigins A es → (i : ℕ) (x : Entry) (h : Held) → At es i x → IsKept B S h x → h.state < A.states
held_in_range A B S valid es have i x h is kept = subst (λ k. k < A.states) (sym kept.state) (reached_in_range A valid x.arc (entry_is_reached A es have i x is))

-- A family's parts fit together.
pub fits_together : (A B : Automaton) (S : List (ℕ × ℕ)) (n : ℕ) (f : Family) (es : List Entry) → n ≡ B.states → IsFamily A B S f es → FitsTogether n S f
fits_together A B S n f es same family = record {
  live_size = family.live_size ∙ sym family.size;
  there = λ p p_in k j is.
      let numbers : List ℕ = numbers_at f.by_state.items p in
      let among = family.those p (subst (λ m. p < m) family.table_size p_in) in
      let lies = among.only j (contains_of_at numbers k j is) in
      let within = at_within es j lies.element lies.is in
      let size = family.size in
      omega arith;
  prepared = λ i h h_is.
      let within = at_within f.held.items i h h_is in
      let size = family.size in
      let x = at_some es i (omega arith) in
      subst (λ m. IsPrepared m S h) (sym same) (family.kept i h x.0 h_is x.1).prepared;
}

-- The candidate's state is one.
fits_behind : (A B : Automaton) (S : List (ℕ × ℕ)) (es : List Entry) (h : Held) → IsCandidate A B S es h → FitsBehind A (IsPairPlacedAt A) es (entry_of A es h.origin)
fits_behind A B S es h candidate = record { placed = candidate.placed; is = refl }

pub candidate_in_range : (A B : Automaton) (S : List (ℕ × ℕ)) → IsAutomaton A → (es : List Entry) → HavePairOrigins A es → (h : Held) → IsCandidate A B S es h → h.state < A.states
candidate_in_range A B S valid es have h candidate =
    let c : Entry = entry_of A es h.origin in
    held_in_range A B S valid (es ++ c ∷ []) (origins_more A es c have (fits_behind A B S es h candidate)) (length es) c h (at_new es c) candidate.kept

-- After the candidate has entered.
pub entered_whole : (A B : Automaton) (S : List (ℕ × ℕ)) → IsAutomaton A → (old now : Family) (h : Held) → IsWhole A B S old → IsCandidate A B S (entries_held A old) h →
    HasEntered S h old now → IsFamily A B S now (entries_held A old ++ entry_of A (entries_held A old) h.origin ∷ [])
entered_whole A B S valid old now h whole candidate has =
    let es : List Entry = entries_held A old in
    entered_family A B S old now es h (entry_of A es h.origin) whole candidate.kept (fits_behind A B S es h candidate) (candidate_in_range A B S valid es whole.origins h candidate) has

-- The newest element passes, or it fails. It is no earlier one, since it would be subsumed by that.
pub told_passes : (A B : Automaton) (S : List (ℕ × ℕ)) (es : List Entry) (c : Entry) → PairPasses A B (pair_entry B c) → PassesBefore (pair_rules A B S) (es ++ c ∷ []) c (length (es ++ c ∷ []))
told_passes A B S es c passes i y lt is live = (λ e. passes, λ e. subst (λ z. PairPasses A B (pair_entry B z)) (sym e) passes)

pub told_fails : (A B : Automaton) (S : List (ℕ × ℕ)) → IsAutomaton B → IsGreatestForward B 1 S → (es : List Entry) (c : Entry) → HasNoSubsumer (pair_rules A B S) es c → PairFails A B (pair_entry B c) →
    FirstFailing (pair_rules A B S) (es ++ c ∷ []) c c c
told_fails A B S valid greatest es c none fails = record {
  place = length es;
  other = c;
  is = at_new es c;
  live = λ j x y later x_is y_is subsumes.
      let within = at_within (es ++ c ∷ []) j y y_is in
      let size = length-append es (c ∷ []) in
      absurd (omega arith);
  before = λ i y lt is live.
      let not_same : (c ≡ y) → ⊥ = λ e. none i y (at_before es c i y lt is) (subst (λ z. PairSubsumes (Holds S) (pair_entry B z) (pair_entry B c)) e (pair_subsumes_itself B S valid greatest c.arc)) in
      (λ e. absurd (not_same e), λ e. absurd (not_same (sym e)));
  fails = inl (refl, refl, (refl, fails));
}

-- Steps of the search go on from one another.
leads_then : (A B : Automaton) (S : List (ℕ × ℕ)) (limit : ℕ) (es mid now cs mid_cs left : List Entry) (turn mid_turn later : ℕ) (fate : Fate) →
    Leads A B S limit es cs turn fates.GoesOn mid mid_cs mid_turn → Leads A B S limit mid mid_cs mid_turn fate now left later → Leads A B S limit es cs turn fate now left later
leads_then A B S limit es mid now cs mid_cs left turn mid_turn later fates.GoesOn first second = λ o rest. first o (second o rest)
leads_then A B S limit es mid now cs mid_cs left turn mid_turn later (fates.Apart i) first second = (second.0, second.1, first (Apart second.0 second.0) second.2)
leads_then A B S limit es mid now cs mid_cs left turn mid_turn later fates.Limit first second = first (Limit now) second

pub come_then : (A B : Automaton) (S : List (ℕ × ℕ)) (limit : ℕ) (old mid now : Family) (cs mid_cs left : List Entry) (turn mid_turn later : ℕ) (fate : Fate) →
    HasCome A B S limit old mid fates.GoesOn cs mid_cs turn mid_turn → HasCome A B S limit mid now fate mid_cs left mid_turn later → HasCome A B S limit old now fate cs left turn later
come_then A B S limit old mid now cs mid_cs left turn mid_turn later fate first second = record {
  whole = second.whole;
  few = second.few;
  grown = λ i x is. second.grown i x (first.grown i x is);
  leads = leads_then A B S limit (entries_held A old) (entries_held A mid) (entries_held A now) cs mid_cs left turn mid_turn later fate first.leads second.leads;
}

-- Nothing has happened yet.
pub come_first : (A B : Automaton) (S : List (ℕ × ℕ)) (limit : ℕ) (f : Family) (cs : List Entry) (turn : ℕ) → IsWhole A B S f → length f.held.items ≤ limit → HasCome A B S limit f f fates.GoesOn cs cs turn turn
come_first A B S limit f cs turn whole few = record { whole = whole; few = λ e. few; grown = λ i x is. is; leads = λ o rest. rest }

-- A candidate that an element subsumes.
pub come_past : (A B : Automaton) (S : List (ℕ × ℕ)) (limit : ℕ) (f : Family) (c : Entry) (cs : List Entry) (turn : ℕ) → IsWhole A B S f → length f.held.items ≤ limit →
    HasSubsumer (pair_rules A B S) (entries_held A f) c → HasCome A B S limit f f fates.GoesOn (c ∷ cs) cs turn turn
come_past A B S limit f c cs turn whole few has = record { whole = whole; few = λ e. few; grown = λ i x is. is; leads = λ o rest. passed_over has rest }

-- A candidate that enters.
module _ (A B : Automaton) (S : List (ℕ × ℕ)) (limit : ℕ) (old now : Family) (h : Held) (cs : List Entry) (turn : ℕ)
    (family : IsFamily A B S now (entries_held A old ++ entry_of A (entries_held A old) h.origin ∷ []))
    (held : now.held.items ≡ old.held.items ++ h ∷ [])
    (size : length old.held.items ≡ length (entries_held A old))
    (none : HasNoSubsumer (pair_rules A B S) (entries_held A old) (entry_of A (entries_held A old) h.origin))
  where
    abbrev es : List Entry
    es = entries_held A old

    abbrev c : Entry
    c = entry_of A es h.origin

    now_is : entries_held A now ≡ es ++ c ∷ []
    now_is = entries_entered A old now h held

    pub is_whole : IsWhole A B S now
    is_whole = subst (IsFamily A B S now) (sym now_is) family

    grows : (i : ℕ) (x : Entry) → At es i x → At (entries_held A now) i x
    grows i x is = subst (λ l. At l i x) (sym now_is) (at_more es (c ∷ []) i x is)

    pub come_limit : length old.held.items ≡ limit → HasCome A B S limit old now fates.Limit (c ∷ cs) cs turn turn
    come_limit met = record {
      whole = is_whole;
      few = λ e. absurd (cc);
      grown = grows;
      leads = limit_met none (sym size ∙ met) (ap Limit now_is);
    }

    pub come_in : length old.held.items < limit → (fate : Fate) → IsTold A B S (entries_held A now) c fate → HasCome A B S limit old now fate (c ∷ cs) cs turn turn
    come_in few fates.GoesOn told = record {
      whole = is_whole;
      few = λ e. let more = length-append old.held.items (h ∷ []) in let total = ap length held in omega arith;
      grown = grows;
      leads = λ o rest.
          entered none (subst (λ k. k < limit) size few) (subst (λ l. PassesBefore (pair_rules A B S) l c (length l)) now_is told)
          (subst (λ l. Comes Entry (pair_rules A B S) limit l cs turn o) now_is rest);
    }
    come_in few (fates.Apart i) (c_is, first) = record {
      whole = is_whole;
      few = λ e. absurd (cc);
      grown = grows;
      leads = (c, c_is, told_apart c c none (subst (λ k. k < limit) size few) (subst (λ l. FirstFailing (pair_rules A B S) l c c c) now_is first) refl);
    }
    come_in few fates.Limit told = absurd told

-- Where the search has ended, what was left does not matter.
pub come_ends : (A B : Automaton) (S : List (ℕ × ℕ)) (limit : ℕ) (old now : Family) (fate : Fate) (cs left other : List Entry) (turn later last : ℕ) → (fate ≡ fates.GoesOn → ⊥) →
    HasCome A B S limit old now fate cs left turn later → HasCome A B S limit old now fate cs other turn last
come_ends A B S limit old now fates.GoesOn cs left other turn later last not come = absurd (not refl)
come_ends A B S limit old now (fates.Apart i) cs left other turn later last not come = record { whole = come.whole; few = come.few; grown = come.grown; leads = come.leads }
come_ends A B S limit old now fates.Limit cs left other turn later last not come = record { whole = come.whole; few = come.few; grown = come.grown; leads = come.leads }

-- The candidates of the start and of a turn.
pub start_is_candidate : (A B : Automaton) (S : List (ℕ × ℕ)) (es : List Entry) (h : Held) → IsKept B S h (start_entry A) → IsCandidate A B S es h × (entry_of A es h.origin ≡ start_entry A)
start_is_candidate A B S es h kept =
    let is : h.origin ≡ Start = kept.origin in
    let same : entry_of A es h.origin ≡ start_entry A = ap (entry_of A es) is in
    (record { placed = subst (IsPairPlacedAt A (arcs_in es) (length es)) (sym is) tt; kept = subst (IsKept B S h) (sym same) kept }, same)

pub next_is_candidate : (A B : Automaton) (S : List (ℕ × ℕ)) (es : List Entry) (e t : ℕ) (x : Entry) (h : Held) → At es e x → t < length A.transitions → (trans_at A t).source ≡ x.arc.to → IsKept B S h (next_entry A e x t) →
    IsCandidate A B S es h × (entry_of A es h.origin ≡ next_entry A e x t)
next_is_candidate A B S es e t x h x_is lt leaves kept =
    let is : h.origin ≡ Next e t = kept.origin in
    let fits = next_fits A (IsPairPlacedAt A) (pair_placing A) es e t x x_is lt leaves in
    let same : entry_of A es h.origin ≡ next_entry A e x t = ap (entry_of A es) is ∙ ap (λ (a : WordArc). record { origin = Next e t; arc = a }) fits.is in
    (record { placed = subst (IsPairPlacedAt A (arcs_in es) (length es)) (sym is) fits.placed; kept = subst (IsKept B S h) (sym same) kept }, same)

-- The kept element h stands for this element of the family.
pub record StandsFor (A B : Automaton) (S : List (ℕ × ℕ)) (es : List Entry) (e : ℕ) (h : Held) : Type 0 where
  pub entry : Entry
  pub is : At es e entry
  pub kept : IsKept B S h entry

pub stands_for : (A B : Automaton) (S : List (ℕ × ℕ)) (f : Family) (e : ℕ) (h : Held) → IsWhole A B S f → At f.held.items e h → StandsFor A B S (entries_held A f) e h
stands_for A B S f e h whole is =
    let within = at_within f.held.items e h is in
    let size = whole.size in
    let x = at_some (entries_held A f) e (omega arith) in
    record { entry = x.0; is = x.1; kept = whole.kept e h x.0 is x.1 }

pub stands_at : (A B : Automaton) (S : List (ℕ × ℕ)) (f : Family) (e : ℕ) (h : Held) → IsWhole A B S f → e < length f.held.items → h ≡ slice_index_or f.held.items e h → StandsFor A B S (entries_held A f) e h
stands_at A B S f e h whole lt is = stands_for A B S f e h whole (read_at f.held.items e h h lt is)

pub state_in_range : (A B : Automaton) (S : List (ℕ × ℕ)) → IsAutomaton A → (f : Family) (e : ℕ) (h : Held) → IsWhole A B S f → At f.held.items e h → h.state < A.states
state_in_range A B S valid f e h whole is =
    let x = stands_for A B S f e h whole is in
    held_in_range A B S valid (entries_held A f) whole.origins e x.entry h x.is x.kept

-- The kept element h stands for the extension of x by a transition that leaves its state, and may come behind these.
pub record IsNext (A B : Automaton) (S : List (ℕ × ℕ)) (es : List Entry) (e t : ℕ) (x : Entry) (h : Held) : Type 0 where
  pub within : t < length A.transitions
  pub leaves : (trans_at A t).source ≡ x.arc.to
  pub kept : IsKept B S h (next_entry A e x t)
  pub candidate : IsCandidate A B S es h
  pub is : entry_of A es h.origin ≡ next_entry A e x t
  pub state_in : h.state < A.states

pub next_stands : (A B : Automaton) (S : List (ℕ × ℕ)) → IsAutomaton A → (es : List Entry) → HavePairOrigins A es → (e t : ℕ) (from : Held) (x : Entry) (h : Held) → At es e x → IsKept B S from x →
    (begin end : ℕ) → IsOutgoing A from.state begin end → begin ≤ t → t < end → IsKept B S h (next_entry A e x t) → IsNext A B S es e t x h
next_stands A B S valid es have e t from x h is from_kept begin end out at_least below kept =
    let most = out.within in
    let lt : t < length A.transitions = omega arith in
    let leaves : (trans_at A t).source ≡ x.arc.to = out.inside t at_least below ∙ from_kept.state in
    let candidate = next_is_candidate A B S es e t x h is lt leaves kept in
    record { within = lt; leaves = leaves; kept = kept; candidate = candidate.0; is = candidate.1; state_in = candidate_in_range A B S valid es have h candidate.0 }

-- A turn begins.
pub turn_begins : (A B : Automaton) (S : List (ℕ × ℕ)) (limit : ℕ) (f : Family) (turn begin end : ℕ) (x : Entry) → IsWhole A B S f → length f.held.items ≤ limit → At (entries_held A f) turn x →
    slice_index_or f.live.items turn false ≡ true → IsOutgoing A x.arc.to begin end → HasCome A B S limit f f fates.GoesOn [] (extensions_from A turn x begin end) turn (turn + 1)
turn_begins A B S limit f turn begin end x whole few x_is live out = record {
  whole = whole;
  few = λ e. few;
  grown = λ i y is. is;
  leads = live_leads A (pair_rules A B S) limit (entries_held A f) turn begin end x refl x_is (whole.tells.stays turn (at_within (entries_held A f) turn x x_is) live) out;
}

pub turn_passes : (A B : Automaton) (S : List (ℕ × ℕ)) (limit : ℕ) (f : Family) (turn : ℕ) → IsWhole A B S f → length f.held.items ≤ limit → turn < length f.held.items →
    slice_index_or f.live.items turn false ≡ false → HasCome A B S limit f f fates.GoesOn [] [] turn (turn + 1)
turn_passes A B S limit f turn whole few lt gone =
    let size = whole.size in
    record { whole = whole; few = λ e. few; grown = λ i y is. is; leads = dropped_leads (pair_rules A B S) limit (entries_held A f) turn (whole.tells.drops turn (omega arith) gone) }

-- An extension comes after those before it.
pub comes_next : (A B : Automaton) (S : List (ℕ × ℕ)) (limit : ℕ) (old mid now : Family) (turn t end : ℕ) (x : Entry) (h : Held) (fate : Fate) → t < end →
    HasCome A B S limit old mid fates.GoesOn [] (extensions_from A turn x t end) turn (turn + 1) → entry_of A (entries_held A mid) h.origin ≡ next_entry A turn x t →
    ((cs : List Entry) (k : ℕ) → HasCome A B S limit mid now fate (entry_of A (entries_held A mid) h.origin ∷ cs) cs k k) →
    HasCome A B S limit old now fate [] (extensions_from A turn x (t + 1) end) turn (turn + 1)
comes_next A B S limit old mid now turn t end x h fate below come is one =
    let rest : List Entry = extensions_from A turn x (t + 1) end in
    let before : HasCome A B S limit old mid fates.GoesOn [] (next_entry A turn x t ∷ rest) turn (turn + 1) =
    subst (λ l. HasCome A B S limit old mid fates.GoesOn [] l turn (turn + 1)) (extensions_more A turn x t end below) come in
    let next : HasCome A B S limit mid now fate (next_entry A turn x t ∷ rest) rest (turn + 1) (turn + 1) =
    subst (λ y. HasCome A B S limit mid now fate (y ∷ rest) rest (turn + 1) (turn + 1)) is (one rest (turn + 1)) in
    come_then A B S limit old mid now [] (next_entry A turn x t ∷ rest) rest turn (turn + 1) (turn + 1) fate before next

-- The whole search.
pub entries_none : (A : Automaton) (f : Family) → f.held.items ≡ [] → entries_held A f ≡ []
entries_none A f none = ap (λ l. entries_of A (map (λ (h : Held). h.origin) l)) none

pub has_ended : (A B : Automaton) (S : List (ℕ × ℕ)) (limit : ℕ) (old now : Family) (fate : Fate) (turn : ℕ) → old.held.items ≡ [] → (fate ≡ fates.GoesOn → length now.held.items ≤ turn) →
    HasCome A B S limit old now fate (pair_rules A B S).starts [] 0 turn → HasEnded A B S limit fate (entries_held A now)
has_ended A B S limit old now fates.GoesOn turn none over come =
    let size = come.whole.size in
    let past = over refl in
    subst (λ l. Comes Entry (pair_rules A B S) limit l (pair_rules A B S).starts 0 (Closed (entries_held A now))) (entries_none A old none)
    (come.leads (Closed (entries_held A now)) (done (omega arith) refl))
has_ended A B S limit old now (fates.Apart i) turn none over come = (
  come.leads.0,
  come.leads.1,
  subst (λ l. Comes Entry (pair_rules A B S) limit l (pair_rules A B S).starts 0 (Apart come.leads.0 come.leads.0)) (entries_none A old none) come.leads.2,
)
has_ended A B S limit old now fates.Limit turn none over come =
    subst (λ l. Comes Entry (pair_rules A B S) limit l (pair_rules A B S).starts 0 (Limit (entries_held A now))) (entries_none A old none) come.leads
