-- The family at the beginning, and what its elements' origins name.
use Rattle.std.proofs.Common.{◌≡◌, ℕ, ◌<◌, Bool, List, [], length, map, slice_index_or, sym, ap, ◌∙◌, subst, arith}
use Rattle.std.proofs.lemmas.List.{length-map}
use Rattle.auto_core.specs.Automaton.{Automaton}
use Rattle.auto_core.specs.Graph.{arc_at, arcs_of, WordArc}
use Rattle.auto_core.specs.Pairs.{ArePairsPlaced, IsPairPlacedAt}
use Rattle.auto_core.specs.Outcome.{At, Entry, origins_in}
use Rattle.auto_core.specs.declared.parts.Origin.{Origin}
use Rattle.auto_core.specs.declared.parts.Origin.TheVariants.{Start, Base, Next}
use Rattle.auto_core.proofs.PathLemmas.{none_in_nil}
use Rattle.supergraph.specs.Words.{NamesWhatIsThere, NameWhatIsThere, word_at}
use Rattle.auto_laws.proofs.PlaceLemmas.{at_within}
use Rattle.auto_laws.proofs.PlacingLemmas.{arc_here}
use Rattle.auto_laws.proofs.PairEntryLemmas.{origins_of_none}
use Rattle.antichain.specs.declared.parts.Held.{Held}
use Rattle.antichain.specs.declared.family.Family.{Family}
use Rattle.evidence.specs.Tables.{numbers_at}
use Rattle.antichain.specs.Kept.{AreThoseAt, IsFamily, IsWhole, entries_held}
use Rattle.antichain.proofs.TurnLemmas.{entries_none}
use Rattle.evidence.proofs.EntriesLemmas.{origins_of_entries}

nothing_at : (live : List Bool) (p : ℕ) → AreThoseAt [] live p []
nothing_at live p = record {
  ascending = λ k lt. absurd (omega arith);
  only = λ j has. absurd (none_in_nil j has);
  all = λ j lies. let within = at_within [] j lies.element lies.is in absurd (omega arith);
}

pub whole_first : (A B : Automaton) (S : List (ℕ × ℕ)) (f : Family) → f.held.items ≡ [] → f.live.items ≡ [] → length f.by_state.items ≡ A.states → ((k : ℕ) → numbers_at f.by_state.items k ≡ []) →
    IsWhole A B S f
whole_first A B S f held live table_size table =
    let none : entries_held A f ≡ [] = entries_none A f held in
    subst (IsFamily A B S f) (sym none) (record {
      size = ap length held;
      live_size = ap length live;
      table_size = table_size;
      origins = origins_of_none A;
      kept = λ i h x h_is x_is. let within = at_within [] i x x_is in absurd (omega arith);
      tells = record { stays = λ i lt e. absurd (omega arith); drops = λ i lt e. absurd (omega arith) };
      those = λ p p_in. subst (AreThoseAt [] f.live.items p) (sym (table p)) (nothing_at f.live.items p);
    })

names_of_placed : (A : Automaton) (arcs : List WordArc) (e : ℕ) (o : Origin) → IsPairPlacedAt A arcs e o → NamesWhatIsThere A e o
names_of_placed A arcs e Start placed = tt
names_of_placed A arcs e (Base t) placed = absurd placed
names_of_placed A arcs e (Next p t) placed = (placed.0, placed.1)

pub held_names : (A B : Automaton) (S : List (ℕ × ℕ)) (f : Family) → IsWhole A B S f → (origins : List Origin) → origins ≡ map (λ (h : Held). h.origin) f.held.items → NameWhatIsThere A origins
held_names A B S f whole origins is =
    let same : origins_in (entries_held A f) ≡ origins = origins_of_entries A (map (λ (h : Held). h.origin) f.held.items) ∙ sym is in
    let placed : ArePairsPlaced A origins = subst (ArePairsPlaced A) same whole.origins.placed in
    λ e lt. names_of_placed A (arcs_of A origins) e (slice_index_or origins e Start) (placed e lt)

pub word_is : (A B : Automaton) (S : List (ℕ × ℕ)) (f : Family) → IsWhole A B S f → (origins : List Origin) → origins ≡ map (λ (h : Held). h.origin) f.held.items → (i : ℕ) (x : Entry) → At (entries_held A f) i x →
    word_at A origins i ≡ x.arc.word
word_is A B S f whole origins is i x x_is =
    let same : origins ≡ origins_in (entries_held A f) = is ∙ sym (origins_of_entries A (map (λ (h : Held). h.origin) f.held.items)) in
    ap (λ l. word_at A l i) same ∙ ap (λ (l : List WordArc). (arc_at A l i).word) whole.origins.arcs ∙ ap (λ (a : WordArc). a.word) (arc_here A (entries_held A f) i x x_is)

pub inside : (A B : Automaton) (S : List (ℕ × ℕ)) (f : Family) → IsWhole A B S f → (origins : List Origin) → origins ≡ map (λ (h : Held). h.origin) f.held.items → (i : ℕ) (x : Entry) → At (entries_held A f) i x → i < length origins
inside A B S f whole origins is i x x_is =
    let within = at_within (entries_held A f) i x x_is in
    let size = whole.size in
    let count = ap length is in
    let more = length-map f.held.items (λ (h : Held). h.origin) in
    omega arith

pub origins_are : (A : Automaton) (f : Family) (origins : List Origin) → origins ≡ map (λ (h : Held). h.origin) f.held.items → origins ≡ origins_in (entries_held A f)
origins_are A f origins is = is ∙ sym (origins_of_entries A (map (λ (h : Held). h.origin) f.held.items))
