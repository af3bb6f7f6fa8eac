-- The elements of the search on finite words have origins that fit.
use Rattle.std.proofs.Common.{ℕ, suc, ◌<◌, List, [], ◌∷◌, ◌++◌, Contains, refl, subst, inl, inr, arith}
use Rattle.auto_core.specs.Automaton.{Automaton}
use Rattle.auto_core.specs.Graph.{WordArc, arc_at, arc_of}
use Rattle.auto_core.specs.Outcome.{At, Entry, origins_in}
use Rattle.auto_core.specs.Pairs.{IsReached, IsPairPlacedAt}
use Rattle.auto_core.specs.PairOutcome.{start_entry, pair_rules}
use Rattle.auto_core.specs.declared.parts.Origin.{Origin}
use Rattle.auto_core.specs.declared.parts.Origin.TheVariants.{Start, Base, Next}
use Rattle.auto_core.proofs.PathLemmas.{Contains-cons_cases, Contains-here, none_in_nil}
use Rattle.auto_laws.proofs.OriginLemmas.{IsPlacing, extended_runs, placed_arcs_have}
use Rattle.auto_laws.specs.PairOutcomes.{HavePairOrigins, PlacedPairsAreReached}
use Rattle.auto_laws.proofs.PlaceLemmas.{at_within}
use Rattle.auto_laws.proofs.PlacingLemmas.{FitsBehind, origins_size, arc_here, have_more}

pub pair_placing : (A : Automaton) → IsPlacing A (IsPairPlacedAt A)
pair_placing A = record { start = λ arcs all e n is. is; base = λ arcs all e n t none. none; leaves = λ arcs e p t placed. placed; next = λ arcs e p t placed. placed }

-- The laws that a search asks for.
pub origins_of_none : (A : Automaton) → HavePairOrigins A []
origins_of_none A = record { placed = λ e lt. absurd (omega arith); arcs = refl }

pub origins_more : (A : Automaton) (es : List Entry) (c : Entry) → HavePairOrigins A es → FitsBehind A (IsPairPlacedAt A) es c → HavePairOrigins A (es ++ c ∷ [])
origins_more A es c have fits =
    let more = have_more A (IsPairPlacedAt A) (pair_placing A) es c (record { placed = have.placed; arcs = have.arcs }) fits in
    record { placed = more.placed; arcs = more.arcs }

pub fits_at_the_start : (A B : Automaton) (S : List (ℕ × ℕ)) (c : Entry) → Contains (pair_rules A B S).starts c → FitsBehind A (IsPairPlacedAt A) [] c
fits_at_the_start A B S c has = elim (Contains-cons_cases (start_entry A) c [] has) [
  | inl e ↦ subst (FitsBehind A (IsPairPlacedAt A) []) e (record { placed = tt; is = refl })
  | inr later ↦ absurd (none_in_nil c later)
]

-- The candidate that there is at the start.
pub start_starts : (A B : Automaton) (S : List (ℕ × ℕ)) → Contains (pair_rules A B S).starts (start_entry A)
start_starts A B S = Contains-here (start_entry A) (start_entry A) [] refl

-- Reached arcs.
reached_one : (A : Automaton) (all : List WordArc) (e : ℕ) (o : Origin) → IsPairPlacedAt A all e o → ((p : ℕ) → p < e → IsReached A (arc_at A all p)) → IsReached A (arc_of A all o)
reached_one A all e Start placed before = record { starts = refl; run = (refl, refl) }
reached_one A all e (Base t) placed before = absurd placed
reached_one A all e (Next p t) placed before =
    let from = before p placed.0 in
    record { starts = from.starts; run = extended_runs A (arc_at A all p) t from.run placed.1 placed.2 }

pub placed_pairs_are_reached : PlacedPairsAreReached
placed_pairs_are_reached A origins placed e lt = placed_arcs_have A (IsPairPlacedAt A) (pair_placing A) (IsReached A) (reached_one A) origins placed (suc e) e (omega arith) lt

pub entry_is_reached : (A : Automaton) (es : List Entry) → HavePairOrigins A es → (i : ℕ) (x : Entry) → At es i x → IsReached A x.arc
entry_is_reached A es have i x is =
    let count = origins_size es in
    let within = at_within es i x is in
    subst (IsReached A) (arc_here A es i x is) (subst (λ l. IsReached A (arc_at A l i)) have.arcs (placed_pairs_are_reached A (origins_in es) have.placed i (omega arith)))
