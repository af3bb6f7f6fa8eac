-- Where elements come from: their origins fit the mode, and each is placed behind earlier ones.
use Rattle.std.proofs.Common.{◌≡◌, ℕ, zero, suc, ◌+◌, ◌<◌, true, List, [], ◌∷◌, ◌++◌, length, slice_index_or, refl, sym, ap, ◌∙◌, subst, arith, length-append}
use Rattle.std.specs.List.{list_all}
use Rattle.std.proofs.lemmas.Bool.{and_parts, false≢true}
use Rattle.std.proofs.lemmas.List.{get_or_push}
use Rattle.auto_core.specs.Automaton.{Automaton}
use Rattle.auto_core.specs.Graph.{WordArc, start_arc, arc_at, arc_of, arcs_after, arcs_of, IsPlacedAt}
use Rattle.auto_core.specs.Pairs.{IsPairPlacedAt}
use Rattle.auto_core.specs.declared.parts.Mode.{Mode}
use Rattle.auto_core.specs.declared.parts.Mode.TheVariants.{Buchi, Finite}
use Rattle.auto_core.specs.declared.parts.Origin.{Origin}
use Rattle.auto_core.specs.declared.parts.Origin.TheVariants.{Start, Base, Next}
use Rattle.auto_laws.proofs.OriginLemmas.{arc_stays, arc_is_here}
use Rattle.cert_value.specs.declared.types.Element.{Element}
use Rattle.cert_value.specs.WellFormed.{is_mark, is_origin, is_element}
use Rattle.cert_check.specs.Inclusion.{NamesOrigin, HasEarlierParent, GoesOn}

-- The origin of an element fits the mode.
pub origin_fits : (m : Mode) (es : List Element) (e : ℕ) (d : Element) → list_all (is_element m) es ≡ true → e < length es → is_origin m (slice_index_or es e d).origin ≡ true
origin_fits m [] e d h lt = absurd (omega arith)
origin_fits m (x ∷ es) zero d h lt = (and_parts (is_mark x.mark) (is_origin m x.origin) (and_parts (is_element m x) (list_all (is_element m) es) h).0).1
origin_fits m (x ∷ es) (suc e) d h lt = origin_fits m es e d (and_parts (is_element m x) (list_all (is_element m) es) h).1 (omega arith)

-- The first one of a finite file is the start, the others go on; in a Büchi file none is the start.
pub is_finite : (m : Mode) → is_origin m Start ≡ true → m ≡ Finite
is_finite Buchi h = absurd (false≢true h)
is_finite Finite h = refl

pub is_buchi : (m : Mode) (t : ℕ) → is_origin m (Base t) ≡ true → m ≡ Buchi
is_buchi Buchi t h = refl
is_buchi Finite t h = absurd (false≢true h)

-- The origin may stand at the place.
abbrev pub IsPlacedIn : Mode → Automaton → List WordArc → ℕ → Origin → Type 0
IsPlacedIn Buchi A arcs e o = IsPlacedAt A arcs e o
IsPlacedIn Finite A arcs e o = IsPairPlacedAt A arcs e o

pub placed_one : (m : Mode) (A : Automaton) (arcs : List WordArc) (n e : ℕ) (o : Origin) → is_origin m o ≡ true → NamesOrigin A n o → HasEarlierParent e o → GoesOn A arcs o → IsPlacedIn m A arcs e o
placed_one Buchi A arcs n e Start fits names earlier goes = absurd (false≢true fits)
placed_one Buchi A arcs n e (Base t) fits names earlier goes = names
placed_one Buchi A arcs n e (Next p t) fits names earlier goes = (earlier, names.1, goes)
placed_one Finite A arcs n e Start fits names earlier goes = tt
placed_one Finite A arcs n e (Base t) fits names earlier goes = absurd (false≢true fits)
placed_one Finite A arcs n e (Next p t) fits names earlier goes = (earlier, names.1, goes)

-- The start's arc is at its place, whatever the arcs before it.
start_is_here : (A : Automaton) (arcs : List WordArc) (origins : List Origin) (e n : ℕ) → e < length origins → n ≡ length arcs + e → slice_index_or origins e Start ≡ Start → arc_at A (arcs_after A arcs origins) n ≡ start_arc A
start_is_here A arcs [] e n lt is start = absurd (omega arith)
start_is_here A arcs (o ∷ origins) zero n lt is start =
    let x : WordArc = arc_of A arcs o in
    let size = length-append arcs (x ∷ []) in
    arc_stays A (arcs ++ x ∷ []) origins n (omega arith) ∙ get_or_push arcs x (start_arc A) n (omega arith) ∙ ap (arc_of A arcs) start
start_is_here A arcs (o ∷ origins) (suc e) n lt is start =
    let x : WordArc = arc_of A arcs o in
    let size = length-append arcs (x ∷ []) in
    start_is_here A (arcs ++ x ∷ []) origins e n (omega arith) (omega arith) start

-- So the arc of each placed origin is by the arcs of all.
pub arc_is_placed : (m : Mode) (A : Automaton) (origins : List Origin) (e : ℕ) (o : Origin) → e < length origins → slice_index_or origins e Start ≡ o → IsPlacedIn m A (arcs_of A origins) e o →
    arc_at A (arcs_of A origins) e ≡ arc_of A (arcs_of A origins) o
arc_is_placed Buchi A origins e o lt is placed = arc_is_here A origins e lt (subst (IsPlacedAt A (arcs_of A origins) e) (sym is) placed) ∙ ap (arc_of A (arcs_of A origins)) is
arc_is_placed Finite A origins e Start lt is placed = start_is_here A [] origins e e lt (omega arith) is
arc_is_placed Finite A origins e (Base t) lt is placed = absurd placed
arc_is_placed Finite A origins e (Next p t) lt is placed = arc_is_here A origins e lt (subst (IsPlacedAt A (arcs_of A origins) e) (sym is) placed) ∙ ap (arc_of A (arcs_of A origins)) is
