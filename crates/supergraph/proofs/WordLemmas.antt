-- The word of an element by its origin.
use Rattle.std.proofs.Common.{◌≡◌, ℕ, zero, suc, ◌+◌, ◌<◌, List, [], ◌∷◌, ◌++◌, length, slice_index_or, reverse, refl, sym, ap, ◌∙◌, subst, arith, length-append, append_assoc, append-nil}
use Rattle.std.proofs.lemmas.List.{get_or_append_left, get_or-append-add, reverse-append}
use Rattle.auto_core.specs.Automaton.{Automaton, trans_at}
use Rattle.auto_core.specs.Graph.{WordArc, arc_at, arc_of, arcs_after, arcs_of, extended_arc}
use Rattle.auto_core.specs.declared.parts.Origin.{Origin}
use Rattle.auto_core.specs.declared.parts.Origin.TheVariants.{Start, Base, Next}
use Rattle.supergraph.specs.Words.{NamesWhatIsThere, NameWhatIsThere, word_at}

-- The arcs before stay.
arc_stays : (A : Automaton) (arcs : List WordArc) (origins : List Origin) (k : ℕ) → k < length arcs → arc_at A (arcs_after A arcs origins) k ≡ arc_at A arcs k
arc_stays A arcs [] k lt = refl
arc_stays A arcs (o ∷ origins) k lt =
    let x : WordArc = arc_of A arcs o in
    let size = length-append arcs (x ∷ []) in
    arc_stays A (arcs ++ x ∷ []) origins k (omega arith) ∙ get_or_append_left arcs (x ∷ []) (arc_at A [] 0) k lt

-- An origin looks only at arcs before it.
arc_same : (A : Automaton) (all front : List WordArc) (e : ℕ) (o : Origin) → NamesWhatIsThere A e o → ((k : ℕ) → k < e → arc_at A all k ≡ arc_at A front k) → arc_of A front o ≡ arc_of A all o
arc_same A all front e Start names stays = refl
arc_same A all front e (Base t) names stays = refl
arc_same A all front e (Next p t) names stays = ap (λ x. extended_arc A x (trans_at A t)) (sym (stays p names.0))

arc_behind : (A : Automaton) (arcs : List WordArc) (origins : List Origin) (e n : ℕ) → e < length origins → n ≡ length arcs + e → NamesWhatIsThere A n (slice_index_or origins e Start) →
    arc_at A (arcs_after A arcs origins) n ≡ arc_of A (arcs_after A arcs origins) (slice_index_or origins e Start)
arc_behind A arcs [] e n lt is names = absurd (omega arith)
arc_behind A arcs (o ∷ origins) zero n lt is names =
    let x : WordArc = arc_of A arcs o in
    let size = length-append arcs (x ∷ []) in
    let same : n ≡ length arcs + 0 = omega arith in
    arc_stays A (arcs ++ x ∷ []) origins n (omega arith)
    ∙ ap (arc_at A (arcs ++ x ∷ [])) same
    ∙ get_or-append-add arcs (x ∷ []) 0 (arc_at A [] 0)
    ∙ arc_same A (arcs_after A arcs (o ∷ origins)) arcs n o names (λ k below. arc_stays A arcs (o ∷ origins) k (omega arith))
arc_behind A arcs (o ∷ origins) (suc e) n lt is names =
    let x : WordArc = arc_of A arcs o in
    let size = length-append arcs (x ∷ []) in
    arc_behind A (arcs ++ x ∷ []) origins e n (omega arith) (omega arith) names

pub arc_is : (A : Automaton) (origins : List Origin) → NameWhatIsThere A origins → (e : ℕ) → e < length origins → arc_at A (arcs_of A origins) e ≡ arc_of A (arcs_of A origins) (slice_index_or origins e Start)
arc_is A origins names e lt = arc_behind A [] origins e e lt (omega arith) (names e lt)

-- The word of the element is that of the one at hand and then the letters, which stand from the last to the first.
abbrev pub IsSplit : Automaton → List Origin → ℕ → ℕ → List ℕ → Type 0
IsSplit A origins element at letters = word_at A origins element ≡ word_at A origins at ++ reverse letters

pub split_first : (A : Automaton) (origins : List Origin) (element : ℕ) → IsSplit A origins element element []
split_first A origins element = sym (append-nil (word_at A origins element))

pub split_next : (A : Automaton) (origins : List Origin) → NameWhatIsThere A origins → (element at p t : ℕ) (letters : List ℕ) → at < length origins →
    slice_index_or origins at Start ≡ Next p t → IsSplit A origins element at letters → IsSplit A origins element p (letters ++ (trans_at A t).label ∷ [])
split_next A origins names element at p t letters lt is split =
    let a : ℕ = (trans_at A t).label in
    let here : word_at A origins at ≡ word_at A origins p ++ a ∷ [] = ap (λ (x : WordArc). x.word) (arc_is A origins names at lt ∙ ap (arc_of A (arcs_of A origins)) is) in
    split
    ∙ ap (λ w. w ++ reverse letters) here
    ∙ append_assoc (word_at A origins p) (a ∷ []) (reverse letters)
    ∙ ap (λ w. word_at A origins p ++ w) (sym (reverse-append letters (a ∷ [])))

pub split_base : (A : Automaton) (origins : List Origin) → NameWhatIsThere A origins → (element at t : ℕ) (letters : List ℕ) → at < length origins →
    slice_index_or origins at Start ≡ Base t → IsSplit A origins element at letters → reverse (letters ++ (trans_at A t).label ∷ []) ≡ word_at A origins element
split_base A origins names element at t letters lt is split =
    let a : ℕ = (trans_at A t).label in
    let here : word_at A origins at ≡ a ∷ [] = ap (λ (x : WordArc). x.word) (arc_is A origins names at lt ∙ ap (arc_of A (arcs_of A origins)) is) in
    reverse-append letters (a ∷ []) ∙ ap (λ w. w ++ reverse letters) (sym here) ∙ sym split

pub split_start : (A : Automaton) (origins : List Origin) → NameWhatIsThere A origins → (element at : ℕ) (letters : List ℕ) → at < length origins →
    slice_index_or origins at Start ≡ Start → IsSplit A origins element at letters → reverse letters ≡ word_at A origins element
split_start A origins names element at letters lt is split =
    let here : word_at A origins at ≡ [] = ap (λ (x : WordArc). x.word) (arc_is A origins names at lt ∙ ap (arc_of A (arcs_of A origins)) is) in
    ap (λ w. w ++ reverse letters) (sym here) ∙ sym split

-- What the origin at hand names.
pub names_next : (A : Automaton) (origins : List Origin) → NameWhatIsThere A origins → (at p t : ℕ) → at < length origins → slice_index_or origins at Start ≡ Next p t → (p < at) × (t < length A.transitions)
names_next A origins names at p t lt is = subst (NamesWhatIsThere A at) is (names at lt)

pub names_base : (A : Automaton) (origins : List Origin) → NameWhatIsThere A origins → (at t : ℕ) → at < length origins → slice_index_or origins at Start ≡ Base t → t < length A.transitions
names_base A origins names at t lt is = subst (NamesWhatIsThere A at) is (names at lt)

pub split_other : (A : Automaton) (origins : List Origin) → NameWhatIsThere A origins → (element at : ℕ) (letters : List ℕ) (o : Origin) → at < length origins → slice_index_or origins at Start ≡ o →
    ((p t : ℕ) → o ≡ Next p t → ⊥) → ((t : ℕ) → o ≡ Base t → ⊥) → IsSplit A origins element at letters → reverse letters ≡ word_at A origins element
split_other A origins names element at letters Start lt is not_next not_base split = split_start A origins names element at letters lt is split
split_other A origins names element at letters (Base t) lt is not_next not_base split = absurd (not_base t refl)
split_other A origins names element at letters (Next p t) lt is not_next not_base split = absurd (not_next p t refl)
