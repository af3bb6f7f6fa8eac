-- The arcs of origins: how many, which, and that they are real.
use Rattle.std.proofs.Common.{◌≡◌, ℕ, zero, suc, ◌+◌, ◌<◌, Bool, true, false, ◌||◌, List, [], ◌∷◌, ◌++◌, length, slice_index_or, refl, sym, ap, ◌∙◌, subst, arith, length-append}
use Rattle.std.proofs.lemmas.List.{get_or_append_left, get_or-append-add}
use Rattle.auto_core.specs.Automaton.{Automaton, Moves, is_accepting, trans_at}
use Rattle.auto_core.specs.Run.{Run}
use Rattle.auto_core.specs.Graph.{WordArc, IsReal, arc_at, arc_of, arcs_after, arcs_of, base_arc, extended_arc, IsPlacedAt, ArePlaced}
use Rattle.auto_core.specs.declared.parts.Origin.{Origin}
use Rattle.auto_core.specs.declared.parts.Origin.TheVariants.{Start, Base, Next}
use Rattle.auto_core.specs.declared.parts.Trans.{Trans}
use Rattle.auto_core.proofs.PathLemmas.{run_join}
use Rattle.auto_core.proofs.MoveLemmas.{move_at}
use Rattle.auto_laws.specs.Closed.{OriginsHaveArcs, PlacedArcsAreReal}

pub length-arcs_after : (A : Automaton) (arcs : List WordArc) (origins : List Origin) → length (arcs_after A arcs origins) ≡ length arcs + length origins
length-arcs_after A arcs [] = omega arith
length-arcs_after A arcs (o ∷ origins) =
    let e = length-arcs_after A (arcs ++ arc_of A arcs o ∷ []) origins in
    let size = length-append arcs (arc_of A arcs o ∷ []) in
    omega arith

pub length-arcs_of : (A : Automaton) (origins : List Origin) → length (arcs_of A origins) ≡ length origins
length-arcs_of A origins = let e = length-arcs_after A [] origins in omega arith

-- The arcs before stay.
pub arc_stays : (A : Automaton) (arcs : List WordArc) (origins : List Origin) (k : ℕ) → k < length arcs → arc_at A (arcs_after A arcs origins) k ≡ arc_at A arcs k
arc_stays A arcs [] k lt = refl
arc_stays A arcs (o ∷ origins) k lt =
    let x : WordArc = arc_of A arcs o in
    let size = length-append arcs (x ∷ []) in
    arc_stays A (arcs ++ x ∷ []) origins k (omega arith) ∙ get_or_append_left arcs (x ∷ []) (arc_at A [] 0) k lt

-- The arc of an origin is by the arcs before it, and these are the front of all.
pub record ArcBefore (A : Automaton) (all : List WordArc) (e : ℕ) (o : Origin) : Type 0 where
  pub front : List WordArc
  pub size : length front ≡ e
  pub stays : (k : ℕ) → k < e → arc_at A all k ≡ arc_at A front k
  pub is : arc_at A all e ≡ arc_of A front o

arc_before : (A : Automaton) (arcs : List WordArc) (origins : List Origin) (e n : ℕ) → e < length origins → n ≡ length arcs + e → ArcBefore A (arcs_after A arcs origins) n (slice_index_or origins e Start)
arc_before A arcs [] e n lt is = absurd (omega arith)
arc_before A arcs (o ∷ origins) zero n lt is =
    let x : WordArc = arc_of A arcs o in
    let size = length-append arcs (x ∷ []) in
    let same : n ≡ length arcs + 0 = omega arith in
    record {
      front = arcs;
      size = omega arith;
      stays = λ k below. arc_stays A arcs (o ∷ origins) k (omega arith);
      is = arc_stays A (arcs ++ x ∷ []) origins n (omega arith) ∙ ap (arc_at A (arcs ++ x ∷ [])) same ∙ get_or-append-add arcs (x ∷ []) 0 (arc_at A [] 0);
    }
arc_before A arcs (o ∷ origins) (suc e) n lt is =
    let x : WordArc = arc_of A arcs o in
    let size = length-append arcs (x ∷ []) in
    arc_before A (arcs ++ x ∷ []) origins e n (omega arith) (omega arith)

-- A rule that tells which origins may stand at a place: it looks at no arc for an origin that follows none, and an extension is
-- by a transition that leaves an earlier arc.
pub record IsPlacing (A : Automaton) (P : List WordArc → ℕ → Origin → Type 0) : Type 0 where
  pub start : (arcs all : List WordArc) (e n : ℕ) → P arcs e Start → P all n Start
  pub base : (arcs all : List WordArc) (e n t : ℕ) → P arcs e (Base t) → P all n (Base t)
  pub leaves : (arcs : List WordArc) (e p t : ℕ) → P arcs e (Next p t) → (p < e) × (t < length A.transitions) × ((trans_at A t).source ≡ (arc_at A arcs p).to)
  pub next : (arcs : List WordArc) (e p t : ℕ) → (p < e) × (t < length A.transitions) × ((trans_at A t).source ≡ (arc_at A arcs p).to) → P arcs e (Next p t)

pub placing : (A : Automaton) → IsPlacing A (IsPlacedAt A)
placing A = record { start = λ arcs all e n none. none; base = λ arcs all e n t lt. lt; leaves = λ arcs e p t placed. placed; next = λ arcs e p t placed. placed }

-- An origin that is placed looks only at arcs before it.
module _ (A : Automaton) (P : List WordArc → ℕ → Origin → Type 0) (rule : IsPlacing A P) where
  arc_same : (all front : List WordArc) (e : ℕ) (o : Origin) → P all e o → ((k : ℕ) → k < e → arc_at A all k ≡ arc_at A front k) → arc_of A front o ≡ arc_of A all o
  arc_same all front e Start placed stays = refl
  arc_same all front e (Base t) placed stays = refl
  arc_same all front e (Next p t) placed stays = ap (λ x. extended_arc A x (trans_at A t)) (sym (stays p (rule.leaves all e p t placed).0))

  pub arc_placed : (origins : List Origin) (e : ℕ) → e < length origins → P (arcs_of A origins) e (slice_index_or origins e Start) →
      arc_at A (arcs_of A origins) e ≡ arc_of A (arcs_of A origins) (slice_index_or origins e Start)
  arc_placed origins e lt here =
      let r = arc_before A [] origins e e lt (omega arith) in
      r.is ∙ arc_same (arcs_of A origins) r.front e (slice_index_or origins e Start) here r.stays

-- What an arc has wherever those before it have it, all arcs of placed origins have.
pub placed_arcs_have : (A : Automaton) (P : List WordArc → ℕ → Origin → Type 0) (rule : IsPlacing A P) (Q : WordArc → Type 0)
    (one : (all : List WordArc) (e : ℕ) (o : Origin) → P all e o → ((p : ℕ) → p < e → Q (arc_at A all p)) → Q (arc_of A all o))
    (origins : List Origin) → ((e : ℕ) → e < length origins → P (arcs_of A origins) e (slice_index_or origins e Start)) → (n e : ℕ) → e < n → e < length origins → Q (arc_at A (arcs_of A origins) e)
placed_arcs_have A P rule Q one origins placed zero e below lt = absurd (omega arith)
placed_arcs_have A P rule Q one origins placed (suc n) e below lt =
    subst Q (sym (arc_placed A P rule origins e lt (placed e lt)))
    (one (arcs_of A origins) e (slice_index_or origins e Start) (placed e lt)
    (λ p before. placed_arcs_have A P rule Q one origins placed n p (omega arith) (omega arith)))

pub arc_is_here : (A : Automaton) (origins : List Origin) (e : ℕ) → e < length origins → IsPlacedAt A (arcs_of A origins) e (slice_index_or origins e Start) →
    arc_at A (arcs_of A origins) e ≡ arc_of A (arcs_of A origins) (slice_index_or origins e Start)
arc_is_here A origins e lt here = arc_placed A (IsPlacedAt A) (placing A) origins e lt here

pub arc_is : (A : Automaton) (origins : List Origin) → ArePlaced A origins → (e : ℕ) → e < length origins → arc_at A (arcs_of A origins) e ≡ arc_of A (arcs_of A origins) (slice_index_or origins e Start)
arc_is A origins placed e lt = arc_is_here A origins e lt (placed e lt)

pub arcs_more : (A : Automaton) (arcs : List WordArc) (origins : List Origin) (o : Origin) → arcs_after A arcs (origins ++ o ∷ []) ≡ arcs_after A arcs origins ++ arc_of A (arcs_after A arcs origins) o ∷ []
arcs_more A arcs [] o = refl
arcs_more A arcs (x ∷ origins) o = arcs_more A (arcs ++ arc_of A arcs x ∷ []) origins o

pub origins_have_arcs : OriginsHaveArcs
origins_have_arcs A origins = record {
  count = length-arcs_of A origins;
  each = arc_is A origins;
  more = arcs_more A [] origins;
}

-- Real arcs.
or-false : (b : Bool) → (b || false) ≡ b
or-false true = refl
or-false false = refl

base_real : (A : Automaton) (t : ℕ) → t < length A.transitions → IsReal A (base_arc A (trans_at A t))
base_real A t lt =
    let u : Trans = trans_at A t in
    record { reads = omega arith; run = (u.target, false, move_at A t lt, (refl, refl), sym (or-false (is_accepting A u.target))) }

-- The run of an extension.
pub extended_runs : (A : Automaton) (x : WordArc) (t : ℕ) → Run A x.from x.word x.to x.flag → t < length A.transitions → (trans_at A t).source ≡ x.to →
    Run A x.from (x.word ++ (trans_at A t).label ∷ []) (trans_at A t).target (x.flag || is_accepting A (trans_at A t).target)
extended_runs A x t run lt leaves =
    let u : Trans = trans_at A t in
    let move : Moves A x.to u.label u.target = subst (λ s. Moves A s u.label u.target) leaves (move_at A t lt) in
    let last : Run A x.to (u.label ∷ []) u.target (is_accepting A u.target) = (u.target, false, move, (refl, refl), sym (or-false (is_accepting A u.target))) in
    run_join A x.from x.word x.to x.flag (u.label ∷ []) u.target (is_accepting A u.target) run last

extended_real : (A : Automaton) (x : WordArc) (t : ℕ) → IsReal A x → t < length A.transitions → (trans_at A t).source ≡ x.to → IsReal A (extended_arc A x (trans_at A t))
extended_real A x t real lt leaves =
    let size = length-append x.word ((trans_at A t).label ∷ []) in
    let some = real.reads in
    record { reads = omega arith; run = extended_runs A x t real.run lt leaves }

-- By the arcs before it.
real_one : (A : Automaton) (all : List WordArc) (e : ℕ) (o : Origin) → IsPlacedAt A all e o → ((p : ℕ) → p < e → IsReal A (arc_at A all p)) → IsReal A (arc_of A all o)
real_one A all e Start placed before = absurd placed
real_one A all e (Base t) placed before = base_real A t placed
real_one A all e (Next p t) placed before = extended_real A (arc_at A all p) t (before p placed.0) placed.1 placed.2

pub placed_arcs_are_real : PlacedArcsAreReal
placed_arcs_are_real A origins placed e lt = placed_arcs_have A (IsPlacedAt A) (placing A) (IsReal A) (real_one A) origins placed (suc e) e (omega arith) lt
