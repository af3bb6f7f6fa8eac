-- A real arc with a transition out of its end is real.
use Rattle.std.proofs.Common.{◌≡◌, ℕ, ◌<◌, ◌≤◌, Bool, true, false, ◌||◌, List, [], ◌∷◌, ◌++◌, length, refl, sym, subst, arith, length-append}
use Rattle.auto_core.specs.Automaton.{Automaton, Moves, is_accepting, trans_at}
use Rattle.auto_core.specs.Run.{Run}
use Rattle.auto_core.specs.Graph.{IsReal, extended_arc}
use Rattle.auto_core.specs.declared.parts.Trans.{Trans}
use Rattle.auto_core.proofs.PathLemmas.{run_join}
use Rattle.auto_core.proofs.MoveLemmas.{move_at}
use Rattle.supergraph.specs.declared.arcs.Arc.{Arc}
use Rattle.supergraph.specs.Stands.{with_word}

or_false : (b : Bool) → (b || false) ≡ b
or_false true = refl
or_false false = refl

pub extended_is_real :
    (A : Automaton) (x new : Arc) (t : ℕ)
    → t < length A.transitions
    → (trans_at A t).source ≡ x.to
    → (w : List ℕ)
    → with_word new (w ++ (trans_at A t).label ∷ []) ≡ extended_arc A (with_word x w) (trans_at A t)
    → IsReal A (with_word x w)
    → IsReal A (with_word new (w ++ (trans_at A t).label ∷ []))
extended_is_real A x new t t_in leaves w is real =
    let u : Trans = trans_at A t in
    let move : Moves A x.to u.label u.target = subst (λ s. Moves A s u.label u.target) leaves (move_at A t t_in) in
    let last : Run A x.to (u.label ∷ []) u.target (is_accepting A u.target) = (u.target, false, move, (refl, refl), sym (or_false (is_accepting A u.target))) in
    let size = length-append w (u.label ∷ []) in
    let some : 1 ≤ length w = real.reads in
    subst (IsReal A) (sym is)
    (record {
      reads = omega arith;
      run = run_join A x.from w x.to x.accepting (u.label ∷ []) u.target (is_accepting A u.target) real.run last;
    })
