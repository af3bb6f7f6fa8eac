-- The turn of an element leads on.
use Rattle.std.proofs.Common.{◌≡◌, ℕ, suc, ◌+◌, List, [], map, sym, ap, ◌∙◌, subst, arith}
use Rattle.auto_core.specs.Automaton.{Automaton, IsOutgoing}
use Rattle.auto_core.specs.Outcome.{At, Entry, Outcome, Rules, StaysLive, IsDropped, Comes, turn_of_live, turn_of_dropped, next_entry, steps_out}
use Rattle.evidence.proofs.RangeLemmas.{extensions_from, steps_out_are}

-- That of a live one, to its extensions.
pub live_leads : (A : Automaton) (R : Rules Entry) (limit : ℕ) (es : List Entry) (turn begin end : ℕ) (x : Entry) → R.extensions turn x ≡ map (next_entry A turn x) (steps_out A x.arc.to) →
    At es turn x → StaysLive R es turn → IsOutgoing A x.arc.to begin end →
    (o : Outcome Entry) → Comes Entry R limit es (extensions_from A turn x begin end) (turn + 1) o → Comes Entry R limit es [] turn o
live_leads A R limit es turn begin end x extensions is stays out o rest =
    let same : R.extensions turn x ≡ extensions_from A turn x begin end = extensions ∙ ap (map (next_entry A turn x)) (steps_out_are A x.arc.to begin end out) in
    let after : turn + 1 ≡ suc turn = omega arith in
    turn_of_live x is stays (subst (λ k. Comes Entry R limit es (R.extensions turn x) k o) after (subst (λ l. Comes Entry R limit es l (turn + 1) o) (sym same) rest))

-- That of a dropped one, to the next turn.
pub dropped_leads : (R : Rules Entry) (limit : ℕ) (es : List Entry) (turn : ℕ) → IsDropped R es turn → (o : Outcome Entry) → Comes Entry R limit es [] (turn + 1) o → Comes Entry R limit es [] turn o
dropped_leads R limit es turn dropped o rest =
    let after : turn + 1 ≡ suc turn = omega arith in
    turn_of_dropped dropped (subst (λ k. Comes Entry R limit es [] k o) after rest)
