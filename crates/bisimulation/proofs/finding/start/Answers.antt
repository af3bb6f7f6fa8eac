use Rattle.std.proofs.Common.{◌++◌, ◌∷◌, [], ℕ, Vec, Global, ap, ◌∙◌, arith}
use Rattle.bisimulation.proofs.RoundLemmas.{first_round}
use Rattle.bisimulation.proofs.finding.start.Goals as goal

pub returns : goal.returns
returns c =
    let v : Vec ℕ Global = c.in_ok-from_slice.field-0 in
    let w : Vec ℕ Global = c.in_ok-from_slice-2.field-0 in
    first_round c.args.automaton.now _ c.args.all.now v w
    c.in_ok-acceptance.ensures.len
    (omega (arith, c.in_ok-vec.ensures.len, c.in_ok-vec.field-0.ok.0, c.states-states.ensures.count))
    (omega (arith, c.in_ok-vec-2.ensures.len, c.in_ok-vec-2.field-0.ok.0))
    (omega (arith, c.in_ok-vec-3.ensures.len, c.in_ok-vec-3.field-0.ok.0))
    (c.in_ok-push-2.ensures.items ∙ ap (λ l. l ++ w ∷ []) (c.in_ok-push.ensures.items ∙ ap (λ l. l ++ v ∷ []) c.new-members.ensures.items))
    c.in_ok-from_slice.ensures.items c.in_ok-from_slice-2.ensures.items
    c.requires.below c.requires.all c.in_ok-acceptance.ensures.each
