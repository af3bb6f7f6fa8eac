use Rattle.std.proofs.Common.{◌≡◌, map, take}
use Rattle.antichain.specs.declared.parts.Held.{Held}
use Rattle.antichain.proofs.searching.origins_of.Given as goal

abbrev pub invariant-loop-element : goal.invariant-loop-element
invariant-loop-element l = l.origins ≡ map (λ (h : Held). h.origin) (take l.element-index l.held)
