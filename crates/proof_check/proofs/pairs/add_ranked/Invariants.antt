use Rattle.std.proofs.Common.{◌≡◌, ◌++◌, map, take}
use Rattle.cert_value.specs.declared.types.Ranked.{Ranked}
use Rattle.proof_check.proofs.pairs.add_ranked.Given as goal

abbrev pub invariant-loop-ranked : goal.invariant-loop-ranked
invariant-loop-ranked l =
    l.pairs.items ≡ l.fn.pairs.items ++ map (λ (r : Ranked). record { left = l.row.left; right = r.right; rank = r.code }) (take l.ranked-index l.row.rights)
