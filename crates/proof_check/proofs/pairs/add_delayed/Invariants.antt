use Rattle.std.proofs.Common.{◌≡◌, ◌++◌, map, take}
use Rattle.auto_core.specs.Delayed.{rank_in_code}
use Rattle.cert_value.specs.declared.types.Ranked.{Ranked}
use Rattle.proof_check.proofs.pairs.add_delayed.Given as goal

abbrev pub invariant-loop-ranked : goal.invariant-loop-ranked
invariant-loop-ranked l =
    l.pairs.items ≡ l.fn.pairs.items ++ map (λ (r : Ranked). record { left = l.row.left; right = r.right; rank = rank_in_code r.code }) (take l.ranked-index l.row.rights)
