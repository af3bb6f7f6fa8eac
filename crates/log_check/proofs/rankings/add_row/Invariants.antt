use Rattle.std.proofs.Common.{◌≡◌, ◌++◌, map, take}
use Rattle.auto_core.specs.Delayed.{rank_in_code}
use Rattle.delayed_sim.specs.Rankings.{ranked_triple}
use Rattle.cert_value.specs.declared.types.Ranked.{Ranked}
use Rattle.log_check.proofs.rankings.add_row.Given as goal

abbrev pub invariant-loop-ranked : goal.invariant-loop-ranked
invariant-loop-ranked l =
    l.triples.items ≡ l.fn.triples.items ++ map (λ (r : Ranked). ranked_triple l.row.left l.row.ahead r.right (rank_in_code r.code)) (take l.ranked-index l.row.rights)
