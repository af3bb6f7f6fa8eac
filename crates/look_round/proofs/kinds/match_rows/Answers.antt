use Rattle.std.proofs.Common.{ℕ, ◌+◌, ◌<◌, List, sym, subst, All, arith}
use Rattle.std.proofs.lemmas.List.Elements.{All-push}
use Rattle.look_round.proofs.ColumnLemmas.{matches_more}
use Rattle.look_round.proofs.kinds.match_rows.Goals as goal
use Rattle.look_round.proofs.kinds.match_rows.Goals.{then-is_new+then-len-lt-MOST_KINDS+in_ok-push, else-is_new}

later : (xs : List ℕ) (p : ℕ) → All (λ s. s < p) xs → All (λ s. s < p + 1) xs
later xs p h k d k_in = let lt = h k d k_in in omega arith

pub loop-p-preserved : goal.loop-p-preserved
loop-p-preserved g c =
    let ok = g.S.Side.matches c.args.side.now c.args.automaton.now in
    let p = c.loop-p.p in
    let h = c.loop-p.invariant in
    let items = c.loop-p.kinds.items in
    let before : All (λ s. s < p + 1) items = later items p h.1 in (
      matches_more ok c.args.automaton.now.states c.loop-p.table c.write_row.new.table c.write_matches-is_new.new.row c.args.width p h.0 c.write_matches-is_new.ensures c.write_row.ensures.here c.write_row.ensures.others,
      elim c.if-is_new.branch [
        | then-is_new+then-len-lt-MOST_KINDS+in_ok-push w ↦
            let pushed = All-push (λ s. s < p + 1) items p before (omega arith) in
            subst (λ xs. All (λ s. s < p + 1) xs.items) (sym w.kinds-is) (subst (λ xs. All (λ s. s < p + 1) xs) (sym w.in_ok-push.ensures.items) pushed)
        | else-is_new w ↦ subst (λ xs. All (λ s. s < p + 1) xs.items) (sym w.kinds-is) before
      ],
    )
