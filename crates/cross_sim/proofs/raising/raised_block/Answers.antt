use Rattle.std.proofs.Common.{◌∷◌, [], ◌++◌, List, ℕ, slice_index_or, map, sym, ap, ◌∙◌, subst, take_all}
use Rattle.std.proofs.lemmas.List.{map_more}
use Rattle.std.proofs.lemmas.List.Elements.{All-get_or}
use Rattle.cert_value.specs.declared.types.Row.{Row}
use Rattle.cert_value.specs.declared.types.RelBlock.{RelBlock}
use Rattle.cross_sim.specs.Raising.{AreRunsBelow}
use Rattle.cross_sim.specs.Rules.{raised_row}
use Rattle.cross_sim.proofs.raising.raised_block.Goals as goal

pub raised_row-requires : goal.raised_row-requires
raised_row-requires c =
    let P : Row → Type 0 = λ row. AreRunsBelow c.args.by row.runs in
    let x = c.row-item.result in
    record { below = subst P (sym c.row-item.is) (All-get_or P c.args.rows.now c.loop-row.row-index x c.loop-row-test.true c.requires.below) }

pub loop-row-preserved : goal.loop-row-preserved
loop-row-preserved c =
    let k : ℕ = c.loop-row.row-index in
    let rows = c.args.rows.now in
    let x = c.row-item.result in
    c.in_ok-push.ensures.ok
    ∙ ap (λ (r : Row). c.loop-row.raised ++ r ∷ []) (c.in_ok-raised_row.ensures ∙ ap (raised_row c.args.by) c.row-item.is)
    ∙ ap (λ (l : List Row). l ++ raised_row c.args.by (slice_index_or rows k x) ∷ []) c.loop-row.invariant
    ∙ sym (map_more (raised_row c.args.by) rows k x c.loop-row-test.true)

pub returns : goal.returns
returns c =
    let block : List Row → RelBlock = λ l. record { rows = l } in
    ap block (c.loop-row.invariant ∙ ap (map (raised_row c.args.by)) (take_all c.loop-row.row-index c.args.rows.now c.loop-row-test.false))
