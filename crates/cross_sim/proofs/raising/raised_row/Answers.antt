use Rattle.std.proofs.Common.{◌≡◌, ◌+◌, ◌<◌, ◌≤◌, ◌^◌, ◌∷◌, [], ◌++◌, List, ℕ, length, slice_index_or, map, sym, ap, ◌∙◌, subst, take_all}
use Rattle.std.proofs.lemmas.List.{map_more}
use Rattle.std.proofs.lemmas.List.Elements.{All-get_or}
use Rattle.cert_value.specs.declared.types.Run.{Run}
use Rattle.cert_value.specs.declared.types.Row.{Row}
use Rattle.cross_sim.specs.Rules.{raised_run}
use Rattle.cross_sim.proofs.raising.raised_row.Goals as goal

pub raised_run-requires : goal.raised_run-requires
raised_run-requires c =
    let P : Run → Type 0 = λ run. (run.first + c.args.by < 2 ^ 32) × (run.last + c.args.by < 2 ^ 32) in
    let k : ℕ = c.loop-run.run-index in
    let runs = c.args.row.now.runs in
    let none : Run = record { first = 0; last = 0 } in
    let lt : k < length runs = subst (λ (l : List Run). k < length l) c.as_slice-run-items.ensures c.loop-run-test.true in
    let is : slice_index_or c.as_slice-run-items.result.now k none ≡ slice_index_or runs k none = ap (λ (l : List Run). slice_index_or l k none) c.as_slice-run-items.ensures in
    let both = subst P (sym is) (All-get_or P runs k none lt c.requires.below) in
    record { first = both.0; last = both.1 }

pub loop-run-preserved : goal.loop-run-preserved
loop-run-preserved c =
    let k : ℕ = c.loop-run.run-index in
    let runs = c.args.row.now.runs in
    let none : Run = record { first = 0; last = 0 } in
    let lt : k < length runs = subst (λ (l : List Run). k < length l) c.as_slice-run-items.ensures c.loop-run-test.true in
    let is : slice_index_or c.as_slice-run-items.result.now k none ≡ slice_index_or runs k none = ap (λ (l : List Run). slice_index_or l k none) c.as_slice-run-items.ensures in
    c.in_ok-push.ensures.ok
    ∙ ap (λ (r : Run). c.loop-run.runs ++ r ∷ []) (c.raised_run.ensures ∙ ap (raised_run c.args.by) is)
    ∙ ap (λ (l : List Run). l ++ raised_run c.args.by (slice_index_or runs k none) ∷ []) c.loop-run.invariant
    ∙ sym (map_more (raised_run c.args.by) runs k none lt)

pub returns : goal.returns
returns c =
    let k : ℕ = c.loop-run.run-index in
    let runs = c.args.row.now.runs in
    let all : length runs ≤ k = subst (λ (l : List Run). length l ≤ k) c.as_slice-run-items.ensures c.loop-run-test.false in
    let raise : List Run → Row = λ l. record { left = c.args.row.now.left; runs = l } in
    ap raise (c.loop-run.invariant ∙ ap (map (raised_run c.args.by)) (take_all k runs all))
