use Rattle.std.proofs.Common.{◌∙◌, ap, sym, take, drop, ◌+◌, arith}
use Rattle.std.proofs.lemmas.List.{take_all, length-drop}
use Rattle.ba_format.specs.Grammar.{is_comma}
use Rattle.ba_format.proofs.LineLemmas.{place_found, place_missing}
use Rattle.ba_format.proofs.lines.split_at_comma.Goals as goal

pub returns-in-None : goal.returns-in-None
returns-in-None c = place_missing is_comma c.args.text.now (sym c.in-None.ensures)

pub returns-in-Some : goal.returns-in-Some
returns-in-Some c =
    let text = c.args.text.now in
    let found = place_found is_comma text c.in-Some.at (sym c.in-Some.ensures) in
    (found.0, ap (λ n. take n text) found.1, take_all _ _ (omega (arith, length-drop (c.in-Some.at + 1) text)) ∙ ap (λ n. drop (n + 1) text) found.1)
