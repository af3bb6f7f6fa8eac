use Rattle.std.proofs.Common.{◌≡◌, ◌-◌, ◌++◌, take, drop}
use Rattle.ba_format.specs.Grammar.{arrows, before_arrow, after_arrow}
use Rattle.ba_format.proofs.lines.split_at_arrow.Given as goal

abbrev pub invariant-loop-at : goal.invariant-loop-at
invariant-loop-at l =
    (arrows l.text ≡ arrows (drop (l.at - 1) l.text))
    × (before_arrow l.text ≡ take (l.at - 1) l.text ++ before_arrow (drop (l.at - 1) l.text))
    × (after_arrow l.text ≡ after_arrow (drop (l.at - 1) l.text))
