use Rattle.std.proofs.Common.{◌≡◌, length}
use Rattle.ba_format.specs.Grammar.{without_leading as text_without_leading}
use Rattle.ba_format.proofs.lines.without_leading.Given as goal

abbrev pub invariant-loop-rest : goal.invariant-loop-rest
invariant-loop-rest l = text_without_leading l.rest ≡ text_without_leading l.text

abbrev pub decreases-loop-rest : goal.decreases-loop-rest
decreases-loop-rest l = length l.rest
