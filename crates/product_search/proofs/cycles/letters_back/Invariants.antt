use Rattle.std.proofs.Common.{◌<◌, length}
use Rattle.product_search.specs.Words.{IsSpelledBack}
use Rattle.product_search.proofs.cycles.letters_back.Given as goal

abbrev pub invariant-loop-at : goal.invariant-loop-at
invariant-loop-at l = (l.at < length l.steps) × IsSpelledBack l.steps l.number l.letters.items l.at

abbrev pub decreases-loop-at : goal.decreases-loop-at
decreases-loop-at l = l.at
