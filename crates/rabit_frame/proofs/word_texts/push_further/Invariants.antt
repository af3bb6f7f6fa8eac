use Rattle.std.proofs.Common.{◌≡◌, ◌++◌, take}
use Rattle.rabit_frame.specs.Printed.{further_letters}
use Rattle.rabit_frame.proofs.word_texts.push_further.Given as goal

abbrev pub invariant-loop-letter : goal.invariant-loop-letter
invariant-loop-letter l = l.out ≡ l.fn.out ++ further_letters l.labels (take l.letter-index l.word)
