use Rattle.std.proofs.Common.{◌≡◌, ◌-◌, ◌^◌, ◌<◌, ◌++◌, take, length}
use Rattle.delayed_sim.specs.Words.{digits}
use Rattle.delayed_sim.proofs.words.letters_of.Given as goal

abbrev pub invariant-loop-at : goal.invariant-loop-at
invariant-loop-at l = (take l.at l.word ++ digits l.labels (l.letters - l.at) l.rest ≡ digits l.labels l.letters l.number) × (l.rest < l.labels ^ (l.letters - l.at)) × (length l.word ≡ 3)
