use Rattle.std.proofs.Common.{ℕ, ◌<◌, slice_index}
use Rattle.map_laws.specs.Maps.{HasSameColumns}
use Rattle.letter_classes.proofs.classing.class_for.Given as goal

abbrev pub invariant-loop-class : goal.invariant-loop-class
invariant-loop-class l = (c : ℕ) → c < l.class → HasSameColumns l.automaton (slice_index l.firsts c) l.letter → ⊥
