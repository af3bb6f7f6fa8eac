use Rattle.std.proofs.Common.{inl, inr, refl, subst, arith}
use Rattle.std.proofs.lemmas.Bool.{cases_eq, false≢true}
use Rattle.std.specs.List.{slice_index}
use Rattle.map_laws.specs.Maps.{HasSameColumns}
use Rattle.letter_classes.proofs.classing.class_for.Goals as goal

pub returns-then-has_same_columns : goal.returns-then-has_same_columns
returns-then-has_same_columns c = inl (omega arith, c.if-has_same_columns.ensures.0 refl)

pub loop-class-preserved : goal.loop-class-preserved
loop-class-preserved c = λ k k_in same. elim (cases_eq k c.loop-class.class) [
  | inl e ↦ false≢true (c.if-has_same_columns.ensures.1 (subst (λ x. HasSameColumns c.args.automaton.now (slice_index c.args.firsts.now x) c.args.letter) e same))
  | inr apart ↦ c.loop-class.invariant k (omega arith) same
]
