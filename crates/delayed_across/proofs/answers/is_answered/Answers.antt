use Rattle.std.proofs.Common.{refl}
use Rattle.std.proofs.lemmas.Bool.{false≢true}
use Rattle.delayed_laws.specs.Listed.{delayed_at}
use Rattle.delayed_across.proofs.answers.is_answered.Goals as goal

pub returns-in-Some : goal.returns-in-Some
returns-in-Some c = (
  (λ yes. let is = c.in-Some.ensures.some.answer in ((delayed_at c.args.pairs.now c.in-Some.field-0).right, is.move, is.held)),
  λ answer. refl,
)

pub returns-in-None : goal.returns-in-None
returns-in-None c = ((λ yes. absurd (false≢true yes)), λ answer. absurd (c.in-None.ensures.none answer))
