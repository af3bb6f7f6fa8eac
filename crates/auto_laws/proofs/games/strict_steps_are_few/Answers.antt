use Rattle.auto_laws.proofs.AppliedLemmas.{strict_steps_are_few as law}
use Rattle.auto_laws.proofs.games.strict_steps_are_few.Goals as goal

pub returns : goal.returns
returns c = law
