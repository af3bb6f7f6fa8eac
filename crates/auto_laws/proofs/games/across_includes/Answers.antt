use Rattle.auto_laws.proofs.AppliedLemmas.{across_includes as law}
use Rattle.auto_laws.proofs.games.across_includes.Goals as goal

pub returns : goal.returns
returns c = law
