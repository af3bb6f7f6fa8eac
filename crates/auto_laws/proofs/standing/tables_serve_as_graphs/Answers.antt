use Rattle.auto_laws.proofs.StandingLemmas.{tables_serve_as_graphs as law}
use Rattle.auto_laws.proofs.standing.tables_serve_as_graphs.Goals as goal

pub returns : goal.returns
returns c = law
