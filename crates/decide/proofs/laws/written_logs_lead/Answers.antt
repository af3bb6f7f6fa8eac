use Rattle.decide.proofs.EndLemmas.{written_logs_lead as law}
use Rattle.decide.proofs.laws.written_logs_lead.Goals as goal

pub returns : goal.returns
returns c = law
