use Rattle.evidence.proofs.EntriesLemmas.{origins_of_entries as law}
use Rattle.evidence.proofs.laws.entries_have_origins.Goals as goal

pub returns : goal.returns
returns c = law
