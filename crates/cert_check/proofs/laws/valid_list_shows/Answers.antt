use Rattle.cert_check.proofs.ListingLemmas.{valid_list as law}
use Rattle.cert_check.proofs.laws.valid_list_shows.Goals as goal

pub returns : goal.returns
returns c = law
