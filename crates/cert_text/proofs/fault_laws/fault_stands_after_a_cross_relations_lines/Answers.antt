use Rattle.cert_text.proofs.PlaceLemmas.{stands_later}
use Rattle.cert_text.proofs.CrossLemmas.{crosses}
use Rattle.cert_text.proofs.fault_laws.fault_stands_after_a_cross_relations_lines.Goals as goal

pub returns : goal.returns
returns c = stands_later crosses
