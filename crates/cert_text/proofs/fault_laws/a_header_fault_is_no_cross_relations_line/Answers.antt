use Rattle.cert_text.specs.CrossGrammar.{cross_heading_in, read_cross_sizes}
use Rattle.cert_text.proofs.HeaderLemmas.{header_just_where}
use Rattle.cert_text.proofs.CrossHeads.{cross_heads, cross_heading_refuses}
use Rattle.cert_text.proofs.CrossLemmas.{crosses}
use Rattle.cert_text.proofs.fault_laws.a_header_fault_is_no_cross_relations_line.Goals as goal

pub returns : goal.returns
returns c = header_just_where cross_heading_in (λ u. read_cross_sizes) crosses cross_heads cross_heading_refuses
