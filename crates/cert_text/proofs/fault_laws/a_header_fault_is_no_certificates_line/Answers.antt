use Rattle.cert_line.specs.Lines.{heading_in}
use Rattle.cert_text.specs.Grammar.{read_sizes}
use Rattle.cert_text.proofs.HeaderLemmas.{header_just_where}
use Rattle.cert_text.proofs.CertHeads.{heads, heading_refuses}
use Rattle.cert_text.proofs.CertLemmas.{certs}
use Rattle.cert_text.proofs.fault_laws.a_header_fault_is_no_certificates_line.Goals as goal

pub returns : goal.returns
returns c = header_just_where heading_in read_sizes certs heads heading_refuses
