-- The grammar of certificates, and their texts.
use Rattle.cert_value.specs.Text.{cert_lines}
use Rattle.cert_value.specs.WellFormed.{WellFormed}
use Rattle.cert_text.specs.Grammar.{read_lines}
use Rattle.cert_text.proofs.PlainCert.{plain_cert}
use Rattle.cert_text.proofs.Theorem.{text_then, reading_back}
use Rattle.cert_text.proofs.TextLemmas.{ReadsTexts}
use Rattle.cert_text.proofs.GrammarLemmas.{lines_read}

pub certs : ReadsTexts WellFormed cert_lines read_lines
certs = record { plain = plain_cert; onward = text_then; back = reading_back; reader = lines_read }
