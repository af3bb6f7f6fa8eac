use Rattle.std.proofs.Common.{◌≡◌, ℕ, List, [], ◌++◌, ◌==◌, map, true, Result, Ok, Err, sym, ap, ◌∙◌, append-nil, ◌⊎◌, IfOk}
use Rattle.cert_text.specs.declared.faults.CertReadFault.{CertReadFault}
use Rattle.cert_text.specs.declared.faults.CertReadFault.TheVariants.{Text, Memory}
use Rattle.cert_text.specs.Told.{Told}
use Rattle.cert_value.specs.declared.types.Cert.{Cert}
use Rattle.cert_text.specs.declared.faults.TextFault.{TextFault}
use Rattle.cert_value.specs.Text.{text, cert_lines}
use Rattle.cert_value.specs.Tokens.{tokens_of}
use Rattle.cert_value.specs.WellFormed.{has_text, has_some, WellFormed}
use Rattle.cert_text.specs.Grammar.{Read, lines_of, read_lines, reading, finish}
use Rattle.cert_text.specs.Law.{OneText}
use Rattle.cert_line.proofs.PairLemmas.{some_cons}
use Rattle.cert_text.proofs.BytesLines.{lines_text, text_back}
use Rattle.cert_text.proofs.PlainCert.{plain_cert}
use Rattle.cert_text.proofs.Forward.{cert_fw}
use Rattle.cert_text.proofs.Backward.{cert_bw, finish_bw}
use Rattle.cert_text.proofs.Reading.{told_inv, found_by, only_by, fault_by, first_by}
use Rattle.cert_text.proofs.ReadLemmas.{told_read, split_cons}

pub some_lines : (bytes : List ℕ) → has_some (lines_of bytes) ≡ true
some_lines bytes =
    let parts = split_cons (λ b. b == 10) bytes in
    ap (λ ps. has_some (map tokens_of ps)) parts.2 ∙ some_cons (tokens_of parts.0) (map tokens_of parts.1)

-- the text of a certificate and more is read to its end
pub text_then : (c : Cert) (more : List ℕ) → has_text c ≡ true → read_lines (lines_of (text c ++ more)) ≡ finish c (lines_of more)
text_then c more e =
    ap read_lines (lines_text (cert_lines c) more (plain_cert c)) ∙ cert_fw c (lines_of more) e (some_lines more)

-- the text of a certificate is read as it
pub reading_text : (c : Cert) → has_text c ≡ true → reading (text c) ≡ Ok c
reading_text c e =
    told_read (text c) c (ap (λ b. read_lines (lines_of b)) (sym (append-nil (text c))) ∙ text_then c [] e)

-- bytes that are read as a certificate are its text
pub reading_back : (bytes : List ℕ) (c : Cert) → reading bytes ≡ Ok c → (has_text c ≡ true) × (bytes ≡ text c)
reading_back bytes c e =
    let p = cert_bw (lines_of bytes) c (told_inv _ (read_lines (lines_of bytes)) c e) in
    (p.0, text_back bytes (cert_lines c) p.1)

-- no text is a front of another's, and no two have one text
pub one_text : OneText
one_text c d more hc hd e =
    let whole : read_lines (lines_of (text d ++ [])) ≡ Read d = text_then d [] hd in
    let front : finish c (lines_of more) ≡ Read d =
    sym (text_then c more hc) ∙ ap (λ b. read_lines (lines_of b)) (e ∙ sym (append-nil (text d))) ∙ whole in
    let f = finish_bw c d (lines_of more) front in
    (text_back more [] f.1, f.0)

-- The clauses of the reader.
pub found_of : (bytes : List ℕ) (r : Result Cert CertReadFault) → Told (reading bytes) r → IfOk r (λ c. WellFormed c × (bytes ≡ text c))
found_of = found_by WellFormed text reading reading_back reading_text

pub only_of : (bytes : List ℕ) (r : Result Cert CertReadFault) (c : Cert) → Told (reading bytes) r → WellFormed c → bytes ≡ text c
    → (r ≡ Ok c) ⊎ (r ≡ Err Memory)
only_of = only_by WellFormed text reading reading_back reading_text

pub fault_of : (bytes : List ℕ) (r : Result Cert CertReadFault) (f : TextFault) → Told (reading bytes) r → r ≡ Err (Text f) → reading bytes ≡ Err f
fault_of bytes = fault_by (reading bytes)

pub first_of : (bytes : List ℕ) (r : Result Cert CertReadFault) (f : TextFault) → Told (reading bytes) r → reading bytes ≡ Err f
    → (r ≡ Err (Text f)) ⊎ (r ≡ Err Memory)
first_of bytes = first_by (reading bytes)
