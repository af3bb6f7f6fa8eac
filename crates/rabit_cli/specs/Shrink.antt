-- `shrink A B CERT OUT`
use Rattle.std.specs.Prelude.{◌≡◌, ℕ, ◌⊎◌, List, [], ◌∷◌}
use Rattle.std.specs.FinMap as map
use Rattle.shelf_io.specs.Shelf.{FileMap}
use Rattle.shelf_io.specs.Seen.{Call}
use Rattle.auto_core.specs.declared.parts.Lasso.{Lasso}
use Rattle.ba_format.specs.declared.parts.Named.{Named}
use Rattle.ba_format.specs.declared.parts.Joined.{Joined}
use Rattle.ba_format.specs.Joining.{IsJoined}
use Rattle.cert_value.specs.declared.types.Cert.{Cert}
use Rattle.cert_value.specs.declared.types.Body.{Body}
use Rattle.cert_value.specs.declared.types.Body.TheVariants.{Yes, NoLasso, NoWord, Listing}
use Rattle.cert_value.specs.Text.{text}
use Rattle.cert_check.specs.Rules.{KeepsRules}
use Rattle.cert_check.specs.Laws.{IsValid}
use Rattle.lasso_shrink.specs.Shrinking.{IsShrunkLasso, IsShrunkWord}
use Rattle.rabit_frame.specs.declared.parts.Value.{Value}
use Rattle.rabit_frame.specs.declared.parts.Value.TheVariants as value
use Rattle.rabit_frame.specs.declared.parts.Reply.{Reply}
use Rattle.rabit_frame.specs.Ending.{IsCutShort}
use Rattle.rabit_frame.specs.Carrying.{LeavesByStatus}
use Rattle.rabit_frame.specs.FileKinds.{ReadsPair, ReadsCertificate, certificate_put}
use Rattle.rabit_frame.specs.Replies.{nothing_to_shrink_reply, IsNo, IsRefusedReply, IsVerdictReply, SaysApart}

-- The second body has what is left of the first one's lasso, or of its word.
abbrev pub IsShrunkBody : Joined → Body → Body → Type 0
IsShrunkBody pair (Yes evidence) body = ⊥
IsShrunkBody pair (NoLasso lasso) body =
    (left : Lasso) × IsShrunkLasso pair.first pair.second lasso left × (body ≡ NoLasso left)
IsShrunkBody pair (NoWord word) body =
    (left : List ℕ) × IsShrunkWord pair.first pair.second word left × (body ≡ NoWord left)
IsShrunkBody pair (Listing list) body = ⊥

-- The no of version 1 with this body, whatever the version of the certificate.
abbrev pub shrunk_no : Cert → Body → Cert
shrunk_no cert body = record cert { version = 1; body = body }

-- The reply to two joined automata and a certificate: it is refused, as by a check; or it is valid,
-- and has nothing to shrink, or what is left is written and printed.
abbrev pub IsShrinkReply : List ℕ → Joined → Cert → Reply → Type 0
IsShrinkReply name pair cert r =
    IsRefusedReply pair cert r
    ⊎ (KeepsRules pair cert × ¬ IsNo cert.body × (r ≡ nothing_to_shrink_reply))
    ⊎ (KeepsRules pair cert
    × ((left : Body) × IsShrunkBody pair cert.body left
    × IsVerdictReply cert.mode pair left (certificate_put name (shrunk_no cert left) ∷ []) r))

-- The reply to what was read.
abbrev pub MeansShrink : List ℕ → List Value → Reply → Type 0
MeansShrink name values r =
    (one two : Named)
    × (cert : Cert)
    × (values ≡ value.Automaton one ∷ value.Automaton two ∷ value.Certificate cert ∷ [])
    × ((pair : Joined) × IsJoined one two pair × IsShrinkReply name pair cert r)

-- The files read as two automata and a valid certificate, of whose lasso or word this is left; with
-- it the certificate is valid too.
pub record IsShrunkFor (files : FileMap) (a b c : List ℕ) (pair : Joined) (cert : Cert)
    (left : Body) : Type 0 where
  pub read : ReadsPair files a b pair
  pub certificate : ReadsCertificate files c cert
  pub valid : IsValid pair cert
  pub shrunk : IsShrunkBody pair cert.body left
  pub left_valid : IsValid pair (shrunk_no cert left)

-- The name holds the whole text of the shorter certificate, and all other files are as before.
abbrev pub HoldsShrunk : FileMap → List ℕ → List ℕ → List ℕ → List ℕ → FileMap → Type 0
HoldsShrunk files a b c out files' =
    (pair : Joined)
    × (cert : Cert)
    × (left : Body)
    × IsShrunkFor files a b c pair cert left
    × (files' ≡ map.insert files out (text (shrunk_no cert left)))

-- The name holds a front of that text, or what it held before, and all other files are as before.
abbrev pub HoldsShrunkFront : FileMap → List ℕ → List ℕ → List ℕ → List ℕ → FileMap → Type 0
HoldsShrunkFront files a b c out files' =
    (pair : Joined)
    × (cert : Cert)
    × (left : Body)
    × IsShrunkFor files a b c pair cert left
    × IsCutShort files (certificate_put out (shrunk_no cert left) ∷ []) files'

-- What it leaves, by its status.
abbrev pub LeavesShrunk : List ℕ → List ℕ → List ℕ → List ℕ → Call → FileMap → FileMap → Type 0
LeavesShrunk a b c out =
    LeavesByStatus (λ before. HoldsShrunk before a b c out) (λ before.
    HoldsShrunkFront before a b c out)

-- What is left was printed, and is what the written certificate says.
pub record IsShrunkShown (files : FileMap) (a b c out : List ℕ) (files' : FileMap)
    (call : Call) : Type 0 where
  pub pair : Joined
  pub cert : Cert
  pub left : Body
  pub is_left : IsShrunkFor files a b c pair cert left
  pub apart : SaysApart pair left call.before.sink call.after.sink
  pub held : files' ≡ map.insert files out (text (shrunk_no cert left))

-- What a status up to 2 shows: 1 what is left of a lasso or a word and still separates, and 0 and 2
-- do not come.
pub record ShowsShrink (a b c out : List ℕ) (call : Call) (files files' : FileMap) : Type 0 where
  pub shrunk : call.status ≡ 1 → IsShrunkShown files a b c out files' call
  pub no_other : ¬ (call.status ≡ 0) × ¬ (call.status ≡ 2)

-- The files read as two automata and as a certificate that is valid for them, with such a body.
abbrev pub ReadsValidCertificate : FileMap → List ℕ → List ℕ → List ℕ → (Body → Type 0) → Type 0
ReadsValidCertificate files a b c with_such =
    (pair : Joined) × (cert : Cert) × ReadsPair files a b pair × ReadsCertificate files c cert
    × IsValid pair cert × with_such cert.body

-- The status of a result for these files: 1 if the certificate is a valid no, 13 if it is valid and
-- says something else, 5 if it is not valid.
abbrev pub IsShrinkStatus : FileMap → List ℕ → List ℕ → List ℕ → ℕ → Type 0
IsShrinkStatus files a b c status =
    (ReadsValidCertificate files a b c IsNo × (status ≡ 1))
    ⊎ (ReadsValidCertificate files a b c (λ body. ¬ IsNo body) × (status ≡ 13))
    ⊎ (¬ ReadsValidCertificate files a b c (λ body. Unit {0}) × (status ≡ 5))
