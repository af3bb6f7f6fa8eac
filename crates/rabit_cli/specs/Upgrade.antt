-- `upgrade CERT OUT`
use Rattle.std.specs.Prelude.{◌≡◌, ℕ, ◌⊎◌, List, [], ◌∷◌}
use Rattle.std.specs.FinMap as map
use Rattle.shelf_io.specs.Shelf.{FileMap}
use Rattle.shelf_io.specs.Seen.{Call}
use Rattle.cert_value.specs.declared.types.Cert.{Cert}
use Rattle.cert_value.specs.Text.{text}
use Rattle.cert_value.specs.WellFormed.{upgraded}
use Rattle.rabit_frame.specs.declared.parts.Value.{Value}
use Rattle.rabit_frame.specs.declared.parts.Value.TheVariants as value
use Rattle.rabit_frame.specs.declared.parts.Status.TheVariants as status
use Rattle.rabit_frame.specs.declared.parts.Reply.{Reply}
use Rattle.rabit_frame.specs.Files.{Input}
use Rattle.rabit_frame.specs.Reading.{reply_with}
use Rattle.rabit_frame.specs.Ending.{IsCutShort, Sends}
use Rattle.rabit_frame.specs.Carrying.{LeavesByStatus}
use Rattle.rabit_frame.specs.Printed.{upgrade_done_text}
use Rattle.rabit_frame.specs.FileKinds.{certificate_file, ReadsCertificate, certificate_put}

-- The file that it reads: the certificate.
abbrev pub upgrade_inputs : List ℕ → List Input
upgrade_inputs c = certificate_file c ∷ []

-- The reply to a certificate: that of version 2 is written, and that this is done is said.
abbrev pub upgrade_reply : List ℕ → Cert → Reply
upgrade_reply name cert =
    reply_with status.Done upgrade_done_text (certificate_put name (upgraded cert) ∷ [])

-- The reply to what was read.
abbrev pub MeansUpgrade : List ℕ → List Value → Reply → Type 0
MeansUpgrade name values r =
    (cert : Cert) × (values ≡ value.Certificate cert ∷ []) × (r ≡ upgrade_reply name cert)

-- The file reads as a certificate, the name holds the whole text of it in version 2, and all other
-- files are as before.
abbrev pub HoldsUpgraded : FileMap → List ℕ → List ℕ → FileMap → Type 0
HoldsUpgraded files c out files' =
    (cert : Cert) × ReadsCertificate files c cert
    × (files' ≡ map.insert files out (text (upgraded cert)))

-- The name holds a front of that text, or what it held before, and all other files are as before.
abbrev pub HoldsUpgradedFront : FileMap → List ℕ → List ℕ → FileMap → Type 0
HoldsUpgradedFront files c out files' =
    (cert : Cert) × ReadsCertificate files c cert
    × IsCutShort files (certificate_put out (upgraded cert) ∷ []) files'

-- What it leaves, by its status.
abbrev pub LeavesUpgraded : List ℕ → List ℕ → Call → FileMap → FileMap → Type 0
LeavesUpgraded c out =
    LeavesByStatus (λ before. HoldsUpgraded before c out) (λ before.
    HoldsUpgradedFront before c out)

-- The certificate was written in version 2, and that was said.
pub record IsUpgradedShown (files : FileMap) (c out : List ℕ) (files' : FileMap)
    (call : Call) : Type 0 where
  pub held : HoldsUpgraded files c out files'
  pub printed : Sends upgrade_done_text call.before.sink call.after.sink

-- What a status up to 2 shows: 0 a certificate of version 2, and 1 and 2 do not come.
pub record ShowsUpgrade (c out : List ℕ) (call : Call) (files files' : FileMap) : Type 0 where
  pub upgraded : call.status ≡ 0 → IsUpgradedShown files c out files' call
  pub no_other : ¬ (call.status ≡ 1) × ¬ (call.status ≡ 2)

-- The status of a result for these files: 0 if the file reads as a certificate, 5 if it does not.
abbrev pub IsUpgradeStatus : FileMap → List ℕ → ℕ → Type 0
IsUpgradeStatus files c status =
    (((cert : Cert) × ReadsCertificate files c cert) × (status ≡ 0))
    ⊎ (((cert : Cert) → ReadsCertificate files c cert → ⊥) × (status ≡ 5))
