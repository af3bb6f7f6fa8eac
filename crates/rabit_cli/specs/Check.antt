-- `check A B CERT`
use Rattle.std.specs.Prelude.{◌≡◌, ℕ, ◌+◌, ◌⊎◌, List, [], ◌∷◌}
use Rattle.shelf_io.specs.Shelf.{FileMap}
use Rattle.shelf_io.specs.Seen.{Call}
use Rattle.auto_core.specs.Accept.{Includes}
use Rattle.ba_format.specs.declared.parts.Named.{Named}
use Rattle.ba_format.specs.declared.parts.Joined.{Joined}
use Rattle.ba_format.specs.Joining.{IsJoined}
use Rattle.cert_value.specs.declared.types.Cert.{Cert}
use Rattle.cert_value.specs.declared.types.YesBody.{YesBody}
use Rattle.cert_value.specs.declared.types.ListBody.{ListBody}
use Rattle.cert_value.specs.declared.types.Body.TheVariants.{Yes, Listing}
use Rattle.cert_check.specs.Rules.{KeepsRules, ListsDifferent}
use Rattle.cert_check.specs.Laws.{IsValid}
use Rattle.rabit_frame.specs.declared.parts.Value.{Value}
use Rattle.rabit_frame.specs.declared.parts.Value.TheVariants as value
use Rattle.rabit_frame.specs.declared.parts.Reply.{Reply}
use Rattle.rabit_frame.specs.Files.{Input}
use Rattle.rabit_frame.specs.Ending.{Sends}
use Rattle.rabit_frame.specs.Printed.{included_text, limit_text}
use Rattle.rabit_frame.specs.declared.files.TheConstants.{FIRST_LIMITS, SECOND_LIMITS}
use Rattle.rabit_frame.specs.FileKinds.{automaton_file, certificate_file, ReadsPair, ReadsCertificate}
use Rattle.rabit_frame.specs.Replies.{IsRefusedReply, IsVerdictReply, SaysApart}

-- The files that it reads: the two automata, and then the certificate.
abbrev pub check_inputs : List ℕ → List ℕ → List ℕ → List Input
check_inputs a b c =
    automaton_file 1 FIRST_LIMITS a ∷ automaton_file 2 SECOND_LIMITS b ∷ certificate_file c ∷ []

-- The reply to two joined automata and a certificate: it is refused, or it is valid and its verdict
-- is said.
abbrev pub Concludes : Joined → Cert → Reply → Type 0
Concludes pair cert r =
    IsRefusedReply pair cert r
    ⊎ (KeepsRules pair cert × IsVerdictReply cert.mode pair cert.body [] r)

-- The reply to what was read.
abbrev pub MeansCheck : List Value → Reply → Type 0
MeansCheck values r =
    (one two : Named)
    × (cert : Cert)
    × (values ≡ value.Automaton one ∷ value.Automaton two ∷ value.Certificate cert ∷ [])
    × ((pair : Joined) × IsJoined one two pair × Concludes pair cert r)

-- It said no: the named files read as two automata, the certificate says no and keeps all rules,
-- the first automaton accepts its lasso, in finite mode its word, and the second does not, and that
-- was printed.
pub record IsApart (files : FileMap) (a b c : List ℕ) (call : Call) : Type 0 where
  pub pair : Joined
  pub cert : Cert
  pub read : ReadsPair files a b pair
  pub certificate : ReadsCertificate files c cert
  pub valid : IsValid pair cert
  pub apart : SaysApart pair cert.body call.before.sink call.after.sink

-- It said yes: the named files read as two automata, the certificate says yes and keeps all rules,
-- the second automaton accepts each lasso, in finite mode each word, that the first accepts, and
-- that was printed.
pub record IsIncluded (files : FileMap) (a b c : List ℕ) (call : Call) : Type 0 where
  pub pair : Joined
  pub cert : Cert
  pub evidence : YesBody
  pub read : ReadsPair files a b pair
  pub certificate : ReadsCertificate files c cert
  pub says_yes : cert.body ≡ Yes evidence
  pub valid : IsValid pair cert
  pub includes : Includes pair.first pair.second cert.mode
  pub printed : Sends (included_text cert.mode) call.before.sink call.after.sink

-- It said that a list is longer than its limit: the named files read as two automata, the
-- certificate is a list and keeps all rules, it has of the automata that its logs lead to one more
-- than its limit of pairwise different supergraphs, in finite mode pairs of a state and a set, and
-- the limit was printed.
pub record IsListed (files : FileMap) (a b c : List ℕ) (call : Call) : Type 0 where
  pub pair : Joined
  pub cert : Cert
  pub list : ListBody
  pub read : ReadsPair files a b pair
  pub certificate : ReadsCertificate files c cert
  pub lists : cert.body ≡ Listing list
  pub valid : IsValid pair cert
  pub different : ListsDifferent cert.mode pair (list.limit + 1) list
  pub printed : Sends (limit_text list.limit) call.before.sink call.after.sink

-- What a status up to 2 shows: 0 an inclusion, 1 a lasso or a word that separates, 2 a list of more
-- elements than its limit.
pub record ShowsCheck (a b c : List ℕ) (call : Call) (files : FileMap) : Type 0 where
  pub included : call.status ≡ 0 → IsIncluded files a b c call
  pub not_included : call.status ≡ 1 → IsApart files a b c call
  pub listed : call.status ≡ 2 → IsListed files a b c call
