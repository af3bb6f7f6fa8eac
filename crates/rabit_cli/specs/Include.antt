-- `include A B CERT`, with `--finite`, `--look K`, `--limit N` and `--letters M`
use Rattle.std.specs.Prelude.{◌≡◌, ℕ, List, [], ◌∷◌, Option, None, Some}
use Rattle.std.specs.FinMap as map
use Rattle.shelf_io.specs.Shelf.{FileMap}
use Rattle.shelf_io.specs.Seen.{Call}
use Rattle.auto_core.specs.Accept.{Includes}
use Rattle.auto_core.specs.declared.parts.Mode.{Mode}
use Rattle.ba_format.specs.declared.parts.Limits.{Limits}
use Rattle.ba_format.specs.declared.parts.Named.{Named}
use Rattle.ba_format.specs.declared.parts.Joined.{Joined}
use Rattle.ba_format.specs.Joining.{IsJoined}
use Rattle.cert_value.specs.declared.types.Cert.{Cert}
use Rattle.cert_value.specs.declared.types.YesBody.{YesBody}
use Rattle.cert_value.specs.declared.types.ListBody.{ListBody}
use Rattle.cert_value.specs.declared.types.Body.TheVariants.{Yes, Listing}
use Rattle.cert_value.specs.Text.{text}
use Rattle.cert_value.specs.WellFormed.{WellFormed}
use Rattle.cert_check.specs.Laws.{IsValid}
use Rattle.decide.specs.declared.terms.Terms.{Terms}
use Rattle.decide.specs.Terms.{terms_of_version_1}
use Rattle.decide.specs.Answer.{IsAnswer}
use Rattle.decide.specs.Laws.{AnswerIsTrue, StandApart, ListsNew}
use Rattle.rabit_frame.specs.declared.parts.Value.{Value}
use Rattle.rabit_frame.specs.declared.parts.Value.TheVariants as value
use Rattle.rabit_frame.specs.declared.parts.Reply.{Reply}
use Rattle.rabit_frame.specs.Ending.{IsCutShort, Sends}
use Rattle.rabit_frame.specs.Carrying.{LeavesByStatus}
use Rattle.rabit_words.specs.declared.parts.TheConstants.{USUAL_LOOK, USUAL_LIMIT, USUAL_LETTERS}
use Rattle.rabit_frame.specs.Printed.{included_text, limit_text}
use Rattle.rabit_frame.specs.declared.files.TheConstants.{FIRST_LIMITS}
use Rattle.rabit_frame.specs.FileKinds.{certificate_put, ReadsPairWithin, ReadsPair}
use Rattle.rabit_frame.specs.Replies.{IsVerdictReply, SaysApart}

-- The terms of a decision that names neither a lookahead nor a limit nor letters.
abbrev pub usual_terms : Mode → Terms
usual_terms mode = terms_of_version_1 mode USUAL_LOOK USUAL_LIMIT

-- How many letters a decision asks for: the usual number where none are named.
abbrev pub letters_by : Option ℕ → ℕ
letters_by None = USUAL_LETTERS
letters_by (Some letters) = letters

-- The version of its certificate: 2 where letters are named, and otherwise 1.
abbrev pub version_by : Option ℕ → ℕ
version_by None = 1
version_by (Some letters) = 2

-- The terms of a decision with this mode, lookahead and limit, where so many letters are named, or
-- none.
abbrev pub terms_by : Mode → ℕ → ℕ → Option ℕ → Terms
terms_by mode look limit letters =
    record {
      mode = mode;
      look = look;
      letters = letters_by letters;
      version = version_by letters;
      limit = limit;
    }

-- The reply to two joined automata: the answer of the search on the reduced ones is written, and
-- its verdict is said.
abbrev pub IsDecided : List ℕ → Terms → Joined → Reply → Type 0
IsDecided name terms pair r =
    (cert : Cert) × IsAnswer pair terms cert
    × IsVerdictReply terms.mode pair cert.body (certificate_put name cert ∷ []) r

-- The reply to what was read.
abbrev pub MeansInclude : List ℕ → Terms → List Value → Reply → Type 0
MeansInclude name terms values r =
    (one two : Named)
    × (values ≡ value.Automaton one ∷ value.Automaton two ∷ [])
    × ((pair : Joined) × IsJoined one two pair × IsDecided name terms pair r)

-- The two files read as this pair of automata, the first within these limits, and the certificate
-- is the answer for them: it has a text, keeps all rules of the check, and what it says is so.
pub record IsCertForWithin (limits : Limits) (files : FileMap) (a b : List ℕ) (terms : Terms)
    (pair : Joined) (cert : Cert) : Type 0 where
  pub read : ReadsPairWithin limits files a b pair
  pub answer : IsAnswer pair terms cert
  pub formed : WellFormed cert
  pub valid : IsValid pair cert
  pub truth : AnswerIsTrue pair terms cert.body

-- The same within the limits of a first file.
abbrev pub IsCertFor : FileMap → List ℕ → List ℕ → Terms → Joined → Cert → Type 0
IsCertFor = IsCertForWithin FIRST_LIMITS

-- The name holds the whole text of the answer for the two files, and all other files are as before.
abbrev pub HoldsAnswer : FileMap → List ℕ → List ℕ → List ℕ → Terms → FileMap → Type 0
HoldsAnswer files a b c terms files' =
    (pair : Joined) × (cert : Cert) × IsCertFor files a b terms pair cert
    × (files' ≡ map.insert files c (text cert))

-- The name holds a front of that text, or what it held before, and all other files are as before.
abbrev pub HoldsAnswerFront : FileMap → List ℕ → List ℕ → List ℕ → Terms → FileMap → Type 0
HoldsAnswerFront files a b c terms files' =
    (pair : Joined) × (cert : Cert) × IsCertFor files a b terms pair cert
    × IsCutShort files (certificate_put c cert ∷ []) files'

-- What it leaves, by its status: a verdict comes with the certificate's whole text. A write fault
-- leaves that too where the verdict could not be sent, and where the shelf's count rose a front of
-- it or what was there before. Nothing else writes a file.
abbrev pub LeavesDecided : List ℕ → List ℕ → List ℕ → Terms → Call → FileMap → FileMap → Type 0
LeavesDecided a b c terms =
    LeavesByStatus (λ before. HoldsAnswer before a b c terms) (λ before.
    HoldsAnswerFront before a b c terms)

-- It said no: the named files read as two automata, the answer is a no and keeps all rules of a
-- check, its lasso, in finite mode its word, separates the two and was printed, and the
-- certificate's name holds the answer's text; all other files are as before.
pub record IsDecidedApart (files : FileMap) (a b c : List ℕ) (terms : Terms) (files' : FileMap)
    (call : Call) : Type 0 where
  pub pair : Joined
  pub cert : Cert
  pub read : ReadsPair files a b pair
  pub answer : IsAnswer pair terms cert
  pub valid : IsValid pair cert
  pub apart : SaysApart pair cert.body call.before.sink call.after.sink
  pub held : files' ≡ map.insert files c (text cert)

-- It said yes, with the same of a yes: the logs lead to settled automata, and no live element
-- subsumes another.
pub record IsDecidedIncluded (files : FileMap) (a b c : List ℕ) (terms : Terms) (files' : FileMap)
    (call : Call) : Type 0 where
  pub pair : Joined
  pub cert : Cert
  pub evidence : YesBody
  pub read : ReadsPair files a b pair
  pub answer : IsAnswer pair terms cert
  pub says_yes : cert.body ≡ Yes evidence
  pub valid : IsValid pair cert
  pub includes : Includes pair.first pair.second terms.mode
  pub apart_live : StandApart pair terms evidence
  pub held : files' ≡ map.insert files c (text cert)
  pub printed : Sends (included_text terms.mode) call.before.sink call.after.sink

-- It met its limit, with the same of a list of one element more, which keeps all rules of a check:
-- these are different, and of the settled automata that the logs lead to.
pub record IsDecidedListed (files : FileMap) (a b c : List ℕ) (terms : Terms) (files' : FileMap)
    (call : Call) : Type 0 where
  pub pair : Joined
  pub cert : Cert
  pub list : ListBody
  pub read : ReadsPair files a b pair
  pub answer : IsAnswer pair terms cert
  pub lists : cert.body ≡ Listing list
  pub valid : IsValid pair cert
  pub listed : ListsNew pair terms list
  pub held : files' ≡ map.insert files c (text cert)
  pub printed : Sends (limit_text terms.limit) call.before.sink call.after.sink

-- What a status up to 2 shows: 0 an inclusion, 1 a lasso or a word that separates, 2 a list of more
-- elements than the limit.
pub record ShowsInclude (a b c : List ℕ) (terms : Terms) (call : Call)
    (files files' : FileMap) : Type 0 where
  pub included : call.status ≡ 0 → IsDecidedIncluded files a b c terms files' call
  pub not_included : call.status ≡ 1 → IsDecidedApart files a b c terms files' call
  pub limit_met : call.status ≡ 2 → IsDecidedListed files a b c terms files' call
