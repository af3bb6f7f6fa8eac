-- `equal A B C1 C2`
use Rattle.std.specs.Prelude.{◌≡◌, ℕ, ◌⊎◌, List, [], ◌∷◌}
use Rattle.shelf_io.specs.Shelf.{FileMap}
use Rattle.shelf_io.specs.Seen.{Call}
use Rattle.auto_core.specs.Accept.{Same, SeparatesLasso, SeparatesWord}
use Rattle.auto_core.specs.declared.parts.Mode.TheVariants.{Buchi}
use Rattle.ba_format.specs.declared.parts.Named.{Named}
use Rattle.ba_format.specs.declared.parts.Joined.{Joined}
use Rattle.ba_format.specs.Joining.{IsJoined}
use Rattle.cert_value.specs.declared.types.Cert.{Cert}
use Rattle.cert_value.specs.declared.types.Body.{Body}
use Rattle.cert_value.specs.declared.types.Body.TheVariants.{Yes, NoLasso, NoWord, Listing}
use Rattle.cert_value.specs.declared.types.Form.TheVariants as form
use Rattle.cert_value.specs.Text.{form_of}
use Rattle.decide.specs.Answer.{IsAnswer}
use Rattle.equal_batch.specs.declared.outcome.Both.{Both}
use Rattle.equal_batch.specs.declared.outcome.Both.TheVariants as both
use Rattle.equal_batch.specs.Equality.{said_by_both}
use Rattle.rabit_frame.specs.declared.parts.Value.{Value}
use Rattle.rabit_frame.specs.declared.parts.Value.TheVariants as value
use Rattle.rabit_frame.specs.declared.parts.Status.TheVariants as status
use Rattle.rabit_frame.specs.declared.parts.Reply.{Reply}
use Rattle.rabit_frame.specs.Files.{Input, Output}
use Rattle.rabit_frame.specs.Reading.{reply_with}
use Rattle.rabit_frame.specs.Ending.{filed, IsCutShort, Sends}
use Rattle.rabit_frame.specs.Carrying.{LeavesByStatus}
use Rattle.rabit_words.specs.declared.parts.TheConstants.{USUAL_LIMIT}
use Rattle.rabit_frame.specs.Printed.{equal_text, first_apart_text, second_apart_text, limit_text}
use Rattle.rabit_frame.specs.declared.files.TheConstants.{SECOND_LIMITS}
use Rattle.rabit_frame.specs.FileKinds.{automaton_file, certificate_put}
use Rattle.rabit_cli.specs.Include.{usual_terms, IsCertForWithin}
use Rattle.rabit_frame.specs.Replies.{IsNo}

-- The files that it reads: the two automata, each of which is a second one once.
abbrev pub equal_inputs : List ℕ → List ℕ → List Input
equal_inputs a b = automaton_file 1 SECOND_LIMITS a ∷ automaton_file 2 SECOND_LIMITS b ∷ []

-- The reply where the first is not included in the second: the certificate of that alone is
-- written.
abbrev pub first_apart_reply : List ℕ → Joined → Cert → Reply
first_apart_reply c pair cert =
    reply_with status.Refuted (first_apart_text pair.labels cert.body) (certificate_put c cert ∷ [])

-- The reply by what both answers say together, where both certificates are written. The labels and
-- the body are those of the second answer. That the first is apart does not come here, since then
-- the second is not decided.
abbrev pub both_reply : Both → List (List ℕ) → Body → List Output → Reply
both_reply (both.Equal) labels body puts = reply_with status.Done equal_text puts
both_reply (both.FirstApart) labels body puts =
    reply_with status.Refuted (second_apart_text labels body) puts
both_reply (both.SecondApart) labels body puts =
    reply_with status.Refuted (second_apart_text labels body) puts
both_reply (both.Limit) labels body puts = reply_with status.Limit (limit_text USUAL_LIMIT) puts

-- The files that are written where both were decided, in order.
abbrev pub both_puts : List ℕ → List ℕ → Cert → Cert → List Output
both_puts c d cert converse = certificate_put c cert ∷ certificate_put d converse ∷ []

-- The reply where the first inclusion has this answer and is not refuted: the second is decided
-- too.
abbrev pub IsBothReply : List ℕ → List ℕ → Named → Named → Cert → Reply → Type 0
IsBothReply c d one two cert r =
    (exchanged : Joined)
    × (converse : Cert)
    × IsJoined two one exchanged
    × IsAnswer exchanged (usual_terms Buchi) converse
    × (r ≡ both_reply (said_by_both (form_of cert.body) (form_of converse.body)) exchanged.labels
    converse.body (both_puts c d cert converse))

-- The reply to two joined automata.
abbrev pub IsEqualReply : List ℕ → List ℕ → Named → Named → Joined → Reply → Type 0
IsEqualReply c d one two pair r =
    (cert : Cert)
    × IsAnswer pair (usual_terms Buchi) cert
    × ((IsNo cert.body × (r ≡ first_apart_reply c pair cert))
    ⊎ (¬ IsNo cert.body × IsBothReply c d one two cert r))

-- The reply to what was read.
abbrev pub MeansEqual : List ℕ → List ℕ → List Value → Reply → Type 0
MeansEqual c d values r =
    (one two : Named)
    × (values ≡ value.Automaton one ∷ value.Automaton two ∷ [])
    × ((pair : Joined) × IsJoined one two pair × IsEqualReply c d one two pair r)

-- The files read as two automata, and the certificates are the answers for the first in the second
-- and for the second in the first.
pub record AreCertsBothWays (files : FileMap) (a b : List ℕ) (pair exchanged : Joined)
    (cert converse : Cert) : Type 0 where
  pub first : IsCertForWithin SECOND_LIMITS files a b (usual_terms Buchi) pair cert
  pub second : IsCertForWithin SECOND_LIMITS files b a (usual_terms Buchi) exchanged converse

-- What is written for these files: the first answer alone where that is a no, and else both.
abbrev pub AreEqualPuts : FileMap → List ℕ → List ℕ → List ℕ → List ℕ → List Output → Type 0
AreEqualPuts files a b c d puts =
    ((pair : Joined) × (cert : Cert)
    × IsCertForWithin SECOND_LIMITS files a b (usual_terms Buchi) pair cert × IsNo cert.body
    × (puts ≡ certificate_put c cert ∷ []))
    ⊎ ((pair exchanged : Joined)
    × (cert converse : Cert)
    × AreCertsBothWays files a b pair exchanged cert converse
    × ¬ IsNo cert.body
    × (puts ≡ both_puts c d cert converse))

-- All of that is written, and all other files are as before.
abbrev pub HoldsEqual : FileMap → List ℕ → List ℕ → List ℕ → List ℕ → FileMap → Type 0
HoldsEqual files a b c d files' =
    (puts : List Output) × AreEqualPuts files a b c d puts × (files' ≡ filed files puts)

-- A put failed: its name holds a front of its text, or what it held before, a put before it is
-- whole, and all other files are as before.
abbrev pub HoldsEqualPart : FileMap → List ℕ → List ℕ → List ℕ → List ℕ → FileMap → Type 0
HoldsEqualPart files a b c d files' =
    (puts : List Output) × AreEqualPuts files a b c d puts × IsCutShort files puts files'

-- What it leaves, by its status.
abbrev pub LeavesEqual : List ℕ → List ℕ → List ℕ → List ℕ → Call → FileMap → FileMap → Type 0
LeavesEqual a b c d =
    LeavesByStatus (λ before. HoldsEqual before a b c d) (λ before. HoldsEqualPart before a b c d)

-- The body has a lasso, or a word, that the first of the two accepts and the second does not.
abbrev pub Separates : Joined → Body → Type 0
Separates pair (Yes evidence) = ⊥
Separates pair (NoLasso lasso) = SeparatesLasso pair.first pair.second lasso.prefix lasso.turn
Separates pair (NoWord word) = SeparatesWord pair.first pair.second word
Separates pair (Listing list) = ⊥

-- The body is a list.
abbrev pub IsListBody : Body → Type 0
IsListBody (Yes evidence) = ⊥
IsListBody (NoLasso lasso) = ⊥
IsListBody (NoWord word) = ⊥
IsListBody (Listing list) = Unit {0}

-- Both accept the same lassos, and that was said; both certificates are written, and each says yes.
pub record AreShownEqual (files : FileMap) (a b c d : List ℕ) (files' : FileMap)
    (call : Call) : Type 0 where
  pub pair : Joined
  pub exchanged : Joined
  pub cert : Cert
  pub converse : Cert
  pub certs : AreCertsBothWays files a b pair exchanged cert converse
  pub says_yes : form_of cert.body ≡ form.Yes
  pub converse_says_yes : form_of converse.body ≡ form.Yes
  pub same : Same pair.first pair.second Buchi
  pub held : files' ≡ filed files (both_puts c d cert converse)
  pub printed : Sends equal_text call.before.sink call.after.sink

-- The first accepts a lasso that the second does not, which was printed; its certificate alone is
-- written.
pub record IsFirstApart (files : FileMap) (a b c : List ℕ) (files' : FileMap)
    (call : Call) : Type 0 where
  pub pair : Joined
  pub cert : Cert
  pub first : IsCertForWithin SECOND_LIMITS files a b (usual_terms Buchi) pair cert
  pub apart : Separates pair cert.body
  pub held : files' ≡ filed files (certificate_put c cert ∷ [])
  pub printed : Sends (first_apart_text pair.labels cert.body) call.before.sink call.after.sink

-- No lasso was found that the first accepts and the second does not, but one the other way round,
-- which was printed; both certificates are written.
pub record IsSecondApart (files : FileMap) (a b c d : List ℕ) (files' : FileMap)
    (call : Call) : Type 0 where
  pub pair : Joined
  pub exchanged : Joined
  pub cert : Cert
  pub converse : Cert
  pub certs : AreCertsBothWays files a b pair exchanged cert converse
  pub not_first : ¬ IsNo cert.body
  pub apart : Separates exchanged converse.body
  pub held : files' ≡ filed files (both_puts c d cert converse)
  pub printed : Sends (second_apart_text exchanged.labels converse.body) call.before.sink
      call.after.sink

-- One of the searches met its limit, and neither answer is a no; both certificates are written.
pub record IsEqualListed (files : FileMap) (a b c d : List ℕ) (files' : FileMap)
    (call : Call) : Type 0 where
  pub pair : Joined
  pub exchanged : Joined
  pub cert : Cert
  pub converse : Cert
  pub certs : AreCertsBothWays files a b pair exchanged cert converse
  pub not_first : ¬ IsNo cert.body
  pub not_second : ¬ IsNo converse.body
  pub lists : IsListBody cert.body ⊎ IsListBody converse.body
  pub held : files' ≡ filed files (both_puts c d cert converse)
  pub printed : Sends (limit_text USUAL_LIMIT) call.before.sink call.after.sink

-- What a status up to 2 shows: 0 that both accept the same, 1 what separates them one way or the
-- other, 2 that a limit was met.
pub record ShowsEqual (a b c d : List ℕ) (call : Call) (files files' : FileMap) : Type 0 where
  pub equal : call.status ≡ 0 → AreShownEqual files a b c d files' call
  pub apart : call.status ≡ 1
      → IsFirstApart files a b c files' call ⊎ IsSecondApart files a b c d files' call
  pub listed : call.status ≡ 2 → IsEqualListed files a b c d files' call
