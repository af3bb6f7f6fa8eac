-- What `empty` and `universal` have in common: an automaton is read, another one is made for it,
-- whether the one is included in the other is decided, and the made one's text and the certificate
-- are written.
use Rattle.std.specs.Prelude.{◌≡◌, ℕ, List, [], ◌∷◌}
use Rattle.shelf_io.specs.Shelf.{FileMap}
use Rattle.shelf_io.specs.Seen.{Call, SinkSeen}
use Rattle.auto_core.specs.Automaton.{Automaton}
use Rattle.auto_core.specs.declared.parts.Mode.{Mode}
use Rattle.auto_core.specs.declared.parts.Lasso.{Lasso}
use Rattle.ba_format.specs.declared.parts.Limits.{Limits}
use Rattle.ba_format.specs.declared.parts.Named.{Named}
use Rattle.ba_format.specs.declared.parts.Joined.{Joined}
use Rattle.ba_format.specs.Reading.{Reads}
use Rattle.cert_value.specs.declared.types.Cert.{Cert}
use Rattle.cert_value.specs.declared.types.Body.{Body}
use Rattle.cert_value.specs.declared.types.Body.TheVariants.{Yes, NoLasso, NoWord, Listing}
use Rattle.cert_value.specs.declared.types.YesBody.{YesBody}
use Rattle.cert_value.specs.declared.types.ListBody.{ListBody}
use Rattle.cert_check.specs.Laws.{IsValid}
use Rattle.decide.specs.Answer.{IsAnswer}
use Rattle.decide.specs.Laws.{AnswerIsTrue, ListsNew}
use Rattle.rabit_frame.specs.declared.parts.Value.{Value}
use Rattle.rabit_frame.specs.declared.parts.Value.TheVariants as value
use Rattle.rabit_frame.specs.declared.parts.Status.TheVariants as status
use Rattle.rabit_frame.specs.declared.parts.Reply.{Reply}
use Rattle.rabit_frame.specs.Files.{Input, Output}
use Rattle.rabit_frame.specs.Reading.{reply_with, FileReads}
use Rattle.rabit_frame.specs.Ending.{filed, IsCutShort, Sends}
use Rattle.rabit_frame.specs.Carrying.{LeavesByStatus}
use Rattle.rabit_frame.specs.Printed.{holds_text, lasso_against_text, word_against_text, limit_text}
use Rattle.rabit_frame.specs.declared.files.TheConstants.{SECOND_LIMITS}
use Rattle.rabit_frame.specs.FileKinds.{automaton_file, certificate_put}
use Rattle.rabit_words.specs.declared.parts.TheConstants.{USUAL_LIMIT}
use Rattle.rabit_cli.specs.Include.{usual_terms}

-- A property of automata, as it is decided: its name; the limits of the automaton that is read; the
-- text of the automaton that is made for a read one, and how the two are joined to the pair that is
-- decided; what it says; and which lasso, in finite mode which word, shows that an automaton has it
-- not.
pub record Property : Type 1 where
  pub name : List ℕ
  pub limits : Limits
  pub made : Named → List ℕ
  pub joins : Named → Named → Joined → Type 0
  pub holds : Mode → Automaton → Type 0
  pub lasso_against : Automaton → Lasso → Type 0
  pub word_against : Automaton → List ℕ → Type 0

-- The file that they read: the automaton.
abbrev pub property_inputs : Property → List ℕ → List Input
property_inputs p a = automaton_file 1 p.limits a ∷ []

-- The files that they write, in order: the made text, and then the certificate's.
abbrev pub property_puts : List ℕ → List ℕ → List ℕ → Cert → List Output
property_puts m made c cert = record { name = m; bytes = made } ∷ certificate_put c cert ∷ []

-- What an answer says of a property: a yes that it is there, a no that it is not, and what shows
-- that, and a list its limit.
abbrev pub IsPropertyReply : List ℕ → Joined → Body → List Output → Reply → Type 0
IsPropertyReply property pair (Yes evidence) puts r =
    r ≡ reply_with status.Done (holds_text property) puts
IsPropertyReply property pair (NoLasso lasso) puts r =
    r ≡ reply_with status.Refuted (lasso_against_text property pair.labels lasso) puts
IsPropertyReply property pair (NoWord word) puts r =
    r ≡ reply_with status.Refuted (word_against_text property pair.labels word) puts
IsPropertyReply property pair (Listing list) puts r =
    r ≡ reply_with status.Limit (limit_text list.limit) puts

-- The reply to the joined automata, where this text was made and these are the names of both files.
abbrev pub IsPropertyDecided : List ℕ → List ℕ → List ℕ → List ℕ → Mode → Joined → Reply → Type 0
IsPropertyDecided property made m c mode pair r =
    (cert : Cert) × IsAnswer pair (usual_terms mode) cert
    × IsPropertyReply property pair cert.body (property_puts m made c cert) r

-- The reply to the read automaton and what the made text reads as.
abbrev pub IsPropertyDecidedFor : Property → List ℕ → List ℕ → Mode → Named → Reply → Type 0
IsPropertyDecidedFor p m c mode one r =
    (other : Named) × Reads (p.made one) SECOND_LIMITS other
    × ((pair : Joined) × p.joins one other pair
    × IsPropertyDecided p.name (p.made one) m c mode pair r)

-- The reply to what was read.
abbrev pub MeansProperty : Property → List ℕ → List ℕ → Mode → List Value → Reply → Type 0
MeansProperty p m c mode values r =
    (one : Named) × (values ≡ value.Automaton one ∷ []) × IsPropertyDecidedFor p m c mode one r

-- The file reads as the first automaton and the made text as the other, and the certificate is the
-- answer for the pair: it is valid, and what it says is so.
pub record IsPropertyCertFor (p : Property) (mode : Mode) (files : FileMap) (a : List ℕ)
    (one other : Named) (pair : Joined) (cert : Cert) : Type 0 where
  pub read : FileReads files (automaton_file 1 p.limits a) (value.Automaton one)
  pub other_reads : Reads (p.made one) SECOND_LIMITS other
  pub joined : p.joins one other pair
  pub answer : IsAnswer pair (usual_terms mode) cert
  pub valid : IsValid pair cert
  pub truth : AnswerIsTrue pair (usual_terms mode) cert.body

-- Both names hold their whole texts, and all other files are as before.
pub record HoldsProperty (p : Property) (files : FileMap) (a m c : List ℕ) (mode : Mode)
    (files' : FileMap) : Type 0 where
  pub one : Named
  pub other : Named
  pub pair : Joined
  pub cert : Cert
  pub is_for : IsPropertyCertFor p mode files a one other pair cert
  pub held : files' ≡ filed files (property_puts m (p.made one) c cert)

-- A put failed. If the first did, the made text's name holds a front of it, or what it held before;
-- if the second did, it holds all of it, and the certificate's name a front of that text, or what
-- it held before. All other files are as before.
abbrev pub HoldsPropertyPart : Property → FileMap → List ℕ → List ℕ → List ℕ → Mode → FileMap
    → Type 0
HoldsPropertyPart p files a m c mode files' =
    (one other : Named)
    × (pair : Joined)
    × (cert : Cert)
    × IsPropertyCertFor p mode files a one other pair cert
    × IsCutShort files (property_puts m (p.made one) c cert) files'

-- What they leave, by the status.
abbrev pub LeavesProperty : Property → List ℕ → List ℕ → List ℕ → Mode → Call → FileMap → FileMap
    → Type 0
LeavesProperty p a m c mode =
    LeavesByStatus (λ before. HoldsProperty p before a m c mode) (λ before.
    HoldsPropertyPart p before a m c mode)

-- The body has a lasso, in finite mode a word, that shows that the read automaton has not the
-- property, and that was printed with its labels.
abbrev pub IsRefuted : Property → Named → Body → SinkSeen → SinkSeen → Type 0
IsRefuted p one (Yes evidence) old new = ⊥
IsRefuted p one (NoLasso lasso) old new =
    p.lasso_against one.auto lasso × Sends (lasso_against_text p.name one.labels lasso) old new
IsRefuted p one (NoWord word) old new =
    p.word_against one.auto word × Sends (word_against_text p.name one.labels word) old new
IsRefuted p one (Listing list) old new = ⊥

-- The read automaton has the property, which was printed; both files are written.
pub record IsShownToHold (p : Property) (files : FileMap) (a m c : List ℕ) (mode : Mode)
    (files' : FileMap) (call : Call) : Type 0 where
  pub written : HoldsProperty p files a m c mode files'
  pub evidence : YesBody
  pub says_yes : written.cert.body ≡ Yes evidence
  pub holds : p.holds mode written.one.auto
  pub printed : Sends (holds_text p.name) call.before.sink call.after.sink

-- It has not, and what shows that was printed; both files are written.
pub record IsShownToFail (p : Property) (files : FileMap) (a m c : List ℕ) (mode : Mode)
    (files' : FileMap) (call : Call) : Type 0 where
  pub written : HoldsProperty p files a m c mode files'
  pub refuted : IsRefuted p written.one written.cert.body call.before.sink call.after.sink

-- The search met its limit, which was printed; both files are written.
pub record IsPropertyListed (p : Property) (files : FileMap) (a m c : List ℕ) (mode : Mode)
    (files' : FileMap) (call : Call) : Type 0 where
  pub written : HoldsProperty p files a m c mode files'
  pub list : ListBody
  pub lists : written.cert.body ≡ Listing list
  pub listed : ListsNew written.pair (usual_terms mode) list
  pub printed : Sends (limit_text USUAL_LIMIT) call.before.sink call.after.sink

-- What a status up to 2 shows: 0 that the read automaton has the property, 1 that it has not, 2 a
-- list of more elements than the limit.
pub record ShowsProperty (p : Property) (a m c : List ℕ) (mode : Mode) (call : Call)
    (files files' : FileMap) : Type 0 where
  pub holds : call.status ≡ 0 → IsShownToHold p files a m c mode files' call
  pub fails : call.status ≡ 1 → IsShownToFail p files a m c mode files' call
  pub listed : call.status ≡ 2 → IsPropertyListed p files a m c mode files' call
