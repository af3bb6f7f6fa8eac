-- What a check says of what a decision, an upgrade and a search for a cross relation wrote, what
-- the questions of a batch show, and what the texts read as that
-- `empty` and `universal` make.
use Rattle.std.specs.Prelude.{◌≡◌, ◌≢◌, ◌≤◌, ◌^◌, ◌↔◌, ℕ, List, [], ◌∷◌, length, All}
use Rattle.std.specs.FinMap as map
use Rattle.shelf_io.specs.Shelf.{FileMap}
use Rattle.shelf_io.specs.Seen.{ShelfSeen}
use Rattle.ba_format.specs.declared.parts.Joined.{Joined}
use Rattle.cert_value.specs.declared.types.Cert.{Cert}
use Rattle.cert_value.specs.Text.{text}
use Rattle.cert_value.specs.WellFormed.{upgraded}
use Rattle.cert_text.specs.declared.cross.Cross.{Cross}
use Rattle.equal_batch.specs.declared.questions.Question.{Question}
use Rattle.decide.specs.Answer.{IsAnswer}
use Rattle.decide.specs.Terms.{AreBounded}
use Rattle.decide.specs.declared.terms.Terms.{Terms}
use Rattle.auto_core.specs.declared.parts.Mode.{Mode}
use Rattle.ba_format.specs.declared.parts.Limits.{Limits}
use Rattle.ba_format.specs.declared.parts.Named.{Named}
use Rattle.ba_format.specs.Laws.{IsLabelText}
use Rattle.ba_format.specs.Reading.{Reads}
use Rattle.ba_format.specs.Sight.{AreDifferent}
use Rattle.ba_format.specs.Writing.{written}
use Rattle.rabit_words.specs.Question.{NamesDiffer}
use Rattle.rabit_frame.specs.declared.parts.Value.TheVariants as value
use Rattle.rabit_frame.specs.declared.parts.Status.TheVariants as status
use Rattle.rabit_frame.specs.declared.parts.Reply.{Reply}
use Rattle.rabit_frame.specs.Files.{Output}
use Rattle.rabit_frame.specs.Request.{request_with}
use Rattle.rabit_frame.specs.Statuses.{status_number}
use Rattle.rabit_frame.specs.Reading.{only_said}
use Rattle.rabit_frame.specs.Ending.{IsReplyFor, filed}
use Rattle.rabit_frame.specs.FileKinds.{ReadsPair, ReadsCertificate, pair_inputs}
use Rattle.rabit_frame.specs.Printed.{by_simulation_text}
use Rattle.rabit_frame.specs.Replies.{IsVerdictReply}
use Rattle.rabit_cli.specs.Check.{check_inputs, MeansCheck}
use Rattle.rabit_cli.specs.Include.{MeansInclude}
use Rattle.rabit_cli.specs.Upgrade.{upgrade_inputs, MeansUpgrade}
use Rattle.rabit_cli.specs.Cross.{MeansCross, IsCrossOfFiles, ReadsCross, cross_check_inputs, MeansCrossCheck}
use Rattle.rabit_cli.specs.Batch.{LeaveInTurn, ShowInTurn}
use Rattle.rabit_cli.specs.Property.{Property, IsPropertyCertFor, IsPropertyReply, property_puts}
use Rattle.rabit_cli.specs.Empty.{empty_text, AcceptsNothing, emptiness}
use Rattle.rabit_cli.specs.Universal.{all_loops, AcceptsAll, universality}

-- The right reply of `check A B CERT` for these files.
abbrev pub IsCheckReply : FileMap → List ℕ → List ℕ → List ℕ → Reply → Type 0
IsCheckReply files a b c r = IsReplyFor (request_with (check_inputs a b c) MeansCheck) files r

-- The right reply of `include A B CERT` for these files.
abbrev pub IsIncludeReply : FileMap → List ℕ → List ℕ → List ℕ → Terms → Reply → Type 0
IsIncludeReply files a b c terms r =
    IsReplyFor (request_with (pair_inputs a b) (MeansInclude c terms)) files r

-- Where the name of the certificate is none of the two others, and the answer for the two automata
-- has a text of at most 1 GiB, a check of the files that hold it says what the decision said.
abbrev pub CheckAgrees : Type 0
CheckAgrees =
    (files : FileMap) (a b c : List ℕ) (terms : Terms) (pair : Joined) (cert : Cert) (r : Reply)
    → c ≢ a → c ≢ b → AreBounded terms → ReadsPair files a b pair → IsAnswer pair terms cert
    → length (text cert) ≤ 2 ^ 30 →
    IsIncludeReply files a b c terms r
    → IsCheckReply (map.insert files c (text cert)) a b c (only_said r.status r.text)

-- Where the certificate's name is none of the two others, and the decision comes to a verdict and
-- writes at most 1 GiB, a check of the files that it leaves says what it said.
abbrev pub IncludeIsChecked : Type 0
IncludeIsChecked =
    (files : FileMap) (a b c : List ℕ) (terms : Terms) (r : Reply)
    → c ≢ a
    → c ≢ b
    → AreBounded terms
    → IsIncludeReply files a b c terms r
    → status_number r.status ≤ 2
    → All (λ (put : Output). length put.bytes ≤ 2 ^ 30) r.puts
    → IsCheckReply (filed files r.puts) a b c (only_said r.status r.text)

-- Wherever a file of at most 1 GiB holds the text of an answer, a check of it for the two automata
-- that it answers has that verdict.
abbrev pub AnswersAreAccepted : Type 0
AnswersAreAccepted =
    (files : FileMap) (a b c : List ℕ) (terms : Terms) (pair : Joined) (cert : Cert) (r : Reply)
    → AreBounded terms
    → ReadsPair files a b pair
    → IsAnswer pair terms cert
    → ReadsCertificate files c cert
    → IsVerdictReply cert.mode pair cert.body [] r
    → IsCheckReply files a b c r

-- A check says the same of a certificate and of its upgrade, for all automata.
abbrev pub CheckAgreesOnUpgrade : Type 0
CheckAgreesOnUpgrade =
    (one two : Named) (cert : Cert) (r : Reply)
    → MeansCheck (value.Automaton one ∷ value.Automaton two ∷ value.Certificate cert ∷ []) r
    ↔ MeansCheck
    (value.Automaton one ∷ value.Automaton two ∷ value.Certificate (upgraded cert) ∷ []) r

-- Where the upgrade's name is neither automaton's, and `upgrade` wrote at most 1 GiB, a check of
-- the upgrade over the files that it leaves says what a check of the certificate says over the
-- files before.
abbrev pub UpgradeIsChecked : Type 0
UpgradeIsChecked =
    (files : FileMap) (a b c out : List ℕ) (r s : Reply)
    → out ≢ a
    → out ≢ b
    → IsReplyFor (request_with (upgrade_inputs c) (MeansUpgrade out)) files r
    → status_number r.status ≡ 0
    → All (λ (put : Output). length put.bytes ≤ 2 ^ 30) r.puts
    → IsCheckReply files a b c s ↔ IsCheckReply (filed files r.puts) a b out s

-- Where the relation's name is neither automaton's, and `cross` found the relation and wrote at
-- most 1 GiB, `cross-check` says of the files that it leaves what it said.
abbrev pub CrossIsChecked : Type 0
CrossIsChecked =
    (files : FileMap) (a b out : List ℕ) (look : ℕ) (r : Reply)
    → out ≢ a
    → out ≢ b
    → 1 ≤ look
    → look ≤ 6
    → IsReplyFor (request_with (pair_inputs a b) (MeansCross out look)) files r
    → status_number r.status ≡ 0
    → All (λ (put : Output). length put.bytes ≤ 2 ^ 30) r.puts
    → IsReplyFor (request_with (cross_check_inputs a b out) MeansCrossCheck) (filed files r.puts)
    (only_said r.status r.text)

-- Wherever a file of at most 1 GiB holds the text of the greatest cross relation of two automata,
-- at a lookahead of 1 to 6, and that has the pair of the initial states, `cross-check` of it for
-- those two says that the inclusion holds by simulation.
abbrev pub CrossRelationsAreAccepted : Type 0
CrossRelationsAreAccepted =
    (files : FileMap) (a b f : List ℕ) (look : ℕ) (pair : Joined) (cross : Cross)
    → 1 ≤ look
    → look ≤ 6
    → IsCrossOfFiles files a b look pair cross
    → ReadsCross files f cross
    → IsReplyFor (request_with (cross_check_inputs a b f) MeansCrossCheck) files
    (only_said status.Done by_simulation_text)

-- Questions that were carried out in turn show in turn what `include` shows.
abbrev pub QuestionsShowInTurn : Type 0
QuestionsShowInTurn =
    (questions : List Question) (statuses : List ℕ) (old new : ShelfSeen)
    → LeaveInTurn questions statuses old new → ShowInTurn questions statuses old new

-- Whatever the text that `empty` makes reads as accepts nothing.
abbrev pub EmptyTextAcceptsNothing : Type 0
EmptyTextAcceptsNothing =
    (limits : Limits) (named : Named) (mode : Mode) → Reads empty_text limits named
    → AcceptsNothing mode named.auto

-- Whatever the text that `universal` makes for some labels reads as has them in their order, and
-- accepts everything over them.
abbrev pub UniversalTextAcceptsAll : Type 0
UniversalTextAcceptsAll =
    (labels : List (List ℕ)) (limits : Limits) (named : Named) (mode : Mode)
    → length labels ≤ 256
    → All IsLabelText labels
    → AreDifferent labels
    → Reads (written (all_loops (length labels)) labels) limits named
    → (named.labels ≡ labels) × AcceptsAll mode named.auto

-- Where the names differ and the certificate has at most 1 GiB, a check of the files that a
-- decision of the property leaves, the first automaton's being this and the second's that, answers
-- with its status.
abbrev pub IsCheckedAs : Property → (List ℕ → List ℕ → List ℕ) → (List ℕ → List ℕ → List ℕ) → Type 0
IsCheckedAs p first second =
    (files : FileMap) (a m c : List ℕ) (mode : Mode) (one other : Named) (pair : Joined)
    (cert : Cert) (r : Reply)
    → NamesDiffer a m c
    → IsPropertyCertFor p mode files a one other pair cert
    → length (text cert) ≤ 2 ^ 30
    → IsPropertyReply p.name pair cert.body (property_puts m (p.made one) c cert) r
    → (checked : Reply)
    × IsCheckReply (filed files (property_puts m (p.made one) c cert)) (first a m) (second a m) c
    checked
    × (checked.status ≡ r.status)

-- What `empty A E CERT` leaves is right for `check A E CERT`.
abbrev pub EmptyIsChecked : Type 0
EmptyIsChecked = IsCheckedAs emptiness (λ a e. a) (λ a e. e)

-- What `universal A U CERT` leaves is right for `check U A CERT`.
abbrev pub UniversalIsChecked : Type 0
UniversalIsChecked = IsCheckedAs universality (λ a u. u) (λ a u. a)
