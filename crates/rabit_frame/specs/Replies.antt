-- Replies that several commands have.
use Rattle.std.specs.Prelude.{◌≡◌, ◌<◌, ℕ, List, All, length}
use Rattle.shelf_io.specs.Seen.{SinkSeen}
use Rattle.auto_core.specs.declared.parts.Mode.{Mode}
use Rattle.auto_core.specs.declared.parts.Lasso.{Lasso}
use Rattle.auto_core.specs.Accept.{SeparatesLasso, SeparatesWord}
use Rattle.ba_format.specs.declared.parts.Joined.{Joined}
use Rattle.cert_value.specs.declared.types.Cert.{Cert}
use Rattle.cert_value.specs.declared.types.Body.{Body}
use Rattle.cert_value.specs.declared.types.Body.TheVariants.{Yes, NoLasso, NoWord, Listing}
use Rattle.log_check.specs.declared.faults.Refusal.{Refusal}
use Rattle.cert_check.specs.Rules.{BreaksRule}
use Rattle.rabit_frame.specs.declared.parts.Status.TheVariants as status
use Rattle.rabit_frame.specs.declared.parts.Reply.{Reply}
use Rattle.rabit_frame.specs.Files.{Output}
use Rattle.rabit_frame.specs.Reading.{reply_with, only_said}
use Rattle.rabit_frame.specs.Ending.{Sends}
use Rattle.rabit_frame.specs.Printed.{usage_text, too_large_text, nothing_to_shrink_text, refused_text, included_text, not_included_text, word_not_included_text, limit_text}

-- The words ask nothing.
abbrev pub usage_reply : Reply
usage_reply = only_said status.Usage usage_text

-- The automaton that was asked for is too large.
abbrev pub too_large_reply : Reply
too_large_reply = only_said status.TooLarge too_large_text

-- The certificate is valid, and has neither a lasso nor a word to shrink.
abbrev pub nothing_to_shrink_reply : Reply
nothing_to_shrink_reply = only_said status.NothingToShrink nothing_to_shrink_text

-- The certificate breaks a rule, the first being this one.
abbrev pub IsRefusedReply : Joined → Cert → Reply → Type 0
IsRefusedReply pair cert r =
    (refusal : Refusal) × BreaksRule pair cert refusal
    × (r ≡ only_said status.BadCertificate (refused_text refusal))

-- The letters of the body's lasso, or of its word, have texts among these.
pub record HasLettersOf (labels : List (List ℕ)) (body : Body) : Type 0 where
  pub lasso : (l : Lasso) → body ≡ NoLasso l
      → All (λ a. a < length labels) l.prefix × All (λ a. a < length labels) l.turn
  pub word : (w : List ℕ) → body ≡ NoWord w → All (λ a. a < length labels) w

-- What a right certificate of this mode with this body says, where these files are written before.
abbrev pub IsVerdictReply : Mode → Joined → Body → List Output → Reply → Type 0
IsVerdictReply mode pair (Yes evidence) puts r =
    r ≡ reply_with status.Done (included_text mode) puts
IsVerdictReply mode pair (NoLasso lasso) puts r =
    r ≡ reply_with status.Refuted (not_included_text pair.labels lasso) puts
IsVerdictReply mode pair (NoWord word) puts r =
    r ≡ reply_with status.Refuted (word_not_included_text pair.labels word) puts
IsVerdictReply mode pair (Listing list) puts r =
    r ≡ reply_with status.Limit (limit_text list.limit) puts

-- The body is a no: it has a lasso, or a word.
abbrev pub IsNo : Body → Type 0
IsNo (Yes evidence) = ⊥
IsNo (NoLasso lasso) = Unit {0}
IsNo (NoWord word) = Unit {0}
IsNo (Listing list) = ⊥

-- The body's lasso, in finite mode its word, is accepted by the first automaton and not by the
-- second, and that was printed.
abbrev pub SaysApart : Joined → Body → SinkSeen → SinkSeen → Type 0
SaysApart pair (Yes evidence) old new = ⊥
SaysApart pair (NoLasso lasso) old new =
    SeparatesLasso pair.first pair.second lasso.prefix lasso.turn
    × Sends (not_included_text pair.labels lasso) old new
SaysApart pair (NoWord word) old new =
    SeparatesWord pair.first pair.second word
    × Sends (word_not_included_text pair.labels word) old new
SaysApart pair (Listing list) old new = ⊥
