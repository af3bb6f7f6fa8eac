-- What a certificate says, and its letters.
use Rattle.std.proofs.Common.{◌≡◌, ℕ, zero, suc, ◌<◌, ◌≤◌, true, List, [], ◌∷◌, length, All, refl, sym, ◌∙◌, ap, subst, arith}
use Rattle.std.proofs.lemmas.Bool.{lt-ltb}
use Rattle.auto_core.specs.Automaton.{Automaton}
use Rattle.auto_core.specs.Accept.{AcceptsLasso}
use Rattle.auto_core.specs.Run.{Run, repeated}
use Rattle.auto_core.specs.declared.parts.Lasso.{Lasso}
use Rattle.auto_core.specs.declared.parts.Mode.{Mode}
use Rattle.ba_format.specs.declared.parts.Joined.{Joined}
use Rattle.cert_value.specs.declared.types.Cert.{Cert}
use Rattle.cert_value.specs.declared.types.Body.{Body}
use Rattle.cert_value.specs.declared.types.Body.TheVariants.{Yes, NoLasso, NoWord, Listing}
use Rattle.cert_value.specs.WellFormed.{has_some}
use Rattle.log_check.specs.Checks.{AllHold}
use Rattle.cert_check.specs.Rules.{KeepsRules, BodyHolds, lasso_checks, word_checks}
use Rattle.cert_check.specs.Laws.{IsValid}
use Rattle.rabit_frame.specs.Files.{Output}
use Rattle.rabit_frame.specs.declared.parts.Reply.{Reply}
use Rattle.rabit_frame.specs.Statuses.{status_number}
use Rattle.rabit_frame.specs.Replies.{IsVerdictReply}

-- the letters of a lasso
abbrev pub HaveTexts : Joined → Lasso → Type 0
HaveTexts pair lasso = All (λ a. a < length pair.labels) lasso.prefix × All (λ a. a < length pair.labels) lasso.turn

pub letters_of_kept : (pair : Joined) (cert : Cert) → KeepsRules pair cert → (lasso : Lasso) → cert.body ≡ NoLasso lasso → HaveTexts pair lasso
letters_of_kept pair cert keeps lasso is =
    let rules : AllHold (lasso_checks pair lasso) = subst (λ b. BodyHolds cert.mode pair b) is keeps.1 in
    (rules.0, rules.1.0)

pub letters_of_answer : (pair : Joined) (cert : Cert) → IsValid pair cert → (lasso : Lasso) → cert.body ≡ NoLasso lasso → HaveTexts pair lasso
letters_of_answer pair cert valid lasso is = letters_of_kept pair cert valid.keeps lasso is

-- the letters of a word
pub letters_of_kept_word : (pair : Joined) (cert : Cert) → KeepsRules pair cert → (word : List ℕ) → cert.body ≡ NoWord word → All (λ a. a < length pair.labels) word
letters_of_kept_word pair cert keeps word is =
    let rules : AllHold (word_checks pair word) = subst (λ b. BodyHolds cert.mode pair b) is keeps.1 in
    rules.0

pub letters_of_answer_word : (pair : Joined) (cert : Cert) → IsValid pair cert → (word : List ℕ) → cert.body ≡ NoWord word → All (λ a. a < length pair.labels) word
letters_of_answer_word pair cert valid word is = letters_of_kept_word pair cert valid.keeps word is

-- one reply
pub one_verdict : (m : Mode) (pair : Joined) (body : Body) (puts : List Output) (r s : Reply) → IsVerdictReply m pair body puts r → IsVerdictReply m pair body puts s → r ≡ s
one_verdict m pair (Yes b) puts r s p q = p ∙ sym q
one_verdict m pair (NoLasso l) puts r s p q = p ∙ sym q
one_verdict m pair (NoWord w) puts r s p q = p ∙ sym q
one_verdict m pair (Listing l) puts r s p q = p ∙ sym q

-- it writes what it was to write
pub puts_of_verdict : (m : Mode) (pair : Joined) (body : Body) (puts : List Output) (r : Reply) → IsVerdictReply m pair body puts r → r.puts ≡ puts
puts_of_verdict m pair (Yes b) puts r p = ap (λ z. z.puts) p
puts_of_verdict m pair (NoLasso l) puts r p = ap (λ z. z.puts) p
puts_of_verdict m pair (NoWord w) puts r p = ap (λ z. z.puts) p
puts_of_verdict m pair (Listing l) puts r p = ap (λ z. z.puts) p

-- it is a result
pub low_verdict : (m : Mode) (pair : Joined) (body : Body) (puts : List Output) (r : Reply) → IsVerdictReply m pair body puts r → status_number r.status ≤ 2
low_verdict m pair (Yes b) puts r p = subst (λ z. status_number z.status ≤ 2) (sym p) (omega arith)
low_verdict m pair (NoLasso l) puts r p = subst (λ z. status_number z.status ≤ 2) (sym p) (omega arith)
low_verdict m pair (NoWord w) puts r p = subst (λ z. status_number z.status ≤ 2) (sym p) (omega arith)
low_verdict m pair (Listing l) puts r p = subst (λ z. status_number z.status ≤ 2) (sym p) (omega arith)

nil_repeated : (n : ℕ) → repeated [] n ≡ []
nil_repeated zero = refl
nil_repeated (suc n) = nil_repeated n

-- an accepted lasso has a loop
pub loop_has_letters : (A : Automaton) (u v : List ℕ) → AcceptsLasso A u v → has_some v ≡ true
loop_has_letters A u [] accepts =
    let run : Run A accepts.state [] accepts.state true = subst (λ w. Run A accepts.state w accepts.state true) (nil_repeated accepts.turns) accepts.cycles in
    absurd (let f = run.1 in cc)
loop_has_letters A u (a ∷ v) accepts = lt-ltb 0 (length (a ∷ v)) (omega arith)
