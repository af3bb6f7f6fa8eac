-- The body that is made of what a search gave, and the certificate that is made of it.
use Rattle.std.proofs.Common.{◌≡◌, ℕ, List, refl, sym, subst}
use Rattle.std.specs.Prelude.{Result, Ok, Err, IfOk}
use Rattle.auto_core.specs.Automaton.{Automaton}
use Rattle.auto_core.specs.Outcome.{Entry, Closed, Apart, Limit, ComesOut, origins_in}
use Rattle.auto_core.specs.declared.parts.Lasso.{Lasso}
use Rattle.auto_core.specs.declared.parts.Memory.{Memory}
use Rattle.auto_core.specs.declared.parts.Origin.{Origin}
use Rattle.ba_format.specs.declared.parts.Joined.{Joined}
use Rattle.cert_value.specs.declared.types.Cert.{Cert}
use Rattle.cert_value.specs.declared.types.Body.{Body}
use Rattle.cert_value.specs.declared.types.Body.TheVariants.{NoLasso, NoWord}
use Rattle.cert_check.specs.Rules.{HasSizes}
use Rattle.evidence.specs.declared.parts.Closure.{Closure}
use Rattle.evidence.specs.Evidence.{IsEvidenceOf}
use Rattle.reduce_loop.specs.declared.steps.Reduced.{Reduced}
use Rattle.reduce_loop.specs.Logs.{IsLog}
use Rattle.decide.specs.declared.logs.Logs.{Logs}
use Rattle.decide.specs.declared.terms.Terms.{Terms}
use Rattle.decide.specs.Terms.{sight_of}
use Rattle.decide.specs.Searches.{rules_in}
use Rattle.decide.specs.Answer.{IsOrder, IsLassoOf, IsWordOf, IsAnswer}
use Rattle.decide.specs.Bodies.{IsYesWith, IsListWith, IsFoundBody, ends_with}
use Rattle.decide.specs.Logs.{AreLogsOf}

module _ (A B : Automaton) (logs : Logs) (terms : Terms) (S : List (ℕ × ℕ)) where
  abbrev Made : Body → Type 0
  Made body = IsFoundBody A B logs terms S body

  pub made_yes : (es : List Entry) (closure : Closure) (body : Body) → ComesOut (rules_in terms.mode A B S) terms.limit (Closed es) → IsEvidenceOf (rules_in terms.mode A B S) es closure →
      IsYesWith logs S closure body → Made body
  made_yes es closure body ends is (block, block_is, body_is) =
      subst Made (sym body_is) (record { outcome = Closed es; ends = ends; is = record { first_log = refl; second_log = refl; order = block_is; closure = is } })

  pub made_lasso : (x y : Entry) (lasso : Lasso) → ComesOut (rules_in terms.mode A B S) terms.limit (Apart x y) → IsLassoOf terms.mode x y lasso → Made (NoLasso lasso)
  made_lasso x y lasso ends is = record { outcome = Apart x y; ends = ends; is = is }

  pub made_word : (x y : Entry) (word : List ℕ) → ComesOut (rules_in terms.mode A B S) terms.limit (Apart x y) → IsWordOf terms.mode x word → Made (NoWord word)
  made_word x y word ends is = record { outcome = Apart x y; ends = ends; is = is }

  pub made_list : (es : List Entry) (origins : List Origin) (body : Body) → ComesOut (rules_in terms.mode A B S) terms.limit (Limit es) → origins ≡ origins_in es → IsListWith logs terms origins body → Made body
  made_list es origins body ends is body_is =
      subst Made (sym body_is) (record { outcome = Limit es; ends = ends; is = record { first_log = refl; second_log = refl; limit_is = refl; origins = is } })

-- What is so of each body is so of the one that is given.
pub of_each_body : (P Q : Body → Type 0) (r : Result Body Memory) → ((body : Body) → P body → Q body) → IfOk r P → IfOk r Q
of_each_body P Q (Ok body) all is = all body is
of_each_body P Q (Err e) all is = tt

module _ (pair : Joined) (terms : Terms) (first second : Reduced) (logs : Logs) (S : List (ℕ × ℕ)) where
  pub answer_made : IsLog pair.first terms.mode (sight_of terms) first.auto first.log → IsLog pair.second terms.mode (sight_of terms) second.auto second.log → AreLogsOf first.log second.log logs → IsOrder second.auto S →
      (cert : Cert) → cert.version ≡ terms.version → cert.mode ≡ terms.mode → HasSizes pair cert → IsFoundBody first.auto second.auto logs terms S cert.body → IsAnswer pair terms cert
  answer_made first_is second_is written order cert version mode sizes found = (
    ends_with first.auto second.auto logs,
    record { first_steps = first.log; second_steps = second.log; first_reduced = first_is; second_reduced = second_is; first_written = written.first; second_written = written.second },
    record {
      pairs = S;
      outcome = found.outcome;
      decides = record { order = order; ends = found.ends };
      version = version;
      mode = mode;
      sizes = sizes;
      body = found.is;
    },
  )
