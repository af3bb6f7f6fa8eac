-- The certificate that answers whether the second automaton accepts each lasso, in finite mode each
-- word, that the first accepts.
use Rattle.std.specs.Prelude.{◌≡◌, ℕ, ◌≤◌, List, length}
use Rattle.auto_core.specs.Automaton.{Automaton}
use Rattle.auto_core.specs.Game.{IsGreatestForward}
use Rattle.auto_core.specs.Outcome.{Outcome, Closed, Apart, Limit, Entry, ComesOut, origins_in}
use Rattle.auto_core.specs.declared.parts.Lasso.{Lasso}
use Rattle.auto_core.specs.declared.parts.Mode.{Mode}
use Rattle.auto_core.specs.declared.parts.Mode.TheVariants.{Buchi, Finite}
use Rattle.ba_format.specs.declared.parts.Joined.{Joined}
use Rattle.bit_rel.specs.Relation.{ArePairsAscending}
use Rattle.cert_value.specs.declared.types.Cert.{Cert}
use Rattle.cert_value.specs.declared.types.Body.{Body}
use Rattle.cert_value.specs.declared.types.Body.TheVariants.{Yes, NoLasso, NoWord, Listing}
use Rattle.cert_value.specs.declared.types.YesBody.{YesBody}
use Rattle.cert_value.specs.declared.types.ListBody.{ListBody}
use Rattle.cert_value.specs.declared.types.FirstStep.{FirstStep}
use Rattle.cert_value.specs.declared.types.SecondStep.{SecondStep}
use Rattle.cert_check.specs.Rules.{HasSizes}
use Rattle.evidence.specs.declared.parts.Closure.{Closure}
use Rattle.evidence.specs.Evidence.{IsEvidenceOf}
use Rattle.reduce_loop.specs.declared.steps.Step.{Step}
use Rattle.reduce_loop.specs.Logs.{IsLog}
use Rattle.decide.specs.declared.terms.Terms.{Terms}
use Rattle.decide.specs.Terms.{sight_of}
use Rattle.decide.specs.Searches.{rules_in}
use Rattle.decide.specs.Written.{IsBlockOfPairs, AreFirstWritten, AreSecondWritten}

-- An automaton with at most so many states, and few transitions.
pub record HasFewParts (most : ℕ) (A : Automaton) : Type 0 where
  pub states : A.states ≤ most
  pub transitions : length A.transitions ≤ 65536

-- The two automata that are searched, and the logs of the steps by which they came from the read
-- ones.
pub record Reductions : Type 0 where
  pub first : Automaton
  pub second : Automaton
  pub first_log : List FirstStep
  pub second_log : List SecondStep

-- Both automata reduced by the terms, each with its log as a certificate has it.
pub record AreReductions (pair : Joined) (terms : Terms) (at : Reductions) : Type 0 where
  pub first_steps : List Step
  pub second_steps : List Step
  pub first_reduced : IsLog pair.first terms.mode (sight_of terms) at.first first_steps
  pub second_reduced : IsLog pair.second terms.mode (sight_of terms) at.second second_steps
  pub first_written : AreFirstWritten first_steps at.first_log
  pub second_written : AreSecondWritten second_steps at.second_log

-- The order of the elements: the greatest forward relation at lookahead 1 of the second log end,
-- its pairs ascending.
pub record IsOrder (B : Automaton) (S : List (ℕ × ℕ)) : Type 0 where
  pub greatest : IsGreatestForward B 1 S
  pub ascending : ArePairsAscending S

-- The search on the log ends, with this order, ends so.
pub record Decides (at : Reductions) (terms : Terms) (S : List (ℕ × ℕ))
    (outcome : Outcome Entry) : Type 0 where
  pub order : IsOrder at.second S
  pub ends : ComesOut (rules_in terms.mode at.first at.second S) terms.limit outcome

-- The elements with their origins and marks, the cover and the step lines.
abbrev pub closure_in : YesBody → Closure
closure_in evidence =
    record { elements = evidence.elements; cover = evidence.cover; steps = evidence.steps }

-- The evidence that these elements are closed: both logs, the order, and of the elements origins,
-- marks and least live subsumers.
pub record IsYesOf (at : Reductions) (terms : Terms) (S : List (ℕ × ℕ)) (es : List Entry)
    (evidence : YesBody) : Type 0 where
  pub first_log : evidence.first ≡ at.first_log
  pub second_log : evidence.second ≡ at.second_log
  pub order : IsBlockOfPairs S evidence.order
  pub closure : IsEvidenceOf (rules_in terms.mode at.first at.second S) es (closure_in evidence)

-- The list of these elements, which are one more than the limit: both logs, the limit and the
-- origins.
pub record IsListOf (at : Reductions) (terms : Terms) (es : List Entry)
    (list : ListBody) : Type 0 where
  pub first_log : list.first ≡ at.first_log
  pub second_log : list.second ≡ at.second_log
  pub limit_is : list.limit ≡ terms.limit
  pub origins : list.elements ≡ origins_in es

-- The lasso of a pair that fails is its two words.
abbrev pub IsLassoOf : Mode → Entry → Entry → Lasso → Type 0
IsLassoOf Buchi x y lasso = (lasso.prefix ≡ x.arc.word) × (lasso.turn ≡ y.arc.word)
IsLassoOf Finite x y lasso = ⊥

-- In finite mode the word is that of the element that fails.
abbrev pub IsWordOf : Mode → Entry → List ℕ → Type 0
IsWordOf Buchi x word = ⊥
IsWordOf Finite x word = word ≡ x.arc.word

-- What the certificate claims where the search ends so: a closed list makes a yes, a pair that
-- fails makes a no with its lasso or word and nothing else, and a list longer than the limit is
-- listed.
abbrev pub IsBodyOf : Reductions → Terms → List (ℕ × ℕ) → Outcome Entry → Body → Type 0
IsBodyOf at terms S (Closed es) (Yes evidence) = IsYesOf at terms S es evidence
IsBodyOf at terms S (Closed es) (NoLasso lasso) = ⊥
IsBodyOf at terms S (Closed es) (NoWord word) = ⊥
IsBodyOf at terms S (Closed es) (Listing list) = ⊥
IsBodyOf at terms S (Apart x y) (Yes evidence) = ⊥
IsBodyOf at terms S (Apart x y) (NoLasso lasso) = IsLassoOf terms.mode x y lasso
IsBodyOf at terms S (Apart x y) (NoWord word) = IsWordOf terms.mode x word
IsBodyOf at terms S (Apart x y) (Listing list) = ⊥
IsBodyOf at terms S (Limit es) (Yes evidence) = ⊥
IsBodyOf at terms S (Limit es) (NoLasso lasso) = ⊥
IsBodyOf at terms S (Limit es) (NoWord word) = ⊥
IsBodyOf at terms S (Limit es) (Listing list) = IsListOf at terms es list

-- The certificate is the answer by these log ends: it has the version and the mode of the terms,
-- the sizes of the read automata, and the body of the outcome.
pub record IsAnswerBy (at : Reductions) (pair : Joined) (terms : Terms) (cert : Cert) : Type 0 where
  pub pairs : List (ℕ × ℕ)
  pub outcome : Outcome Entry
  pub decides : Decides at terms pairs outcome
  pub version : cert.version ≡ terms.version
  pub mode : cert.mode ≡ terms.mode
  pub sizes : HasSizes pair cert
  pub body : IsBodyOf at terms pairs outcome cert.body

-- The certificate is the answer for the two automata by the terms: they are reduced, and the
-- reduced ones searched.
abbrev pub IsAnswer : Joined → Terms → Cert → Type 0
IsAnswer pair terms cert =
    (at : Reductions) × AreReductions pair terms at × IsAnswerBy at pair terms cert
