-- The body that is made of what the search gave, and of both logs.
use Rattle.std.specs.Prelude.{◌≡◌, ℕ, List}
use Rattle.auto_core.specs.Automaton.{Automaton}
use Rattle.auto_core.specs.Outcome.{Outcome, Entry, ComesOut}
use Rattle.auto_core.specs.declared.parts.Origin.{Origin}
use Rattle.cert_value.specs.declared.types.Body.{Body}
use Rattle.cert_value.specs.declared.types.Body.TheVariants.{Yes, Listing}
use Rattle.cert_value.specs.declared.types.RelBlock.{RelBlock}
use Rattle.cert_value.specs.declared.types.YesBody.{YesBody}
use Rattle.evidence.specs.declared.parts.Closure.{Closure}
use Rattle.decide.specs.declared.logs.Logs.{Logs}
use Rattle.decide.specs.declared.terms.Terms.{Terms}
use Rattle.decide.specs.Answer.{Reductions, IsBodyOf}
use Rattle.decide.specs.Searches.{rules_in}
use Rattle.decide.specs.Written.{IsBlockOfPairs}

-- The evidence of the closure with this block and these logs.
abbrev pub evidence_of : Logs → Closure → RelBlock → YesBody
evidence_of logs c block =
    record {
      first = logs.first;
      second = logs.second;
      order = block;
      elements = c.elements;
      cover = c.cover;
      steps = c.steps;
    }

-- The yes of the closure, with the rows of the order.
abbrev pub IsYesWith : Logs → List (ℕ × ℕ) → Closure → Body → Type 0
IsYesWith logs S c body =
    (block : RelBlock) × IsBlockOfPairs S block × (body ≡ Yes (evidence_of logs c block))

-- The list of the origins.
abbrev pub IsListWith : Logs → Terms → List Origin → Body → Type 0
IsListWith logs terms origins body =
    body ≡ Listing
    (record { first = logs.first; second = logs.second; limit = terms.limit; elements = origins })

-- These automata with these logs.
abbrev pub ends_with : Automaton → Automaton → Logs → Reductions
ends_with A B logs =
    record { first = A; second = B; first_log = logs.first; second_log = logs.second }

-- The body is that of how the search on the two automata ends.
pub record IsFoundBody (A B : Automaton) (logs : Logs) (terms : Terms) (S : List (ℕ × ℕ))
    (body : Body) : Type 0 where
  pub outcome : Outcome Entry
  pub ends : ComesOut (rules_in terms.mode A B S) terms.limit outcome
  pub is : IsBodyOf (ends_with A B logs) terms S outcome body
