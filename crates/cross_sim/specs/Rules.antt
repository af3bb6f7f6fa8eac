-- What each rule asks of a cross relation, in the order in which the rules are tested.
use Rattle.std.specs.Prelude.{◌≡◌, ℕ, ◌+◌, ◌<◌, List, [], ◌∷◌, length, map, All, Result, Ok, Err}
use Rattle.auto_core.specs.Automaton.{IsAutomaton}
use Rattle.auto_core.specs.Accept.{Includes}
use Rattle.auto_core.specs.declared.parts.Mode.{Mode}
use Rattle.auto_core.specs.Game.{Holds, StableAcross}
use Rattle.ba_format.specs.declared.parts.Joined.{Joined}
use Rattle.cert_value.specs.declared.types.RelBlock.{RelBlock}
use Rattle.cert_value.specs.declared.types.Row.{Row}
use Rattle.cert_value.specs.declared.types.Run.{Run}
use Rattle.log_check.specs.Blocks.{pairs_of}
use Rattle.log_check.specs.Checks.{RuleCheck, AllHold, FirstBroken, rule_at}
use Rattle.log_check.specs.Parts.{IsLook}
use Rattle.cert_text.specs.declared.cross.Cross.{Cross}
use Rattle.cross_sim.specs.declared.faults.CrossRefusal.{CrossRefusal}
use Rattle.cross_sim.specs.declared.faults.CheckCrossFault.{CheckCrossFault}
use Rattle.cross_sim.specs.declared.faults.CheckCrossFault.TheVariants.{Refused, Memory}
use Rattle.cert_text.specs.CrossText.{block_of}

-- The sizes are those of the two read automata and of their joined labels.
abbrev pub HasCrossSizes : Joined → Cross → Type 0
HasCrossSizes pair cross =
    (cross.first_states ≡ pair.first.states) × (cross.second_states ≡ pair.second.states)
    × (cross.labels ≡ length pair.labels)

-- The left number of the row is below m, and its right ones are below n: of a run the last one
-- tells.
abbrev pub IsRowInRange : ℕ → ℕ → Row → Type 0
IsRowInRange m n row = (row.left < m) × All (λ (run : Run). run.last < n) row.runs

-- So it is with each of the rows.
abbrev pub AreRowsInRange : ℕ → ℕ → List Row → Type 0
AreRowsInRange m n rows = All (IsRowInRange m n) rows

-- The pairs that the cross relation lists.
abbrev pub pairs_across : Cross → List (ℕ × ℕ)
pairs_across cross = pairs_of (block_of cross)

-- The pair of the initial states is there, and each pair matches acceptance and has its round
-- across.
abbrev pub cross_pair_checks : Joined → Cross → List RuleCheck
cross_pair_checks pair cross =
    rule_at 19 2 (Holds (pairs_across cross) pair.first.initial pair.second.initial)
    ∷ rule_at 20 2 (StableAcross pair.first pair.second cross.look (pairs_across cross))
    ∷ []

-- The rules in their order: the sizes, the lookahead and the numbers of states fit, and then the
-- pairs are tested.
abbrev pub cross_checks : Joined → Cross → List RuleCheck
cross_checks pair cross =
    rule_at 1 0 (HasCrossSizes pair cross)
    ∷ rule_at 1 1 (IsLook cross.look)
    ∷ rule_at 1 2 (AreRowsInRange pair.first.states pair.second.states cross.rows)
    ∷ cross_pair_checks pair cross

-- The refusal is the first of these checks that does not hold.
abbrev pub BreaksFirst : List RuleCheck → CrossRefusal → Type 0
BreaksFirst checks refusal =
    FirstBroken checks (record { rule = refusal.rule; item = refusal.item })

-- A test of these checks: all of them hold, or the refusal is the first that does not. Memory may
-- be refused.
abbrev pub TellsCross : List RuleCheck → Result (Unit {0}) CheckCrossFault → Type 0
TellsCross checks (Ok x) = AllHold checks
TellsCross checks (Err (Refused refusal)) = BreaksFirst checks refusal
TellsCross checks (Err Memory) = Unit {0}

-- No rule is broken.
abbrev pub KeepsCrossRules : Joined → Cross → Type 0
KeepsCrossRules pair cross = AllHold (cross_checks pair cross)

-- The refusal is the first rule that is broken.
abbrev pub BreaksCrossRule : Joined → Cross → CrossRefusal → Type 0
BreaksCrossRule pair cross refusal = BreaksFirst (cross_checks pair cross) refusal

-- Where no rule is broken, the second automaton accepts what the first does, in both modes.
abbrev pub KeptRulesInclude : Type 0
KeptRulesInclude =
    (pair : Joined) (cross : Cross) → IsAutomaton pair.second → KeepsCrossRules pair cross
    → (mode : Mode) → Includes pair.first pair.second mode

-- Where no rule is broken, none is the first that is.
abbrev pub NoCrossBreaksWhereKept : Type 0
NoCrossBreaksWhereKept =
    (pair : Joined) (cross : Cross) (refusal : CrossRefusal) → BreaksCrossRule pair cross refusal
    → KeepsCrossRules pair cross → ⊥

-- One rule is the first that is broken, at most.
abbrev pub CrossBreakIsOne : Type 0
CrossBreakIsOne =
    (pair : Joined) (cross : Cross) (refusal other : CrossRefusal)
    → BreaksCrossRule pair cross refusal → BreaksCrossRule pair cross other → refusal ≡ other

-- The run with both ends raised by n, and so the runs of a row, and so all rows.
abbrev pub raised_run : ℕ → Run → Run
raised_run n run = record { first = n + run.first; last = n + run.last }

abbrev pub raised_row : ℕ → Row → Row
raised_row n row = record { left = row.left; runs = map (raised_run n) row.runs }

abbrev pub raised_block : ℕ → List Row → RelBlock
raised_block n rows = record { rows = map (raised_row n) rows }
