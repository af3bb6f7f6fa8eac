-- The log of the first automaton's steps, which may only let its language grow.
use Rattle.std.specs.Prelude.{◌≡◌, ℕ, ◌<◌, ◌==◌, List, [], ◌∷◌, length, All, Contains, if◌then◌else◌, slice_index_or}
use Rattle.auto_core.specs.Automaton.{Automaton, trans_at}
use Rattle.auto_core.specs.Game.{Close, Holds}
use Rattle.auto_core.specs.Useful.{IsUseful, IsKeptPart}
use Rattle.auto_core.specs.Quotient.{IsQuotient}
use Rattle.auto_core.specs.Pruning.{IsCut, IsStableBack, IsStableAhead}
use Rattle.auto_core.specs.declared.parts.Mode.{Mode}
use Rattle.cert_value.specs.declared.types.FirstStep.{FirstStep}
use Rattle.cert_value.specs.declared.types.FirstStep.TheVariants.{Trim, Merge, Cut}
use Rattle.cert_value.specs.declared.types.GoneBy.{GoneBy}
use Rattle.cert_value.specs.declared.types.RelBlock.{RelBlock}
use Rattle.cert_value.specs.WellFormed.{gone_of}
use Rattle.log_check.specs.declared.faults.Refusal.{Refusal}
use Rattle.log_check.specs.Checks.{RuleCheck, rule_at}
use Rattle.log_check.specs.Blocks.{pairs_of, IsBlockBelow}
use Rattle.log_check.specs.Parts.{AreStates, IsLook, AreClassesFor}
use Rattle.log_check.specs.Follows.{LogRules, Follows, Breaks}

-- Past the end of the blocks there are no pairs.
abbrev pub no_block : RelBlock
no_block = record { rows = [] }

-- The pairs of the block at this place.
abbrev pub pairs_at : List RelBlock → ℕ → List (ℕ × ℕ)
pairs_at blocks i = pairs_of (slice_index_or blocks i no_block)

-- The backward relation of a cut by this pair; pair 1 has none. It comes before the forward one.
abbrev pub back_of : ℕ → List RelBlock → List (ℕ × ℕ)
back_of pair blocks = if pair == 1 then [] else pairs_at blocks 0

-- The forward relation of a cut by this pair; pair 2 has none.
abbrev pub ahead_of : ℕ → List RelBlock → List (ℕ × ℕ)
ahead_of pair blocks =
    if pair == 1 then pairs_at blocks 0 else (if pair == 2 then [] else pairs_at blocks 1)

-- The states are the same where the pair asks for that, and otherwise the closure relates the first
-- to the second.
abbrev pub IsAtMost : Type 0 → List (ℕ × ℕ) → ℕ → ℕ → Type 0
IsAtMost same S p q = (same → p ≡ q) × ((same → ⊥) → Close (Holds S) p q)

-- The second transition is as good as the first: it has the same letter, and the pair relates the
-- ends of the first to those of the second, strict or not.
abbrev pub IsAsGood : Automaton → ℕ → List RelBlock → GoneBy → Type 0
IsAsGood A pair blocks gone =
    ((trans_at A gone.trans).label ≡ (trans_at A gone.by).label)
    × IsAtMost (pair ≡ 1) (back_of pair blocks) (trans_at A gone.trans).source
    (trans_at A gone.by).source
    × IsAtMost (pair ≡ 2) (ahead_of pair blocks) (trans_at A gone.trans).target
    (trans_at A gone.by).target

-- The closure does not relate q back to p.
abbrev pub IsNotBack : List (ℕ × ℕ) → ℕ → ℕ → Type 0
IsNotBack S p q = Close (Holds S) q p → ⊥

-- Where the pair asks for a strict part, the closure does not relate the end of the second
-- transition back to that of the first: the targets by the forward relation for the pairs 1 and 3,
-- the sources by the backward one for the pairs 2 and 4.
abbrev pub IsNotRelatedBack : Automaton → ℕ → List RelBlock → GoneBy → Type 0
IsNotRelatedBack A pair blocks gone =
    ((pair ≡ 1)
    → IsNotBack (ahead_of pair blocks) (trans_at A gone.trans).target
    (trans_at A gone.by).target)
    × ((pair ≡ 2)
    → IsNotBack (back_of pair blocks) (trans_at A gone.trans).source
    (trans_at A gone.by).source)
    × ((pair ≡ 3)
    → IsNotBack (ahead_of pair blocks) (trans_at A gone.trans).target
    (trans_at A gone.by).target)
    × ((pair ≡ 4)
    → IsNotBack (back_of pair blocks) (trans_at A gone.trans).source
    (trans_at A gone.by).source)

-- Both numbers are those of transitions of A.
abbrev pub IsGoneIn : Automaton → GoneBy → Type 0
IsGoneIn A gone = (gone.trans < length A.transitions) × (gone.by < length A.transitions)

-- What a cut names is there: its lookahead is one of 1 to 6, what goes and what is better are
-- transitions of A, and the blocks name states of A.
pub record IsCutIn (A : Automaton) (look : ℕ) (gone : List GoneBy)
    (blocks : List RelBlock) : Type 0 where
  pub look_is : IsLook look
  pub gone_in : All (IsGoneIn A) gone
  pub blocks_in : All (IsBlockBelow A.states) blocks

-- The blocks of a cut are stable, each at the lookahead that the pair has for it.
abbrev pub AreStable : Automaton → ℕ → ℕ → List RelBlock → Type 0
AreStable A pair look blocks =
    IsStableBack A pair look (back_of pair blocks)
    × IsStableAhead A pair look (ahead_of pair blocks)

-- What is asked of a step: a trim names states and leaves out no useful one; a merge has its
-- classes in shape; a cut names what is there, its relations are stable, and what goes has a better
-- one in each case.
abbrev pub first_checks : Mode → Automaton → ℕ → FirstStep → List RuleCheck
first_checks mode A item (Trim kept) =
    rule_at 1 item (AreStates A kept)
    ∷ rule_at 2 item ((q : ℕ) → IsUseful A mode q → Contains kept q)
    ∷ []
first_checks mode A item (Merge classes) = rule_at 3 item (AreClassesFor A classes) ∷ []
first_checks mode A item (Cut pair look gone blocks) =
    rule_at 1 item (IsCutIn A look gone blocks)
    ∷ rule_at 4 item (AreStable A pair look blocks)
    ∷ rule_at 7 item (All (IsAsGood A pair blocks) gone)
    ∷ rule_at 8 item (All (IsNotRelatedBack A pair blocks) gone)
    ∷ []

-- A trim keeps the listed states, a merge has the classes for states, and a cut takes the listed
-- transitions away.
abbrev pub FirstStepLeads : Automaton → FirstStep → Automaton → Type 0
FirstStepLeads A (Trim kept) B = IsKeptPart A kept B
FirstStepLeads A (Merge classes) B = IsQuotient A classes B
FirstStepLeads A (Cut pair look gone blocks) B = IsCut A (gone_of gone) B

-- The rules of the first log.
abbrev pub first_rules : Mode → LogRules FirstStep
first_rules mode = record { checks = first_checks mode; Leads = FirstStepLeads }

-- The steps of a first log keep their rules from A on, and lead to B.
abbrev pub FirstLogFollows : Mode → Automaton → ℕ → List FirstStep → Automaton → Type 0
FirstLogFollows mode A item steps B = Follows FirstStep (first_rules mode) A item steps B

-- The refusal is the first rule that a step of a first log breaks.
abbrev pub FirstLogBreaks : Mode → Automaton → ℕ → List FirstStep → Refusal → Type 0
FirstLogBreaks mode A item steps refusal = Breaks FirstStep (first_rules mode) A item steps refusal
