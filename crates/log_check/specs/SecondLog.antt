-- The log of the second automaton's steps, which may only let its language shrink.
use Rattle.std.specs.Prelude.{ℕ, List, [], ◌∷◌}
use Rattle.auto_core.specs.Automaton.{Automaton}
use Rattle.auto_core.specs.Game.{StableForward, StableBackward}
use Rattle.auto_core.specs.Delayed.{IsRight, AreStateRelated}
use Rattle.auto_core.specs.Useful.{IsKeptPart}
use Rattle.auto_core.specs.Quotient.{IsQuotient, RelatesMembersBy, RelatesMembers}
use Rattle.auto_core.specs.Pruning.{IsCut}
use Rattle.cert_value.specs.declared.types.SecondStep.{SecondStep}
use Rattle.cert_value.specs.declared.types.SecondStep.TheVariants.{Trim, Merge, Cut}
use Rattle.cert_value.specs.declared.types.Grounds.{Grounds}
use Rattle.cert_value.specs.declared.types.Grounds.TheVariants.{Forward, Backward, Delayed}
use Rattle.cert_value.specs.declared.types.RelBlock.{RelBlock}
use Rattle.log_check.specs.declared.faults.Refusal.{Refusal}
use Rattle.log_check.specs.Checks.{RuleCheck, rule_at}
use Rattle.log_check.specs.Blocks.{pairs_of, IsBlockBelow, triples_of, IsRankBlockBelow}
use Rattle.log_check.specs.Parts.{AreStates, AreTransitions, IsLook, AreClassesFor}
use Rattle.log_check.specs.Follows.{LogRules, Follows, Breaks}

-- What the grounds of a merge name is there: the lookahead is one of 1 to 6, and the block names
-- states of A.
abbrev pub IsBlockIn : Automaton → ℕ → RelBlock → Type 0
IsBlockIn A look block = IsLook look × IsBlockBelow A.states block

-- What is asked of a merge: what its grounds name is there, its classes are in shape, its relation
-- is stable, or right with its ranks, and the closure of it, or of its state relation, relates any
-- two members of a class.
abbrev pub merge_checks : Automaton → ℕ → Grounds → List ℕ → List RuleCheck
merge_checks A item (Forward look block) classes =
    rule_at 1 item (IsBlockIn A look block)
    ∷ rule_at 3 item (AreClassesFor A classes)
    ∷ rule_at 4 item (StableForward A look (pairs_of block))
    ∷ rule_at 6 item (RelatesMembers A classes (pairs_of block))
    ∷ []
merge_checks A item (Backward look block) classes =
    rule_at 1 item (IsBlockIn A look block)
    ∷ rule_at 3 item (AreClassesFor A classes)
    ∷ rule_at 4 item (StableBackward A look (pairs_of block))
    ∷ rule_at 6 item (RelatesMembers A classes (pairs_of block))
    ∷ []
merge_checks A item (Delayed letters ranks) classes =
    rule_at 1 item (IsRankBlockBelow A.states A.labels ranks)
    ∷ rule_at 3 item (AreClassesFor A classes)
    ∷ rule_at 5 item (IsRight A (triples_of ranks))
    ∷ rule_at 6 item
    (RelatesMembersBy A classes (AreStateRelated A.labels letters (triples_of ranks)))
    ∷ []

-- What is asked of a step: a trim and a cut name what is there, and need nothing more.
abbrev pub second_checks : Automaton → ℕ → SecondStep → List RuleCheck
second_checks A item (Trim kept) = rule_at 1 item (AreStates A kept) ∷ []
second_checks A item (Merge by classes) = merge_checks A item by classes
second_checks A item (Cut gone) = rule_at 1 item (AreTransitions A gone) ∷ []

-- A trim keeps the listed states, a merge has the classes for states, and a cut takes the listed
-- transitions away.
abbrev pub SecondStepLeads : Automaton → SecondStep → Automaton → Type 0
SecondStepLeads A (Trim kept) B = IsKeptPart A kept B
SecondStepLeads A (Merge by classes) B = IsQuotient A classes B
SecondStepLeads A (Cut gone) B = IsCut A gone B

-- The rules of the second log.
abbrev pub second_rules : LogRules SecondStep
second_rules = record { checks = second_checks; Leads = SecondStepLeads }

-- The steps of a second log keep their rules from A on, and lead to B.
abbrev pub SecondLogFollows : Automaton → ℕ → List SecondStep → Automaton → Type 0
SecondLogFollows A item steps B = Follows SecondStep second_rules A item steps B

-- The refusal is the first rule that a step of a second log breaks.
abbrev pub SecondLogBreaks : Automaton → ℕ → List SecondStep → Refusal → Type 0
SecondLogBreaks A item steps refusal = Breaks SecondStep second_rules A item steps refusal
