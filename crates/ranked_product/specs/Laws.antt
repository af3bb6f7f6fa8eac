-- What refusals are.
use Rattle.std.specs.Prelude.{◌≡◌, List}
use Rattle.auto_core.specs.Automaton.{Automaton}
use Rattle.product_laws.specs.declared.RankedPair.{RankedPair}
use Rattle.product_laws.specs.Ranked.{IsRankedProduct}
use Rattle.ranked_product.specs.declared.checking.Refusal.{Refusal}
use Rattle.ranked_product.specs.Rules.{FirstBroken}

-- One rule at most is the first that pairs break.
abbrev pub BreakIsOne : Type 0
BreakIsOne =
    (A B : Automaton) (pairs : List RankedPair) (refusal other : Refusal)
    → FirstBroken A B pairs refusal → FirstBroken A B pairs other → refusal ≡ other

-- A ranked product breaks none.
abbrev pub ProductBreaksNone : Type 0
ProductBreaksNone =
    (A B : Automaton) (pairs : List RankedPair) (refusal : Refusal) → FirstBroken A B pairs refusal
    → IsRankedProduct A B pairs → ⊥
