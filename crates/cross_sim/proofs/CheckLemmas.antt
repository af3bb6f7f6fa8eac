-- The rules of a cross relation, one after another.
use Rattle.std.proofs.Common.{ap, ◌≡◌, ◌↔◌, ℕ, ◌+◌, ◌<◌, ◌^◌, List, ◌∷◌, length, Bool, true, false, Result, Ok, Err, inl, inr, refl, sym, ◌∙◌, subst, arith, IsTrue, IfOk}
use Rattle.auto_core.specs.Automaton.{Automaton, IsAutomaton, Moves}
use Rattle.auto_core.specs.Accept.{Includes}
use Rattle.auto_core.specs.declared.parts.Mode.{Mode}
use Rattle.auto_core.specs.Game.{Holds, Stable, StableAcross, ArePairsBelow}
use Rattle.auto_laws.proofs.AppliedLemmas.{across_includes}
use Rattle.ba_format.specs.declared.parts.Joined.{Joined}
use Rattle.std.proofs.lemmas.Bool.{and_parts, false≢true}
use Rattle.cert_value.specs.declared.types.RelBlock.{RelBlock}
use Rattle.cert_value.specs.declared.types.Row.{Row}
use Rattle.cert_value.specs.WellFormed.{is_short, are_rows}
use Rattle.cert_line.proofs.NumberFacts.{short_lt}
use Rattle.log_check.specs.Blocks.{pairs_of}
use Rattle.log_check.specs.Checks.{RuleCheck, AllHold, rule_at}
use Rattle.cert_text.specs.declared.cross.Cross.{Cross}
use Rattle.cross_sim.specs.declared.faults.CheckCrossFault.{CheckCrossFault}
use Rattle.cross_sim.specs.declared.faults.CheckCrossFault.TheVariants.{Refused, Memory}
use Rattle.cross_sim.specs.declared.faults.CrossRefusal.{CrossRefusal}
use Rattle.cert_text.specs.CrossText.{CrossFormed}
use Rattle.cross_sim.specs.Rules.{NoCrossBreaksWhereKept, CrossBreakIsOne, HasCrossSizes, raised_block, pairs_across, cross_checks, TellsCross, BreaksFirst, KeptRulesInclude}
use Rattle.log_check.specs.declared.faults.Refusal.{Refusal}
use Rattle.log_check.proofs.LawOneLemmas.{broken_one, broken_or_all}
use Rattle.cross_sim.specs.Sides.{IsSideBySide, Raises, MatchesAcross}
use Rattle.cross_sim.proofs.CrossLemmas.{raised_back, raised_lowers, stable_in_both, stable_apart}
use Rattle.cross_sim.proofs.RaisedLemmas.{block_raised}

pub kept_rules_include : KeptRulesInclude
kept_rules_include pair cross valid (sizes, (look, (below, (held, (stable, _))))) mode =
    across_includes pair.first pair.second cross.look (pairs_across cross) valid look.0 stable held mode

-- The relation of the raised pairs on the automaton of both is stable just if the pairs are stable across.
module _ (A B U : Automaton) (a_valid : IsAutomaton A) (both : IsSideBySide A B U) (k : ℕ) (S R : List (ℕ × ℕ)) (raises : Raises A.states S R)
    (left : (p q : ℕ) → Holds S p q → p < A.states) (right : (p q : ℕ) → Holds R p q → q < A.states + B.states) where
  all_below : ArePairsBelow A.states B.states S
  all_below p q h =
      let lt = right p (A.states + q) ((raises p (A.states + q)).1 (q, refl, h)) in
      (left p q h, omega (arith, lt))

  pub stable_told : (told : Bool) → (IsTrue told ↔ Stable (Moves U) (Moves U) (MatchesAcross A.states U) k (Holds R)) → IsTrue told ↔ StableAcross A B k S
  stable_told told is = (
    λ t. stable_apart A B U a_valid both k S R (raised_lowers A.states S R raises) (is.0 t),
    λ s. is.1 (stable_in_both A B U a_valid both k S R raises all_below s),
  )

-- What a cross relation that has a text, and has the sizes of the automata, tells of the numbers of states.
pub few_states : (pair : Joined) (cross : Cross) → CrossFormed cross → HasCrossSizes pair cross → pair.first.states + pair.second.states < 2 ^ 32
few_states pair cross formed (first, second, _) =
    let a = and_parts (is_short cross.first_states) _ formed in
    let b = and_parts (is_short cross.second_states) _ a.1 in
    let x = short_lt cross.first_states a.0 in
    let y = short_lt cross.second_states b.0 in
    omega (arith, first, second, x, y)

pub rows_formed : (cross : Cross) → CrossFormed cross → are_rows 0 cross.rows ≡ true
rows_formed cross formed =
    let a = and_parts (is_short cross.first_states) _ formed in
    let b = and_parts (is_short cross.second_states) _ a.1 in
    let c = and_parts (is_short cross.labels) _ b.1 in
    let d = and_parts (is_short cross.look) _ c.1 in
    (and_parts (is_short (length cross.rows)) _ d.1).1

-- The pairs of a relation that holds just what the raised block lists.
pub raises_of : (n : ℕ) (rows : List Row) (block : RelBlock) (R : List (ℕ × ℕ)) → block ≡ raised_block n rows
    → ((p q : ℕ) → Holds R p q ↔ Holds (pairs_of block) p q) → Raises n (pairs_of (record { rows = rows })) R
raises_of n rows block R is same p q =
    let up = subst (λ (b : RelBlock). Raises n (pairs_of (record { rows = rows })) (pairs_of b)) (sym is) (block_raised n rows) p q in
    (λ h. up.0 ((same p q).0 h), λ h. (same p q).1 (up.1 h))

pub pair_told : (n : ℕ) (S R : List (ℕ × ℕ)) (p q : ℕ) (told : Bool) → Raises n S R → (IsTrue told ↔ Holds R p (n + q)) → IsTrue told ↔ Holds S p q
pair_told n S R p q told raises is = (
  λ t. raised_back n S R raises p q (is.0 t),
  λ h. is.1 ((raises p (n + q)).1 (q, refl, h)),
)

-- What the tests of the pairs tell.
abbrev pub refusal_at : ℕ → ℕ → Result (Unit {0}) CheckCrossFault
refusal_at rule item = Err (Refused (record { rule = rule; item = item }))

pub first_is_broken : (P : Type 0) (rule item : ℕ) (checks : List RuleCheck) → (P → ⊥) → TellsCross (rule_at rule item P ∷ checks) (refusal_at rule item)
first_is_broken P rule item checks broken = inl (broken, refl)

pub later_tells : (P : Type 0) (rule item : ℕ) (checks : List RuleCheck) (r : Result (Unit {0}) CheckCrossFault) → P → TellsCross checks r
    → TellsCross (rule_at rule item P ∷ checks) r
later_tells P rule item checks (Ok x) p t = (p, t)
later_tells P rule item checks (Err (Refused refusal)) p t = inr (p, t)
later_tells P rule item checks (Err Memory) p t = tt

pub false_not : (P : Type 0) (told : Bool) → (IsTrue told ↔ P) → told ≡ false → P → ⊥
false_not P told is e p = false≢true (sym e ∙ is.1 p)

-- What a test of all rules tells.
pub valid_of : (checks : List RuleCheck) (r : Result (Unit {0}) CheckCrossFault) → TellsCross checks r → IfOk r (λ _. AllHold checks)
valid_of checks (Ok x) t = t
valid_of checks (Err e) t = tt

pub refused_of : (checks : List RuleCheck) (r : Result (Unit {0}) CheckCrossFault) (refusal : CrossRefusal) → TellsCross checks r → r ≡ Err (Refused refusal)
    → BreaksFirst checks refusal
refused_of checks r refusal t e = subst (TellsCross checks) e t

pub included_of : (pair : Joined) (cross : Cross) (r : Result (Unit {0}) CheckCrossFault) → IsAutomaton pair.second → TellsCross (cross_checks pair cross) r
    → IfOk r (λ _. (mode : Mode) → Includes pair.first pair.second mode)
included_of pair cross (Ok x) valid t = kept_rules_include pair cross valid t
included_of pair cross (Err e) valid t = tt

-- The rules decide alone.
pub none_breaks : NoCrossBreaksWhereKept
none_breaks pair cross refusal broken kept = broken_or_all (cross_checks pair cross) (record { rule = refusal.rule; item = refusal.item }) broken kept

pub break_one : CrossBreakIsOne
break_one pair cross refusal other broken others =
    let one = broken_one (cross_checks pair cross) (record { rule = refusal.rule; item = refusal.item }) (record { rule = other.rule; item = other.item }) broken others in
    ap (λ (r : Refusal). let c : CrossRefusal = record { rule = r.rule; item = r.item } in c) one
