use Rattle.std.proofs.Common.{◌≡◌, ◌+◌, ◌<◌, ◌↔◌, ℕ, List, [], ◌∷◌, Bool, true, false, IsTrue, sym, subst, arith, rules}
use Rattle.auto_core.specs.Automaton.{Moves}
use Rattle.auto_core.specs.Game.{Holds, Stable, StableAcross}
use Rattle.cert_value.specs.declared.types.Row.{Row}
use Rattle.log_check.specs.Blocks.{pairs_of}
use Rattle.log_check.specs.Checks.{rule_at}
use Rattle.cross_sim.specs.Rules.{TellsCross, cross_pair_checks, pairs_across}
use Rattle.cross_sim.specs.Sides.{Raises, MatchesAcross}
use Rattle.cross_sim.proofs.CheckLemmas.{pair_told, stable_told, refusal_at, first_is_broken, later_tells, false_not}
use Rattle.cross_sim.proofs.RaisedLemmas.{lefts_below}
use Rattle.cross_sim.proofs.check.check_pairs.Goals as goal
use Rattle.cross_sim.proofs.check.check_pairs.Goals.{After-get, In_ok-is_stable}

-- The initial pair is held just where the relation that was built has it.
held : (c : goal.After-get) → IsTrue c.get.result ↔ Holds (pairs_across c.args.cross.now) c.args.pair.now.first.initial c.args.pair.now.second.initial
held c =
    let S = pairs_across c.args.cross.now in
    let raises : Raises c.states-firsts.result S c.in_ok-rel.rel.pairs = subst (λ (rows : List Row). Raises c.states-firsts.result (pairs_of (record { rows = rows })) c.in_ok-rel.rel.pairs) c.as_slice.ensures c.in_ok-rel.ensures.pairs in
    subst (λ x. IsTrue c.get.result ↔ Holds S x c.args.pair.now.second.initial) c.initial.ensures.state
    (subst (λ y. IsTrue c.get.result ↔ Holds S c.initial.result y) c.initial-2.ensures.state
    (pair_told c.states-firsts.result S c.in_ok-rel.rel.pairs c.initial.result c.initial-2.result c.get.result raises c.get.ensures.told))

-- The relation is stable across just where the one that was built is.
stable : (c : goal.In_ok-is_stable) → IsTrue c.in_ok-is_stable.field-0 ↔ StableAcross c.args.pair.now.first c.args.pair.now.second c.args.cross.now.look (pairs_across c.args.cross.now)
stable c =
    let pair = c.args.pair.now in
    let cross = c.args.cross.now in
    let A = pair.first in
    let B = pair.second in
    let S = pairs_across cross in
    let R = c.in_ok-rel.rel.pairs in
    let n : ℕ = c.states-firsts.result in
    let raises : Raises n S R = subst (λ (rows : List Row). Raises n (pairs_of (record { rows = rows })) R) c.as_slice.ensures c.in_ok-rel.ensures.pairs in
    let U = c.in_ok-both.both in
    let b : Bool = c.in_ok-is_stable.field-0 in
    let told : IsTrue b ↔ Stable (Moves U) (Moves U) (MatchesAcross A.states U) cross.look (Holds R) =
    subst (λ m. IsTrue b ↔ Stable (Moves U) (Moves U) (MatchesAcross m U) cross.look (Holds R)) c.states-firsts.ensures.count c.in_ok-is_stable.ensures in
    let right : (p q : ℕ) → Holds R p q → q < A.states + B.states =
    λ p q h. let lt = (c.get.ensures.valid.in_range p q h).1 in omega (arith, lt, c.in_ok-rel.ensures.size, c.states-firsts.ensures.count, c.states.ensures.count) in
    stable_told A B U c.states-firsts.ensures.valid c.in_ok-both.ensures cross.look S R (subst (λ m. Raises m S R) c.states-firsts.ensures.count raises)
    (lefts_below A.states B.states cross.rows c.requires.below) right b told

pub returns-then-not-get : goal.returns-then-not-get
returns-then-not-get c =
    let pair = c.args.pair.now in
    let cross = c.args.cross.now in
    let Held = Holds (pairs_across cross) pair.first.initial pair.second.initial in
    let lacks : c.get.result ≡ false = search rules in
    subst (TellsCross (cross_pair_checks pair cross)) (sym c.refused.ensures)
    (first_is_broken Held 19 2 (rule_at 20 2 (StableAcross pair.first pair.second cross.look (pairs_across cross)) ∷ []) (false_not Held c.get.result (held (goal.at.returns-then-not-get c).After-get) lacks))

pub returns-then-not-branch : goal.returns-then-not-branch
returns-then-not-branch c =
    let pair = c.args.pair.now in
    let cross = c.args.cross.now in
    let Held = Holds (pairs_across cross) pair.first.initial pair.second.initial in
    let Stays = StableAcross pair.first pair.second cross.look (pairs_across cross) in
    let has : c.get.result ≡ true = search rules in
    let fails : c.in_ok-is_stable.field-0 ≡ false = search rules in
    subst (TellsCross (cross_pair_checks pair cross)) (sym c.refused-then-not-branch.ensures)
    (later_tells Held 19 2 (rule_at 20 2 Stays ∷ []) (refusal_at 20 2) ((held (goal.at.returns-then-not-branch c).After-get).0 has)
    (first_is_broken Stays 20 2 [] (false_not Stays c.in_ok-is_stable.field-0 (stable (goal.at.returns-then-not-branch c).In_ok-is_stable) fails)))

pub returns : goal.returns
returns c =
    let has : c.get.result ≡ true = search rules in
    let holds : c.in_ok-is_stable.field-0 ≡ true = search rules in
    ((held (goal.at.returns c).After-get).0 has, ((stable (goal.at.returns c).In_ok-is_stable).0 holds, tt))
