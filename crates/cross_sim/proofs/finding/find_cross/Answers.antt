use Rattle.std.proofs.Common.{ℕ, ◌+◌, List, IfSome, sym, subst, rules}
use Rattle.auto_core.specs.Automaton.{Moves}
use Rattle.auto_core.specs.Game.{Holds, IsGreatest, ArePairsBelow, Stable}
use Rattle.cross_sim.specs.Rules.{pairs_across}
use Rattle.bit_rel.specs.Relation.{Relation}
use Rattle.cross_sim.specs.Sides.{MatchesAcross}
use Rattle.cross_sim.proofs.CrossLemmas.{greatest_held, never_across}
use Rattle.cross_sim.proofs.finding.find_cross.Goals as goal

pub cross_within-requires-clause-greatest : goal.cross_within-requires-clause-greatest
cross_within-requires-clause-greatest c =
    let A = c.args.pair.now.first in
    let B = c.args.pair.now.second in
    let U = c.in_ok-both.both in
    let Q : ℕ → Relation → Type 0 = λ n r. IsGreatest (Moves U) (Moves U) (MatchesAcross n U) c.args.look U.states U.states r.pairs in
    let P : ℕ → Type 0 = λ n. IfSome c.in_ok-rel.field-0 (Q n) in
    let g = subst (λ o. IfSome o (Q A.states)) c.in-Some.is (subst P c.states-firsts.ensures.count c.in_ok-rel.ensures.greatest) in
    greatest_held A B U c.states-firsts.ensures.valid c.in_ok-both.ensures c.args.look c.in-Some.rel.pairs g

pub returns-in-Some-clause-has : goal.returns-in-Some-clause-has
returns-in-Some-clause-has c =
    let A = c.args.pair.now.first in
    let B = c.args.pair.now.second in
    let has : Holds c.in-Some.rel.pairs A.initial (A.states + B.initial) = search rules in
    c.in_ok-cross_within-in-Some.ensures.initial.0 has

pub returns-clause-lacks : goal.returns-clause-lacks
returns-clause-lacks c = λ _ cross of held.
    let A = c.args.pair.now.first in
    let B = c.args.pair.now.second in
    let U = c.in_ok-both.both in
    let never : (T : List (ℕ × ℕ)) → ArePairsBelow U.states U.states T → Stable (Moves U) (Moves U) (MatchesAcross A.states U) c.args.look (Holds T) → Holds T A.initial (A.states + B.initial) → ⊥ =
    λ T below stable there.
    let count = sym c.states-firsts.ensures.count in
    let left : Holds T c.initial-left.result (A.states + B.initial) = subst (λ p. Holds T p (A.states + B.initial)) (sym c.initial-left.ensures.state) there in
    let right : Holds T c.initial-left.result (A.states + c.initial.result) = subst (λ q. Holds T c.initial-left.result (A.states + q)) (sym c.initial.ensures.state) left in
    c.in_ok-rel.ensures.lacks c.in-None.is T below
    (subst (λ n. Stable (Moves U) (Moves U) (MatchesAcross n U) c.args.look (Holds T)) count stable)
    (subst (λ n. Holds T c.initial-left.result (n + c.initial.result)) count right)
    in
    never_across A B U c.states-firsts.ensures.valid c.in_ok-both.ensures c.args.look A.initial B.initial never (pairs_across cross) of.greatest.in_range of.greatest.stable held
