use Rattle.std.proofs.Common.{◌≡◌, ◌↔◌, true, false, IsTrue, inl, inr, refl, sym, ◌∙◌, rules}
use Rattle.std.proofs.lemmas.Bool.{false≢true}
use Rattle.auto_core.specs.Automaton.{Moves}
use Rattle.auto_core.specs.Game.{Holds, MatchesForward, StableForward}
use Rattle.log_check.specs.Blocks.{IsBlockBelow, pairs_of}
use Rattle.log_check.specs.Blocks.{IsBlockRelation}
use Rattle.log_check.proofs.BlockLemmas.{stable_alike}
use Rattle.shared_graphs.specs.GraphPairs.{FitsCovering}
use Rattle.shared_graphs.proofs.GraphsLemmas.{told_none}
use Rattle.cert_check.proofs.orders.checked_order.Goals as goal

pub returns-then-not-branch-clause-tells : goal.returns-then-not-branch-clause-tells
returns-then-not-branch-clause-tells c =
    let B = c.args.second.now in
    let pairs = pairs_of c.args.evidence.now.order in
    let below : IsBlockBelow B.states c.args.evidence.now.order = search rules in
    let same : IsBlockRelation B.states c.args.evidence.now.order c.in_ok-rel.rel = search rules in
    let told : IsTrue c.in_ok-is_stable.field-0 ↔ StableForward B 1 c.in_ok-rel.rel.pairs = search rules in
    let is : c.in_ok-is_stable.field-0 ≡ false = search rules in
    inr (
      below,
      inl (
        λ stable. false≢true (sym is ∙ told.1 (stable_alike (Moves B) (MatchesForward B B) 1 (Holds pairs) (Holds c.in_ok-rel.rel.pairs) (λ p q. ((same.pairs p q).1, (same.pairs p q).0)) stable)),
        refl,
      ),
    )

pub returns-clause-tells : goal.returns-clause-tells
returns-clause-tells c =
    let B = c.args.second.now in
    let pairs = pairs_of c.args.evidence.now.order in
    let below : IsBlockBelow B.states c.args.evidence.now.order = search rules in
    let same : IsBlockRelation B.states c.args.evidence.now.order c.in_ok-rel.rel = search rules in
    let told : IsTrue c.in_ok-is_stable.field-0 ↔ StableForward B 1 c.in_ok-rel.rel.pairs = search rules in
    let is : c.in_ok-is_stable.field-0 ≡ true = search rules in (
      below,
      (stable_alike (Moves B) (MatchesForward B B) 1 (Holds c.in_ok-rel.rel.pairs) (Holds pairs) same.pairs (told.0 is), tt),
    )

pub returns-clause-order : goal.returns-clause-order
returns-clause-order c = λ graphs.
    let B = c.args.second.now in
    let same : IsBlockRelation B.states c.args.evidence.now.order c.in_ok-rel.rel = search rules in
    record { relation = same; covers = told_none (FitsCovering B.states c.in_ok-rel.rel.pairs graphs) c.in_ok-covers.covers.told.items c.in_ok-covers.ensures }
