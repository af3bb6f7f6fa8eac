use Rattle.std.proofs.Common.{◌≡◌, true, false, sym, ◌∙◌, rules}
use Rattle.std.proofs.lemmas.Bool.{false≢true}
use Rattle.auto_core.specs.Game.{Holds}
use Rattle.log_check.specs.Blocks.{pairs_of, IsBlockRelation}
use Rattle.log_check.proofs.BlockLemmas.{stable_alike}
use Rattle.log_check.proofs.ClosureLemmas.{closure_of}
use Rattle.log_check.proofs.closures.stable_closure.Goals as goal

pub returns-then-not-branch : goal.returns-then-not-branch
returns-then-not-branch g c =
    let A = c.args.automaton.now in
    let M = g.S.Side.goes c.args.side.now A in
    let ok = g.S.Side.matches c.args.side.now A in
    let pairs = pairs_of c.args.block.now in
    let same : IsBlockRelation A.states c.args.block.now c.in_ok-rel.rel = search rules in
    let is : c.in_ok-is_stable.field-0 ≡ false = search rules in
    λ stable. false≢true (sym is ∙ c.in_ok-is_stable.ensures.1 (stable_alike M ok c.args.look (Holds pairs) (Holds c.in_ok-rel.rel.pairs) (λ p q. ((same.pairs p q).1, (same.pairs p q).0)) stable))

pub returns : goal.returns
returns g c =
    let A = c.args.automaton.now in
    let M = g.S.Side.goes c.args.side.now A in
    let ok = g.S.Side.matches c.args.side.now A in
    let pairs = pairs_of c.args.block.now in
    let same : IsBlockRelation A.states c.args.block.now c.in_ok-rel.rel = search rules in
    let is : c.in_ok-is_stable.field-0 ≡ true = search rules in (
      stable_alike M ok c.args.look (Holds c.in_ok-rel.rel.pairs) (Holds pairs) same.pairs (c.in_ok-is_stable.ensures.0 is),
      closure_of A.states (Holds pairs) c.in_ok-rel.rel c.close.new.self same.size same.pairs c.close.ensures.closed,
    )
