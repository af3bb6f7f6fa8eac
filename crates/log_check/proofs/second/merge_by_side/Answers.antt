use Rattle.std.proofs.Common.{◌≡◌, true, false, inl, inr, List, ℕ, refl, sym, ◌∙◌, subst, rules}
use Rattle.std.proofs.lemmas.Bool.{false≢true}
use Rattle.auto_core.specs.Game.{Holds, Stable}
use Rattle.log_check.specs.Blocks.{pairs_of}
use Rattle.log_check.specs.Closures.{IsClosureOf, JoinsMembers}
use Rattle.log_check.specs.Parts.{AreClassesFor}
use Rattle.log_check.specs.SecondLog.{IsBlockIn}
use Rattle.log_check.proofs.ClosureLemmas.{joins_from, joins_to}
use Rattle.log_check.proofs.second.merge_by_side.Goals as goal

pub returns-then-not-joins_members-clause-tells : goal.returns-then-not-joins_members-clause-tells
returns-then-not-joins_members-clause-tells g c =
    let A = c.args.automaton.now in
    let M = g.S.Side.goes c.args.side.now A in
    let R = Holds (pairs_of c.args.block.now) in
    let rel = c.in-Some-2.rel in
    let named : IsBlockIn A c.args.look c.args.block.now = search rules in
    let classed : (c.in-Some.classes ≡ c.args.numbers.now) × AreClassesFor A c.args.numbers.now = search rules in
    let stable : Stable M M (g.S.Side.matches c.args.side.now A) c.args.look R × IsClosureOf A.states R rel = search rules in
    let is : c.joins_members.result ≡ false = search rules in
    inr (
      named,
      inr (
        classed.1,
        inr (
          stable.0,
          inl (
            λ relates. false≢true (sym is ∙ c.joins_members.ensures.1 (subst (λ (l : List ℕ). JoinsMembers l rel rel.size) (sym classed.0) (joins_to A c.args.numbers.now R rel stable.1 relates))),
            refl,
          ),
        ),
      ),
    )

pub returns-clause-tells : goal.returns-clause-tells
returns-clause-tells g c =
    let A = c.args.automaton.now in
    let M = g.S.Side.goes c.args.side.now A in
    let R = Holds (pairs_of c.args.block.now) in
    let rel = c.in-Some-2.rel in
    let named : IsBlockIn A c.args.look c.args.block.now = search rules in
    let classed : (c.in-Some.classes ≡ c.args.numbers.now) × AreClassesFor A c.args.numbers.now = search rules in
    let stable : Stable M M (g.S.Side.matches c.args.side.now A) c.args.look R × IsClosureOf A.states R rel = search rules in
    let is : c.joins_members.result ≡ true = search rules in
    let joined : JoinsMembers c.args.numbers.now rel rel.size = subst (λ (l : List ℕ). JoinsMembers l rel rel.size) classed.0 (c.joins_members.ensures.0 is) in
    (named, (classed.1, (stable.0, (joins_from A c.args.numbers.now R rel stable.1 joined, tt))))
