use Rattle.std.proofs.Common.{◌≡◌, true, false, ℕ, inl, inr, List, refl, sym, ◌∙◌, subst, rules}
use Rattle.std.proofs.lemmas.Bool.{false≢true}
use Rattle.auto_core.specs.Delayed.{IsRight, AreStateRelated}
use Rattle.auto_core.specs.Quotient.{IsQuotient, RelatesMembersBy}
use Rattle.log_check.specs.Blocks.{triples_of, IsRankBlockBelow, IsRankingOf}
use Rattle.log_check.specs.Closures.{IsClosureOf, JoinsMembers}
use Rattle.log_check.specs.Parts.{AreClassesFor}
use Rattle.log_check.proofs.AheadLemmas.{closure_made}
use Rattle.log_check.proofs.ClosureLemmas.{joins_from, joins_to}
use Rattle.log_check.proofs.RankLemmas.{triples_in, turned, right_alike}
use Rattle.log_check.proofs.second.merge_delayed.Goals as goal
use Rattle.log_check.proofs.second.merge_delayed.Goals.{After-close}

-- Once the relation is closed: the rules that were kept so far, and what the relation is.
once_closed : (c : goal.After-close) → let A = c.args.automaton.now in
    let X = triples_of c.args.ranks.now in
    IsRankBlockBelow A.states A.labels c.args.ranks.now
    × ((c.in-Some.classes ≡ c.args.numbers.now) × AreClassesFor A c.args.numbers.now)
    × IsRight A X
    × IsClosureOf A.states (AreStateRelated A.labels c.args.letters X) c.close.new.self
once_closed c =
    let A = c.args.automaton.now in
    let ranks = c.args.ranks.now in
    let ranking = c.in_ok-ranking.ranking in
    let named : IsRankBlockBelow A.states A.labels ranks = search rules in
    let classed : (c.in-Some.classes ≡ c.args.numbers.now) × AreClassesFor A c.args.numbers.now = search rules in
    let made : IsRankingOf A c.args.letters ranks ranking = search rules in
    let right_is : c.holds.result ≡ true = search rules in
    let right : IsRight A (triples_of ranks) = right_alike A ranking.triples (triples_of ranks) made.triples (c.holds.ensures.0 right_is) in
    let below = triples_in A.states A.labels c.args.letters ranks c.requires.letters_from c.requires.formed named in (
      named,
      classed,
      right,
      closure_made A c.args.letters ranks ranking c.in_ok-rel.rel c.close.new.self below made c.in_ok-rel.ensures.size c.in_ok-rel.ensures.pairs c.close.ensures.closed,
    )

pub returns-then-not-holds : goal.returns-then-not-holds
returns-then-not-holds c =
    let A = c.args.automaton.now in
    let X = triples_of c.args.ranks.now in
    let Y = c.in_ok-ranking.ranking.triples in
    let named : IsRankBlockBelow A.states A.labels c.args.ranks.now = search rules in
    let classed : (c.in-Some.classes ≡ c.args.numbers.now) × AreClassesFor A c.args.numbers.now = search rules in
    let made : IsRankingOf A c.args.letters c.args.ranks.now c.in_ok-ranking.ranking = search rules in
    let is : c.holds.result ≡ false = search rules in
    inr (
      named,
      inr (
        classed.1,
        inl (
          λ right. false≢true (sym is ∙ c.holds.ensures.1 (right_alike A X Y (turned Y X made.triples) right)),
          refl,
        ),
      ),
    )

pub returns-then-not-joins_members : goal.returns-then-not-joins_members
returns-then-not-joins_members c =
    let R = AreStateRelated c.args.automaton.now.labels c.args.letters (triples_of c.args.ranks.now) in
    let rel = c.close.new.self in
    let (named, classed, right, closed) = once_closed (goal.at.returns-then-not-joins_members c).After-close in
    let is : c.joins_members.result ≡ false = search rules in
    inr (
      named,
      inr (
        classed.1,
        inr (
          right,
          inl (
            λ relates. false≢true (sym is ∙ c.joins_members.ensures.1 (subst (λ (l : List ℕ). JoinsMembers l rel rel.size) (sym classed.0) (joins_to c.args.automaton.now c.args.numbers.now R rel closed relates))),
            refl,
          ),
        ),
      ),
    )

pub returns : goal.returns
returns c =
    let A = c.args.automaton.now in
    let R = AreStateRelated A.labels c.args.letters (triples_of c.args.ranks.now) in
    let rel = c.close.new.self in
    let (named, classed, right, closed) = once_closed (goal.at.returns c).After-close in
    let is : c.joins_members.result ≡ true = search rules in
    let joined : JoinsMembers c.args.numbers.now rel rel.size = subst (λ (l : List ℕ). JoinsMembers l rel rel.size) classed.0 (c.joins_members.ensures.0 is) in
    let relates : RelatesMembersBy A c.args.numbers.now R = joins_from A c.args.numbers.now R rel closed joined in
    let quotient : IsQuotient A c.args.numbers.now c.in_ok-merge.field-0 = subst (λ (l : List ℕ). IsQuotient A l c.in_ok-merge.field-0) classed.0 c.in_ok-merge.ensures in
    record { holds = (named, (classed.1, (right, (relates, tt)))); leads = quotient }
