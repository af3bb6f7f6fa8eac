use Rattle.std.proofs.Common.{◌≡◌, ℕ, suc, Some, List, length, refl, sym, ◌∙◌, subst, arith}
use Rattle.auto_core.specs.Delayed.{HoldsTriple, HasRank}
use Rattle.delayed_sim.specs.Rankings.{Ranking}
use Rattle.delayed_sim.specs.Right.{HasAnswers}
use Rattle.delayed_sim.specs.Rounds.{HasRanksUpto, IsReranked, GetsRankZero, GetsRank}
use Rattle.delayed_sim.proofs.RoundLemmas.{reranked_same, unranked_few}
use Rattle.delayed_sim.proofs.LevelLemmas.{ranked_zero, ranked_next, ranks_all, ranked_all, each_same, same_then}
use Rattle.delayed_sim.proofs.rounds.rank_all.Goals as goal

pub levels-init : goal.levels-init
levels-init c =
    let A = c.args.automaton.now in
    let old = c.args.delayed.now in
    let new = c.rank_accepting.new.delayed in
    let h = c.rank_accepting.ensures in
    let few = unranked_few new.triples in
    let len = h.len in
    (0, refl, ranked_zero A old.letters old new c.requires.each h, reranked_same (GetsRankZero A) old new h, omega arith)

pub levels-preserved : goal.levels-preserved
levels-preserved c =
    let A = c.args.automaton.now in
    let old = c.args.delayed.now in
    let now = c.levels.delayed in
    let new = c.rank_next.new.delayed in
    let (r, e, ranked, same, room) = c.levels.invariant in
    let h : IsReranked (GetsRank A now.triples (suc r)) (length now.triples) now new = subst (λ k. IsReranked (GetsRank A now.triples k) (length now.triples) now new) e c.rank_next.ensures.ranks in
    let fell = c.rank_next.ensures.some c.levels-test.true in (
      suc r,
      omega arith,
      ranked_next A old.letters r now new (each_same A old.letters old now same c.requires.each) ranked h,
      same_then old now new same (reranked_same (GetsRank A now.triples (suc r)) now new h),
      omega arith,
    )

pub returns-clause-least : goal.returns-clause-least
returns-clause-least c = λ k.
    let A = c.args.automaton.now in
    let old = c.args.delayed.now in
    let now = c.levels.delayed in
    let new = c.rank_next.new.delayed in
    let n : ℕ = old.letters in
    let (r, e, ranked, same, room) = c.levels.invariant in
    let h : IsReranked (GetsRank A now.triples (suc r)) (length now.triples) now new = subst (λ k. IsReranked (GetsRank A now.triples k) (length now.triples) now new) e c.rank_next.ensures.ranks in
    let each = each_same A n old now same c.requires.each in
    let none : new ≡ now = c.rank_next.ensures.none c.levels-test.false in
    let all : (b : List ℕ) (p q : ℕ) → HoldsTriple now.triples b p q → HasAnswers A now.triples (Some (suc r)) b p q → (s : ℕ) × HasRank now.triples b p q s = λ b p q held answers.
    subst (λ (R : Ranking). (s : ℕ) × HasRank R.triples b p q s) none (ranks_all A n r now new each ranked h b p q held answers) in
    subst (λ m. HasRanksUpto A m k new.triples) (sym (h.letters ∙ same.letters)) (subst (λ (R : Ranking). HasRanksUpto A n k R.triples) (sym none) (ranked_all A n r now.triples each ranked all k))
