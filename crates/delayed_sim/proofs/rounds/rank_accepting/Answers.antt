use Rattle.std.proofs.Common.{◌≡◌, ℕ, ◌+◌, ◌<◌, inl, inr, None, Some, length, refl, sym, ap, ◌∙◌, subst, arith}
use Rattle.std.proofs.lemmas.Bool.{iff_false}
use Rattle.auto_core.specs.Automaton.{IsAccepting}
use Rattle.delayed_sim.specs.Rankings.{Triple, IsRanking, triple_at}
use Rattle.delayed_sim.specs.Rounds.{reranked, IsReranked, GetsRankZero}
use Rattle.delayed_sim.proofs.RightLemmas.{triple_range}
use Rattle.delayed_sim.proofs.RoundLemmas.{rerank_more}
use Rattle.delayed_sim.proofs.rounds.rank_accepting.Goals as goal
use Rattle.delayed_sim.proofs.rounds.rank_accepting.Goals.{then-accepting, else-accepting}

pub accepting-requires : goal.accepting-requires
accepting-requires c =
    let R = c.loop-at.delayed in
    let h = c.loop-at.invariant in
    let at_in : c.loop-at.at < length R.triples = omega (arith, c.loop-at-test.true, c.loop-at.auto.at-end, h.len, c.count-at-end.ensures.count) in
    let range = triple_range R h.valid c.loop-at.at at_in in
    omega (arith, range.2, c.right.ensures.state, h.states, c.requires.equal)

pub loop-at-preserved : goal.loop-at-preserved
loop-at-preserved c =
    let A = c.args.automaton.now in
    let S = GetsRankZero A in
    let old = c.args.delayed.now in
    let now = c.loop-at.delayed in
    let at : ℕ = c.loop-at.at in
    let h = c.loop-at.invariant in
    let at_in : at < length old.triples = omega (arith, c.loop-at-test.true, c.count-at-end.ensures.count) in
    let right : c.right.result ≡ (triple_at old.triples at).2 = c.right.ensures.state ∙ ap (λ (t : Triple). t.2) (h.rest at (omega arith) at_in) in
    elim c.if-accepting.branch [
      | then-accepting w ↦
          let is : w.set_rank.new.self ≡ reranked now at (Some 0) = w.set_rank.ensures.ranked in
          let accepting : IsAccepting A (triple_at old.triples at).2 = subst (IsAccepting A) right (c.accepting.ensures.told.0 w.if-accepting.true) in
          subst (IsReranked S (at + 1) old) (sym (w.delayed-is ∙ is)) (rerank_more S old now at (Some 0) at_in h (inl (accepting, refl)) (subst IsRanking is w.set_rank.ensures.valid))
      | else-accepting w ↦
          let is : w.set_rank-else-accepting.new.self ≡ reranked now at None = w.set_rank-else-accepting.ensures.ranked in
          let other : IsAccepting A (triple_at old.triples at).2 → ⊥ = λ accepting. iff_false c.accepting.ensures.told w.if-accepting.false (subst (IsAccepting A) (sym right) accepting) in
          subst (IsReranked S (at + 1) old) (sym (w.delayed-is ∙ is)) (rerank_more S old now at None at_in h (inr (other, refl)) (subst IsRanking is w.set_rank-else-accepting.ensures.valid))
    ]
