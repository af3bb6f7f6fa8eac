use Rattle.std.proofs.Common.{◌≡◌, ℕ, ◌+◌, ◌<◌, ◌≤◌, inl, inr, Bool, None, Some, length, true, false, refl, sym, ap, ◌∙◌, subst, arith}
use Rattle.std.specs.Option.{is_some}
use Rattle.std.proofs.lemmas.Bool.{iff_false, false≢true}
use Rattle.delayed_sim.specs.Rankings.{Triple, Ranking, IsRanking, triple_at}
use Rattle.delayed_sim.specs.Right.{IsTripleAnswered}
use Rattle.delayed_sim.specs.Rounds.{reranked, IsReranked, GetsRank, unranked}
use Rattle.delayed_sim.proofs.RoundLemmas.{none_from, rerank_more, rerank_skip, unranked_falls}
use Rattle.delayed_sim.proofs.LevelLemmas.{answered_before, answered_now}
use Rattle.delayed_sim.proofs.rounds.rank_next.Goals as goal
use Rattle.delayed_sim.proofs.rounds.rank_next.Goals.{then-is_none+then-is_answered_at, then-is_none+else-is_answered_at, else-is_none}

pub loop-at-preserved : goal.loop-at-preserved
loop-at-preserved c =
    let A = c.args.automaton.now in
    let old = c.args.delayed.now in
    let X = old.triples in
    let r : ℕ = c.args.rank in
    let now = c.loop-at.delayed in
    let at : ℕ = c.loop-at.at in
    let S = GetsRank A X r in
    let (h, le, some, none) = c.loop-at.invariant in
    let len = h.len in
    let at_in : at < length X = omega (arith, c.loop-at-test.true, c.count-at-end.ensures.count) in
    let here : triple_at now.triples at ≡ triple_at X at = h.rest at (omega arith) at_in in
    let T : Ranking → Bool → Type 0 = λ R any.
    IsReranked S (at + 1) old R × (unranked R.triples ≤ unranked X) × (any ≡ true → unranked R.triples < unranked X) × (any ≡ false → R ≡ old) in
    let kept : S (triple_at X at) (triple_at X at).3 → T now c.loop-at.any = λ keeps. (rerank_skip S old now at at_in h keeps, le, some, none) in
    elim c.if-is_none.branch [
      | then-is_none+then-is_answered_at w ↦
          let is : w.set_rank.new.self ≡ reranked now at (Some r) = w.set_rank.ensures.ranked in
          let without : (triple_at now.triples at).3 ≡ None = sym c.rank_at.ensures.rank ∙ none_from c.rank_at.result w.if-is_none.ensures in
          let answered = answered_before A r at old now h (triple_at now.triples at) (w.is_answered_at.ensures.0 w.if-is_answered_at.true) in
          let gets : S (triple_at X at) (Some r) = inl (subst (λ (t : Triple). t.3 ≡ None) here without, subst (IsTripleAnswered A X (Some r)) here answered, refl) in
          let fell = unranked_falls now.triples at r (omega arith) without in
          let made : T (reranked now at (Some r)) true = (
            rerank_more S old now at (Some r) at_in h gets (subst IsRanking is w.set_rank.ensures.valid),
            omega arith,
            λ yes. omega arith,
            λ no. absurd (false≢true (sym no)),
          ) in
          subst (λ R. T R c.if-is_none.any) (sym (w.delayed-is ∙ is)) (subst (T (reranked now at (Some r))) (sym w.any-is) made)
      | then-is_none+else-is_answered_at w ↦
          let keeps : S (triple_at X at) (triple_at X at).3 = inr (
            refl,
            λ without answered.
                iff_false w.is_answered_at.ensures w.if-is_answered_at.false (subst (IsTripleAnswered A now.triples (Some r)) (sym here) (answered_now A r at old now h (triple_at X at) answered)),
          ) in
          subst (λ R. T R c.if-is_none.any) (sym w.delayed-is) (subst (T now) (sym w.any-is) (kept keeps))
      | else-is_none w ↦
          let keeps : S (triple_at X at) (triple_at X at).3 = inr (
            refl,
            λ without answered.
                false≢true (sym (ap is_some (c.rank_at.ensures.rank ∙ ap (λ (t : Triple). t.3) here ∙ without)) ∙ w.if-is_none.ensures),
          ) in
          subst (λ R. T R c.if-is_none.any) (sym w.delayed-is) (subst (T now) (sym w.any-is) (kept keeps))
    ]
